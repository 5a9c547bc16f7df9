-- The laws of the opening.
use Rattle.std.proofs.Common.{◌≡◌, List, [], ◌∷◌, map, refl, sym, ap, subst, ◌∙◌}
use Rattle.slab_model.specs.declared.shape.Shape.{Shape}
use Rattle.peer_zone.specs.declared.calls.Server.{Server}
use Rattle.peer_zone.specs.declared.calls.PeerSpec.{PeerSpec}
use Rattle.peer_zone.specs.Records.{fresh_record, servers_of}
use Rattle.peer_zone.specs.Opening.{pool_of, requests_of, grants_of, opened_zone, spec_of, IsSpec}
use Rattle.peer_zone.specs.Laws.{OpenedLaw}
use Rattle.peer_zone.specs.Proving.Blocks.{shape-all}

-- ---- an opened zone

servers-fresh : (servers : List Server) → servers_of (map fresh_record servers) ≡ servers
servers-fresh [] = refl
servers-fresh (server ∷ servers) = ap (λ (ss : List Server). server ∷ ss) (servers-fresh servers)

spec-opened : (spec : PeerSpec) → spec_of (opened_zone spec) ≡ spec
spec-opened spec =
    ap (λ (shape : Shape). record { name = spec.name; bytes = shape.bytes; page_shift = shape.page_shift; method = spec.method; primary = servers_of (map fresh_record spec.primary); backup = servers_of (map fresh_record spec.backup) }) (shape-all (pool_of spec) (requests_of spec))
    ∙ ap (λ (primary : List Server). record spec { primary = primary; backup = servers_of (map fresh_record spec.backup) }) (servers-fresh spec.primary)
    ∙ ap (λ (backup : List Server). record spec { backup = backup }) (servers-fresh spec.backup)

pub opened-law : OpenedLaw
opened-law spec is given =
    let same = spec-opened spec in
    (same, record { spec = subst IsSpec (sym same) is; given = ap (λ (t : PeerSpec). (grants_of t).refused) same ∙ given; fresh = ap opened_zone (sym same) })
