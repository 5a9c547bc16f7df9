use Rattle.std.proofs.Common.{ℕ, ◌≡◌, ◌+◌, sym, subst, List, length, rules}
use Rattle.std.specs.List.{All}
use Rattle.std.proofs.lemmas.List.Elements.{All-tail}
use Rattle.peer_zone.specs.declared.calls.Server.{Server}
use Rattle.peer_zone.specs.Object.{IsServer}
use Rattle.peer_zone.specs.Opening.{record_size, record_requests, grant_all}
use Rattle.peer_zone.specs.Placing.{GrantsBlock, PlacesRecords}
use Rattle.peer_zone.proofs.GrantLemmas.{grants-block, places-more}
use Rattle.peer_zone.proofs.opening.+place_records.Goals as goal

pub place_records-requires : goal.place_records-requires
place_records-requires t c =
    let is = c.in-Some.ensures.cases in
    let few : length c.in-Some.rest.now + 1 ≡ length c.args.servers.now = is.1 in
    let all : All IsServer c.in-Some.rest.now = All-tail IsServer c.in-Some.server.now c.in-Some.rest.now (subst (λ (ss : List Server). All IsServer ss) is.0 c.requires.servers) in
    search rules

pub returns : goal.returns
returns t c slab laid =
    let is = c.in-Some.ensures.cases.0 in
    let size = c.record_bytes.ensures in
    let block : GrantsBlock c.args.pool.now c.alloc.new.self slab (record_size c.in-Some.server.now) c.in-Some-alloc.b.at =
    subst (λ (n : ℕ). GrantsBlock c.args.pool.now c.alloc.new.self slab n c.in-Some-alloc.b.at) size
    (grants-block c.args.pool.now c.alloc.new.self slab c.record_bytes.result c.in-Some-alloc.b.at _ (c.in-Some-alloc.ensures.block slab laid) (c.in-Some-alloc.ensures.laid slab laid) (c.in-Some-alloc.ensures.words slab laid) c.in-Some-alloc.ensures.room) in
    subst (λ (ss : List Server). PlacesRecords c.args.pool.now c.write_record.new.blocks (grant_all slab (record_requests c.args.number ss)) ss c.in-Some-alloc.b.at) (sym is)
    (places-more c.args.pool.now c.alloc.new.self c.place_records.new.pool c.write_record.new.blocks slab c.args.number c.in-Some.server.now c.in-Some.rest.now c.in-Some-alloc.b.at c.in_ok-next.next block (c.in_ok-next.ensures _ block.laid) c.write_record.ensures.held c.write_record.ensures.changes c.write_record.ensures.rest)
