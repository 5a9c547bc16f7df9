-- Each upstream of a text without faults has its servers, and so has its zone.
use Rattle.std.proofs.Common.{◌≡◌, ℕ, ◌≤◌, true, List, [], Option, None, Some, codes, length, map, refl, sym, ◌∙◌, subst, arith}
use Rattle.std.specs.Prelude.{◌||◌, IfSome, count_by, slice_get}
use Rattle.std.specs.Option.{option_map, option_and_then}
use Rattle.std.specs.List.{All, Contains, filter, filter_map, find}
use Rattle.std.proofs.lemmas.Bool.{cond_both}
use Rattle.std.proofs.lemmas.List.{length-map}
use Rattle.std.proofs.lemmas.List.Sums.{length-filter}
use Rattle.zone_key.specs.Expr.{is_same}
use Rattle.directive_text.specs.declared.tree.Directive.{Directive}
use Rattle.config_rules.specs.declared.kind.Context.{Context}
use Rattle.config_rules.specs.declared.kind.Context.TheVariants as context
use Rattle.config_rules.specs.declared.kind.Kind.{Kind}
use Rattle.config_rules.specs.declared.kind.Kind.TheVariants as kind
use Rattle.config_rules.specs.declared.earlier.ZoneNames.{ZoneNames}
use Rattle.config_rules.specs.Words.{arguments_of, first_of, has_block, inner_of, is_called, line_of, name_of}
use Rattle.config_rules.specs.Kinds.{elsewhere, in_http, in_location, is_limit_name, is_method, is_other_name, kind_of, limiting}
use Rattle.config_rules.specs.InOrder.{Place, Scope, inherited, kind_at}
use Rattle.config_rules.specs.Rules.{is_primary, zones_named}
use Rattle.config_rules.proofs.Around.{Whole}
use Rattle.zone_config.specs.declared.data.ZoneSpec.{ZoneSpec}
use Rattle.zone_config.specs.Configuration.{in_32_bits, is_backup_server, peer_zone, server_of, upstream_at, upstream_of, zone_at, zone_number}
use Rattle.zone_config.specs.Conditions.{AreZones, HasOwnServers, IsPeerZone, IsUpstream}
use Rattle.zone_config.proofs.Keeps.{Keeps, seen_as}
use Rattle.zone_config.proofs.Leveled.{all_built, block_read, with_block}
use Rattle.zone_config.proofs.Named.{ZoneAt, zone_found, zone_listed}
use Rattle.zone_config.proofs.Serving.{Servers, servers}
use Rattle.zone_config.proofs.Sound.{Seated, Serves, Sound, each_found, is_peer_zone, kept_as}

-- only an upstream's block has a zone of its own
abbrev NoPeerZone : Kind → Type 0
NoPeerZone k = k ≡ kind.PeerZone → ⊥

no_elsewhere : (w : List ℕ) → NoPeerZone (elsewhere w)
no_elsewhere w = cond_both (is_limit_name w || is_other_name w || is_method w) kind.Misplaced kind.Unnamed NoPeerZone (λ _ e. absurd (cc)) (λ _ e. absurd (cc))

no_limiting : (w : List ℕ) → NoPeerZone (limiting w)
no_limiting w =
    cond_both (is_same w (codes "limit_req")) kind.LimitReq _ NoPeerZone (λ _ e. absurd (cc)) (λ _.
    cond_both (is_same w (codes "limit_conn")) kind.LimitConn _ NoPeerZone (λ _ e. absurd (cc)) (λ _.
    cond_both (is_same w (codes "limit_req_status") || is_same w (codes "limit_conn_status")) kind.Status _ NoPeerZone (λ _ e. absurd (cc)) (λ _.
    cond_both (is_same w (codes "limit_req_dry_run") || is_same w (codes "limit_conn_dry_run")) kind.DryRun (elsewhere w) NoPeerZone (λ _ e. absurd (cc)) (λ _. no_elsewhere w))))

no_http : (w : List ℕ) → NoPeerZone (in_http w)
no_http w =
    cond_both (is_same w (codes "server")) kind.Server _ NoPeerZone (λ _ e. absurd (cc)) (λ _.
    cond_both (is_same w (codes "upstream")) kind.Upstream _ NoPeerZone (λ _ e. absurd (cc)) (λ _.
    cond_both (is_same w (codes "limit_req_zone")) kind.ReqZone _ NoPeerZone (λ _ e. absurd (cc)) (λ _.
    cond_both (is_same w (codes "limit_conn_zone")) kind.ConnZone (limiting w) NoPeerZone (λ _ e. absurd (cc)) (λ _. no_limiting w))))

no_location : (w : List ℕ) → NoPeerZone (in_location w)
no_location w =
    cond_both (is_same w (codes "location")) kind.Location _ NoPeerZone (λ _ e. absurd (cc)) (λ _.
    cond_both (is_same w (codes "proxy_pass")) kind.ProxyPass (limiting w) NoPeerZone (λ _ e. absurd (cc)) (λ _. no_limiting w))

zone_context : (c : Context) (w : List ℕ) → kind_of c w ≡ kind.PeerZone → c ≡ context.Upstream
zone_context context.Top w e = absurd (cond_both (is_same w (codes "http")) kind.Http (elsewhere w) NoPeerZone (λ _ h. absurd (cc)) (λ _. no_elsewhere w) e)
zone_context context.Http w e = absurd (no_http w e)
zone_context context.Server w e = absurd (cond_both (is_same w (codes "location")) kind.Location (limiting w) NoPeerZone (λ _ h. absurd (cc)) (λ _. no_limiting w) e)
zone_context context.Location w e = absurd (no_location w e)
zone_context context.Upstream w e = refl

-- the servers of an upstream's zone
has_servers : (words : List (List ℕ)) (line : ℕ) (block : List Directive) → Servers block → HasOwnServers (peer_zone words line block)
has_servers words line block s =
    let primary : length (map server_of (filter is_primary block)) ≡ length (filter is_primary block) = length-map (filter is_primary block) server_of in
    let backup : length (map server_of (filter is_backup_server block)) ≡ length (filter is_backup_server block) = length-map (filter is_backup_server block) server_of in
    record {
      primary_count = (subst (λ n. 1 ≤ n) (sym primary) s.some, subst (λ n. n ≤ 64) (sym primary) s.few);
      backup_count = subst (λ n. n ≤ 64) (sym backup) s.spare;
      primary_servers = s.primary;
      backup_servers = s.backup;
    }

zone_servers : (text : ZoneNames) (places : List Place) (p : Place) (k : Kind) → Seated text places p → kind_at p ≡ k → IfSome (zone_at p) HasOwnServers
zone_servers text places p kind.ReqZone seated is = rw (is, zone_at) tt
zone_servers text places p kind.ConnZone seated is = rw (is, zone_at) tt
zone_servers text places p kind.PeerZone seated is =
    let upstream : p.scope.context ≡ context.Upstream = zone_context p.scope.context (name_of p.directive) is in
    let own = has_servers (arguments_of p.directive) (line_of p.directive) p.scope.block (servers text places p.scope seated.around upstream) in
    rw (is, zone_at) own
zone_servers text places p _ seated is = rw (is, zone_at) tt

pub zones_served : (text : ZoneNames) (places : List Place) → All (Seated text places) places → All HasOwnServers (filter_map zone_at places)
zones_served text places seated = all_built (Seated text places) HasOwnServers zone_at (λ p s. zone_servers text places p (kind_at p) s refl) places seated

-- counts of servers fit
count_primary : (block : List Directive) → Servers block → in_32_bits (count_by is_primary block) ≡ length (filter is_primary block)
count_primary block s = let n = length-filter is_primary block in let few = s.few in omega arith

count_backup : (block : List Directive) → Servers block → in_32_bits (count_by is_backup_server block) ≡ length (filter is_backup_server block)
count_backup block s = let n = length-filter is_backup_server block in let few = s.spare in omega arith

-- the zone that an upstream's block names is its own
own_zone_found : (places : List Place) (zones : List ZoneSpec) (s : Scope) (found : Option Directive) → zones ≡ filter_map zone_at places → AreZones zones →
    Whole (Sound (zones_named places) places) Serves s → s.context ≡ context.Upstream → Servers s.block → find (is_called (codes "zone")) s.block ≡ found →
    IfSome (option_and_then (λ words. zone_number zones (first_of words)) (option_map arguments_of found))
    (λ zone. IsPeerZone (in_32_bits (count_by is_primary s.block)) (in_32_bits (count_by is_backup_server s.block)) (slice_get zones zone))
own_zone_found places zones s None zones_are are whole upstream served e = tt
own_zone_found places zones s (Some d) zones_are are whole upstream served e =
    let text = zones_named places in
    let here = each_found (Sound text places) (is_called (codes "zone")) s [] s.block d whole.each e in
    let p : Place = record { scope = s; before = here.0.before; directive = d } in
    let sound : Sound text places p = here.0.here in
    let z : ZoneSpec = peer_zone (arguments_of d) (line_of d) s.block in
    let is : kind_at p ≡ kind.PeerZone = is_peer_zone p upstream here.1 in
    let zone_is : zone_at p ≡ Some z = rw (is, zone_at) refl in
    let listed : Contains zones z = subst (λ zs. Contains zs z) (sym zones_are) (zone_listed places p z sound.listed.0 sound.listed.1 sound.listed.2 zone_is) in
    let at : ZoneAt zones z = zone_found zones z are listed in
    let primary : in_32_bits (count_by is_primary s.block) ≡ length (map server_of (filter is_primary s.block)) = count_primary s.block served ∙ sym (length-map (filter is_primary s.block) server_of) in
    let backup : in_32_bits (count_by is_backup_server s.block) ≡ length (map server_of (filter is_backup_server s.block)) = count_backup s.block served ∙ sym (length-map (filter is_backup_server s.block) server_of) in
    let there : IsPeerZone (in_32_bits (count_by is_primary s.block)) (in_32_bits (count_by is_backup_server s.block)) (slice_get zones at.number) =
    subst (IsPeerZone (in_32_bits (count_by is_primary s.block)) (in_32_bits (count_by is_backup_server s.block))) (sym at.there) (primary, backup) in
    subst (λ n. IfSome n (λ zone. IsPeerZone (in_32_bits (count_by is_primary s.block)) (in_32_bits (count_by is_backup_server s.block)) (slice_get zones zone))) (sym at.found) there

upstream_within : (places : List Place) (zones : List ZoneSpec) (p : Place) (k : Kind) → zones ≡ filter_map zone_at places → AreZones zones → Seated (zones_named places) places p → kind_at p ≡ k →
    IfSome (upstream_at zones p) (IsUpstream zones)
upstream_within places zones p kind.Upstream zones_are are seated is =
    let text = zones_named places in
    let block = inner_of p.directive in
    let sound : Sound text places p = seated.itself in
    let kept : Keeps (seen_as text sound.earlier p kind.Upstream) = kept_as text places p kind.Upstream sound is in
    let has : has_block p.directive ≡ true = with_block _ (has_block p.directive) kept.formed in
    let s : Scope = record { context = context.Upstream; block = block; sources = inherited block p.scope.sources } in
    let whole : Whole (Sound text places) Serves s = seated.within s (block_read p kind.Upstream context.Upstream is has refl) in
    let served : Servers block = servers text places s whole refl in
    let own : IsUpstream zones (upstream_of zones p.directive) = record {
      zone = own_zone_found places zones s (find (is_called (codes "zone")) block) zones_are are whole refl served refl;
      primary = (let n = count_primary block served in let some = served.some in let few = served.few in (omega arith, omega arith));
      backup = (let n = count_backup block served in let few = served.spare in omega arith);
    } in
    rw (is, upstream_at) own
upstream_within places zones p _ zones_are are seated is = rw (is, upstream_at) tt

pub upstreams_within : (places : List Place) (zones : List ZoneSpec) → zones ≡ filter_map zone_at places → AreZones zones → All (Seated (zones_named places) places) places →
    All (IsUpstream zones) (filter_map (upstream_at zones) places)
upstreams_within places zones zones_are are seated =
    all_built (Seated (zones_named places) places) (IsUpstream zones) (upstream_at zones)
    (λ p s. upstream_within places zones p (kind_at p) zones_are are s refl) places seated
