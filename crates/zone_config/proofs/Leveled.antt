-- The levels and the upstreams of a text without faults are in their limits, and each zone has its servers.
use Rattle.std.proofs.Common.{◌≡◌, ◌≢◌, ℕ, zero, suc, ◌<◌, ◌≤◌, Bool, true, false, cond, List, [], ◌∷◌, Option, None, Some, codes, get_or, length, map, unwrap_or, refl, sym, ◌∙◌, ap, subst, arith}
use Rattle.std.specs.Prelude.{◌&&◌, not, IfSome, is_some, slice_get}
use Rattle.std.specs.Option.{option_map, option_and_then}
use Rattle.std.specs.List.{All, AllPairs, cons_option, filter, filter_map, find, list_any}
use Rattle.std.proofs.lemmas.List.Elements.{All-nil, All-cons, All-head, All-tail, All-map, All-weaker}
use Rattle.std.proofs.lemmas.List.{length-map}
use Rattle.directive_text.specs.declared.tree.Directive.{Directive}
use Rattle.config_rules.specs.declared.kind.Context.{Context}
use Rattle.config_rules.specs.declared.kind.Context.TheVariants as context
use Rattle.config_rules.specs.declared.kind.Kind.{Kind}
use Rattle.config_rules.specs.declared.kind.Kind.TheVariants.{Location, Server, Status}
use Rattle.config_rules.specs.declared.argument.Argument.TheVariants.{Number}
use Rattle.config_rules.specs.declared.earlier.ZoneNames.{ZoneNames}
use Rattle.config_rules.specs.Words.{arguments_of, first_of, has_block, host_of, inner_of, is_called}
use Rattle.config_rules.specs.Arguments.{later_argument, meanings}
use Rattle.config_rules.specs.InOrder.{Place, Scope, Sources, context_within, inherited, kind_at, scope_within}
use Rattle.config_rules.specs.Rules.{is_formed, is_out_of_range, zones_named}
use Rattle.config_rules.proofs.Around.{Each, Source, Sourced, Whole}
use Rattle.config_rules.proofs.Fits.{or_false}
use Rattle.zone_config.specs.declared.data.ConnLimit.{ConnLimit}
use Rattle.zone_config.specs.declared.data.Level.{Level}
use Rattle.zone_config.specs.declared.data.ReqLimit.{ReqLimit}
use Rattle.zone_config.specs.declared.data.Upstream.{Upstream as UpstreamData}
use Rattle.zone_config.specs.declared.data.ZoneSpec.{ZoneSpec}
use Rattle.zone_config.specs.declared.data.ZoneSpec.TheVariants.{Req, Conn, Peer}
use Rattle.zone_config.specs.Configuration.{arguments_called, conn_limit, is_upstream_called, level_from, level_of, location_at, peers_named, req_limit, server_among, server_at, server_if, status_of, value_of_number, zone_at}
use Rattle.zone_config.specs.Conditions.{AreZones, IsConnLimit, IsLevel, IsPeerZone, IsReqLimit, IsSomePeerZone, IsUpstream, IsWithin}
use Rattle.zone_config.proofs.Keeps.{Keeps, seen_as}
use Rattle.zone_config.proofs.Limiting.{ConnUse, ReqUse, conn_chosen, req_chosen}
use Rattle.zone_config.proofs.Sound.{Seated, Serves, Sound, each_found, is_conn_status, is_req_status, kept_as}
use Rattle.zone_config.proofs.Valued.{number_ranged}

-- a status is in its range
status_words : (words : List (List ℕ)) (b : Bool) → not (is_formed Status (length words) b) ≡ false → list_any is_out_of_range (meanings Status words) ≡ false →
    IsWithin 400 599 (value_of_number (first_of words))
status_words [] b formed ranged = absurd (cc)
status_words (w ∷ ws) b formed ranged =
    number_ranged 400 599 w (or_false (is_out_of_range (Number w 400 599)) (list_any is_out_of_range (map (later_argument Status) ws)) ranged).0 (omega arith)

status_found : (text : ZoneNames) (places : List Place) (name : List ℕ) → ((p : Place) → Sound text places p → is_called name p.directive ≡ true → kind_at p ≡ Status) →
    (scope : Scope) (block : List Directive) (found : Option Directive) → Each (Sound text places) scope [] block → find (is_called name) block ≡ found →
    IsWithin 400 599 (unwrap_or (option_map (λ words. value_of_number (first_of words)) (option_map arguments_of found)) 503)
status_found text places name is scope block None each e = (omega arith, omega arith)
status_found text places name is scope block (Some d) each e =
    let here = each_found (Sound text places) (is_called name) scope [] block d each e in
    let p : Place = record { scope = scope; before = here.0.before; directive = d } in
    let s : Sound text places p = here.0.here in
    let k : Keeps (seen_as text s.earlier p Status) = kept_as text places p Status s (is p s here.1) in
    status_words (arguments_of d) (has_block d) k.formed k.ranged

status_within : (text : ZoneNames) (places : List Place) (name : List ℕ) → ((p : Place) → Sound text places p → is_called name p.directive ≡ true → kind_at p ≡ Status) →
    (block : List Directive) → Source (Sound text places) block → IsWithin 400 599 (status_of name block)
status_within text places name is block source = status_found text places name is source.0 block (find (is_called name) block) source.1 refl

-- the limits of chosen directives
map_at : {X : Type 0} (f : Directive → X) (e : Directive) (ds : List Directive) (i : ℕ) (d : X) → i < length ds → get_or (map f ds) i d ≡ f (get_or ds i e)
map_at f e [] i d within = absurd (omega arith)
map_at f e (x ∷ ds) zero d within = refl
map_at f e (x ∷ ds) (suc i) d within = map_at f e ds i d (omega arith)

limits_apart : {X : Type 0} (f : Directive → X) (R : X → X → Type 0) (ds : List Directive) → AllPairs (λ a b. R (f a) (f b)) ds → AllPairs R (map f ds)
limits_apart {X} f R [] apart = λ i j d below within. absurd (omega arith)
limits_apart {X} f R (x ∷ ds) apart = λ i j d below within.
    let many : length (map f (x ∷ ds)) ≡ length (x ∷ ds) = length-map (x ∷ ds) f in
    let there : get_or (map f (x ∷ ds)) i d ≡ f (get_or (x ∷ ds) i x) = map_at f x (x ∷ ds) i d (omega arith) in
    let other : get_or (map f (x ∷ ds)) j d ≡ f (get_or (x ∷ ds) j x) = map_at f x (x ∷ ds) j d (omega arith) in
    subst (λ a. R a (get_or (map f (x ∷ ds)) j d)) (sym there) (subst (R (f (get_or (x ∷ ds) i x))) (sym other) (apart i j x below (omega arith)))

-- to an upstream with a zone
some_peers : (zones : List ZoneSpec) (primary backup zone : ℕ) (z : Option ZoneSpec) → IsPeerZone primary backup z → IsSomePeerZone z
some_peers zones primary backup zone (Some (Peer spec line)) h = tt
some_peers zones primary backup zone (Some (Req spec key)) h = absurd h
some_peers zones primary backup zone (Some (Conn spec key)) h = absurd h
some_peers zones primary backup zone None h = absurd h

peers_upstream : (zones : List ZoneSpec) (u : UpstreamData) (number : Option ℕ) → u.zone ≡ number → IsUpstream zones u → IfSome number (λ zone. IsSomePeerZone (slice_get zones zone))
peers_upstream zones u None is h = tt
peers_upstream zones u (Some n) is h =
    let own : IfSome (Some n) (λ zone. IsPeerZone u.primary u.backup (slice_get zones zone)) = subst (λ o. IfSome o (λ zone. IsPeerZone u.primary u.backup (slice_get zones zone))) is h.zone in
    some_peers zones u.primary u.backup n (slice_get zones n) own

found_at : (zones : List ZoneSpec) (u : UpstreamData) (us : List UpstreamData) (test : UpstreamData → Bool) (b : Bool) → IsUpstream zones u →
    IfSome (option_and_then (λ (x : UpstreamData). x.zone) (find test us)) (λ zone. IsSomePeerZone (slice_get zones zone)) →
    IfSome (option_and_then (λ (x : UpstreamData). x.zone) (cond b (Some u) (find test us))) (λ zone. IsSomePeerZone (slice_get zones zone))
found_at zones u us test true here later = peers_upstream zones u u.zone refl here
found_at zones u us test false here later = later

found_upstream : (zones : List ZoneSpec) (upstreams : List UpstreamData) (test : UpstreamData → Bool) → All (IsUpstream zones) upstreams →
    IfSome (option_and_then (λ (u : UpstreamData). u.zone) (find test upstreams)) (λ zone. IsSomePeerZone (slice_get zones zone))
found_upstream zones [] test all = tt
found_upstream zones (u ∷ us) test all =
    found_at zones u us test (test u) (All-head (IsUpstream zones) u us all) (found_upstream zones us test (All-tail (IsUpstream zones) u us all))

peers_within : (zones : List ZoneSpec) (upstreams : List UpstreamData) (name : Option (List ℕ)) → All (IsUpstream zones) upstreams →
    IfSome (option_and_then (peers_named upstreams) name) (λ zone. IsSomePeerZone (slice_get zones zone))
peers_within zones upstreams None all = tt
peers_within zones upstreams (Some name) all = found_upstream zones upstreams (is_upstream_called name) all

-- what the limits of all levels rest on: a text without faults and its zones
pub record Sure (places : List Place) (zones : List ZoneSpec) (upstreams : List UpstreamData) : Type 0 where
  pub sound : All (Sound (zones_named places) places) places
  pub zones_are : zones ≡ filter_map zone_at places
  pub in_limits : AreZones zones
  pub served : All (IsUpstream zones) upstreams

-- a level whose settings come from blocks that were read
level_within : (places : List Place) (zones : List ZoneSpec) (upstreams : List UpstreamData) (d : Directive) (s : Sources) → Sure places zones upstreams → Sourced (Sound (zones_named places) places) s →
    IsLevel zones (level_from zones upstreams d s)
level_within places zones upstreams d s sure from =
    let text = zones_named places in
    let test = is_called (codes "limit_req") in
    let test_conn = is_called (codes "limit_conn") in
    let req = req_chosen places zones sure.zones_are sure.in_limits sure.sound from.req.0 s.req from.req.1 in
    let conn = conn_chosen places zones sure.zones_are sure.in_limits sure.sound from.conn.0 s.conn from.conn.1 in
    record {
      req_count = subst (λ n. n ≤ 8) (sym (length-map (filter test s.req) (req_limit zones))) req.count;
      conn_count = subst (λ n. n ≤ 8) (sym (length-map (filter test_conn s.conn) (conn_limit zones))) conn.count;
      req = All-map (IsReqLimit zones) (req_limit zones) (filter test s.req)
          (All-weaker (ReqUse zones) (λ x. IsReqLimit zones (req_limit zones x)) (λ x (u : ReqUse zones x). u.limit) (filter test s.req) req.each);
      conn = All-map (IsConnLimit zones) (conn_limit zones) (filter test_conn s.conn)
          (All-weaker (ConnUse zones) (λ x. IsConnLimit zones (conn_limit zones x)) (λ x (u : ConnUse zones x). u.limit) (filter test_conn s.conn) conn.each);
      req_once = limits_apart (req_limit zones) (λ (a b : ReqLimit). a.zone ≢ b.zone) (filter test s.req) req.apart;
      conn_once = limits_apart (conn_limit zones) (λ (a b : ConnLimit). a.zone ≢ b.zone) (filter test_conn s.conn) conn.apart;
      req_status = status_within text places (codes "limit_req_status") (is_req_status text places) s.req_status from.req_status;
      conn_status = status_within text places (codes "limit_conn_status") (is_conn_status text places) s.conn_status from.conn_status;
      peers = peers_within zones upstreams (option_and_then (λ words. host_of (first_of words)) (arguments_called (codes "proxy_pass") (inner_of d))) sure.served;
    }

-- a block that must be there is read
pub block_read : (p : Place) (k : Kind) (c : Context) → kind_at p ≡ k → has_block p.directive ≡ true → context_within k true ≡ Some c →
    scope_within p.scope p.directive ≡ Some (record { context = c; block = inner_of p.directive; sources = inherited (inner_of p.directive) p.scope.sources })
block_read p k c is has within =
    let at : context_within (kind_at p) (has_block p.directive) ≡ Some c = ap (λ j. context_within j (has_block p.directive)) is ∙ ap (context_within k) has ∙ within in
    ap (option_map (λ t. record { context = t; block = inner_of p.directive; sources = inherited (inner_of p.directive) p.scope.sources })) at

level_whole : (places : List Place) (zones : List ZoneSpec) (upstreams : List UpstreamData) (p : Place) (k : Kind) (c : Context) → Sure places zones upstreams → Seated (zones_named places) places p →
    kind_at p ≡ k → has_block p.directive ≡ true → context_within k true ≡ Some c → IsLevel zones (level_of zones upstreams p)
level_whole places zones upstreams p k c sure seated is has within =
    let s : Scope = record { context = c; block = inner_of p.directive; sources = inherited (inner_of p.directive) p.scope.sources } in
    let whole : Whole (Sound (zones_named places) places) Serves s = seated.within s (block_read p k c is has within) in
    level_within places zones upstreams p.directive s.sources sure whole.sourced

-- the kinds that must have a block
pub with_block : (a b : Bool) → not (a && b) ≡ false → b ≡ true
with_block true true e = refl
with_block true false e = absurd (cc)
with_block false b e = absurd (cc)

location_level : (places : List Place) (zones : List ZoneSpec) (upstreams : List UpstreamData) (p : Place) (k : Kind) → Sure places zones upstreams → Seated (zones_named places) places p → kind_at p ≡ k →
    IfSome (location_at zones upstreams p) (IsLevel zones)
location_level places zones upstreams p Location sure seated is =
    let words = arguments_of p.directive in
    let s : Sound (zones_named places) places p = seated.itself in
    let kept : Keeps (seen_as (zones_named places) s.earlier p Location) = kept_as (zones_named places) places p Location s is in
    let has : has_block p.directive ≡ true = with_block _ (has_block p.directive) kept.formed in
    let level = level_whole places zones upstreams p Location context.Location sure seated is has refl in
    rw (is, location_at) level
location_level places zones upstreams p _ sure seated is = rw (is, location_at) tt

server_level : (places : List Place) (zones : List ZoneSpec) (upstreams : List UpstreamData) (p : Place) (k : Kind) → Sure places zones upstreams → Seated (zones_named places) places p → kind_at p ≡ k →
    IfSome (server_if k (level_of zones upstreams p)) (IsLevel zones)
server_level places zones upstreams p Server sure seated is =
    let s : Sound (zones_named places) places p = seated.itself in
    let kept : Keeps (seen_as (zones_named places) s.earlier p Server) = kept_as (zones_named places) places p Server s is in
    let has : has_block p.directive ≡ true = with_block _ (has_block p.directive) kept.formed in
    level_whole places zones upstreams p Server context.Server sure seated is has refl
server_level places zones upstreams p _ sure seated is = tt

-- what is built at each place
built_more : {Y : Type 0} (Q : Y → Type 0) (here : Option Y) (ys : List Y) → IfSome here Q → All Q ys → All Q (cons_option here ys)
built_more Q None ys h all = all
built_more Q (Some y) ys h all = All-cons Q y ys h all

pub all_built : {X Y : Type 0} (P : X → Type 0) (Q : Y → Type 0) (build : X → Option Y) → ((x : X) → P x → IfSome (build x) Q) → (xs : List X) → All P xs → All Q (filter_map build xs)
all_built P Q build each [] all = All-nil Q
all_built P Q build each (x ∷ xs) all =
    built_more Q (build x) (filter_map build xs) (each x (All-head P x xs all)) (all_built P Q build each xs (All-tail P x xs all))

pub levels_within : (places : List Place) (zones : List ZoneSpec) (upstreams : List UpstreamData) → Sure places zones upstreams → All (Seated (zones_named places) places) places →
    All (IsLevel zones) (filter_map (location_at zones upstreams) places)
levels_within places zones upstreams sure seated =
    all_built (Seated (zones_named places) places) (IsLevel zones) (location_at zones upstreams)
    (λ p s. location_level places zones upstreams p (kind_at p) sure s refl) places seated

first_level : (zones : List ZoneSpec) (here later : Option Level) (level : Level) → IfSome here (IsLevel zones) → cond (is_some here) here later ≡ Some level → (later ≡ Some level → IsLevel zones level) → IsLevel zones level
first_level zones None later level h is rest = rest is
first_level zones (Some l) later level h is rest = let same : l ≡ level = cc in subst (IsLevel zones) same h

server_from : (places : List Place) (zones : List ZoneSpec) (upstreams : List UpstreamData) → Sure places zones upstreams → (ps : List Place) → All (Seated (zones_named places) places) ps →
    (level : Level) → server_among zones upstreams ps ≡ Some level → IsLevel zones level
server_from places zones upstreams sure [] seated level is = absurd (cc)
server_from places zones upstreams sure (p ∷ ps) seated level is =
    first_level zones (server_at zones upstreams p) (server_among zones upstreams ps) level
    (server_level places zones upstreams p (kind_at p) sure (All-head (Seated (zones_named places) places) p ps seated) refl) is
    (λ later. server_from places zones upstreams sure ps (All-tail (Seated (zones_named places) places) p ps seated) level later)

pub server_within : (places : List Place) (zones : List ZoneSpec) (upstreams : List UpstreamData) → Sure places zones upstreams → All (Seated (zones_named places) places) places →
    (level : Level) → server_among zones upstreams places ≡ Some level → IsLevel zones level
server_within places zones upstreams sure seated level is = server_from places zones upstreams sure places seated level is
