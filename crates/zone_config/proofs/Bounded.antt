-- The zones and the locations of places that break no rule are few, in their limits, and have names of their own.
use Rattle.std.proofs.Common.{◌≡◌, ℕ, ◌+◌, ◌<◌, ◌≤◌, Bool, true, false, List, [], ◌∷◌, Option, None, Some, length, refl, sym, ◌∙◌, ap, subst, arith}
use Rattle.std.specs.Prelude.{◌||◌}
use Rattle.std.specs.List.{All, list_any, filter_map, cons_option, sum_by}
use Rattle.std.proofs.lemmas.Bool.{leb-false}
use Rattle.std.proofs.lemmas.List.Elements.{All-nil, All-cons}
use Rattle.std.proofs.lemmas.List.Sums.{sum_by-cons}
use Rattle.zone_key.specs.Expr.{is_same}
use Rattle.config_rules.specs.declared.kind.Kind.{Kind}
use Rattle.config_rules.specs.declared.kind.Kind.TheVariants.{ReqZone, ConnZone, PeerZone, Location}
use Rattle.config_rules.specs.declared.argument.Argument.{Argument}
use Rattle.config_rules.specs.declared.earlier.Earlier.{Earlier}
use Rattle.config_rules.specs.declared.earlier.ZoneNames.{ZoneNames}
use Rattle.config_rules.specs.Words.{arguments_of, behind_first, has_block, line_of}
use Rattle.config_rules.specs.Arguments.{meanings, declared_name, declared_size}
use Rattle.config_rules.specs.InOrder.{Place, kind_at}
use Rattle.config_rules.specs.Rules.{Seen, rules, first_broken, first_fault, fault_at, seen_at, noted, nothing, arguments_at, and_then_one, bytes_or_none, first_said, declares_one_of, has_repeats, is_again, limits_again, name_if_location}
use Rattle.config_rules.proofs.Fits.{zone_fits}
use Rattle.zone_config.specs.declared.data.ZoneSpec.{ZoneSpec}
use Rattle.zone_config.specs.declared.data.Upstream.{Upstream}
use Rattle.zone_config.specs.declared.data.Level.{Level}
use Rattle.zone_config.specs.Configuration.{req_zone, conn_zone, peer_zone, zone_at, zone_name, level_of, location_at}
use Rattle.zone_config.specs.Conditions.{IsZone, IsZoneSpec, AreZones, AreLocations, zone_bytes}
use Rattle.zone_config.proofs.Keeps.{Keeps, keeps_at, no_rule, seen_as}
use Rattle.zone_config.proofs.Declaring.{Declares, ReqWords, SizeFits, first_tested, named, sized, conn_declares, peer_declares, req_declares, req_key, conn_key}
use Rattle.zone_config.proofs.NextPlace.{no_fault}
use Rattle.zone_config.proofs.Behind.{Behind, behind_none, behind_more, behind_one}

-- a zone, behind what stands before it
record ZoneKept (e : Earlier) (args : List Argument) (zone : ZoneSpec) : Type 0 where
  name : first_said declared_name args ≡ Some (zone_name zone)
  bytes : bytes_or_none (first_said declared_size args) ≡ zone_bytes zone
  room : length e.zone_names < 16
  fresh : list_any (is_same (zone_name zone)) e.zone_names ≡ false
  fits : e.zone_bytes + zone_bytes zone ≤ 268435456
  spec : IsZoneSpec zone

-- what holds of each zone by its arguments
record Facts (e : Earlier) (args : List Argument) (zone : ZoneSpec) : Type 0 where
  size_is : bytes_or_none (first_said declared_size args) ≡ zone_bytes zone
  fresh : list_any (is_same (zone_name zone)) e.zone_names ≡ false
  fits : e.zone_bytes + zone_bytes zone ≤ 268435456
  limits : IsZone (zone_name zone) (zone_bytes zone) 12

declared_fresh : (names : List (List ℕ)) (a : Argument) (v : List ℕ) → declared_name a ≡ Some v → declares_one_of names a ≡ false → list_any (is_same v) names ≡ false
declared_fresh names a v is e = rw is at e

facts : (s : Seen) (zone : ZoneSpec) → Keeps s → Declares s.arguments zone → Facts s.earlier s.arguments zone
facts s zone k d =
    let size = sized s.earlier.zone_bytes s.arguments d.size d.said k.sized k.not_small k.not_large in
    let fits : SizeFits s.earlier.zone_bytes (zone_bytes zone) = subst (SizeFits s.earlier.zone_bytes) d.bytes size in
    record {
      size_is = ap bytes_or_none d.said ∙ d.bytes;
      fresh = first_tested declared_name (declares_one_of s.earlier.zone_names) (λ v. list_any (is_same v) s.earlier.zone_names ≡ false)
          (declared_fresh s.earlier.zone_names) s.arguments (zone_name zone) d.name k.fresh;
      fits = fits.fits;
      limits = record { name_within = named s.arguments (zone_name zone) d.name k.ranged; bytes_within = fits.within; shift = refl };
    }

-- no parameter twice
pub middle : (a b c : Bool) → (a || b || c) ≡ false → b ≡ false
middle true b c e = absurd (cc)
middle false true c e = absurd (cc)
middle false false c e = refl

req_kept : (text : ZoneNames) (e : Earlier) (p : Place) → Keeps (seen_as text e p ReqZone) → ZoneKept e (meanings ReqZone (arguments_of p.directive)) (req_zone (arguments_of p.directive))
req_kept text e p k =
    let words = arguments_of p.directive in
    let s = seen_as text e p ReqZone in
    let once : has_repeats (behind_first words) ≡ false =
    middle (is_again ReqZone p.directive p.before) (has_repeats (behind_first words)) (list_any (limits_again ReqZone p.before) s.arguments) k.once in
    let w : ReqWords words = req_declares words (has_block p.directive) k.formed k.known once k.rated in
    let declares : Declares (meanings ReqZone words) (req_zone words) =
    subst (λ ws. Declares (meanings ReqZone ws) (req_zone ws)) (sym w.are) w.declared.declares in
    let f : Facts e (meanings ReqZone words) (req_zone words) = facts s (req_zone words) k declares in
    record {
      name = declares.name;
      bytes = f.size_is;
      room = leb-false 16 (length e.zone_names) k.few;
      fresh = f.fresh;
      fits = f.fits;
      spec = (f.limits, rw w.are w.declared.rate, req_key words (has_block p.directive) k.formed k.keyed);
    }

conn_kept : (text : ZoneNames) (e : Earlier) (p : Place) → Keeps (seen_as text e p ConnZone) → ZoneKept e (meanings ConnZone (arguments_of p.directive)) (conn_zone (arguments_of p.directive))
conn_kept text e p k =
    let words = arguments_of p.directive in
    let declares : Declares (meanings ConnZone words) (conn_zone words) = conn_declares words (has_block p.directive) k.formed k.known in
    let f : Facts e (meanings ConnZone words) (conn_zone words) = facts (seen_as text e p ConnZone) (conn_zone words) k declares in
    record {
      name = declares.name;
      bytes = f.size_is;
      room = leb-false 16 (length e.zone_names) k.few;
      fresh = f.fresh;
      fits = f.fits;
      spec = (f.limits, conn_key words (has_block p.directive) k.formed k.keyed);
    }

peer_kept : (text : ZoneNames) (e : Earlier) (p : Place) → Keeps (seen_as text e p PeerZone) →
    ZoneKept e (meanings PeerZone (arguments_of p.directive)) (peer_zone (arguments_of p.directive) (line_of p.directive) p.scope.block)
peer_kept text e p k =
    let words = arguments_of p.directive in
    let zone = peer_zone words (line_of p.directive) p.scope.block in
    let declares : Declares (meanings PeerZone words) zone = peer_declares words (has_block p.directive) (line_of p.directive) p.scope.block k.formed in
    let f : Facts e (meanings PeerZone words) zone = facts (seen_as text e p PeerZone) zone k declares in
    record {
      name = declares.name;
      bytes = f.size_is;
      room = leb-false 16 (length e.zone_names) k.few;
      fresh = f.fresh;
      fits = f.fits;
      spec = f.limits;
    }

-- the zone of a place that breaks no rule
zone_kept : (text : ZoneNames) (e : Earlier) (p : Place) (k : Kind) (zone : ZoneSpec) → kind_at p ≡ k → zone_at p ≡ Some zone → Keeps (seen_as text e p k) →
    ZoneKept e (meanings k (arguments_of p.directive)) zone
zone_kept text e p ReqZone zone is here held =
    let same : req_zone (arguments_of p.directive) ≡ zone = (let u = rw (is, zone_at) at here in cc) in
    subst (ZoneKept e (meanings ReqZone (arguments_of p.directive))) same (req_kept text e p held)
zone_kept text e p ConnZone zone is here held =
    let same : conn_zone (arguments_of p.directive) ≡ zone = (let u = rw (is, zone_at) at here in cc) in
    subst (ZoneKept e (meanings ConnZone (arguments_of p.directive))) same (conn_kept text e p held)
zone_kept text e p PeerZone zone is here held =
    let same : peer_zone (arguments_of p.directive) (line_of p.directive) p.scope.block ≡ zone = (let u = rw (is, zone_at) at here in cc) in
    subst (ZoneKept e (meanings PeerZone (arguments_of p.directive))) same (peer_kept text e p held)
zone_kept text e p _ zone is here held = absurd (let u = rw (is, zone_at) at here in cc)

noted_fits : (text : ZoneNames) (e : Earlier) (p : Place) → e.zone_bytes ≤ 268435456 → fault_at text e p ≡ None → (noted e p).zone_bytes ≤ 268435456
noted_fits text e p fits sound = zone_fits (seen_at text e p) fits (no_rule (line_of p.directive) (first_broken rules (seen_at text e p)) sound)

-- zones behind what stands before them
record ZonesBehind (e : Earlier) (zones : List ZoneSpec) : Type 0 where
  behind : Behind zone_name 16 e.zone_names zones
  each : All IsZoneSpec zones
  all_bytes : e.zone_bytes + sum_by zone_bytes zones ≤ 268435456

zones_step : (e : Earlier) (p : Place) (zones : List ZoneSpec) (here : Option ZoneSpec) →
    ((zone : ZoneSpec) → here ≡ Some zone → ZoneKept e (arguments_at p) zone) →
    ZonesBehind (noted e p) zones → ZonesBehind e (cons_option here zones)
zones_step e p zones None kept b = record {
  behind = behind_more zone_name 16 e.zone_names (first_said declared_name (arguments_at p)) zones b.behind;
  each = b.each;
  all_bytes = let more = b.all_bytes in omega arith;
}
zones_step e p zones (Some zone) kept b =
    let k = kept zone refl in
    record {
      behind = behind_one zone_name 16 e.zone_names zone zones k.room k.fresh
          (subst (λ names. Behind zone_name 16 names zones) (ap (and_then_one e.zone_names) k.name) b.behind);
      each = All-cons IsZoneSpec zone zones k.spec b.each;
      all_bytes = let more = b.all_bytes in omega (arith, k.bytes, sum_by-cons zone_bytes zone zones);
    }

zones_from : (text : ZoneNames) (e : Earlier) (ps : List Place) → first_fault text e ps ≡ None → e.zone_bytes ≤ 268435456 → ZonesBehind e (filter_map zone_at ps)
zones_from text e [] sound fits = record {
  behind = behind_none zone_name 16 e.zone_names;
  each = All-nil IsZoneSpec;
  all_bytes = omega arith;
}
zones_from text e (p ∷ ps) sound fits =
    let both = no_fault (fault_at text e p) (first_fault text (noted e p) ps) sound in
    let within : (noted e p).zone_bytes ≤ 268435456 = noted_fits text e p fits both.0 in
    zones_step e p (filter_map zone_at ps) (zone_at p)
    (λ zone is. zone_kept text e p (kind_at p) zone refl is (keeps_at text e p both.0))
    (zones_from text (noted e p) ps both.1 within)

-- the zones of places that break no rule
pub are_zones : (text : ZoneNames) (ps : List Place) → first_fault text nothing ps ≡ None → AreZones (filter_map zone_at ps)
are_zones text ps sound =
    let b = zones_from text nothing ps sound (omega arith) in
    record { count = b.behind.count; each = b.each; all_bytes = let more = b.all_bytes in omega arith; names = b.behind.apart }

-- a location's name
abbrev level_name : Level → List ℕ
level_name l = l.name

-- a location, behind what stands before it
record LocationKept (e : Earlier) (said : Option (List ℕ)) (level : Level) : Type 0 where
  name : said ≡ Some level.name
  room : length e.location_names < 64
  fresh : list_any (is_same level.name) e.location_names ≡ false

own_location : (text : ZoneNames) (e : Earlier) (p : Place) (zones : List ZoneSpec) (upstreams : List Upstream) → Keeps (seen_as text e p Location) →
    LocationKept e (name_if_location Location p.directive) (level_of zones upstreams p)
own_location text e p zones upstreams k = record { name = refl; room = leb-false 64 (length e.location_names) k.few; fresh = k.apart }

location_kept : (text : ZoneNames) (e : Earlier) (p : Place) (zones : List ZoneSpec) (upstreams : List Upstream) (k : Kind) (level : Level) →
    kind_at p ≡ k → location_at zones upstreams p ≡ Some level → Keeps (seen_as text e p k) → LocationKept e (name_if_location k p.directive) level
location_kept text e p zones upstreams Location level is here held =
    let same : level_of zones upstreams p ≡ level = (let u = rw (is, location_at) at here in cc) in
    subst (LocationKept e (name_if_location Location p.directive)) same (own_location text e p zones upstreams held)
location_kept text e p zones upstreams _ level is here held = absurd (let u = rw (is, location_at) at here in cc)

locations_step : (e : Earlier) (p : Place) (levels : List Level) (here : Option Level) →
    ((level : Level) → here ≡ Some level → LocationKept e (name_if_location (kind_at p) p.directive) level) →
    Behind level_name 64 (noted e p).location_names levels → Behind level_name 64 e.location_names (cons_option here levels)
locations_step e p levels None kept b = behind_more level_name 64 e.location_names (name_if_location (kind_at p) p.directive) levels b
locations_step e p levels (Some level) kept b =
    let k = kept level refl in
    behind_one level_name 64 e.location_names level levels k.room k.fresh
    (subst (λ names. Behind level_name 64 names levels) (ap (and_then_one e.location_names) k.name) b)

locations_from : (text : ZoneNames) (e : Earlier) (zones : List ZoneSpec) (upstreams : List Upstream) (ps : List Place) → first_fault text e ps ≡ None →
    Behind level_name 64 e.location_names (filter_map (location_at zones upstreams) ps)
locations_from text e zones upstreams [] sound = behind_none level_name 64 e.location_names
locations_from text e zones upstreams (p ∷ ps) sound =
    let both = no_fault (fault_at text e p) (first_fault text (noted e p) ps) sound in
    locations_step e p (filter_map (location_at zones upstreams) ps) (location_at zones upstreams p)
    (λ level is. location_kept text e p zones upstreams (kind_at p) level refl is (keeps_at text e p both.0))
    (locations_from text (noted e p) zones upstreams ps both.1)

-- the locations of places that break no rule
pub are_locations : (text : ZoneNames) (zones : List ZoneSpec) (upstreams : List Upstream) (ps : List Place) → first_fault text nothing ps ≡ None →
    AreLocations (filter_map (location_at zones upstreams) ps)
are_locations text zones upstreams ps sound =
    let b = locations_from text nothing zones upstreams ps sound in
    record { count = b.count; names = b.apart }
