-- The limits of a block that keeps the rules.
use Rattle.std.proofs.Common.{◌≡◌, ◌≢◌, inl, inr, ℕ, ◌<◌, ◌≤◌, Bool, true, false, List, [], ◌∷◌, ◌++◌, Option, None, Some, codes, get_or, length, map, refl, sym, ◌∙◌, ap, subst, arith, leb-false, true≢false}
use Rattle.std.specs.Prelude.{◌||◌, not, count_by, slice_get}
use Rattle.std.specs.Option.{option_map, option_map_or}
use Rattle.std.specs.List.{All, filter, filter_map, list_any}
use Rattle.std.specs.Cmp.Lexicographic.{bytes_decides}
use Rattle.std.proofs.lemmas.Bool.{not-false, or_cases, or_right}
use Rattle.std.proofs.lemmas.List.Elements.{All-nil, All-cons, All-filter, filter_passes}
use Rattle.std.proofs.lemmas.List.Sums.{length-filter}
use Rattle.zone_key.specs.Expr.{is_same}
use Rattle.directive_text.specs.declared.tree.Directive.{Directive}
use Rattle.config_rules.specs.declared.kind.Kind.TheVariants.{LimitReq, LimitConn}
use Rattle.config_rules.specs.declared.argument.Argument.TheVariants.{Number, Use}
use Rattle.config_rules.specs.Words.{arguments_of, behind_first, first_of, has_block, is_called, parameter, parameter_name, value_of}
use Rattle.config_rules.specs.Arguments.{limit_argument, meanings, used_name}
use Rattle.config_rules.specs.InOrder.{Place, Scope, kind_at}
use Rattle.config_rules.specs.Rules.{has_repeats, is_again, is_formed, is_out_of_range, is_parameter, is_repeated, is_use_of, limits_again, limits_by, uses_one_of, zones_named}
use Rattle.config_rules.proofs.Around.{Each}
use Rattle.config_rules.proofs.Fits.{or_false}
use Rattle.zone_config.specs.declared.data.ZoneSpec.{ZoneSpec}
use Rattle.zone_config.specs.declared.data.ZoneSpec.TheVariants.{Req, Conn}
use Rattle.zone_config.specs.Configuration.{Delay, conn_limit, delay_behind, delay_with, req_limit, value_of_number, zone_at, zone_name, zone_number}
use Rattle.zone_config.specs.Conditions.{AreZones, IsConnLimit, IsConnZone, IsReqLimit, IsReqZone, IsWithin}
use Rattle.zone_config.proofs.Bounded.{middle}
use Rattle.zone_config.proofs.Declaring.{counted, parameter_first, parameter_next, valued_front}
use Rattle.zone_config.proofs.Keeps.{Keeps, seen_as}
use Rattle.zone_config.proofs.Named.{ConnNamed, ReqNamed, ZoneAt, conn_named, req_named, zone_found}
use Rattle.zone_config.proofs.Valued.{number_or_within, number_ranged, parameter_tested, said_here, said_later}
use Rattle.zone_config.proofs.Sound.{Sound, is_limit_conn, is_limit_req, kept_as}
use Rattle.zone_config.proofs.Chosen.{Chosen, OneMore, chosen}

last_false : (a b c : Bool) → (a || b || c) ≡ false → c ≡ false
last_false true b c e = absurd (cc)
last_false false true c e = absurd (cc)
last_false false false c e = e

first_true : (a : Bool) → (a || (false || false)) ≡ true → a ≡ true
first_true true e = refl
first_true false e = absurd (cc)

-- what the parameters of `limit_req` mean
zone_means : (w v : List ℕ) → value_of (codes "zone=") w ≡ Some v → limit_argument w ≡ Use v
zone_means w v is = rw (valued_front (codes "zone=") w v is) refl

burst_is : (v : List ℕ) → limit_argument (codes "burst=" ++ v) ≡ Number v 0 1000000
burst_is v = refl

burst_means : (w v : List ℕ) → value_of (codes "burst=") w ≡ Some v → limit_argument w ≡ Number v 0 1000000
burst_means w v is = ap limit_argument (valued_front (codes "burst=") w v is) ∙ burst_is v

delay_is : (v : List ℕ) → limit_argument (codes "delay=" ++ v) ≡ Number v 0 1000000
delay_is v = refl

delay_means : (w v : List ℕ) → value_of (codes "delay=") w ≡ Some v → limit_argument w ≡ Number v 0 1000000
delay_means w v is = ap limit_argument (valued_front (codes "delay=") w v is) ∙ delay_is v

pub limit_meanings : (words : List (List ℕ)) → meanings LimitReq words ≡ map limit_argument words
limit_meanings [] = refl
limit_meanings (w ∷ ws) = refl

-- a word of another parameter uses no zone
plain_use : (w : List ℕ) (burst delay : Option (List ℕ)) (b : Bool) → value_of (codes "zone=") w ≡ None → value_of (codes "burst=") w ≡ burst → value_of (codes "delay=") w ≡ delay →
    is_same w (codes "nodelay") ≡ b → used_name (limit_argument w) ≡ None
plain_use w (Some v) delay b none isb isd isn = rw (none, isb) refl
plain_use w None (Some v) b none isb isd isn = rw (none, isb, isd) refl
plain_use w None None true none isb isd isn = rw (none, isb, isd, isn) refl
plain_use w None None false none isb isd isn = rw (none, isb, isd, isn) refl

no_use : (w : List ℕ) → value_of (codes "zone=") w ≡ None → used_name (limit_argument w) ≡ None
no_use w none = plain_use w (value_of (codes "burst=") w) (value_of (codes "delay=") w) (is_same w (codes "nodelay")) none refl refl refl

zone_word : (w v : List ℕ) → value_of (codes "zone=") w ≡ Some v → parameter_name w ≡ codes "zone"
zone_word w v is = rw (valued_front (codes "zone=") w v is) refl

-- the zone that a limit uses: that of its only `zone=`
pub record Uses (names words : List (List ℕ)) : Type 0 where
  pub name : List ℕ
  pub said : parameter (codes "zone=") words ≡ Some name
  pub known : list_any (is_same name) names ≡ true

-- a word that uses one of the zones is a `zone=`
used_word : (names : List (List ℕ)) (w : List ℕ) (said : Option (List ℕ)) → value_of (codes "zone=") w ≡ said → uses_one_of names (limit_argument w) ≡ true → is_parameter (codes "zone") w ≡ true
used_word names w None is e = absurd (let u = rw (no_use w is) at e in cc)
used_word names w (Some v) is e = rw (zone_word w v is) refl

later_use : (names words : List (List ℕ)) → list_any (uses_one_of names) (map limit_argument words) ≡ true → list_any (is_parameter (codes "zone")) words ≡ true
later_use names [] e = absurd (cc)
later_use names (w ∷ ws) e =
    elim (or_cases (uses_one_of names (limit_argument w)) (list_any (uses_one_of names) (map limit_argument ws)) e) [
      | inl here ↦ rw (used_word names w (value_of (codes "zone=") w) refl here) refl
      | inr later ↦ or_right (is_parameter (codes "zone") w) (list_any (is_parameter (codes "zone")) ws) (later_use names ws later)
    ]

-- a `zone=` and a later one
twice : (w v : List ℕ) (ws : List (List ℕ)) → value_of (codes "zone=") w ≡ Some v → list_any (is_parameter (codes "zone")) ws ≡ true → is_repeated w ws ≡ true
twice w v ws is later = rw (zone_word w v is, later) refl

uses_at : (names : List (List ℕ)) (w : List ℕ) (ws : List (List ℕ)) (said : Option (List ℕ)) → value_of (codes "zone=") w ≡ said →
    list_any (uses_one_of names) (map limit_argument (w ∷ ws)) ≡ true → has_repeats (w ∷ ws) ≡ false →
    (list_any (uses_one_of names) (map limit_argument ws) ≡ true → Uses names ws) → Uses names (w ∷ ws)
uses_at names w ws None is e once later =
    let rest : list_any (uses_one_of names) (map limit_argument ws) ≡ true = (let u = rw (no_use w is) at e in u) in
    let u = later rest in
    record { name = u.name; said = parameter_next (codes "zone=") w u.name ws is u.said; known = u.known }
uses_at names w ws (Some v) is e once later =
    elim (or_cases (uses_one_of names (limit_argument w)) (list_any (uses_one_of names) (map limit_argument ws)) e) [
      | inl here ↦ record { name = v; said = parameter_first (codes "zone=") w v ws is; known = rw (zone_means w v is) at here }
      | inr again ↦ absurd (true≢false (sym (twice w v ws is (later_use names ws again)) ∙ (or_false (is_repeated w ws) (has_repeats ws) once).0))
    ]

pub uses : (names words : List (List ℕ)) → list_any (uses_one_of names) (map limit_argument words) ≡ true → has_repeats words ≡ false → Uses names words
uses names [] e once = absurd (cc)
uses names (w ∷ ws) e once =
    uses_at names w ws (value_of (codes "zone=") w) refl e once (λ later. uses names ws later (or_false (is_repeated w ws) (has_repeats ws) once).1)

-- the delay of a limit
delay_step : (d : Delay) (w : List ℕ) (b : Bool) (said : Option (List ℕ)) → is_same w (codes "nodelay") ≡ b → value_of (codes "delay=") w ≡ said → d.delay ≤ 1000000 → is_out_of_range (limit_argument w) ≡ false →
    (delay_with d w).delay ≤ 1000000
delay_step d w true said isn isd h e = rw isn (omega arith)
delay_step d w false None isn isd h e = rw (isn, isd) h
delay_step d w false (Some v) isn isd h e =
    let within = number_ranged 0 1000000 v (subst (λ a. is_out_of_range a ≡ false) (delay_means w v isd) e) (omega arith) in
    rw (isn, isd) within.1

delay_within : (d : Delay) (words : List (List ℕ)) → d.delay ≤ 1000000 → list_any is_out_of_range (map limit_argument words) ≡ false → (delay_behind d words).delay ≤ 1000000
delay_within d [] h e = h
delay_within d (w ∷ ws) h e =
    let both = or_false (is_out_of_range (limit_argument w)) (list_any is_out_of_range (map limit_argument ws)) e in
    delay_within (delay_with d w) ws (delay_step d w (is_same w (codes "nodelay")) (value_of (codes "delay=") w) refl refl h both.0) both.1

-- a limit of requests in its limits, and the name of its zone
pub record ReqUse (zones : List ZoneSpec) (d : Directive) : Type 0 where
  pub name : List ℕ
  pub said : parameter (codes "zone=") (arguments_of d) ≡ Some name
  pub zone : option_map zone_name (slice_get zones (req_limit zones d).zone) ≡ Some name
  pub limit : IsReqLimit zones (req_limit zones d)

-- the number of the zone that it uses
req_number : (zones : List ZoneSpec) (d : Directive) (name : List ℕ) (n : ℕ) → parameter (codes "zone=") (arguments_of d) ≡ Some name → zone_number zones name ≡ Some n → (req_limit zones d).zone ≡ n
req_number zones d name n said found = rw (said, found) refl

req_use : (zones : List ZoneSpec) (d : Directive) (name : List ℕ) → AreZones zones → parameter (codes "zone=") (arguments_of d) ≡ Some name → ReqNamed zones name →
    list_any is_out_of_range (map limit_argument (arguments_of d)) ≡ false → ReqUse zones d
req_use zones d name are said named ranged =
    let at : ZoneAt zones (Req named.spec named.key) = zone_found zones (Req named.spec named.key) are named.listed in
    let number : (req_limit zones d).zone ≡ at.number = req_number zones d name at.number said (ap (zone_number zones) (sym named.is) ∙ at.found) in
    let there : slice_get zones (req_limit zones d).zone ≡ Some (Req named.spec named.key) = ap (slice_get zones) number ∙ at.there in
    let burst = number_or_within (codes "burst=") 0 1000000 0 limit_argument burst_means (arguments_of d) ranged (omega arith) (omega arith, omega arith) in
    let delay = delay_within (record { never = false; delay = 0 }) (arguments_of d) (omega arith) ranged in
    record {
      name = name;
      said = said;
      zone = ap (option_map zone_name) there ∙ ap (λ n. Some n) named.is;
      limit = record {
        zone = subst IsReqZone (sym there) tt;
        burst = (let most = burst.1 in omega arith);
        delay = omega arith;
      };
    }

-- none of these passes a test
pub none_pass : {X : Type 0} (test : X → Bool) (xs : List X) → list_any test xs ≡ false → All (λ x. test x ≡ false) xs
none_pass test [] e = All-nil (λ x. test x ≡ false)
none_pass test (x ∷ xs) e =
    let both = or_false (test x) (list_any test xs) e in
    All-cons (λ y. test y ≡ false) x xs both.0 (none_pass test xs both.1)

-- a limit's zone is one that a word of it uses
use_said_at : (name w : List ℕ) (ws : List (List ℕ)) (said : Option (List ℕ)) → value_of (codes "zone=") w ≡ said → parameter (codes "zone=") (w ∷ ws) ≡ Some name →
    (parameter (codes "zone=") ws ≡ Some name → list_any (is_use_of name) ws ≡ true) → list_any (is_use_of name) (w ∷ ws) ≡ true
use_said_at name w ws None is e later = or_right (is_use_of name w) (list_any (is_use_of name) ws) (later (said_later (codes "zone=") w name ws (parameter (codes "zone=") ws) is refl e))
use_said_at name w ws (Some v) is e later =
    let same : v ≡ name = said_here (codes "zone=") w name v ws is e in
    let here : is_same name v ≡ true = (bytes_decides name v).1 (sym same) in
    rw (is, here) refl

use_said : (name : List ℕ) (words : List (List ℕ)) → parameter (codes "zone=") words ≡ Some name → list_any (is_use_of name) words ≡ true
use_said name [] e = absurd (cc)
use_said name (w ∷ ws) e = use_said_at name w ws (value_of (codes "zone=") w) refl e (use_said name ws)

-- two limits of one block have two zones
abbrev pub ReqApart : List ZoneSpec → Directive → Directive → Type 0
ReqApart zones a b = (req_limit zones a).zone ≢ (req_limit zones b).zone

same_names : (zones : List ZoneSpec) (i j : ℕ) (a b : List ℕ) → option_map zone_name (slice_get zones i) ≡ Some a → option_map zone_name (slice_get zones j) ≡ Some b → i ≡ j → a ≡ b
same_names zones i j a b is other same =
    let both : Some a ≡ Some b = sym is ∙ ap (λ k. option_map zone_name (slice_get zones k)) same ∙ other in
    cc

req_apart : (zones : List ZoneSpec) (a b : Directive) (ua : ReqUse zones a) (ub : ReqUse zones b) → is_called (codes "limit_req") a ≡ true → limits_by LimitReq ub.name a ≡ false → ReqApart zones a b
req_apart zones a b ua ub called other same =
    let names : ua.name ≡ ub.name = same_names zones (req_limit zones a).zone (req_limit zones b).zone ua.name ub.name ua.zone ub.zone same in
    let used : list_any (is_use_of ub.name) (arguments_of a) ≡ true = use_said ub.name (arguments_of a) (ua.said ∙ ap (λ n. Some n) names) in
    true≢false (sym (rw (called, used) refl) ∙ other)

-- none of the arguments uses a zone that a test refuses
use_tested : (T : List ℕ → Bool) (words : List (List ℕ)) (name : List ℕ) → parameter (codes "zone=") words ≡ Some name →
    list_any (λ a. option_map_or T (used_name a) false) (map limit_argument words) ≡ false → T name ≡ false
use_tested T words name said e = parameter_tested (codes "zone=") limit_argument (λ v. Use v) (λ a. option_map_or T (used_name a) false) zone_means words name said e

-- what `limit_req` keeps at its place
req_kept : (places : List Place) (zones : List ZoneSpec) (p : Place) → zones ≡ filter_map zone_at places → AreZones zones → All (Sound (zones_named places) places) places →
    Sound (zones_named places) places p → kind_at p ≡ LimitReq →
    (u : ReqUse zones p.directive) × (list_any (limits_by LimitReq u.name) p.before ≡ false) × (count_by (is_called (codes "limit_req")) p.before < 8)
req_kept places zones p zones_are are all s here =
    let words = arguments_of p.directive in
    let k : Keeps (seen_as (zones_named places) s.earlier p LimitReq) = kept_as (zones_named places) places p LimitReq s here in
    let args = limit_meanings words in
    let once : has_repeats words ≡ false = middle (is_again LimitReq p.directive p.before) (has_repeats words) (list_any (limits_again LimitReq p.before) (meanings LimitReq words)) k.once in
    let named : list_any (uses_one_of (zones_named places).req) (map limit_argument words) ≡ true =
    subst (λ xs. list_any (uses_one_of (zones_named places).req) xs ≡ true) args (not-false (list_any (uses_one_of (zones_named places).req) (meanings LimitReq words)) k.zoned) in
    let u : Uses (zones_named places).req words = uses (zones_named places).req words named once in
    let zone : ReqNamed zones u.name = subst (λ zs. ReqNamed zs u.name) (sym zones_are) (req_named (zones_named places) places u.name all u.known) in
    let ranged : list_any is_out_of_range (map limit_argument words) ≡ false = subst (λ xs. list_any is_out_of_range xs ≡ false) args k.ranged in
    let again : list_any (limits_again LimitReq p.before) (map limit_argument words) ≡ false =
    subst (λ xs. list_any (limits_again LimitReq p.before) xs ≡ false) args
    (last_false (is_again LimitReq p.directive p.before) (has_repeats words) (list_any (limits_again LimitReq p.before) (meanings LimitReq words)) k.once) in
    let used : ReqUse zones p.directive = req_use zones p.directive u.name are u.said zone ranged in (
      used,
      use_tested (λ zone. list_any (limits_by LimitReq zone) p.before) words used.name used.said again,
      leb-false 8 (count_by (is_called (codes "limit_req")) p.before) k.few,
    )

req_more : (places : List Place) (zones : List ZoneSpec) → zones ≡ filter_map zone_at places → AreZones zones → All (Sound (zones_named places) places) places → (scope : Scope) →
    (before : List Directive) (d : Directive) → Sound (zones_named places) places (record { scope = scope; before = before; directive = d }) → is_called (codes "limit_req") d ≡ true →
    All (ReqUse zones) (filter (is_called (codes "limit_req")) before) → OneMore (ReqUse zones) (ReqApart zones) 8 (filter (is_called (codes "limit_req")) before) d
req_more places zones zones_are are all scope before d s called each =
    let p : Place = record { scope = scope; before = before; directive = d } in
    let test = is_called (codes "limit_req") in
    let kept = req_kept places zones p zones_are are all s (is_limit_req (zones_named places) places p s called) in
    let others = All-filter test (λ b. limits_by LimitReq kept.0.name b ≡ false) before (none_pass (limits_by LimitReq kept.0.name) before kept.1) in
    let passes = filter_passes test before in
    record {
      itself = kept.0;
      apart = λ k x below. req_apart zones (get_or (filter test before) k x) d (each k x below) kept.0 (passes k x below) (others k x below);
      room = subst (λ n. n < 8) (sym (length-filter test before)) kept.2;
    }

pub req_chosen : (places : List Place) (zones : List ZoneSpec) → zones ≡ filter_map zone_at places → AreZones zones → All (Sound (zones_named places) places) places → (scope : Scope) (block : List Directive) →
    Each (Sound (zones_named places) places) scope [] block → Chosen (ReqUse zones) (ReqApart zones) 8 (filter (is_called (codes "limit_req")) block)
req_chosen places zones zones_are are all scope block each =
    chosen (Sound (zones_named places) places) (ReqUse zones) (ReqApart zones) 8 (is_called (codes "limit_req")) scope (req_more places zones zones_are are all scope) block each

-- a limit of connections in its limits, and the name of its zone
pub record ConnUse (zones : List ZoneSpec) (d : Directive) : Type 0 where
  pub zone : option_map zone_name (slice_get zones (conn_limit zones d).zone) ≡ Some (first_of (arguments_of d))
  pub limit : IsConnLimit zones (conn_limit zones d)

-- the words of `limit_conn`
pub record ConnWords (words : List (List ℕ)) : Type 0 where
  pub name : List ℕ
  pub number : List ℕ
  pub are : words ≡ name ∷ number ∷ []

conn_words : (words : List (List ℕ)) (b : Bool) → not (is_formed LimitConn (length words) b) ≡ false → ConnWords words
conn_words [] b f = absurd (cc)
conn_words (w ∷ []) b f = absurd (cc)
conn_words (w ∷ n ∷ []) b f = record { name = w; number = n; are = refl }
conn_words (w ∷ n ∷ x ∷ ws) b f = let l : length (w ∷ n ∷ x ∷ ws) ≡ 2 = counted (length (w ∷ n ∷ x ∷ ws)) 2 (not b) f in absurd (omega arith)

-- the number of the zone that it uses
conn_number : (zones : List ZoneSpec) (d : Directive) (n : ℕ) → zone_number zones (first_of (arguments_of d)) ≡ Some n → (conn_limit zones d).zone ≡ n
conn_number zones d n found = rw found refl

conn_use : (zones : List ZoneSpec) (d : Directive) (name number : List ℕ) → AreZones zones → arguments_of d ≡ name ∷ number ∷ [] → ConnNamed zones name →
    list_any is_out_of_range (meanings LimitConn (name ∷ number ∷ [])) ≡ false → ConnUse zones d
conn_use zones d name number are is named ranged =
    let at : ZoneAt zones (Conn named.spec named.key) = zone_found zones (Conn named.spec named.key) are named.listed in
    let first : first_of (arguments_of d) ≡ name = ap first_of is in
    let place : (conn_limit zones d).zone ≡ at.number = conn_number zones d at.number (ap (zone_number zones) (first ∙ sym named.is) ∙ at.found) in
    let there : slice_get zones (conn_limit zones d).zone ≡ Some (Conn named.spec named.key) = ap (slice_get zones) place ∙ at.there in
    let later = (or_false (is_out_of_range (Use name)) (is_out_of_range (Number number 1 65535) || false) ranged).1 in
    let within : IsWithin 1 65535 (value_of_number number) = number_ranged 1 65535 number (or_false (is_out_of_range (Number number 1 65535)) false later).0 (omega arith) in
    record {
      zone = ap (option_map zone_name) there ∙ ap (λ n. Some n) (named.is ∙ sym first);
      limit = record {
        zone = subst IsConnZone (sym there) tt;
        limit = subst (λ ws. IsWithin 1 65535 (value_of_number (first_of (behind_first ws)))) (sym is) within;
      };
    }

-- two limits of one block have two zones
abbrev pub ConnApart : List ZoneSpec → Directive → Directive → Type 0
ConnApart zones a b = (conn_limit zones a).zone ≢ (conn_limit zones b).zone

conn_apart : (zones : List ZoneSpec) (a b : Directive) (name : List ℕ) → ConnUse zones a → ConnUse zones b → first_of (arguments_of b) ≡ name → is_called (codes "limit_conn") a ≡ true → limits_by LimitConn name a ≡ false → ConnApart zones a b
conn_apart zones a b name ua ub is called other same =
    let names : first_of (arguments_of a) ≡ first_of (arguments_of b) =
    same_names zones (conn_limit zones a).zone (conn_limit zones b).zone (first_of (arguments_of a)) (first_of (arguments_of b)) ua.zone ub.zone same in
    let used : is_same name (first_of (arguments_of a)) ≡ true = (bytes_decides name (first_of (arguments_of a))).1 (sym (names ∙ is)) in
    true≢false (sym (rw (called, used) refl) ∙ other)

-- what `limit_conn` keeps at its place
conn_kept : (places : List Place) (zones : List ZoneSpec) (p : Place) → zones ≡ filter_map zone_at places → AreZones zones → All (Sound (zones_named places) places) places →
    Sound (zones_named places) places p → kind_at p ≡ LimitConn →
    ConnUse zones p.directive × (list_any (limits_by LimitConn (first_of (arguments_of p.directive))) p.before ≡ false) × (count_by (is_called (codes "limit_conn")) p.before < 8)
conn_kept places zones p zones_are are all s here =
    let words = arguments_of p.directive in
    let k : Keeps (seen_as (zones_named places) s.earlier p LimitConn) = kept_as (zones_named places) places p LimitConn s here in
    let w : ConnWords words = conn_words words (has_block p.directive) k.formed in
    let args : meanings LimitConn words ≡ meanings LimitConn (w.name ∷ w.number ∷ []) = ap (meanings LimitConn) w.are in
    let named : list_any (uses_one_of (zones_named places).conn) (meanings LimitConn (w.name ∷ w.number ∷ [])) ≡ true =
    subst (λ xs. list_any (uses_one_of (zones_named places).conn) xs ≡ true) args (not-false (list_any (uses_one_of (zones_named places).conn) (meanings LimitConn words)) k.zoned) in
    let known : list_any (is_same w.name) (zones_named places).conn ≡ true = first_true (list_any (is_same w.name) (zones_named places).conn) named in
    let zone : ConnNamed zones w.name = subst (λ zs. ConnNamed zs w.name) (sym zones_are) (conn_named (zones_named places) places w.name all known) in
    let ranged : list_any is_out_of_range (meanings LimitConn (w.name ∷ w.number ∷ [])) ≡ false = subst (λ xs. list_any is_out_of_range xs ≡ false) args k.ranged in
    let again : list_any (limits_again LimitConn p.before) (meanings LimitConn (w.name ∷ w.number ∷ [])) ≡ false =
    subst (λ xs. list_any (limits_again LimitConn p.before) xs ≡ false) args
    (last_false (is_again LimitConn p.directive p.before) (has_repeats []) (list_any (limits_again LimitConn p.before) (meanings LimitConn words)) k.once) in
    let free : list_any (limits_by LimitConn w.name) p.before ≡ false =
    (or_false (list_any (limits_by LimitConn w.name) p.before) (list_any (limits_again LimitConn p.before) (Number w.number 1 65535 ∷ [])) again).0 in (
      conn_use zones p.directive w.name w.number are w.are zone ranged,
      subst (λ name. list_any (limits_by LimitConn name) p.before ≡ false) (sym (ap first_of w.are)) free,
      leb-false 8 (count_by (is_called (codes "limit_conn")) p.before) k.few,
    )

conn_more : (places : List Place) (zones : List ZoneSpec) → zones ≡ filter_map zone_at places → AreZones zones → All (Sound (zones_named places) places) places → (scope : Scope) →
    (before : List Directive) (d : Directive) → Sound (zones_named places) places (record { scope = scope; before = before; directive = d }) → is_called (codes "limit_conn") d ≡ true →
    All (ConnUse zones) (filter (is_called (codes "limit_conn")) before) → OneMore (ConnUse zones) (ConnApart zones) 8 (filter (is_called (codes "limit_conn")) before) d
conn_more places zones zones_are are all scope before d s called each =
    let p : Place = record { scope = scope; before = before; directive = d } in
    let test = is_called (codes "limit_conn") in
    let name = first_of (arguments_of d) in
    let kept = conn_kept places zones p zones_are are all s (is_limit_conn (zones_named places) places p s called) in
    let others = All-filter test (λ b. limits_by LimitConn name b ≡ false) before (none_pass (limits_by LimitConn name) before kept.1) in
    let passes = filter_passes test before in
    record {
      itself = kept.0;
      apart = λ k x below. conn_apart zones (get_or (filter test before) k x) d name (each k x below) kept.0 refl (passes k x below) (others k x below);
      room = subst (λ n. n < 8) (sym (length-filter test before)) kept.2;
    }

pub conn_chosen : (places : List Place) (zones : List ZoneSpec) → zones ≡ filter_map zone_at places → AreZones zones → All (Sound (zones_named places) places) places → (scope : Scope) (block : List Directive) →
    Each (Sound (zones_named places) places) scope [] block → Chosen (ConnUse zones) (ConnApart zones) 8 (filter (is_called (codes "limit_conn")) block)
conn_chosen places zones zones_are are all scope block each =
    chosen (Sound (zones_named places) places) (ConnUse zones) (ConnApart zones) 8 (is_called (codes "limit_conn")) scope (conn_more places zones zones_are are all scope) block each
