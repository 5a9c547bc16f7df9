-- What the directive of a zone that breaks no rule declares.
use Rattle.std.proofs.Common.{◌≡◌, ℕ, ◌+◌, ◌*◌, ◌/◌, ◌-◌, ◌≤◌, Bool, true, false, cond, eqb, List, [], ◌∷◌, ◌++◌, Option, None, Some, unwrap_or, is_some, length, map, take, drop, refl, sym, ◌∙◌, ap, subst, arith, take-append-drop, leb-true}
use Rattle.std.specs.Prelude.{◌&&◌, not, codes, is_none, nat_eq, nat_le}
use Rattle.std.specs.Option.{option_map, option_map_or, option_and_then}
use Rattle.std.specs.List.{filter_map, list_any, find, starts_with, ends_with}
use Rattle.std.specs.Str.Parse.{digits_value}
use Rattle.std.specs.Cmp.Lexicographic.{bytes_decides}
use Rattle.std.proofs.lemmas.Bool.Decides.{nat_tests}
use Rattle.zone_key.specs.Expr.{expr_of}
use Rattle.zone_key.specs.Printing.{IsExpr}
use Rattle.zone_key.specs.declared.expr.Part.{Part}
use Rattle.zone_key.proofs.Spelled.{spelled-is-expr}
use Rattle.directive_text.specs.declared.tree.Directive.{Directive}
use Rattle.config_rules.specs.declared.kind.Kind.TheVariants.{ReqZone, ConnZone, PeerZone}
use Rattle.config_rules.specs.declared.argument.Argument.{Argument}
use Rattle.config_rules.specs.declared.argument.Argument.TheVariants.{Zone, Name}
use Rattle.config_rules.specs.Words.{Declared, declared_in, declared_by, value_of, parameter, parameter_name, behind_first, first_of}
use Rattle.config_rules.specs.Numbers.{size_of, up_to, number_in, is_digits, at_least, rate_of}
use Rattle.config_rules.specs.Arguments.{meanings, later_argument, declared_name, declared_size}
use Rattle.config_rules.specs.Rules.{first_said, bytes_or_none, has_bad_size, has_size, is_small, is_large, has_bad_rate, is_name, is_out_of_range, is_unknown, is_formed, is_bad_key, has_repeats}
use Rattle.config_rules.proofs.Fits.{and_true, or_false, said_first}
use Rattle.zone_config.specs.declared.data.ZoneSpec.{ZoneSpec}
use Rattle.zone_config.specs.Configuration.{declared_or_none, req_zone, conn_zone, peer_zone, zone_name}
use Rattle.zone_config.specs.Conditions.{IsWithin, zone_bytes}

-- what the first argument that says something of a sort says, where each that says it passes a test
first_at : (sort : Argument → Option (List ℕ)) (test : Argument → Bool) (P : List ℕ → Type 0) → ((a : Argument) (v : List ℕ) → sort a ≡ Some v → test a ≡ false → P v) →
    (a : Argument) (args : List Argument) (v : List ℕ) (said : Option (List ℕ)) → sort a ≡ said → first_said sort (a ∷ args) ≡ Some v → test a ≡ false →
    (first_said sort args ≡ Some v → P v) → P v
first_at sort test P each a args v None is e here later = later (sym (said_first sort a args None is) ∙ e)
first_at sort test P each a args v (Some w) is e here later =
    let same : Some w ≡ Some v = sym (said_first sort a args (Some w) is) ∙ e in
    each a v (is ∙ same) here

pub first_tested : (sort : Argument → Option (List ℕ)) (test : Argument → Bool) (P : List ℕ → Type 0) → ((a : Argument) (v : List ℕ) → sort a ≡ Some v → test a ≡ false → P v) →
    (args : List Argument) (v : List ℕ) → first_said sort args ≡ Some v → list_any test args ≡ false → P v
first_tested sort test P each [] v is e = absurd (cc)
first_tested sort test P each (a ∷ args) v is e =
    let both = or_false (test a) (list_any test args) e in
    first_at sort test P each a args v (sort a) refl is both.0 (λ later. first_tested sort test P each args v later both.1)

-- a zone's name has 1 to 255 bytes
pub name_within : (name : List ℕ) → not (is_name name) ≡ false → IsWithin 1 255 (length name)
name_within name e = (grind (arith, nat_tests), grind (arith, nat_tests))

name_ranged : (a : Argument) (v : List ℕ) → declared_name a ≡ Some v → is_out_of_range a ≡ false → IsWithin 1 255 (length v)
name_ranged (Zone name size) v is e = let same : name ≡ v = cc in subst (λ n. IsWithin 1 255 (length n)) same (name_within name e)
name_ranged (Name name) v is e = let same : name ≡ v = cc in subst (λ n. IsWithin 1 255 (length n)) same (name_within name e)
name_ranged _ v is e = absurd (cc)

pub named : (args : List Argument) (name : List ℕ) → first_said declared_name args ≡ Some name → list_any is_out_of_range args ≡ false → IsWithin 1 255 (length name)
named args name is e = first_tested declared_name is_out_of_range (λ v. IsWithin 1 255 (length v)) name_ranged args name is e

-- a zone's bytes are within their range, and fit behind those of the zones before
pub record SizeFits (earlier bytes : ℕ) : Type 0 where
  pub within : IsWithin 32768 67108864 bytes
  pub fits : earlier + bytes ≤ 268435456

-- a size that is one, neither too small nor too large
size_within : (earlier : ℕ) (size : Option ℕ) → is_none size ≡ false → option_map_or is_small size false ≡ false → option_map_or (is_large earlier) size false ≡ false →
    SizeFits earlier (unwrap_or (option_and_then (up_to 67108864) size) 0)
size_within earlier None e small large = absurd (cc)
size_within earlier (Some n) e small large = record { within = (grind (arith, nat_tests), grind (arith, nat_tests)); fits = grind (arith, nat_tests) }

bad_size : (a : Argument) (v : List ℕ) → declared_size a ≡ Some v → has_bad_size a ≡ false → is_none (size_of v) ≡ false
bad_size a v is e = rw is at e

small_size : (test : ℕ → Bool) (a : Argument) (v : List ℕ) → declared_size a ≡ Some v → has_size test a ≡ false → option_map_or test (size_of v) false ≡ false
small_size test a v is e = rw is at e

pub sized : (earlier : ℕ) (args : List Argument) (size : List ℕ) → first_said declared_size args ≡ Some size →
    list_any has_bad_size args ≡ false → list_any (has_size is_small) args ≡ false → list_any (has_size (is_large earlier)) args ≡ false →
    SizeFits earlier (bytes_or_none (Some size))
sized earlier args size is bad small large =
    size_within earlier (size_of size)
    (first_tested declared_size has_bad_size (λ v. is_none (size_of v) ≡ false) bad_size args size is bad)
    (first_tested declared_size (has_size is_small) (λ v. option_map_or is_small (size_of v) false ≡ false) (small_size is_small) args size is small)
    (first_tested declared_size (has_size (is_large earlier)) (λ v. option_map_or (is_large earlier) (size_of v) false ≡ false) (small_size (is_large earlier)) args size is large)

-- what arguments declare is the zone, and no other
pub record Declares (args : List Argument) (zone : ZoneSpec) : Type 0 where
  pub name : first_said declared_name args ≡ Some (zone_name zone)
  pub only : filter_map declared_name args ≡ zone_name zone ∷ []
  pub size : List ℕ
  pub said : first_said declared_size args ≡ Some size
  pub bytes : bytes_or_none (Some size) ≡ zone_bytes zone

pub counted : (n m : ℕ) (b : Bool) → not (eqb n m && b) ≡ false → n ≡ m
counted n m b e = grind (arith, nat_tests)

-- the first word that declares a zone, that one or a later one
declared_first : (w : List ℕ) (ws : List (List ℕ)) (d : Declared) → declared_in w ≡ Some d → declared_by (w ∷ ws) ≡ Some d
declared_first w ws d is = ap (λ b. option_and_then declared_in (cond b (Some w) (find (λ x. is_some (declared_in x)) ws))) (ap is_some is) ∙ is

declared_next : (w : List ℕ) (ws : List (List ℕ)) (d : Declared) → declared_in w ≡ None → declared_by ws ≡ Some d → declared_by (w ∷ ws) ≡ Some d
declared_next w ws d is rest = ap (λ b. option_and_then declared_in (cond b (Some w) (find (λ x. is_some (declared_in x)) ws))) (ap is_some is) ∙ rest

declared_is : (ws : List (List ℕ)) (d : Declared) → declared_by ws ≡ Some d → declared_or_none ws ≡ d
declared_is ws d is = rw is refl

pub parameter_first : (prefix w v : List ℕ) (ws : List (List ℕ)) → value_of prefix w ≡ Some v → parameter prefix (w ∷ ws) ≡ Some v
parameter_first prefix w v ws is = ap (λ b. option_and_then (value_of prefix) (cond b (Some w) (find (λ x. is_some (value_of prefix x)) ws))) (ap is_some is) ∙ is

pub parameter_next : (prefix w v : List ℕ) (ws : List (List ℕ)) → value_of prefix w ≡ None → parameter prefix ws ≡ Some v → parameter prefix (w ∷ ws) ≡ Some v
parameter_next prefix w v ws is rest = ap (λ b. option_and_then (value_of prefix) (cond b (Some w) (find (λ x. is_some (value_of prefix x)) ws))) (ap is_some is) ∙ rest

conn_found : (k z : List ℕ) (found : Option Declared) → declared_in z ≡ found → list_any is_unknown (meanings ConnZone (k ∷ z ∷ [])) ≡ false → Declares (meanings ConnZone (k ∷ z ∷ [])) (conn_zone (k ∷ z ∷ []))
conn_found k z None is e = absurd (let u = rw is at e in cc)
conn_found k z (Some d) is e =
    let same : declared_or_none (z ∷ []) ≡ d = declared_is (z ∷ []) d (declared_first z [] d is) in
    let first : first_said declared_name (meanings ConnZone (k ∷ z ∷ [])) ≡ Some d.name = rw is refl in
    let all : filter_map declared_name (meanings ConnZone (k ∷ z ∷ [])) ≡ d.name ∷ [] = rw is refl in
    record {
      name = first ∙ ap (λ (x : Declared). Some x.name) (sym same);
      only = all ∙ ap (λ (x : Declared). x.name ∷ []) (sym same);
      size = d.size;
      said = rw is refl;
      bytes = ap (λ (x : Declared). bytes_or_none (Some x.size)) (sym same);
    }

pub conn_declares : (words : List (List ℕ)) (b : Bool) → not (is_formed ConnZone (length words) b) ≡ false → list_any is_unknown (meanings ConnZone words) ≡ false → Declares (meanings ConnZone words) (conn_zone words)
conn_declares [] b f e = absurd (cc)
conn_declares (k ∷ []) b f e = absurd (cc)
conn_declares (k ∷ z ∷ []) b f e = conn_found k z (declared_in z) refl e
conn_declares (k ∷ z ∷ y ∷ ws) b f e = let n : length (k ∷ z ∷ y ∷ ws) ≡ 2 = counted (length (k ∷ z ∷ y ∷ ws)) 2 (not b) f in absurd (omega arith)

pub peer_declares : (words : List (List ℕ)) (b : Bool) (line : ℕ) (block : List Directive) → not (is_formed PeerZone (length words) b) ≡ false → Declares (meanings PeerZone words) (peer_zone words line block)
peer_declares [] b line block f = absurd (cc)
peer_declares (n ∷ []) b line block f = absurd (cc)
peer_declares (n ∷ s ∷ []) b line block f = record { name = refl; only = refl; size = s; said = refl; bytes = refl }
peer_declares (n ∷ s ∷ y ∷ ws) b line block f = let l : length (n ∷ s ∷ y ∷ ws) ≡ 2 = counted (length (n ∷ s ∷ y ∷ ws)) 2 (not b) f in absurd (omega arith)

-- a word that has a value behind a prefix begins with it
front_of : (prefix w v : List ℕ) (b : Bool) → starts_with nat_eq w prefix ≡ b → value_of prefix w ≡ Some v → w ≡ prefix ++ v
front_of prefix w v false is e = absurd (let u = rw is at e in cc)
front_of prefix w v true is e =
    let rest : drop (length prefix) w ≡ v = (let u = rw is at e in cc) in
    let front : prefix ≡ take (length prefix) w = (bytes_decides prefix (take (length prefix) w)).0 is in
    sym (take-append-drop (length prefix) w) ∙ ap (λ p. p ++ drop (length prefix) w) (sym front) ∙ ap (λ r. prefix ++ r) rest

pub valued_front : (prefix w v : List ℕ) → value_of prefix w ≡ Some v → w ≡ prefix ++ v
valued_front prefix w v e = front_of prefix w v (starts_with nat_eq w prefix) refl e

zone_front : (w : List ℕ) (d : Declared) (v : Option (List ℕ)) → value_of (codes "zone=") w ≡ v → declared_in w ≡ Some d → parameter_name w ≡ codes "zone"
zone_front w d None is e = absurd (let u = rw is at e in cc)
zone_front w d (Some v) is e = rw (valued_front (codes "zone=") w v is) refl

rate_front : (w v : List ℕ) → value_of (codes "rate=") w ≡ Some v → parameter_name w ≡ codes "rate"
rate_front w v is = rw (valued_front (codes "rate=") w v is) refl

-- the zone's word isn't the rate's
zone_no_rate : (w : List ℕ) (d : Declared) (v : Option (List ℕ)) → value_of (codes "zone=") w ≡ v → declared_in w ≡ Some d → value_of (codes "rate=") w ≡ None
zone_no_rate w d None is e = absurd (let u = rw is at e in cc)
zone_no_rate w d (Some v) is e = rw (valued_front (codes "zone=") w v is) refl

-- a parameter is not given twice
zone_twice : (a b : List ℕ) → parameter_name a ≡ codes "zone" → parameter_name b ≡ codes "zone" → has_repeats (a ∷ b ∷ []) ≡ false → ⊥
zone_twice a b pa pb e = let u = rw (pa, pb) at e in cc

rate_twice : (a b : List ℕ) → parameter_name a ≡ codes "rate" → parameter_name b ≡ codes "rate" → has_repeats (a ∷ b ∷ []) ≡ false → ⊥
rate_twice a b pa pb e = let u = rw (pa, pb) at e in cc

-- the range of a number
pub passed_test : (b : Bool) (x y : ℕ) → cond b (Some x) None ≡ Some y → (b ≡ true) × (x ≡ y)
passed_test true x y e = (refl, let same : x ≡ y = cc in same)
passed_test false x y e = absurd (cc)

ranged_number : (low d : ℕ) (b : Bool) (n : ℕ) → option_and_then (at_least low) (cond b (Some d) None) ≡ Some n → (b ≡ true) × (low ≤ n) × (d ≡ n)
ranged_number low d false n e = absurd (cc)
ranged_number low d true n e =
    let q = passed_test (nat_le low d) d n e in
    let least : low ≤ d = leb-true low d q.0 in
    (refl, subst (λ m. low ≤ m) q.1 least, q.1)

pub number_within : (low most : ℕ) (w : List ℕ) (n : ℕ) → number_in low most w ≡ Some n → IsWithin low most n
number_within low most w n e =
    let d = digits_value 10 w in
    let q = ranged_number low d (is_digits w && nat_le d most) n e in
    let fits : d ≤ most = leb-true d most (and_true (is_digits w) (nat_le d most) q.0).1 in
    (q.1, subst (λ m. m ≤ most) q.2 fits)

-- a rate is 1 to 1,000,000,000 thousandths of a request a second
rate_at : (s m : Bool) (x : Option ℕ) → ((n : ℕ) → x ≡ Some n → IsWithin 1 1000000 n) →
    is_none (cond s (option_map (λ n. n * 1000) x) (cond m (option_map (λ n. n * 1000 / 60) x) None)) ≡ false →
    IsWithin 1 1000000000 (unwrap_or (cond s (option_map (λ n. n * 1000) x) (cond m (option_map (λ n. n * 1000 / 60) x) None)) 0)
rate_at true m None within e = absurd (cc)
rate_at true m (Some n) within e = let h = within n refl in (omega arith, omega arith)
rate_at false true None within e = absurd (cc)
rate_at false true (Some n) within e = let h = within n refl in (omega arith, omega arith)
rate_at false false x within e = absurd (cc)

rate_within : (v : List ℕ) → is_none (rate_of v) ≡ false → IsWithin 1 1000000000 (unwrap_or (rate_of v) 0)
rate_within v e =
    rate_at (ends_with nat_eq v (codes "r/s")) (ends_with nat_eq v (codes "r/m")) (number_in 1 1000000 (take (length v - 3) v))
    (λ n is. number_within 1 1000000 (take (length v - 3) v) n is) e

-- what the directive of a request zone declares, and its rate
pub record DeclaresReq (k a b : List ℕ) : Type 0 where
  pub declares : Declares (meanings ReqZone (k ∷ a ∷ b ∷ [])) (req_zone (k ∷ a ∷ b ∷ []))
  pub rate : IsWithin 1 1000000000 (unwrap_or (option_and_then rate_of (parameter (codes "rate=") (a ∷ b ∷ []))) 0)

req_found : (k a b : List ℕ) (da db : Option Declared) (ra rb : Option (List ℕ)) →
    declared_in a ≡ da → declared_in b ≡ db → value_of (codes "rate=") a ≡ ra → value_of (codes "rate=") b ≡ rb →
    list_any is_unknown (meanings ReqZone (k ∷ a ∷ b ∷ [])) ≡ false → has_repeats (a ∷ b ∷ []) ≡ false →
    list_any has_bad_rate (meanings ReqZone (k ∷ a ∷ b ∷ [])) ≡ false → DeclaresReq k a b
req_found k a b (Some d) (Some g) ra rb isa isb isra isrb known once rated =
    absurd (zone_twice a b (zone_front a d (value_of (codes "zone=") a) refl isa) (zone_front b g (value_of (codes "zone=") b) refl isb) once)
req_found k a b (Some d) None ra None isa isb isra isrb known once rated = absurd (let u = rw (isa, isb, isrb) at known in cc)
req_found k a b (Some d) None ra (Some v) isa isb isra isrb known once rated =
    let none : value_of (codes "rate=") a ≡ None = zone_no_rate a d (value_of (codes "zone=") a) refl isa in
    let good = rw (isa, isb, isrb) at rated in
    let same : declared_or_none (a ∷ b ∷ []) ≡ d = declared_is (a ∷ b ∷ []) d (declared_first a (b ∷ []) d isa) in
    let first : first_said declared_name (meanings ReqZone (k ∷ a ∷ b ∷ [])) ≡ Some d.name = rw isa refl in
    let all : filter_map declared_name (meanings ReqZone (k ∷ a ∷ b ∷ [])) ≡ d.name ∷ [] = rw (isa, isb, isrb) refl in
    record {
      declares = record {
        name = first ∙ ap (λ (x : Declared). Some x.name) (sym same);
        only = all ∙ ap (λ (x : Declared). x.name ∷ []) (sym same);
        size = d.size;
        said = rw isa refl;
        bytes = ap (λ (x : Declared). bytes_or_none (Some x.size)) (sym same);
      };
      rate = subst (λ o. IsWithin 1 1000000000 (unwrap_or (option_and_then rate_of o) 0))
          (sym (parameter_next (codes "rate=") a v (b ∷ []) none (parameter_first (codes "rate=") b v [] isrb)))
          (rate_within v (or_false (is_none (rate_of v)) false good).0);
    }
req_found k a b None (Some d) None rb isa isb isra isrb known once rated = absurd (let u = rw (isa, isra) at known in cc)
req_found k a b None (Some d) (Some v) rb isa isb isra isrb known once rated =
    let good = rw (isa, isb, isra) at rated in
    let same : declared_or_none (a ∷ b ∷ []) ≡ d = declared_is (a ∷ b ∷ []) d (declared_next a (b ∷ []) d isa (declared_first b [] d isb)) in
    let first : first_said declared_name (meanings ReqZone (k ∷ a ∷ b ∷ [])) ≡ Some d.name = rw (isa, isra, isb) refl in
    let all : filter_map declared_name (meanings ReqZone (k ∷ a ∷ b ∷ [])) ≡ d.name ∷ [] = rw (isa, isra, isb) refl in
    record {
      declares = record {
        name = first ∙ ap (λ (x : Declared). Some x.name) (sym same);
        only = all ∙ ap (λ (x : Declared). x.name ∷ []) (sym same);
        size = d.size;
        said = rw (isa, isra, isb) refl;
        bytes = ap (λ (x : Declared). bytes_or_none (Some x.size)) (sym same);
      };
      rate = subst (λ o. IsWithin 1 1000000000 (unwrap_or (option_and_then rate_of o) 0)) (sym (parameter_first (codes "rate=") a v (b ∷ []) isra))
          (rate_within v (or_false (is_none (rate_of v)) false good).0);
    }
req_found k a b None None None rb isa isb isra isrb known once rated = absurd (let u = rw (isa, isra) at known in cc)
req_found k a b None None (Some v) None isa isb isra isrb known once rated = absurd (let u = rw (isa, isra, isb, isrb) at known in cc)
req_found k a b None None (Some v) (Some u) isa isb isra isrb known once rated =
    absurd (rate_twice a b (rate_front a v isra) (rate_front b u isrb) once)

-- what the words of a request zone's directive are
pub record ReqWords (words : List (List ℕ)) : Type 0 where
  pub key : List ℕ
  pub one : List ℕ
  pub other : List ℕ
  pub are : words ≡ key ∷ one ∷ other ∷ []
  pub declared : DeclaresReq key one other

pub req_declares : (words : List (List ℕ)) (b : Bool) → not (is_formed ReqZone (length words) b) ≡ false → list_any is_unknown (meanings ReqZone words) ≡ false →
    has_repeats (behind_first words) ≡ false → list_any has_bad_rate (meanings ReqZone words) ≡ false → ReqWords words
req_declares [] b f known once rated = absurd (cc)
req_declares (k ∷ []) b f known once rated = absurd (cc)
req_declares (k ∷ x ∷ []) b f known once rated = absurd (cc)
req_declares (k ∷ x ∷ y ∷ []) b f known once rated =
    record {
      key = k;
      one = x;
      other = y;
      are = refl;
      declared = req_found k x y (declared_in x) (declared_in y) (value_of (codes "rate=") x) (value_of (codes "rate=") y) refl refl refl refl known once rated;
    }
req_declares (k ∷ x ∷ y ∷ z ∷ ws) b f known once rated = let n : length (k ∷ x ∷ y ∷ z ∷ ws) ≡ 3 = counted (length (k ∷ x ∷ y ∷ z ∷ ws)) 3 (not b) f in absurd (omega arith)

-- the key of a zone
key_spelled : (k : List ℕ) (parts : Option (List Part)) → expr_of k ≡ parts → is_none (expr_of k) ≡ false → IsExpr (unwrap_or (expr_of k) [])
key_spelled k None is e = absurd (let u = rw is at e in cc)
key_spelled k (Some parts) is e = rw is (spelled-is-expr k parts is)

keyed : (k : List ℕ) → is_none (expr_of k) ≡ false → IsExpr (unwrap_or (expr_of k) [])
keyed k e = key_spelled k (expr_of k) refl e

pub req_key : (words : List (List ℕ)) (b : Bool) → not (is_formed ReqZone (length words) b) ≡ false → list_any is_bad_key (meanings ReqZone words) ≡ false → IsExpr (unwrap_or (expr_of (first_of words)) [])
req_key [] b f e = absurd (cc)
req_key (w ∷ ws) b f e = keyed w (or_false (is_none (expr_of w)) (list_any is_bad_key (map (later_argument ReqZone) ws)) e).0

pub conn_key : (words : List (List ℕ)) (b : Bool) → not (is_formed ConnZone (length words) b) ≡ false → list_any is_bad_key (meanings ConnZone words) ≡ false → IsExpr (unwrap_or (expr_of (first_of words)) [])
conn_key [] b f e = absurd (cc)
conn_key (w ∷ ws) b f e = keyed w (or_false (is_none (expr_of w)) (list_any is_bad_key (map (later_argument ConnZone) ws)) e).0
