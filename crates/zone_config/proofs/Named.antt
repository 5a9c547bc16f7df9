-- The zone of a name that a text declares.
use Rattle.std.proofs.Common.{◌≡◌, ◌≢◌, ◌⊎◌, inl, inr, ℕ, zero, suc, ◌<◌, Bool, true, false, cond, List, [], ◌∷◌, ◌++◌, Option, None, Some, get_or, length, refl, sym, ◌∙◌, ap, subst, arith}
use Rattle.std.specs.Prelude.{◌||◌, nat_lt, slice_get}
use Rattle.std.specs.Option.{option_map}
use Rattle.std.specs.List.{All, AllPairs, Contains, cons_option, filter_map, list_any, position, position_or_len}
use Rattle.std.specs.Cmp.Lexicographic.{bytes_decides}
use Rattle.std.proofs.lemmas.Bool.{false_from_ne_true, lt-ltb, or_cases, or_right}
use Rattle.std.proofs.lemmas.Option.{slice_get-get_or}
use Rattle.std.proofs.lemmas.List.Elements.{All-head, All-tail, Contains-append_right}
use Rattle.std.proofs.lemmas.List.Sums.{position_or_len_is}
use Rattle.zone_key.specs.declared.expr.Expr.{Expr}
use Rattle.zone_key.specs.Expr.{is_same}
use Rattle.config_rules.specs.declared.kind.Kind.{Kind}
use Rattle.config_rules.specs.declared.kind.Kind.TheVariants.{ReqZone, ConnZone}
use Rattle.config_rules.specs.declared.earlier.ZoneNames.{ZoneNames}
use Rattle.config_rules.specs.Words.{arguments_of, behind_first, has_block}
use Rattle.config_rules.specs.Arguments.{meanings}
use Rattle.config_rules.specs.InOrder.{Place, kind_at}
use Rattle.config_rules.specs.Rules.{arguments_at, conn_names, has_repeats, is_again, limits_again, names_if_conn, names_if_req, req_names}
use Rattle.zone_config.specs.declared.data.ConnData.{ConnData}
use Rattle.zone_config.specs.declared.data.ReqData.{ReqData}
use Rattle.zone_config.specs.declared.data.ZoneSpec.{ZoneSpec}
use Rattle.zone_config.specs.declared.data.ZoneSpec.TheVariants.{Req, Conn}
use Rattle.zone_config.specs.Configuration.{conn_zone, in_32_bits, is_zone_called, req_zone, zone_at, zone_name, zone_number}
use Rattle.zone_config.specs.Conditions.{AreZones}
use Rattle.zone_config.proofs.Keeps.{Keeps, seen_as}
use Rattle.zone_config.proofs.Declaring.{Declares, ReqWords, conn_declares, req_declares}
use Rattle.zone_config.proofs.Bounded.{middle}
use Rattle.zone_config.proofs.Sound.{Sound, kept_as}

-- the number of a zone, and that it stands there
pub record ZoneAt (zones : List ZoneSpec) (z : ZoneSpec) : Type 0 where
  pub number : ℕ
  pub found : zone_number zones (zone_name z) ≡ Some number
  pub there : slice_get zones number ≡ Some z

-- a zone has its name, and none before it has
not_called : (zones : List ZoneSpec) (z : ZoneSpec) (k i : ℕ) → AllPairs (λ a b. zone_name a ≢ zone_name b) zones → k < i → i < length zones → get_or zones i z ≡ z →
    is_zone_called (zone_name z) (get_or zones k z) ≡ false
not_called zones z k i apart below within here =
    false_from_ne_true (is_same (zone_name (get_or zones k z)) (zone_name z))
    (λ e. apart k i z below within ((bytes_decides (zone_name (get_or zones k z)) (zone_name z)).0 e ∙ ap zone_name (sym here)))

position_is : (zones : List ZoneSpec) (z : ZoneSpec) (i : ℕ) → AllPairs (λ a b. zone_name a ≢ zone_name b) zones → i < length zones → get_or zones i z ≡ z →
    position_or_len (is_zone_called (zone_name z)) zones ≡ i
position_is zones z i apart within here =
    position_or_len_is (is_zone_called (zone_name z)) zones i z (omega arith)
    (λ k below. not_called zones z k i apart below within here)
    (λ _. (bytes_decides (zone_name (get_or zones i z)) (zone_name z)).1 (ap zone_name here))

position_found : (zones : List ZoneSpec) (test : ZoneSpec → Bool) (i : ℕ) → position_or_len test zones ≡ i → i < length zones → position test zones ≡ Some i
position_found zones test i is within =
    let below : nat_lt i (length zones) ≡ true = lt-ltb i (length zones) within in
    ap (λ n. cond (nat_lt n (length zones)) (Some n) None) is ∙ ap (λ b. cond b (Some i) None) below

small_count : (n : ℕ) → n < 16 → in_32_bits n ≡ n
small_count n h = omega arith

pub zone_found : (zones : List ZoneSpec) (z : ZoneSpec) → AreZones zones → Contains zones z → ZoneAt zones z
zone_found zones z are has =
    let i = has.0 in
    let below : i < 16 = (let few = are.count in let within = has.1 in omega arith) in
    record {
      number = i;
      found = ap (option_map in_32_bits) (position_found zones (is_zone_called (zone_name z)) i (position_is zones z i are.names has.1 has.2) has.1)
          ∙ ap (λ n. Some n) (small_count i below);
      there = slice_get-get_or zones i z has.1 ∙ ap (λ x. Some x) has.2;
    }

-- a zone of these places, one more place
listed_more : (here : Option ZoneSpec) (zones : List ZoneSpec) (z : ZoneSpec) → Contains zones z → Contains (cons_option here zones) z
listed_more None zones z has = has
listed_more (Some x) zones z has = Contains-append_right (x ∷ []) zones z has

listed_here : (here : Option ZoneSpec) (zones : List ZoneSpec) (z : ZoneSpec) → here ≡ Some z → Contains (cons_option here zones) z
listed_here None zones z e = absurd (cc)
listed_here (Some x) zones z e = let same : x ≡ z = cc in (0, omega arith, same)

-- the zone that a place of a walk declares is one of the zones
pub zone_listed : (places : List Place) (p : Place) (z : ZoneSpec) (i : ℕ) → i < length places → get_or places i p ≡ p → zone_at p ≡ Some z → Contains (filter_map zone_at places) z
zone_listed [] p z i within here is = absurd (omega arith)
zone_listed (x ∷ places) p z zero within here is = listed_here (zone_at x) (filter_map zone_at places) z (ap zone_at here ∙ is)
zone_listed (x ∷ places) p z (suc i) within here is = listed_more (zone_at x) (filter_map zone_at places) z (zone_listed places p z i (omega arith) here is)

-- a request zone of this name
pub record ReqNamed (zones : List ZoneSpec) (name : List ℕ) : Type 0 where
  pub spec : ReqData
  pub key : Expr
  pub listed : Contains zones (Req spec key)
  pub is : spec.name ≡ name

-- a connection zone of this name
pub record ConnNamed (zones : List ZoneSpec) (name : List ℕ) : Type 0 where
  pub spec : ConnData
  pub key : Expr
  pub listed : Contains zones (Conn spec key)
  pub is : spec.name ≡ name

-- one of the names in two lists
in_either : (name : List ℕ) (xs ys : List (List ℕ)) → list_any (is_same name) (xs ++ ys) ≡ true → (list_any (is_same name) xs ≡ true) ⊎ (list_any (is_same name) ys ≡ true)
in_either name [] ys e = inr e
in_either name (x ∷ xs) ys e =
    elim (or_cases (is_same name x) (list_any (is_same name) (xs ++ ys)) e) [
      | inl here ↦ inl (rw here refl)
      | inr later ↦ elim (in_either name xs ys later) [
        | inl front ↦ inl (or_right (is_same name x) (list_any (is_same name) xs) front)
        | inr back ↦ inr back
      ]
    ]

only_name : (name : List ℕ) (names : List (List ℕ)) (own : List ℕ) → names ≡ own ∷ [] → list_any (is_same name) names ≡ true → own ≡ name
only_name name names own only e =
    let u : (is_same name own || false) ≡ true = subst (λ ns. list_any (is_same name) ns ≡ true) only e in
    elim (or_cases (is_same name own) false u) [
      | inl same ↦ sym ((bytes_decides name own).0 same)
      | inr none ↦ absurd (cc)
    ]

req_declared : (text : ZoneNames) (places : List Place) (p : Place) (s : Sound text places p) (here : kind_at p ≡ ReqZone) →
    Declares (meanings ReqZone (arguments_of p.directive)) (req_zone (arguments_of p.directive))
req_declared text places p s here =
    let words = arguments_of p.directive in
    let k : Keeps (seen_as text s.earlier p ReqZone) = kept_as text places p ReqZone s here in
    let once : has_repeats (behind_first words) ≡ false =
    middle (is_again ReqZone p.directive p.before) (has_repeats (behind_first words)) (list_any (limits_again ReqZone p.before) (meanings ReqZone words)) k.once in
    let w : ReqWords words = req_declares words (has_block p.directive) k.formed k.known once k.rated in
    subst (λ ws. Declares (meanings ReqZone ws) (req_zone ws)) (sym w.are) w.declared.declares

req_named_here : (text : ZoneNames) (places : List Place) (p : Place) (k : Kind) (name : List ℕ) (zones : List ZoneSpec) → Sound text places p → kind_at p ≡ k →
    list_any (is_same name) (names_if_req k (meanings k (arguments_of p.directive))) ≡ true → ReqNamed (cons_option (zone_at p) zones) name
req_named_here text places p ReqZone name zones s is e =
    let words = arguments_of p.directive in
    let declares = req_declared text places p s is in
    let zone_is : zone_at p ≡ Some (req_zone words) = (rw (is, zone_at) refl) in
    record {
      spec = _;
      key = _;
      listed = listed_here (zone_at p) zones (req_zone words) zone_is;
      is = only_name name (names_if_req ReqZone (meanings ReqZone words)) (zone_name (req_zone words)) declares.only e;
    }
req_named_here text places p _ name zones s is e = absurd (cc)

req_named_more : (here : Option ZoneSpec) (zones : List ZoneSpec) (name : List ℕ) → ReqNamed zones name → ReqNamed (cons_option here zones) name
req_named_more here zones name r = record { spec = r.spec; key = r.key; listed = listed_more here zones (Req r.spec r.key) r.listed; is = r.is }

-- each name of a request zone of the text has its zone
req_named_from : (text : ZoneNames) (places ps : List Place) (name : List ℕ) → All (Sound text places) ps → list_any (is_same name) (req_names ps) ≡ true → ReqNamed (filter_map zone_at ps) name
req_named_from text places [] name sound e = absurd (cc)
req_named_from text places (p ∷ ps) name sound e =
    elim (in_either name (names_if_req (kind_at p) (arguments_at p)) (req_names ps) e) [
      | inl here ↦ req_named_here text places p (kind_at p) name (filter_map zone_at ps) (All-head (Sound text places) p ps sound) refl here
      | inr later ↦ req_named_more (zone_at p) (filter_map zone_at ps) name (req_named_from text places ps name (All-tail (Sound text places) p ps sound) later)
    ]

pub req_named : (text : ZoneNames) (places : List Place) (name : List ℕ) → All (Sound text places) places → list_any (is_same name) (req_names places) ≡ true → ReqNamed (filter_map zone_at places) name
req_named text places name sound e = req_named_from text places places name sound e

conn_named_here : (text : ZoneNames) (places : List Place) (p : Place) (k : Kind) (name : List ℕ) (zones : List ZoneSpec) → Sound text places p → kind_at p ≡ k →
    list_any (is_same name) (names_if_conn k (meanings k (arguments_of p.directive))) ≡ true → ConnNamed (cons_option (zone_at p) zones) name
conn_named_here text places p ConnZone name zones s is e =
    let words = arguments_of p.directive in
    let k : Keeps (seen_as text s.earlier p ConnZone) = kept_as text places p ConnZone s is in
    let declares : Declares (meanings ConnZone words) (conn_zone words) = conn_declares words (has_block p.directive) k.formed k.known in
    let zone_is : zone_at p ≡ Some (conn_zone words) = (rw (is, zone_at) refl) in
    record {
      spec = _;
      key = _;
      listed = listed_here (zone_at p) zones (conn_zone words) zone_is;
      is = only_name name (names_if_conn ConnZone (meanings ConnZone words)) (zone_name (conn_zone words)) declares.only e;
    }
conn_named_here text places p _ name zones s is e = absurd (cc)

conn_named_more : (here : Option ZoneSpec) (zones : List ZoneSpec) (name : List ℕ) → ConnNamed zones name → ConnNamed (cons_option here zones) name
conn_named_more here zones name r = record { spec = r.spec; key = r.key; listed = listed_more here zones (Conn r.spec r.key) r.listed; is = r.is }

-- each name of a connection zone of the text has its zone
conn_named_from : (text : ZoneNames) (places ps : List Place) (name : List ℕ) → All (Sound text places) ps → list_any (is_same name) (conn_names ps) ≡ true → ConnNamed (filter_map zone_at ps) name
conn_named_from text places [] name sound e = absurd (cc)
conn_named_from text places (p ∷ ps) name sound e =
    elim (in_either name (names_if_conn (kind_at p) (arguments_at p)) (conn_names ps) e) [
      | inl here ↦ conn_named_here text places p (kind_at p) name (filter_map zone_at ps) (All-head (Sound text places) p ps sound) refl here
      | inr later ↦ conn_named_more (zone_at p) (filter_map zone_at ps) name (conn_named_from text places ps name (All-tail (Sound text places) p ps sound) later)
    ]

pub conn_named : (text : ZoneNames) (places : List Place) (name : List ℕ) → All (Sound text places) places → list_any (is_same name) (conn_names places) ≡ true → ConnNamed (filter_map zone_at places) name
conn_named text places name sound e = conn_named_from text places places name sound e
