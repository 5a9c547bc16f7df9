-- What is known of a directive that breaks no rule.
use Rattle.std.proofs.Common.{◌≡◌, ℕ, zero, suc, ◌+◌, ◌≤◌, Bool, true, false, cond, List, [], ◌∷◌, ◌++◌, Option, None, Some, unwrap_or, is_some, refl, ◌∙◌, ap, subst, arith}
use Rattle.std.specs.Prelude.{◌&&◌, ◌||◌}
use Rattle.std.specs.Option.{option_map_or, option_and_then}
use Rattle.std.specs.List.{list_any, find, slice_get}
use Rattle.std.proofs.lemmas.Bool.Decides.{nat_tests}
use Rattle.config_rules.specs.declared.argument.Argument.{Argument}
use Rattle.config_rules.specs.Numbers.{size_of, up_to}
use Rattle.config_rules.specs.Arguments.{declared_size}
use Rattle.config_rules.specs.Rules.{Rule, Seen, rules, first_broken, first_said, bytes_or_none, has_size, is_large, of_arguments}

-- a rule that isn't broken, and those behind it
passed : (b : Bool) (n : ℕ) (rest : Option ℕ) → cond b (Some n) rest ≡ None → (b ≡ false) × (rest ≡ None)
passed true n rest e = absurd (cc)
passed false n rest e = (refl, e)

pub or_false : (a b : Bool) → (a || b) ≡ false → (a ≡ false) × (b ≡ false)
or_false true b e = absurd (cc)
or_false false b e = (refl, e)

pub and_true : (a b : Bool) → (a && b) ≡ true → (a ≡ true) × (b ≡ true)
and_true true b e = (refl, e)
and_true false b e = absurd (cc)

-- where none of the rules is broken, the one of this place isn't
pub unbroken : (rs : List Rule) (place : ℕ) (seen : Seen) (r : Rule) → first_broken rs seen ≡ None → slice_get rs place ≡ Some r → r.is_broken seen ≡ false
unbroken [] place seen r e is = absurd (cc)
unbroken (x ∷ rs) zero seen r e is =
    let same : x ≡ r = cc in
    subst (λ y. y.is_broken seen ≡ false) same (passed (x.is_broken seen) x.number (first_broken rs seen) e).0
unbroken (x ∷ rs) (suc place) seen r e is = unbroken rs place seen r (passed (x.is_broken seen) x.number (first_broken rs seen) e).1 is

-- no size of it is too large
sizes_fit : (seen : Seen) → first_broken rules seen ≡ None → list_any (has_size (is_large seen.earlier.zone_bytes)) seen.arguments ≡ false
sizes_fit seen e = unbroken rules 6 seen (of_arguments 8 (λ earlier a. has_size (is_large earlier.zone_bytes) a)) e refl

-- a size that isn't too large fits
size_fits : (earlier : ℕ) (size : Option ℕ) → earlier ≤ 268435456 → option_map_or (is_large earlier) size false ≡ false →
    earlier + unwrap_or (option_and_then (up_to 67108864) size) 0 ≤ 268435456
size_fits earlier None h e = omega arith
size_fits earlier (Some n) h e = grind (arith, nat_tests)

-- the first size that is said
pub said_first : (sort : Argument → Option (List ℕ)) (a : Argument) (args : List Argument) (said : Option (List ℕ)) → sort a ≡ said →
    first_said sort (a ∷ args) ≡ elim said [ Some v ↦ Some v | None ↦ first_said sort args ]
said_first sort a args None e = rw e refl
said_first sort a args (Some v) e = ap (λ b. option_and_then sort (cond b (Some a) (find (λ x. is_some (sort x)) args))) (ap is_some e) ∙ e

bytes_fit_at : (earlier : ℕ) (a : Argument) (args : List Argument) (said : Option (List ℕ)) → declared_size a ≡ said → earlier ≤ 268435456 →
    has_size (is_large earlier) a ≡ false → earlier + bytes_or_none (first_said declared_size args) ≤ 268435456 →
    earlier + bytes_or_none (first_said declared_size (a ∷ args)) ≤ 268435456
bytes_fit_at earlier a args None is h e rest = rw (said_first declared_size a args None is) rest
bytes_fit_at earlier a args (Some size) is h e rest =
    rw (said_first declared_size a args (Some size) is)
    (size_fits earlier (size_of size) h (rw is at e))

bytes_fit : (earlier : ℕ) (args : List Argument) → earlier ≤ 268435456 → list_any (has_size (is_large earlier)) args ≡ false →
    earlier + bytes_or_none (first_said declared_size args) ≤ 268435456
bytes_fit earlier [] h e = omega arith
bytes_fit earlier (a ∷ args) h e =
    bytes_fit_at earlier a args (declared_size a) refl h (or_false (has_size (is_large earlier) a) (list_any (has_size (is_large earlier)) args) e).0
    (bytes_fit earlier args h (or_false (has_size (is_large earlier) a) (list_any (has_size (is_large earlier)) args) e).1)

-- the zone of a directive that breaks no rule fits behind those before it
pub zone_fits : (seen : Seen) → seen.earlier.zone_bytes ≤ 268435456 → first_broken rules seen ≡ None →
    seen.earlier.zone_bytes + bytes_or_none (first_said declared_size seen.arguments) ≤ 268435456
zone_fits seen h e = bytes_fit seen.earlier.zone_bytes seen.arguments h (sizes_fit seen e)

-- the first of two rules
or_rule : Option ℕ → Option ℕ → Option ℕ
or_rule None later = later
or_rule (Some rule) later = Some rule

rule_ahead : (b : Bool) (n : ℕ) (rest later : Option ℕ) → cond b (Some n) (or_rule rest later) ≡ or_rule (cond b (Some n) rest) later
unfolding or_rule
rule_ahead true n rest later = refl
rule_ahead false n rest later = refl

first_broken-append : (front back : List Rule) (seen : Seen) → first_broken (front ++ back) seen ≡ or_rule (first_broken front seen) (first_broken back seen)
unfolding or_rule
first_broken-append [] back seen = refl
first_broken-append (r ∷ front) back seen =
    ap (λ rest. cond (r.is_broken seen) (Some r.number) rest) (first_broken-append front back seen)
    ∙ rule_ahead (r.is_broken seen) r.number (first_broken front seen) (first_broken back seen)

pub front_broken : (front back : List Rule) (seen : Seen) (rule : ℕ) → first_broken front seen ≡ Some rule → first_broken (front ++ back) seen ≡ Some rule
unfolding or_rule
front_broken front back seen rule e = first_broken-append front back seen ∙ ap (λ r. or_rule r (first_broken back seen)) e

pub front_kept : (front back : List Rule) (seen : Seen) → first_broken front seen ≡ None → first_broken (front ++ back) seen ≡ first_broken back seen
unfolding or_rule
front_kept front back seen e = first_broken-append front back seen ∙ ap (λ r. or_rule r (first_broken back seen)) e
