-- What words are worth that are in their ranges.
use Rattle.std.proofs.Common.{◌≡◌, ℕ, ◌≤◌, Bool, true, false, cond, List, [], ◌∷◌, Option, None, Some, unwrap_or, is_some, map, refl, sym, ◌∙◌, ap, subst, arith, leb-true}
use Rattle.std.specs.Prelude.{◌&&◌, nat_le}
use Rattle.std.specs.Option.{option_map, option_and_then}
use Rattle.std.specs.List.{list_any}
use Rattle.std.specs.Str.Parse.{digits_value}
use Rattle.std.proofs.lemmas.Bool.{le-leb, not-false}
use Rattle.config_rules.specs.declared.argument.Argument.{Argument}
use Rattle.config_rules.specs.declared.argument.Argument.TheVariants.{Number}
use Rattle.config_rules.specs.Words.{parameter, value_of}
use Rattle.config_rules.specs.Numbers.{at_least, is_digits, is_number_in, number_in, scaled_number, time_of, time_parts, up_to}
use Rattle.config_rules.specs.Rules.{is_out_of_range}
use Rattle.config_rules.proofs.Fits.{and_true, or_false}
use Rattle.zone_config.specs.Configuration.{number_or, value_of_number}
use Rattle.zone_config.specs.Conditions.{IsWithin}
use Rattle.zone_config.proofs.Declaring.{number_within, parameter_first, parameter_next, passed_test}

-- the value of a parameter, at the first word that has it
pub said_here : (prefix w v u : List ℕ) (ws : List (List ℕ)) → value_of prefix w ≡ Some u → parameter prefix (w ∷ ws) ≡ Some v → u ≡ v
said_here prefix w v u ws is e =
    let both : Some u ≡ Some v = sym (parameter_first prefix w u ws is) ∙ e in
    cc

pub said_later : (prefix w v : List ℕ) (ws : List (List ℕ)) (said : Option (List ℕ)) → value_of prefix w ≡ None → parameter prefix ws ≡ said → parameter prefix (w ∷ ws) ≡ Some v → parameter prefix ws ≡ Some v
said_later prefix w v ws None is rest e = absurd (let u = rw (is, rest) at e in cc)
said_later prefix w v ws (Some u) is rest e = rest ∙ sym (parameter_next prefix w u ws is rest) ∙ e

-- The argument with a parameter's value fails a test that none of the arguments passes.
tested_here : (prefix : List ℕ) (meaning : List ℕ → Argument) (make : List ℕ → Argument) (test : Argument → Bool) → ((w v : List ℕ) → value_of prefix w ≡ Some v → meaning w ≡ make v) →
    (w v : List ℕ) (ws : List (List ℕ)) (said : Option (List ℕ)) → value_of prefix w ≡ said → parameter prefix (w ∷ ws) ≡ Some v → test (meaning w) ≡ false →
    (parameter prefix ws ≡ Some v → test (make v) ≡ false) → test (make v) ≡ false
tested_here prefix meaning make test means w v ws None is e here later = later (said_later prefix w v ws (parameter prefix ws) is refl e)
tested_here prefix meaning make test means w v ws (Some u) is e here later =
    let same : u ≡ v = said_here prefix w v u ws is e in
    subst (λ a. test a ≡ false) (means w v (is ∙ ap (λ x. Some x) same)) here

pub parameter_tested : (prefix : List ℕ) (meaning : List ℕ → Argument) (make : List ℕ → Argument) (test : Argument → Bool) → ((w v : List ℕ) → value_of prefix w ≡ Some v → meaning w ≡ make v) →
    (words : List (List ℕ)) (v : List ℕ) → parameter prefix words ≡ Some v → list_any test (map meaning words) ≡ false → test (make v) ≡ false
parameter_tested prefix meaning make test means [] v e none = absurd (cc)
parameter_tested prefix meaning make test means (w ∷ ws) v e none =
    let both = or_false (test (meaning w)) (list_any test (map meaning ws)) none in
    tested_here prefix meaning make test means w v ws (value_of prefix w) refl e both.0 (λ later. parameter_tested prefix meaning make test means ws v later both.1)

-- the number of a word that is one in a range
worth_at : (low most d : ℕ) (b : Bool) (n : ℕ) → option_and_then (at_least low) (cond b (Some d) None) ≡ Some n → (b ≡ true) × (d ≡ n)
worth_at low most d false n e = absurd (cc)
worth_at low most d true n e = (refl, (passed_test (nat_le low d) d n e).1)

number_is : (low most : ℕ) (w : List ℕ) (n : ℕ) → number_in low most w ≡ Some n → most ≤ 1073741823 → value_of_number w ≡ n
number_is low most w n e h =
    let d = digits_value 10 w in
    let q = worth_at low most d (is_digits w && nat_le d most) n e in
    let parts = and_true (is_digits w) (nat_le d most) q.0 in
    let fits : d ≤ most = leb-true d most parts.1 in
    let within : nat_le d 1073741823 ≡ true = le-leb d 1073741823 (omega arith) in
    rw (parts.0, within) q.1

number_at : (low most : ℕ) (w : List ℕ) (n : Option ℕ) → number_in low most w ≡ n → is_some n ≡ true → most ≤ 1073741823 → IsWithin low most (value_of_number w)
number_at low most w None is e h = absurd (cc)
number_at low most w (Some n) is e h = subst (IsWithin low most) (sym (number_is low most w n is h)) (number_within low most w n is)

pub number_ranged : (low most : ℕ) (w : List ℕ) → is_out_of_range (Number w low most) ≡ false → most ≤ 1073741823 → IsWithin low most (value_of_number w)
number_ranged low most w e h = number_at low most w (number_in low most w) refl (not-false (is_number_in low most w) e) h

-- the number behind a prefix, or its default
value_or : (low most default : ℕ) (said : Option (List ℕ)) → ((v : List ℕ) → said ≡ Some v → IsWithin low most (value_of_number v)) → IsWithin low most default →
    IsWithin low most (unwrap_or (option_map value_of_number said) default)
value_or low most default None each d = d
value_or low most default (Some v) each d = each v refl

pub number_or_within : (prefix : List ℕ) (low most default : ℕ) (meaning : List ℕ → Argument) → ((w v : List ℕ) → value_of prefix w ≡ Some v → meaning w ≡ Number v low most) →
    (words : List (List ℕ)) → list_any is_out_of_range (map meaning words) ≡ false → most ≤ 1073741823 → IsWithin low most default → IsWithin low most (number_or prefix default words)
number_or_within prefix low most default meaning means words ranged h d =
    value_or low most default (parameter prefix words)
    (λ v said. number_ranged low most v (parameter_tested prefix meaning (λ x. Number x low most) is_out_of_range means words v said ranged) h) d

-- a time is at most a year
up_to_here : (most default n : ℕ) (b : Bool) → nat_le n most ≡ b → default ≤ most → unwrap_or (cond b (Some n) None) default ≤ most
up_to_here most default n true is h = leb-true n most is
up_to_here most default n false is h = h

up_to_most : (most default : ℕ) (n : Option ℕ) → default ≤ most → unwrap_or (option_and_then (up_to most) n) default ≤ most
up_to_most most default None h = h
up_to_most most default (Some n) h = up_to_here most default n (nat_le n most) refl h

seconds_or : (default : ℕ) (said : Option (List ℕ)) → default ≤ 31536000 → unwrap_or (option_and_then time_of said) default ≤ 31536000
seconds_or default None h = h
seconds_or default (Some w) h = up_to_most 31536000 default (scaled_number (time_parts w)) h

pub time_within : (prefix : List ℕ) (default : ℕ) (words : List (List ℕ)) → default ≤ 31536000 → unwrap_or (option_and_then time_of (parameter prefix words)) default ≤ 31536000
time_within prefix default words h = seconds_or default (parameter prefix words) h
