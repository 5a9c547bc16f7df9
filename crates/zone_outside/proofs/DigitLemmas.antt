-- Texts of decimal digits, read from the left.
use Rattle.std.proofs.Common.{ℕ, ◌≡◌, ◌≤◌, ◌<◌, ◌+◌, ◌-◌, ◌*◌, true, cond, List, length, get_or, take, arith, rules, leb, Option, Some, None, ap, ◌∙◌}
use Rattle.std.specs.List.{list_all}
use Rattle.std.specs.Char.{is_ascii_digit, digit_value}
use Rattle.std.specs.Str.Parse.{digits_value}
use Rattle.std.specs.Int.{IsInRange}
use Rattle.std.proofs.lemmas.Str.Parse.{IsDigitsTest, numerals_by_value, digit_at, digits_value-take-le}
use Rattle.std.proofs.lemmas.Int.Digits.{digits_value_more}
use Rattle.std.proofs.lemmas.Bool.Decides.{nat_tests}

tells : IsDigitsTest (λ ds. list_all is_ascii_digit ds ≡ true)
tells = search rules

-- each digit of such a text is one of '0' to '9'
pub digit_in_range : (ds : List ℕ) (i : ℕ) → list_all is_ascii_digit ds ≡ true → i < length ds → IsInRange 48 57 (get_or ds i 0)
digit_in_range ds i all below = digit_at ds i ((numerals_by_value (λ ds. list_all is_ascii_digit ds ≡ true) tells).to ds all) below

worth : (c : ℕ) → IsInRange 48 57 c → digit_value c ≡ c - 48
worth c h = grind (arith, nat_tests)

-- one digit more
pub value_more : (ds : List ℕ) (i : ℕ) → list_all is_ascii_digit ds ≡ true → i < length ds → digits_value 10 (take (i + 1) ds) ≡ digits_value 10 (take i ds) * 10 + (get_or ds i 0 - 48)
value_more ds i all below = digits_value_more 10 ds i below ∙ ap (λ d. digits_value 10 (take i ds) * 10 + d) (worth (get_or ds i 0) (digit_in_range ds i all below))

-- digits that are worth too much so far are worth too much
pub too_much : (ds : List ℕ) (i most : ℕ) → list_all is_ascii_digit ds ≡ true → i < length ds → most < digits_value 10 (take i ds) * 10 + (get_or ds i 0 - 48) → let none : Option ℕ = None in none ≡ cond (leb (digits_value 10 ds) most) (Some (digits_value 10 ds)) None
too_much ds i most all below above =
    let more : digits_value 10 (take (i + 1) ds) ≤ digits_value 10 ds = digits_value-take-le 10 ds (i + 1) (omega arith) in
    let same = value_more ds i all below in
    let big : most < digits_value 10 ds = omega arith in
    grind (arith, nat_tests)
