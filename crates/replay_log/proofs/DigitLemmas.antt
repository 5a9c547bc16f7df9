-- Numbers at the front of a text, digit by digit.
use Rattle.std.proofs.Common.{ℕ, ◌≡◌, ◌≤◌, ◌<◌, ◌+◌, ◌*◌, ◌-◌, Bool, true, false, cond, ◌&&◌, eqb, leb, List, [], ◌∷◌, ◌++◌, suc, length, take, drop, get_or, Some, None, arith, ap, sym, ◌∙◌, refl}
use Rattle.std.specs.List.{All, list_all}
use Rattle.std.specs.Char.{is_ascii_digit, digit_value}
use Rattle.std.specs.Str.Parse.{digits_value}
use Rattle.std.proofs.lemmas.Bool.{le-leb}
use Rattle.std.proofs.lemmas.Bool.Decides.{nat_tests}
use Rattle.std.proofs.lemmas.Int.Digits.{digits_value_more}
use Rattle.std.proofs.Math.Seq.{drop-cons}
use Rattle.std.proofs.lemmas.List.{take_all, take-append-drop}
use Rattle.std.proofs.lemmas.List.Folds.{list_all_more}
use Rattle.std.proofs.lemmas.List.Splits.{slice_split_none, slice_split_at}
use Rattle.zone_outside.specs.Numbers.{is_number, number_of}
use Rattle.replay_log.specs.Lines.{parts}
use Rattle.replay_log.proofs.PartLemmas.{none_of}

-- ---- one digit more

worth : (c : ℕ) → is_ascii_digit c ≡ true → digit_value c ≡ c - 48
worth c is = grind (arith, nat_tests)

pub digits_more : (text : List ℕ) (k : ℕ) → list_all is_ascii_digit (take k text) ≡ true → k < length text → is_ascii_digit (get_or text k 0) ≡ true → list_all is_ascii_digit (take (k + 1) text) ≡ true
digits_more text k before below here = list_all_more is_ascii_digit text k 0 below ∙ ap (λ b. b && is_ascii_digit (get_or text k 0)) before ∙ here

pub value_more : (text : List ℕ) (k : ℕ) → k < length text → is_ascii_digit (get_or text k 0) ≡ true → digits_value 10 (take (k + 1) text) ≡ digits_value 10 (take k text) * 10 + (get_or text k 0 - 48)
value_more text k below here = digits_value_more 10 text k below ∙ ap (λ d. digits_value 10 (take k text) * 10 + d) (worth (get_or text k 0) here)

-- ---- digits before a separator

unlike : (x c : ℕ) (same : Bool) → eqb x c ≡ same → is_ascii_digit x ≡ true → is_ascii_digit c ≡ false → same ≡ false
unlike x c true is digit other = absurd (grind (arith, nat_tests))
unlike x c false is digit other = refl

-- digits are no separators
no_digits : (c : ℕ) (word : List ℕ) → is_ascii_digit c ≡ false → list_all is_ascii_digit word ≡ true → All (λ x. eqb x c ≡ false) word
no_digits c word other digits = none_of is_ascii_digit c (λ x digit. unlike x c (eqb x c) refl digit other) word digits

-- digits up to the end of a text are one part
pub digits_to_end : (c : ℕ) (text : List ℕ) (k : ℕ) → is_ascii_digit c ≡ false → list_all is_ascii_digit (take k text) ≡ true → length text ≤ k → parts c text ≡ take k text ∷ []
digits_to_end c text k other digits whole =
    let same : take k text ≡ text = take_all k text whole in
    ap (parts c) (sym same) ∙ slice_split_none (λ x. eqb x c) (take k text) (no_digits c (take k text) other digits)

-- digits before a separator are the first part
pub digits_before : (c : ℕ) (text : List ℕ) (k : ℕ) → is_ascii_digit c ≡ false → list_all is_ascii_digit (take k text) ≡ true → k < length text → get_or text k 0 ≡ c → parts c text ≡ take k text ∷ parts c (drop (k + 1) text)
digits_before c text k other digits below here =
    let ends : eqb (get_or text k 0) c ≡ true = grind (arith, nat_tests) in
    let next : suc k ≡ k + 1 = omega arith in
    ap (parts c) (sym (take-append-drop k text) ∙ ap (λ rest. take k text ++ rest) (drop-cons text k 0 below))
    ∙ slice_split_at (λ x. eqb x c) (take k text) (get_or text k 0) (drop (suc k) text) (no_digits c (take k text) other digits) ends
    ∙ ap (λ n. take k text ∷ parts c (drop n text)) next

-- a number that isn't above `most`
pub number_within : (most : ℕ) (word : List ℕ) → is_number word ≡ true → digits_value 10 word ≤ most → number_of most word ≡ Some (digits_value 10 word)
number_within most word spelled within =
    ap (λ b. cond (b && leb (digits_value 10 word) most) (Some (digits_value 10 word)) None) spelled
    ∙ ap (λ b. cond b (Some (digits_value 10 word)) None) (le-leb (digits_value 10 word) most within)
