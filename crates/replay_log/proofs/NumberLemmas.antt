-- Numbers of words.
use Rattle.std.proofs.Common.{ℕ, ◌≡◌, ◌≤◌, Bool, true, false, cond, ◌&&◌, leb, List, Some, None, Option, sym, subst}
use Rattle.std.proofs.lemmas.Bool.{leb-true}
use Rattle.std.proofs.lemmas.Option.{same_Some}
use Rattle.std.specs.Str.Parse.{digits_value}
use Rattle.zone_outside.specs.Numbers.{is_number, number_of}

tested : (spelled within : Bool) (value n most : ℕ) → (within ≡ true → value ≤ most) → Some n ≡ cond (spelled && within) (Some value) None → n ≤ most
tested true true value n most bound is = let P : ℕ → Type 0 = λ m. m ≤ most in subst P (sym (same_Some n value is)) (bound (cc))
tested true false value n most bound is = absurd (cc)
tested false within value n most bound is = absurd (cc)

-- a number is at most the greatest that is read
pub number-le : (most : ℕ) (word : List ℕ) (n : ℕ) → Some n ≡ number_of most word → n ≤ most
number-le most word n is = tested (is_number word) (leb (digits_value 10 word) most) (digits_value 10 word) n most (leb-true (digits_value 10 word) most) is
