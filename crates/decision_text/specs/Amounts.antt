-- How amounts are printed.
use Rattle.std.specs.Prelude.{ℕ, ◌+◌, ◌/◌, ◌%◌, List, [], ◌∷◌, ◌++◌, decimal}

-- thousandths: the whole part, a dot and three digits
abbrev pub thousandths : ℕ → List ℕ
thousandths n = decimal (n / 1000) ++ 46 ∷ (48 + n / 100 % 10) ∷ (48 + n / 10 % 10) ∷ (48 + n % 10) ∷ []
