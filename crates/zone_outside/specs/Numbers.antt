-- Numbers as words of a text.
use Rattle.std.specs.Prelude.{ℕ, Bool, true, false, not, ◌&&◌, ◌||◌, ◌==◌, nat_le, if◌then◌else◌, List, [], ◌∷◌, Option, Some, None}
use Rattle.std.specs.List.{list_all}
use Rattle.std.specs.Char.{is_ascii_digit}
use Rattle.std.specs.Str.Parse.{digits_value}

-- whether nothing is in it
abbrev pub is_empty : List ℕ → Bool
is_empty [] = true
is_empty (c ∷ cs) = false

-- decimal digits without a leading zero, but `0` itself
abbrev pub is_number : List ℕ → Bool
is_number [] = false
is_number (c ∷ cs) = list_all is_ascii_digit (c ∷ cs) && (not (c == 48) || is_empty cs)

-- the number that a word spells, of those up to `most`
abbrev pub number_of : ℕ → List ℕ → Option ℕ
number_of most word = if is_number word && nat_le (digits_value 10 word) most then Some (digits_value 10 word) else None
