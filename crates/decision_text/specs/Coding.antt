-- How names are printed: coded, so that each is one word.
use Rattle.std.specs.Prelude.{ℕ, ◌+◌, ◌/◌, ◌%◌, not, ◌&&◌, ◌==◌, nat_lt, if◌then◌else◌, List, [], ◌∷◌}
use Rattle.std.specs.List.{flat_map}
use Rattle.zone_outside.specs.Coded.{is_plain}

-- an upper-case hexadecimal digit
abbrev pub hex_digit : ℕ → ℕ
hex_digit n = if nat_lt n 10 then 48 + n else 55 + n

-- a byte from 0x21 to 0x7e stands for itself; `%` and every other one is `%` and two digits
abbrev pub coded_byte : ℕ → List ℕ
coded_byte b = if is_plain b && not (b == 37) then b ∷ [] else 37 ∷ hex_digit (b / 16) ∷ hex_digit (b % 16) ∷ []

-- a name as it is printed
abbrev pub coded : List ℕ → List ℕ
coded name = flat_map coded_byte name
