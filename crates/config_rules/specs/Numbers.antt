-- Numbers, sizes, rates and times as directives spell them. Leading zeros are accepted.
use Rattle.std.specs.Prelude.{ℕ, ◌-◌, ◌*◌, ◌/◌, Bool, false, ◌==◌, ◌&&◌, ◌||◌, nat_eq, nat_le, List, [], ◌∷◌, Option, None, Some, length, take, slice_index, codes, is_some, if◌then◌else◌}
use Rattle.std.specs.Option.{option_map, option_and_then}
use Rattle.std.specs.List.{list_all, ends_with}
use Rattle.std.specs.Char.{is_ascii_digit}
use Rattle.std.specs.Str.Parse.{digits_value}

-- one decimal digit or more
abbrev pub is_digits : List ℕ → Bool
is_digits [] = false
is_digits (c ∷ cs) = list_all is_ascii_digit (c ∷ cs)

-- the number that digits spell, of those up to `most`
abbrev pub digits_of : ℕ → List ℕ → Option ℕ
digits_of most w = if is_digits w && nat_le (digits_value 10 w) most then Some (digits_value 10 w) else None

-- a number, if it is at least `low`
abbrev pub at_least : ℕ → ℕ → Option ℕ
at_least low n = if nat_le low n then Some n else None

-- the number that digits spell, of those from `low` to `most`
abbrev pub number_in : ℕ → ℕ → List ℕ → Option ℕ
number_in low most w = option_and_then (at_least low) (digits_of most w)

-- whether digits spell a number from `low` to `most`
abbrev pub is_number_in : ℕ → ℕ → List ℕ → Bool
is_number_in low most w = is_some (number_in low most w)

-- digits, and what one of what they count is worth
pub record Scaled : Type 0 where
  pub digits : List ℕ
  pub unit : ℕ

-- the last byte of a word, 0 where there is none
abbrev pub last_byte : List ℕ → ℕ
last_byte w = slice_index w (length w - 1)

-- a word without its last byte, which has this worth
abbrev pub counting : ℕ → List ℕ → Scaled
counting unit w = record { digits = take (length w - 1) w; unit = unit }

-- a size in bytes, in units of 1024 bytes behind a `k` or `K`, of 1024 times 1024 behind an `m` or `M`
abbrev pub size_parts : List ℕ → Scaled
size_parts w =
    if last_byte w == 107 || last_byte w == 75 then counting 1024 w
    else if last_byte w == 109 || last_byte w == 77 then counting 1048576 w
    else record { digits = w; unit = 1 }

-- what scaled digits are worth
abbrev pub worth : Scaled → ℕ
worth s = digits_value 10 s.digits * s.unit

-- the number that scaled digits say, if they are digits
abbrev pub scaled_number : Scaled → Option ℕ
scaled_number s = if is_digits s.digits then Some (worth s) else None

-- the bytes that a size says, if it is one
abbrev pub size_of : List ℕ → Option ℕ
size_of w = scaled_number (size_parts w)

-- a number, if it is at most `most`
abbrev pub up_to : ℕ → ℕ → Option ℕ
up_to most n = if nat_le n most then Some n else None

-- the bytes that a size says, of those up to the most of a zone
abbrev pub zone_size : List ℕ → Option ℕ
zone_size w = option_and_then (up_to 67108864) (size_of w)

-- a rate in thousandths of a request a second: `Nr/s` or `Nr/m`, with N from 1 to 1,000,000
abbrev pub rate_of : List ℕ → Option ℕ
rate_of w =
    if ends_with nat_eq w (codes "r/s") then option_map (λ n. n * 1000) (number_in 1 1000000 (take (length w - 3) w))
    else if ends_with nat_eq w (codes "r/m") then option_map (λ n. n * 1000 / 60) (number_in 1 1000000 (take (length w - 3) w))
    else None

-- a time in seconds, in minutes behind an `m`, in hours behind an `h`, in days behind a `d`
abbrev pub time_parts : List ℕ → Scaled
time_parts w =
    if last_byte w == 115 then counting 1 w
    else if last_byte w == 109 then counting 60 w
    else if last_byte w == 104 then counting 3600 w
    else if last_byte w == 100 then counting 86400 w
    else record { digits = w; unit = 1 }

-- the seconds that a time says, of those up to a year
abbrev pub time_of : List ℕ → Option ℕ
time_of w = option_and_then (up_to 31536000) (scaled_number (time_parts w))
