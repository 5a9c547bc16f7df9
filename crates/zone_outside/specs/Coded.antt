-- Coded text: how bytes are written where a word may hold no white space.
use Rattle.std.specs.Prelude.{ℕ, ◌+◌, ◌*◌, Bool, ◌&&◌, ◌==◌, nat_lt, nat_le, if◌then◌else◌, List, [], ◌∷◌, ◌++◌, Option, Some, None}
use Rattle.std.specs.Option.{option_map}
use Rattle.std.specs.Char.{digit_value}

-- a byte that stands for itself, where it isn't the `%` of an escape
abbrev pub is_plain : ℕ → Bool
is_plain c = nat_le 0x21 c && nat_le c 0x7e

-- whether both are hexadecimal digits, of either case
abbrev pub are_hex : ℕ → ℕ → Bool
are_hex high low = nat_lt (digit_value high) 16 && nat_lt (digit_value low) 16

-- these bytes before what a text spells, if it spells any
abbrev pub after : List ℕ → Option (List ℕ) → Option (List ℕ)
after front spelled = option_map (λ bytes. front ++ bytes) spelled

-- the bytes that coded text spells: a plain byte itself, `%` and two hexadecimal digits one byte
abbrev pub decoded : List ℕ → Option (List ℕ)
decoded [] = Some []
decoded (c ∷ []) = if c == 37 then None else if is_plain c then after (c ∷ []) (Some []) else None
decoded (c ∷ d ∷ []) = if c == 37 then None else if is_plain c then after (c ∷ []) (decoded (d ∷ [])) else None
decoded (c ∷ d ∷ e ∷ rest) =
    if c == 37 then (if are_hex d e then after ((digit_value d * 16 + digit_value e) ∷ []) (decoded rest) else None)
    else if is_plain c then after (c ∷ []) (decoded (d ∷ e ∷ rest)) else None
