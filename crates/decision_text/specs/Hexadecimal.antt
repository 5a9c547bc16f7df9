-- How keys and words are printed.
use Rattle.std.specs.Prelude.{ℕ, List}
use Rattle.std.specs.Int.{w64, to_be_bytes}
use Rattle.hex.specs.Hex.{encode_lower}

-- two lower-case hexadecimal digits for each byte
abbrev pub hex_bytes : List ℕ → List ℕ
hex_bytes bytes = encode_lower bytes

-- a word in 16 lower-case hexadecimal digits
abbrev pub hex_word : ℕ → List ℕ
hex_word value = encode_lower (to_be_bytes w64 value)
