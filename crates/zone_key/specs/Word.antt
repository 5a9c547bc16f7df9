-- The words of a list of bytes.
use Rattle.std.specs.Prelude.{ℕ, ◌+◌, ◌*◌, List, [], ◌∷◌, take, drop}

-- the number whose digits to the base 256 are these bytes, the lowest first
abbrev pub little_endian : List ℕ → ℕ
little_endian [] = 0
little_endian (b ∷ bs) = b + 256 * little_endian bs

-- word `i`: the bytes 8i to 8i + 7, the lowest byte first, and 0 for bytes past the end
abbrev pub key_word : List ℕ → ℕ → ℕ
key_word bytes i = little_endian (take 8 (drop (8 * i) bytes))
