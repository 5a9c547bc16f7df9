-- CRC-32 as the division of polynomials over two elements, with the bits in reflected order.
use Rattle.std.specs.Prelude.{ℕ, zero, suc, ◌+◌, ◌/◌, ◌%◌, ◌==◌, if◌then◌else◌, ◌&&◌, Bool, true, List, [], ◌∷◌, bit_xor}

-- the reflected polynomial of CRC-32 (ITU-T V.42)
abbrev pub polynomial : ℕ
polynomial = 0xEDB88320

-- one step of the division: the lowest bit leaves, and where it was 1 the polynomial is taken off
abbrev pub divide_bit : ℕ → ℕ
divide_bit r = bit_xor (r / 2) (if r % 2 == 1 then polynomial else 0)

-- that many steps
unfoldable pub divide_bits : ℕ → ℕ → ℕ
divide_bits zero r = r
divide_bits (suc n) r = divide_bits n (divide_bit r)

-- the remainder after these bytes, from the remainder before them
abbrev pub remainder : ℕ → List ℕ → ℕ
remainder r [] = r
remainder r (b ∷ bs) = remainder (divide_bits 8 (bit_xor r b)) bs

-- a table has what eight steps make of each number from `k` on
abbrev pub tabulates : List ℕ → ℕ → Bool
tabulates [] k = true
tabulates (x ∷ xs) k = x == divide_bits 8 k && tabulates xs (k + 1)

-- the CRC-32 of a list of bytes: all ones before and an exclusive or with all ones after
abbrev pub crc32_of : List ℕ → ℕ
crc32_of bytes = bit_xor (remainder 0xFFFFFFFF bytes) 0xFFFFFFFF
