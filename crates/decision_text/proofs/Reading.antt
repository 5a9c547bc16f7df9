-- Texts read back word by word.
use Rattle.std.proofs.Common.{ℕ, zero, suc, ◌≡◌, ◌+◌, ◌%◌, ◌/◌, ◌^◌, ◌<◌, ◌≤◌, true, false, List, [], ◌∷◌, ◌++◌, sym, ap, subst, ◌∙◌, refl, arith, append_assoc}
use Rattle.std.specs.Prelude.{Result, Ok, Err, nat_lt, if◌then◌else◌, decimal, slice_index}
use Rattle.std.specs.Int.{w64, to_be_bytes, from_be_bytes}
use Rattle.std.specs.Str.Parse.{digits_value}
use Rattle.std.proofs.lemmas.Nat.{from_be_bytes-to_be_bytes_8}
use Rattle.std.proofs.lemmas.Bool.Decides.{nat_tests}
use Rattle.std.proofs.lemmas.Fmt.{decimal_by_steps, decimal_is_IsNumeral}
use Rattle.hex.specs.Hex.{IsBytes, lower_digits, encode_with, decode_of}
use Rattle.hex.specs.declared.error.FromHexError.{FromHexError}
use Rattle.hex.proofs.HexLemmas.{decode_of-encode_lower}
use Rattle.decision_text.specs.Hexadecimal.{hex_bytes, hex_word}
use Rattle.decision_text.proofs.ImageLemmas.{bytes-word}
use Rattle.decision_text.specs.Telling.{IsNumber}

-- ---- words

-- no byte of it ends a word
abbrev pub IsWord : List ℕ → Type 0
IsWord [] = Unit {0}
IsWord (c ∷ cs) = (33 ≤ c) × IsWord cs

-- the first word of a text, which a blank or a line feed ends, and what follows that byte
abbrev pub word : List ℕ → List ℕ
word [] = []
word (c ∷ cs) = if nat_lt c 33 then [] else c ∷ word cs

abbrev pub behind : List ℕ → List ℕ
behind [] = []
behind (c ∷ cs) = if nat_lt c 33 then cs else behind cs

ends : (s : ℕ) → s < 33 → nat_lt s 33 ≡ true
ends s low = grind (arith, nat_tests, low)

goes-on : (c : ℕ) → 33 ≤ c → nat_lt c 33 ≡ false
goes-on c high = grind (arith, nat_tests, high)

pub word-is : (w : List ℕ) (s : ℕ) (x : List ℕ) → IsWord w → s < 33 → word (w ++ s ∷ x) ≡ w
word-is [] s x is low = rw (ends s low) refl
word-is (c ∷ cs) s x is low = rw (goes-on c is.0) (ap (λ (t : List ℕ). c ∷ t) (word-is cs s x is.1 low))

pub behind-is : (w : List ℕ) (s : ℕ) (x : List ℕ) → IsWord w → s < 33 → behind (w ++ s ∷ x) ≡ x
behind-is [] s x is low = rw (ends s low) refl
behind-is (c ∷ cs) s x is low = rw (goes-on c is.0) (behind-is cs s x is.1 low)

words-append : (a b : List ℕ) → IsWord a → IsWord b → IsWord (a ++ b)
words-append [] b p q = q
words-append (c ∷ cs) b p q = (p.0, words-append cs b p.1 q)

-- ---- numbers

pub decimal-word : (n : ℕ) → IsNumber n → IsWord (decimal n)
decimal-word n small =
    decimal_by_steps (λ m ds. IsWord ds)
    (λ m l. (omega arith, tt))
    (λ m ds l h. words-append ds ((48 + m % 10) ∷ []) h (omega arith, tt)) n small

-- the number that a text begins with
abbrev pub number : List ℕ → ℕ
number t = digits_value 10 (word t)

pub number-is : (n s : ℕ) (x : List ℕ) → IsNumber n → s < 33 → number (decimal n ++ s ∷ x) ≡ n
number-is n s x small low = ap (digits_value 10) (word-is (decimal n) s x (decimal-word n small) low) ∙ (decimal_is_IsNumeral n small).1

pub behind-number : (n s : ℕ) (x : List ℕ) → IsNumber n → s < 33 → behind (decimal n ++ s ∷ x) ≡ x
behind-number n s x small low = behind-is (decimal n) s x (decimal-word n small) low

-- ---- bytes in hexadecimal digits

digit-high : (n : ℕ) → n < 16 → 33 ≤ slice_index lower_digits n
digit-high zero small = omega arith
digit-high (suc zero) small = omega arith
digit-high (suc (suc zero)) small = omega arith
digit-high (suc (suc (suc zero))) small = omega arith
digit-high (suc (suc (suc (suc zero)))) small = omega arith
digit-high (suc (suc (suc (suc (suc zero))))) small = omega arith
digit-high (suc (suc (suc (suc (suc (suc zero)))))) small = omega arith
digit-high (suc (suc (suc (suc (suc (suc (suc zero))))))) small = omega arith
digit-high (suc (suc (suc (suc (suc (suc (suc (suc zero)))))))) small = omega arith
digit-high (suc (suc (suc (suc (suc (suc (suc (suc (suc zero))))))))) small = omega arith
digit-high (suc (suc (suc (suc (suc (suc (suc (suc (suc (suc zero)))))))))) small = omega arith
digit-high (suc (suc (suc (suc (suc (suc (suc (suc (suc (suc (suc zero))))))))))) small = omega arith
digit-high (suc (suc (suc (suc (suc (suc (suc (suc (suc (suc (suc (suc zero)))))))))))) small = omega arith
digit-high (suc (suc (suc (suc (suc (suc (suc (suc (suc (suc (suc (suc (suc zero))))))))))))) small = omega arith
digit-high (suc (suc (suc (suc (suc (suc (suc (suc (suc (suc (suc (suc (suc (suc zero)))))))))))))) small = omega arith
digit-high (suc (suc (suc (suc (suc (suc (suc (suc (suc (suc (suc (suc (suc (suc (suc zero))))))))))))))) small = omega arith
digit-high (suc (suc (suc (suc (suc (suc (suc (suc (suc (suc (suc (suc (suc (suc (suc (suc n)))))))))))))))) small = absurd (omega (arith, small))

pub hex-word : (bytes : List ℕ) → IsBytes bytes → IsWord (hex_bytes bytes)
unfolding encode_with
hex-word [] are = tt
hex-word (b ∷ bs) are =
    let small : b < 256 = are 0 in
    (digit-high (b / 16) (omega (arith, small)), (digit-high (b % 16) (omega arith), hex-word bs (λ i. are (suc i))))

abbrev bytes_in : Result (List ℕ) FromHexError → List ℕ
bytes_in (Ok bytes) = bytes
bytes_in (Err e) = []

-- the bytes that a text begins with
abbrev pub bytes : List ℕ → List ℕ
bytes t = bytes_in (decode_of (word t))

pub bytes-are : (bs : List ℕ) (s : ℕ) (x : List ℕ) → IsBytes bs → s < 33 → bytes (hex_bytes bs ++ s ∷ x) ≡ bs
bytes-are bs s x are low = ap (λ (t : List ℕ). bytes_in (decode_of t)) (word-is (hex_bytes bs) s x (hex-word bs are) low) ∙ ap bytes_in (decode_of-encode_lower bs are)

pub behind-bytes : (bs : List ℕ) (s : ℕ) (x : List ℕ) → IsBytes bs → s < 33 → behind (hex_bytes bs ++ s ∷ x) ≡ x
behind-bytes bs s x are low = behind-is (hex_bytes bs) s x (hex-word bs are) low

-- a word of 64 bits in hexadecimal digits
abbrev pub wide : List ℕ → ℕ
wide t = from_be_bytes w64 (bytes t)

pub wide-is : (v s : ℕ) (x : List ℕ) → IsNumber v → s < 33 → wide (hex_word v ++ s ∷ x) ≡ v
wide-is v s x small low = ap (from_be_bytes w64) (bytes-are (to_be_bytes w64 v) s x (bytes-word v) low) ∙ from_be_bytes-to_be_bytes_8 v small

pub behind-wide : (v s : ℕ) (x : List ℕ) → s < 33 → behind (hex_word v ++ s ∷ x) ≡ x
behind-wide v s x low = behind-bytes (to_be_bytes w64 v) s x (bytes-word v) low
