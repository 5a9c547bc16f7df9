-- The bytes of a key, read from the words that hold them.
use Rattle.std.proofs.Common.{ℕ, ◌≡◌, ◌+◌, ◌*◌, ◌/◌, ◌%◌, ◌^◌, ◌<◌, ◌≤◌, zero, suc, List, [], ◌∷◌, length, get_or, take, drop, sym, ap, subst, ◌∙◌, refl, arith, inl, inr}
use Rattle.std.proofs.lemmas.Bool.{cases_lt}
use Rattle.std.proofs.lemmas.List.{get_or-take, get_or-drop, get_or_past, drop_more, drop_all, length-take}
use Rattle.zone_region.specs.Words.{Words, word_at}
use Rattle.zone_key.specs.Word.{little_endian, key_word}
use Rattle.block_bytes.specs.Bytes.{HoldsBytes}
use Rattle.offset_tree.specs.Keys.{block_byte, bytes_of}
use Rattle.req_zone.specs.Words.{AreBytes}

-- the byte behind the lowest one
next_byte : (b x k : ℕ) → b < 256 → k < 7 → (b + 256 * x) / 2 ^ (8 * suc k) ≡ x / 2 ^ (8 * k)
next_byte b x zero low few = omega (arith, low)
next_byte b x (suc zero) low few = omega (arith, low)
next_byte b x (suc (suc zero)) low few = omega (arith, low)
next_byte b x (suc (suc (suc zero))) low few = omega (arith, low)
next_byte b x (suc (suc (suc (suc zero)))) low few = omega (arith, low)
next_byte b x (suc (suc (suc (suc (suc zero))))) low few = omega (arith, low)
next_byte b x (suc (suc (suc (suc (suc (suc zero)))))) low few = omega (arith, low)
next_byte b x (suc (suc (suc (suc (suc (suc (suc k))))))) low few = absurd (omega (arith, few))

no_byte : (k : ℕ) → k < 8 → 0 / 2 ^ (8 * k) % 256 ≡ 0
no_byte zero few = refl
no_byte (suc zero) few = refl
no_byte (suc (suc zero)) few = refl
no_byte (suc (suc (suc zero))) few = refl
no_byte (suc (suc (suc (suc zero)))) few = refl
no_byte (suc (suc (suc (suc (suc zero))))) few = refl
no_byte (suc (suc (suc (suc (suc (suc zero)))))) few = refl
no_byte (suc (suc (suc (suc (suc (suc (suc zero))))))) few = refl
no_byte (suc (suc (suc (suc (suc (suc (suc (suc k)))))))) few = absurd (omega (arith, few))

-- byte `k` of a number of bytes
number_byte : (bs : List ℕ) (k : ℕ) → AreBytes bs → k < 8 → little_endian bs / 2 ^ (8 * k) % 256 ≡ get_or bs k 0
number_byte [] k low few = no_byte k few
number_byte (b ∷ bs) zero low few = let first : b < 256 = low 0 in omega (arith, first)
number_byte (b ∷ bs) (suc k) low few = ap (λ (n : ℕ). n % 256) (next_byte b (little_endian bs) k (low 0) (omega (arith, few))) ∙ number_byte bs k (λ i. low (suc i)) (omega (arith, few))

-- some of the bytes are bytes
part_bytes : (bs : List ℕ) (n : ℕ) → AreBytes bs → AreBytes (take 8 (drop n bs))
part_bytes bs n low i = elim (cases_lt i 8) [
  | inl few ↦ let same : get_or (take 8 (drop n bs)) i 0 ≡ get_or bs (n + i) 0 = get_or-take 8 (drop n bs) i 0 few ∙ get_or-drop n bs i 0 in let there : get_or bs (n + i) 0 < 256 = low (n + i) in omega (arith, same, there)
  | inr past ↦ let none : get_or (take 8 (drop n bs)) i 0 ≡ 0 = get_or_past (take 8 (drop n bs)) i 0 (omega (arith, past, length-take 8 (drop n bs))) in omega (arith, none)
]

word_byte : (bs : List ℕ) (i k : ℕ) → AreBytes bs → k < 8 → key_word bs i / 2 ^ (8 * k) % 256 ≡ get_or bs (8 * i + k) 0
word_byte bs i k low few = number_byte (take 8 (drop (8 * i) bs)) k (part_bytes bs (8 * i) low) few ∙ get_or-take 8 (drop (8 * i) bs) k 0 few ∙ get_or-drop (8 * i) bs k 0

-- byte `j` of a key from word 10 on
key_byte : (m : Words) (at : ℕ) (key : List ℕ) (j : ℕ) → AreBytes key → HoldsBytes m at 10 key → j < length key → block_byte m at (80 + j) ≡ get_or key j 0
key_byte m at key j low held within =
    let word : (80 + j) / 8 ≡ 10 + j / 8 = omega arith in
    let place : (80 + j) % 8 ≡ j % 8 = omega arith in
    let few : j % 8 < 8 = omega arith in
    let whole : 8 * (j / 8) + j % 8 ≡ j = omega arith in
    let there : word_at m at ((80 + j) / 8) ≡ key_word key (j / 8) = ap (λ (w : ℕ). word_at m at w) word ∙ held (j / 8) (omega (arith, within)) in
    ap (λ (v : ℕ). v / 2 ^ (8 * ((80 + j) % 8)) % 256) there
    ∙ ap (λ (p : ℕ). key_word key (j / 8) / 2 ^ (8 * p) % 256) place
    ∙ word_byte key (j / 8) (j % 8) low few
    ∙ ap (λ (p : ℕ). get_or key p 0) whole

-- the bytes of a key from the byte `j` on
rest_bytes : (m : Words) (at : ℕ) (key : List ℕ) (n j : ℕ) → AreBytes key → HoldsBytes m at 10 key → j + n ≡ length key → bytes_of m at (80 + j) n ≡ drop j key
rest_bytes m at key zero j low held all = sym (drop_all j key (omega (arith, all)))
rest_bytes m at key (suc n) j low held all =
    let next : 80 + j + 1 ≡ 80 + (j + 1) = omega arith in
    let rest : bytes_of m at (80 + j + 1) n ≡ drop (j + 1) key = ap (λ (p : ℕ). bytes_of m at p n) next ∙ rest_bytes m at key n (j + 1) low held (omega (arith, all)) in
    ap (λ (b : ℕ). b ∷ bytes_of m at (80 + j + 1) n) (key_byte m at key j low held (omega (arith, all)))
    ∙ ap (λ (bs : List ℕ). get_or key j 0 ∷ bs) rest
    ∙ sym (drop_more key j 0 (omega (arith, all)))

-- the bytes of a key are those of its words
pub key_bytes : (m : Words) (at : ℕ) (key : List ℕ) → AreBytes key → HoldsBytes m at 10 key → bytes_of m at 80 (length key) ≡ key
key_bytes m at key low held = rest_bytes m at key (length key) 0 low held (omega arith)
