-- Eight steps of the division at once, by a table of the bytes.
use Rattle.std.proofs.Common.{ℕ, ◌≡◌, zero, suc, ◌+◌, ◌*◌, ◌/◌, ◌%◌, ◌^◌, ◌<◌, ◌∙◌, sym, ap, refl, cond, eqb, inl, inr, ◌⊎◌, arith, Bool, true, false, List, [], ◌∷◌, length, get_or, ◌&&◌, drop, bit_and}
use Rattle.std.specs.Int.Bits.{bit_xor, xor_assoc, xor_zero_l, xor_zero_r}
use Rattle.std.proofs.lemmas.Nat.{xor_comm, xor_mod, xor_shr, xor_block}
use Rattle.std.proofs.Math.Nat.{pow-suc, mul_assoc}
use Rattle.std.proofs.lemmas.Grind.{common_steps, and_numeral}
use Rattle.std.proofs.lemmas.List.{drop_more}
use Rattle.zone_key.specs.Crc.{polynomial, divide_bit, divide_bits, remainder, tabulates}

-- what is taken off for the lowest bit
taken : ℕ → ℕ
taken d = cond (eqb d 1) polynomial 0

digit : (n : ℕ) → (n % 2 ≡ 0) ⊎ (n % 2 ≡ 1)
digit n = grind arith

taken_xor : (a b : ℕ) → ((a ≡ 0) ⊎ (a ≡ 1)) → ((b ≡ 0) ⊎ (b ≡ 1)) → taken (bit_xor a b) ≡ bit_xor (taken a) (taken b)
unfolding taken
taken_xor a b p q = elim p [
  | inl e ↦ elim q [ inl f ↦ rw (e, f) refl | inr f ↦ rw (e, f) refl ]
  | inr e ↦ elim q [ inl f ↦ rw (e, f) refl | inr f ↦ rw (e, f) refl ]
]

swap_middle : (p q u v : ℕ) → bit_xor (bit_xor p q) (bit_xor u v) ≡ bit_xor (bit_xor p u) (bit_xor q v)
swap_middle p q u v =
    xor_assoc p q (bit_xor u v)
    ∙ ap (λ (x : ℕ). bit_xor p x) (sym (xor_assoc q u v) ∙ ap (λ (x : ℕ). bit_xor x v) (xor_comm q u) ∙ xor_assoc u q v)
    ∙ sym (xor_assoc p u (bit_xor q v))

-- a step goes through an exclusive or
divide_bit_xor : (a b : ℕ) → divide_bit (bit_xor a b) ≡ bit_xor (divide_bit a) (divide_bit b)
unfolding taken
divide_bit_xor a b =
    ap (λ (x : ℕ). bit_xor x (taken (bit_xor a b % 2))) (xor_shr a b 1)
    ∙ ap (λ (x : ℕ). bit_xor (bit_xor (a / 2) (b / 2)) (taken x)) (xor_mod a b 1)
    ∙ ap (λ (x : ℕ). bit_xor (bit_xor (a / 2) (b / 2)) x) (taken_xor (a % 2) (b % 2) (digit a) (digit b))
    ∙ swap_middle (a / 2) (b / 2) (taken (a % 2)) (taken (b % 2))

divide_bits_xor : (n a b : ℕ) → divide_bits n (bit_xor a b) ≡ bit_xor (divide_bits n a) (divide_bits n b)
unfolding divide_bits
divide_bits_xor zero a b = refl
divide_bits_xor (suc n) a b = ap (λ (x : ℕ). divide_bits n x) (divide_bit_xor a b) ∙ divide_bits_xor n (divide_bit a) (divide_bit b)

-- a bit of 0 only shifts
divide_bit_even : (x : ℕ) → divide_bit (x * 2) ≡ x
divide_bit_even x =
    ap (λ (d : ℕ). bit_xor (x * 2 / 2) (cond (eqb d 1) polynomial 0)) (let e : x * 2 % 2 ≡ 0 = omega arith in e)
    ∙ xor_zero_r (x * 2 / 2) ∙ (let e : x * 2 / 2 ≡ x = omega arith in e)

divide_bits_shift : (n x : ℕ) → divide_bits n (x * 2 ^ n) ≡ x
unfolding divide_bits
divide_bits_shift zero x = omega arith
divide_bits_shift (suc n) x =
    ap (λ (y : ℕ). divide_bits n (divide_bit y)) (ap (λ (p : ℕ). x * p) (pow-suc 2 n) ∙ sym (mul_assoc x (2 ^ n) 2))
    ∙ ap (λ (y : ℕ). divide_bits n y) (divide_bit_even (x * 2 ^ n)) ∙ divide_bits_shift n x

-- eight steps are a shift by eight bits and what eight steps make of the lowest byte
eight_steps : (x : ℕ) → divide_bits 8 x ≡ bit_xor (x / 256) (divide_bits 8 (x % 256))
eight_steps x =
    let parts : bit_xor (x / 256 * 256) (x % 256) ≡ x =
    (let e : bit_xor (x / 256 * 256 + 0) (0 * 256 + x % 256) ≡ bit_xor (x / 256) 0 * 256 + bit_xor 0 (x % 256) = xor_block 8 (x / 256) 0 0 (x % 256) (omega arith) (omega arith) in
    let f : x / 256 * 256 + 0 ≡ x / 256 * 256 = omega arith in
    let g : 0 * 256 + x % 256 ≡ x % 256 = omega arith in
    ap (λ (y : ℕ). bit_xor y (x % 256)) (sym f) ∙ ap (λ (y : ℕ). bit_xor (x / 256 * 256 + 0) y) (sym g) ∙ e
    ∙ ap (λ (y : ℕ). y * 256 + bit_xor 0 (x % 256)) (xor_zero_r (x / 256)) ∙ ap (λ (y : ℕ). x / 256 * 256 + y) (xor_zero_l (x % 256)) ∙ omega arith) in
    ap (λ (y : ℕ). divide_bits 8 y) (sym parts)
    ∙ divide_bits_xor 8 (x / 256 * 256) (x % 256)
    ∙ ap (λ (y : ℕ). bit_xor y (divide_bits 8 (x % 256))) (divide_bits_shift 8 (x / 256))

-- one byte of a text by the table
pub byte_step : (r b : ℕ) → b < 256 → divide_bits 8 (bit_xor r b) ≡ bit_xor (r / 256) (divide_bits 8 (bit_xor r b % 256))
byte_step r b h =
    eight_steps (bit_xor r b)
    ∙ ap (λ (y : ℕ). bit_xor y (divide_bits 8 (bit_xor r b % 256)))
    (xor_shr r b 8 ∙ ap (λ (y : ℕ). bit_xor (r / 256) y) (let e : b / 256 ≡ 0 = omega arith in e) ∙ xor_zero_r (r / 256))

eqb_same : (a b : ℕ) → eqb a b ≡ true → a ≡ b
eqb_same a b h = grind (arith, common_steps)

both : (a b : Bool) → a && b ≡ true → (a ≡ true) × (b ≡ true)
both true true h = (refl, refl)
both true false h = absurd (cc)
both false b h = absurd (cc)

pub tabulated : (xs : List ℕ) (k i : ℕ) → tabulates xs k ≡ true → i < length xs → get_or xs i 0 ≡ divide_bits 8 (k + i)
tabulated [] k i h lt = absurd (omega arith)
tabulated (x ∷ xs) k zero h lt = eqb_same x (divide_bits 8 k) (both (eqb x (divide_bits 8 k)) (tabulates xs (k + 1)) h).0 ∙ ap (λ (n : ℕ). divide_bits 8 n) (omega arith)
tabulated (x ∷ xs) k (suc i) h lt =
    tabulated xs (k + 1) i (both (eqb x (divide_bits 8 k)) (tabulates xs (k + 1)) h).1 (omega arith) ∙ ap (λ (n : ℕ). divide_bits 8 n) (omega arith)

-- one byte of the loop over a text
pub remainder_step : (table s : List ℕ) (i r b t whole : ℕ) → tabulates table 0 ≡ true → length table ≡ 256 → i < length s → b ≡ get_or s i 0 → b < 256 → t ≡ get_or table (bit_and (bit_xor r b) 255) 0 → remainder r (drop i s) ≡ whole → remainder (bit_xor (r / 256) t) (drop (i + 1) s) ≡ whole
remainder_step table s i r b t whole holds size h is small tis before =
    let place : bit_and (bit_xor r b) 255 ≡ bit_xor r b % 256 = and_numeral (bit_xor r b) 254 refl in
    let look : t ≡ divide_bits 8 (bit_xor r b % 256) =
    tis ∙ ap (λ (x : ℕ). get_or table x 0) place ∙ tabulated table 0 (bit_xor r b % 256) holds (omega arith) ∙ ap (λ (x : ℕ). divide_bits 8 x) (omega arith) in
    let next : divide_bits 8 (bit_xor r (get_or s i 0)) ≡ bit_xor (r / 256) t =
    ap (λ (x : ℕ). divide_bits 8 (bit_xor r x)) (sym is) ∙ byte_step r b small ∙ ap (λ (x : ℕ). bit_xor (r / 256) x) (sym look) in
    ap (λ (x : ℕ). remainder x (drop (i + 1) s)) (sym next) ∙ sym (ap (λ (xs : List ℕ). remainder r xs) (drop_more s i 0 h)) ∙ before
