-- The bits of one word.
use Rattle.std.proofs.Common.{ℕ, ◌≡◌, ◌↔◌, ◌+◌, ◌*◌, ◌-◌, ◌%◌, ◌^◌, ◌<◌, ◌≤◌, bit_and, bit_or, IsBitSet, sym, ap, subst, ◌∙◌, refl, arith, inl, inr}
use Rattle.std.specs.Int.{bit_at, w64, trailing_ones}
use Rattle.std.proofs.lemmas.Bool.{cases_lt}
use Rattle.std.proofs.lemmas.Nat.{one_shl, pow_pos, or_lt, pow_below}
use Rattle.std.proofs.lemmas.Nat.Bits.{and_pow, bit_at-lt, bit_at_or, bit_at_ones, bit_at_ones_above, bit_at-trailing_ones}
use Rattle.slab_pool.specs.WordBits.{IsLowestClear}

-- the layout's test of a bit
pub bit_set : (n k : ℕ) → IsBitSet n k ↔ (bit_at n k ≡ 1)
bit_set n k = (λ s. one s, λ e z. two e z) where
  one : IsBitSet n k → bit_at n k ≡ 1
  one s = elim (cases_lt (bit_at n k) 1) [
    | inl l ↦ let none : bit_at n k ≡ 0 = omega arith in absurd (s (omega (arith, and_pow n k, ap (λ b. b * 2 ^ k) none)))
    | inr g ↦ omega (arith, bit_at-lt n k)
  ]

  two : bit_at n k ≡ 1 → bit_and n (2 ^ k) ≡ 0 → ⊥
  two e z = let h : bit_at n k * 2 ^ k ≡ 0 = sym (and_pow n k) ∙ z in omega (arith, ap (λ b. b * 2 ^ k) e, h, pow_pos k)

all_ones : trailing_ones w64 (2 ^ 64 - 1) ≡ 64
unfolding lib.Count.count_trailing_zeros
all_ones = refl

-- `(v | ((1 << from) - 1)).trailing_ones()`
pub lowest_clear : (v from : ℕ) → from < 64 → v < 2 ^ 64 → IsLowestClear v from (trailing_ones w64 (bit_or v (1 * 2 ^ from % 2 ^ 64 - 1)))
lowest_clear v from low small = subst (λ (m : ℕ). IsLowestClear v from (trailing_ones w64 (bit_or v (m - 1)))) (sym (one_shl from 64 low)) (found v from low small (or_lt 64 v (2 ^ from - 1) small (ones_fit from low))) where
  ones_fit : (from : ℕ) → from < 64 → 2 ^ from - 1 < 2 ^ 64
  ones_fit from low = omega (arith, pow_below from 64 low)

  -- the word with its low bits set
  filled : (v from k : ℕ) → from ≤ k → bit_at (bit_or v (2 ^ from - 1)) k ≡ bit_at v k
  filled v from k h = bit_at_or v (2 ^ from - 1) k ∙ omega (arith, bit_at_ones_above from k h)

  low_ones : (v from k : ℕ) → k < from → bit_at (bit_or v (2 ^ from - 1)) k ≡ 1
  low_ones v from k h = bit_at_or v (2 ^ from - 1) k ∙ omega (arith, bit_at_ones from k h, bit_at-lt v k)

  found : (v from : ℕ) → from < 64 → v < 2 ^ 64 → bit_or v (2 ^ from - 1) < 2 ^ 64 → IsLowestClear v from (trailing_ones w64 (bit_or v (2 ^ from - 1)))
  found v from low small fits = elim (cases_lt (bit_or v (2 ^ from - 1) + 1) (2 ^ 64)) [
    | inl below ↦ some v from low (bit_at-trailing_ones w64 (bit_or v (2 ^ from - 1)) below)
    | inr all ↦ full v from low (omega arith)
  ] where
    some : (v from : ℕ) → from < 64 → (trailing_ones w64 (bit_or v (2 ^ from - 1)) < 64) × (bit_at (bit_or v (2 ^ from - 1)) (trailing_ones w64 (bit_or v (2 ^ from - 1))) ≡ 0) × ((i : ℕ) → i < trailing_ones w64 (bit_or v (2 ^ from - 1)) → bit_at (bit_or v (2 ^ from - 1)) i ≡ 1) → IsLowestClear v from (trailing_ones w64 (bit_or v (2 ^ from - 1)))
    some v from low h = record { low = after; high = omega (arith, h.0); ones = λ k g l. sym (filled v from k g) ∙ h.2 k l; zero = λ l. sym (filled v from (trailing_ones w64 (bit_or v (2 ^ from - 1))) after) ∙ h.1 } where
      after : from ≤ trailing_ones w64 (bit_or v (2 ^ from - 1))
      after = elim (cases_lt (trailing_ones w64 (bit_or v (2 ^ from - 1))) from) [
        | inl l ↦ absurd (omega (arith, low_ones v from (trailing_ones w64 (bit_or v (2 ^ from - 1))) l, h.1))
        | inr g ↦ g
      ]

    full : (v from : ℕ) → from < 64 → bit_or v (2 ^ from - 1) ≡ 2 ^ 64 - 1 → IsLowestClear v from (trailing_ones w64 (bit_or v (2 ^ from - 1)))
    full v from low e = subst (λ (r : ℕ). IsLowestClear v from r) (sym (ap (trailing_ones w64) e ∙ all_ones)) (record { low = omega arith; high = omega arith; ones = λ k g l. sym (filled v from k g) ∙ ap (λ n. bit_at n k) e ∙ bit_at_ones 64 k l; zero = λ l. absurd (omega arith) })
