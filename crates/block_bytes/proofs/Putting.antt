-- The first so many words of some bytes are put into a block.
use Rattle.std.proofs.Common.{ℕ, ◌≡◌, ◌≢◌, ◌⊎◌, ◌+◌, ◌/◌, ◌<◌, ◌≤◌, ◌∙◌, sym, subst, refl, inl, inr, List, length, arith}
use Rattle.std.proofs.lemmas.Bool.{cases_eq}
use Rattle.zone_key.specs.Word.{key_word}
use Rattle.zone_region.specs.Words.{Words, word_at, SetsWord}
use Rattle.zone_region.proofs.WordLemmas.{word_at-set_same, word_at-set_index, length-set_word}
use Rattle.block_bytes.specs.Bytes.{PutsBytes}

-- the first `n` words are there, and every other word and every other block is as it was
pub record PutsWords (old new : Words) (at first : ℕ) (bytes : List ℕ) (n : ℕ) : Type 0 where
  pub lengths : (z : ℕ) → length (new z) ≡ length (old z)
  pub others : (z : ℕ) → z ≢ at → new z ≡ old z
  pub held : (i : ℕ) → i < n → word_at new at (first + i) ≡ key_word bytes i
  pub outside : (i : ℕ) → (i < first) ⊎ (first + n ≤ i) → word_at new at i ≡ word_at old at i

-- at first none is
pub puts_none : (m : Words) (at first : ℕ) (bytes : List ℕ) → PutsWords m m at first bytes 0
puts_none m at first bytes = record { lengths = λ z. refl; others = λ z ne. refl; held = λ i h. absurd (omega arith); outside = λ i side. refl }

-- one more
pub puts_more : (m k n : Words) (at first i v : ℕ) (bytes : List ℕ) → first + i < length (m at) → v ≡ key_word bytes i → PutsWords m k at first bytes i → SetsWord k n at (first + i) v → PutsWords m n at first bytes (i + 1)
puts_more m k n at first i v bytes room is p s = record {
  lengths = λ z. length-set_word k n at (first + i) v z s ∙ p.lengths z;
  others = λ z ne. s.others z ne ∙ p.others z ne;
  held = λ j h. elim (cases_eq j i) [
    | inl e ↦ subst (λ (x : ℕ). word_at n at (first + x) ≡ key_word bytes x) (sym e) (word_at-set_same k n at (first + i) v s (omega (arith, p.lengths at)) ∙ is)
    | inr ne ↦ word_at-set_index k n at (first + i) v at (first + j) s (λ e. ne (omega (arith, e))) ∙ p.held j (omega (arith, h, ne))
  ];
  outside = λ j side. elim side [
    | inl low ↦ word_at-set_index k n at (first + i) v at j s (λ e. omega (arith, e, low)) ∙ p.outside j (inl low)
    | inr high ↦ word_at-set_index k n at (first + i) v at j s (λ e. omega (arith, e, high)) ∙ p.outside j (inr (omega (arith, high)))
  ];
}

-- all are
pub puts_all : (m n : Words) (at first : ℕ) (bytes : List ℕ) → PutsWords m n at first bytes ((length bytes + 7) / 8) → PutsBytes m n at first bytes
puts_all m n at first bytes p = record { lengths = p.lengths; others = p.others; held = p.held; outside = p.outside }
