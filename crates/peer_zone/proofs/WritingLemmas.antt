-- The first so many words are written into a block.
use Rattle.std.proofs.Common.{ℕ, ◌≡◌, ◌≢◌, ◌⊎◌, ◌+◌, ◌<◌, ◌≤◌, ◌∙◌, sym, subst, refl, inl, inr, List, length, get_or, arith}
use Rattle.std.proofs.lemmas.Bool.{cases_eq}
use Rattle.zone_region.specs.Words.{Words, word_at, SetsWord}
use Rattle.zone_region.proofs.WordLemmas.{word_at-set_same, word_at-set_index, length-set_word}
use Rattle.peer_zone.specs.CallSteps.{WritesWords}

-- the first `n` words are there, and every other word and every other block is as before
pub record WritesFirst (old new : Words) (at first : ℕ) (words : List ℕ) (n : ℕ) : Type 0 where
  pub lengths : (z : ℕ) → length (new z) ≡ length (old z)
  pub others : (z : ℕ) → z ≢ at → new z ≡ old z
  pub written : (i : ℕ) → i < n → word_at new at (first + i) ≡ get_or words i 0
  pub outside : (i : ℕ) → (i < first) ⊎ (first + n ≤ i) → word_at new at i ≡ word_at old at i

pub writes_none : (m : Words) (at first : ℕ) (words : List ℕ) → WritesFirst m m at first words 0
writes_none m at first words = record { lengths = λ z. refl; others = λ z ne. refl; written = λ i h. absurd (omega arith); outside = λ i side. refl }

pub writes_more : (m k n : Words) (at first i v : ℕ) (words : List ℕ) → first + i < length (m at) → v ≡ get_or words i 0 → WritesFirst m k at first words i → SetsWord k n at (first + i) v → WritesFirst m n at first words (i + 1)
writes_more m k n at first i v words room is p s = record {
  lengths = λ z. length-set_word k n at (first + i) v z s ∙ p.lengths z;
  others = λ z ne. s.others z ne ∙ p.others z ne;
  written = λ j h. elim (cases_eq j i) [
    | inl e ↦ subst (λ (x : ℕ). word_at n at (first + x) ≡ get_or words x 0) (sym e) (word_at-set_same k n at (first + i) v s (omega (arith, p.lengths at)) ∙ is)
    | inr ne ↦ word_at-set_index k n at (first + i) v at (first + j) s (λ e. ne (omega (arith, e))) ∙ p.written j (omega (arith, h, ne))
  ];
  outside = λ j side. elim side [
    | inl low ↦ word_at-set_index k n at (first + i) v at j s (λ e. omega (arith, e, low)) ∙ p.outside j (inl low)
    | inr high ↦ word_at-set_index k n at (first + i) v at j s (λ e. omega (arith, e, high)) ∙ p.outside j (inr (omega (arith, high)))
  ];
}

pub writes_all : (m n : Words) (at first : ℕ) (words : List ℕ) → WritesFirst m n at first words (length words) → WritesWords m n at first words
writes_all m n at first words p = record { lengths = p.lengths; others = p.others; written = p.written; outside = p.outside }
