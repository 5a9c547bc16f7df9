-- What the calls of a tree leave alone.
use Rattle.std.specs.Prelude.{ℕ, ◌≡◌, ◌≢◌, ◌⊎◌, ◌+◌, ◌/◌, ◌≤◌, List, length}
use Rattle.zone_region.specs.Words.{Words, word_at}
use Rattle.zone_region.specs.Members.{In}

-- Only the links and colours of these blocks changed (words 1 to 3 and the low byte of word 4), and the context's root word.
pub record ChangesNodes (old new : Words) (context : ℕ) (xs : List ℕ) : Type 0 where
  pub lengths : (z : ℕ) → length (new z) ≡ length (old z)
  pub others : (z : ℕ) → z ≢ context → (In z xs → ⊥) → new z ≡ old z
  pub nodes : (z i : ℕ) → z ≢ context → (i ≡ 0) ⊎ (5 ≤ i) → word_at new z i ≡ word_at old z i
  pub flags : (z : ℕ) → z ≢ context → word_at new z 4 / 256 ≡ word_at old z 4 / 256
  pub head : (i : ℕ) → i ≢ 0 → word_at new context i ≡ word_at old context i

-- An empty tree was made: the root and the sentinel's offset are set, the sentinel's five words are 0, and nothing else changed.
pub record MakesEmpty (old new : Words) (context : ℕ) : Type 0 where
  pub lengths : (z : ℕ) → length (new z) ≡ length (old z)
  pub others : (z : ℕ) → z ≢ context → new z ≡ old z
  pub root : word_at new context 0 ≡ context + 24
  pub offset : word_at new context 1 ≡ context + 24
  pub sentinel : (i : ℕ) → 3 ≤ i → i ≤ 7 → word_at new context i ≡ 0
  pub rest : (i : ℕ) → (i ≡ 2) ⊎ (8 ≤ i) → word_at new context i ≡ word_at old context i
