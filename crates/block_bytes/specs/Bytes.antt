-- Bytes in the words of a block.
use Rattle.std.specs.Prelude.{ℕ, ◌≡◌, ◌≢◌, ◌⊎◌, ◌+◌, ◌/◌, ◌<◌, ◌≤◌, List, length}
use Rattle.zone_key.specs.Word.{key_word}
use Rattle.zone_region.specs.Words.{Words, word_at}

-- the block's words from `first` on hold these bytes, eight to a word, the lowest byte first, with 0 past their end
abbrev pub HoldsBytes : Words → ℕ → ℕ → List ℕ → Type 0
HoldsBytes m at first bytes = (i : ℕ) → i < (length bytes + 7) / 8 → word_at m at (first + i) ≡ key_word bytes i

-- the block holds these bytes now, and every other word and every other block is as it was
pub record PutsBytes (old new : Words) (at first : ℕ) (bytes : List ℕ) : Type 0 where
  pub lengths : (z : ℕ) → length (new z) ≡ length (old z)
  pub others : (z : ℕ) → z ≢ at → new z ≡ old z
  pub held : HoldsBytes new at first bytes
  pub outside : (i : ℕ) → (i < first) ⊎ (first + (length bytes + 7) / 8 ≤ i) → word_at new at i ≡ word_at old at i
