-- Held bytes after other words changed, and read back one at a time.
use Rattle.std.proofs.Common.{ℕ, ◌≡◌, ◌+◌, ◌/◌, ◌<◌, ◌≤◌, ◌∙◌, ap, List, length, get_or, arith}
use Rattle.zone_region.specs.Words.{Words, word_at}
use Rattle.block_bytes.specs.Bytes.{HoldsBytes}

-- the bytes are held where their words are the same
pub holds_bytes-kept : (m n : Words) (at first : ℕ) (bytes : List ℕ) → ((i : ℕ) → first ≤ i → i < first + (length bytes + 7) / 8 → word_at n at i ≡ word_at m at i) → HoldsBytes m at first bytes → HoldsBytes n at first bytes
holds_bytes-kept m n at first bytes same held i h = same (first + i) (omega arith) (omega (arith, h)) ∙ held i h

-- the bytes are held where the block has the same words
pub holds_bytes-same : (m n : Words) (at first : ℕ) (bytes : List ℕ) → n at ≡ m at → HoldsBytes m at first bytes → HoldsBytes n at first bytes
holds_bytes-same m n at first bytes same held = holds_bytes-kept m n at first bytes (λ i low high. ap (λ ws. get_or ws i 0) same) held
