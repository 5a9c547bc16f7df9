-- Blocks of equal size in a row, each with a key of its own, and a tree of some of them.
use Rattle.std.specs.Prelude.{ℕ, ◌≡◌, ◌≢◌, ◌+◌, ◌*◌, ◌<◌, ◌≤◌, List, length, take, slice_index}
use Rattle.std.specs.Int.{w64, to_le_bytes}
use Rattle.zone_key.specs.Crc.{crc32_of}
use Rattle.zone_region.specs.Words.{Words}
use Rattle.zone_region.specs.Members.{In}
use Rattle.offset_tree.specs.declared.tree.Tree.{Tree}
use Rattle.offset_tree.specs.Keys.{Rank, rank_of}
use Rattle.offset_tree.specs.Layout.{IsTree}
use Rattle.offset_tests.specs.declared.keys.Keys.{Keys}

-- the byte offset of block `k`
abbrev pub place_of : ℕ → ℕ
place_of k = 8192 + 128 * k

-- the key of block `k`: the lowest bytes of its number, the lowest first
abbrev pub key_at : Keys → ℕ → List ℕ
key_at keys k = take keys.len (to_le_bytes w64 (slice_index keys.numbers.items k))

-- the CRC-32 of its key, and the key
abbrev pub rank_at : Keys → ℕ → Rank
rank_at keys k = (crc32_of (key_at keys k), key_at keys k)

-- The first `n` blocks and the context have 16 words each, and each block has its key and the key's CRC-32.
pub record IsGrid (m : Words) (t : Tree) (keys : Keys) (n : ℕ) : Type 0 where
  pub context : t.context.at ≡ 4096
  pub few : n ≤ 65536
  pub head : length (m 4096) ≡ 16
  pub room : (k : ℕ) → k < n → length (m (place_of k)) ≡ 16
  pub ranks : (k : ℕ) → k < n → rank_of m t.form (place_of k) ≡ rank_at keys k

-- Some of the blocks are a tree.
pub record HasTree (m : Words) (t : Tree) (keys : Keys) : Type 0 where
  pub grid : IsGrid m t keys (length keys.numbers.items)
  pub blocks : List ℕ
  pub tree : IsTree m t blocks
  pub places : (x : ℕ) → In x blocks → (k : ℕ) × (k < length keys.numbers.items) × (x ≡ place_of k)

-- No block of the tree has the key of block `k`.
pub record LacksKey (m : Words) (t : Tree) (keys : Keys) (k : ℕ) : Type 0 where
  pub there : HasTree m t keys
  pub absent : (x : ℕ) → In x there.blocks → rank_of m t.form x ≢ rank_at keys k
