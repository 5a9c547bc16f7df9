-- The hash and the key in a node's words, and their order.
use Rattle.std.specs.Prelude.{ℕ, ◌≡◌, ◌⊎◌, ◌+◌, ◌*◌, ◌/◌, ◌%◌, ◌^◌, ◌≤◌, zero, suc, List, [], ◌∷◌, length}
use Rattle.std.specs.Ordering.{nat_cmp, ordering_then}
use Rattle.std.specs.declared.cmp.Ordering.{Ordering}
use Rattle.std.specs.declared.cmp.Ordering.TheVariants.{Less}
use Rattle.zone_key.specs.Order.{key_order}
use Rattle.zone_region.specs.Words.{Words, word_at}
use Rattle.offset_tree.specs.declared.tree.Form.{Form}

-- byte `j` of the block, the lowest byte of a word first
abbrev pub block_byte : Words → ℕ → ℕ → ℕ
block_byte m x j = word_at m x (j / 8) / 2 ^ (8 * (j % 8)) % 256

-- `n` bytes from byte `j` on
abbrev pub bytes_of : Words → ℕ → ℕ → ℕ → List ℕ
bytes_of m x j zero = []
bytes_of m x j (suc n) = block_byte m x j ∷ bytes_of m x (j + 1) n

-- the length of the key in a node
abbrev pub key_len : Words → Form → ℕ → ℕ
key_len m f x = word_at m x 4 / 2 ^ (8 * (f.len_at % 8)) % 2 ^ (8 * f.len_bytes)

-- the key of a node
abbrev pub key_of : Words → Form → ℕ → List ℕ
key_of m f x = bytes_of m x f.key_at (key_len m f x)

-- a hash and a key; keys are ordered by their hashes first
abbrev pub Rank : Type 0
Rank = ℕ × List ℕ

-- the order of ranks
abbrev pub rank_cmp : Rank → Rank → Ordering
rank_cmp a b = ordering_then (nat_cmp a.0 b.0) (key_order a.1 b.1)

-- the rank of a node
abbrev pub rank_of : Words → Form → ℕ → Rank
rank_of m f x = (word_at m x 0, key_of m f x)

-- the places of a request node or of a connection node
pub record IsForm (f : Form) : Type 0 where
  pub len_place : ((f.len_at ≡ 34) × (f.len_bytes ≡ 2) × (f.key_at ≡ 80)) ⊎ ((f.len_at ≡ 33) × (f.len_bytes ≡ 1) × (f.key_at ≡ 36))

-- the block has room for its key
pub record HoldsKey (m : Words) (f : Form) (x : ℕ) : Type 0 where
  pub links : 5 ≤ length (m x)
  pub key : f.key_at + key_len m f x ≤ 8 * length (m x)

-- every one is after `x`
abbrev pub AllAfter : Words → Form → ℕ → List ℕ → Type 0
AllAfter m f x [] = Unit {0}
AllAfter m f x (y ∷ ys) = (rank_cmp (rank_of m f x) (rank_of m f y) ≡ Less) × AllAfter m f x ys

-- the blocks stand in strictly increasing order of hash and key
abbrev pub IsOrdered : Words → Form → List ℕ → Type 0
IsOrdered m f [] = Unit {0}
IsOrdered m f (x ∷ xs) = AllAfter m f x xs × IsOrdered m f xs
