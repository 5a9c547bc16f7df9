-- Where a block is put in, and what stands afterwards.
use Rattle.std.specs.Prelude.{ℕ, ◌≡◌, ◌≢◌, ◌+◌, ◌*◌, ◌^◌, ◌<◌, ◌≤◌, List, ◌++◌, length}
use Rattle.std.specs.declared.cmp.Ordering.TheVariants.{Less}
use Rattle.zone_region.specs.Words.{Words, word_at}
use Rattle.offset_tree.specs.declared.side.Side.{Side}
use Rattle.offset_tree.specs.declared.tree.Tree.{Tree}
use Rattle.offset_tree.specs.Inside.Shape.{Shape, leaf, Path, plug, blocks_of, IsHole}
use Rattle.zone_region.specs.Members.{In}
use Rattle.offset_tree.specs.Inside.Links.{Lies, IsShape}
use Rattle.offset_tree.specs.Inside.Balance.{IsPathBalanced, depth_of}
use Rattle.offset_tree.specs.Keys.{Rank, rank_cmp, rank_of, key_of, HoldsKey, IsOrdered}
use Rattle.offset_tree.specs.Inside.Trees.{IsDrawn}

-- the way down has come to `at`, on this side of `parent`: what is before is less, and what is after is more
pub record Descending (m : Words) (t : Tree) (rank : Rank) (xs : List ℕ) (tree : Shape) (at parent : ℕ) (side : Side) : Type 0 where
  pub path : Path
  pub part : Shape
  pub whole : plug path part ≡ tree
  pub lies : Lies m (t.context.at + 24) part at parent
  pub hole : IsHole path parent side
  pub before : List ℕ
  pub after : List ℕ
  pub split : (u : Shape) → blocks_of (plug path u) ≡ before ++ (blocks_of u ++ after)
  pub low : (y : ℕ) → In y before → rank_cmp (rank_of m t.form y) rank ≡ Less
  pub high : (y : ℕ) → In y after → rank_cmp rank (rank_of m t.form y) ≡ Less
  pub ordered : IsOrdered m t.form (blocks_of part)

-- an empty place under `parent` on this side, in its order, of a tree that has blocks for this black height
pub record Opening (m : Words) (t : Tree) (rank : Rank) (xs : List ℕ) (parent : ℕ) (side : Side) : Type 0 where
  pub path : Path
  pub shape : IsShape m t.context.at (plug path leaf)
  pub hole : IsHole path parent side
  pub around : IsPathBalanced path 0
  pub height : ℕ
  pub many : 2 ^ height ≤ length xs + 1
  pub deep : depth_of path ≤ 2 * height
  pub before : List ℕ
  pub after : List ℕ
  pub split : (u : Shape) → blocks_of (plug path u) ≡ before ++ (blocks_of u ++ after)
  pub is : xs ≡ before ++ after
  pub low : (y : ℕ) → In y before → rank_cmp (rank_of m t.form y) rank ≡ Less
  pub high : (y : ℕ) → In y after → rank_cmp rank (rank_of m t.form y) ≡ Less

-- the block has the key's words, and can be put in
pub record IsInsertable (m : Words) (t : Tree) (b : ℕ) (key : List ℕ) (xs : List ℕ) : Type 0 where
  pub tree : IsDrawn m t xs
  pub room : HoldsKey m t.form b
  pub new : In b xs → ⊥
  pub apart : (b ≢ t.context.at) × (b ≢ t.context.at + 24) × (b ≢ 0)
  pub below : b < 2 ^ 63
  pub key_is : key_of m t.form b ≡ key
  pub other : (x : ℕ) → In x xs → rank_of m t.form x ≢ (word_at m b 0, key)
