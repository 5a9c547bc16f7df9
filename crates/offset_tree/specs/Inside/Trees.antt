-- The tree as a list of blocks in the order of hash and key.
use Rattle.std.specs.Prelude.{ℕ, ◌≡◌, ◌+◌, ◌*◌, ◌^◌, ◌≤◌, List}
use Rattle.zone_region.specs.Words.{Words}
use Rattle.offset_tree.specs.declared.tree.Tree.{Tree}
use Rattle.offset_tree.specs.Inside.Shape.{Shape, Path, plug, blocks_of}
use Rattle.zone_region.specs.Members.{In}
use Rattle.offset_tree.specs.Inside.Links.{colour_value, Lies, IsShape}
use Rattle.offset_tree.specs.Inside.Balance.{red_of, IsBalanced, depth_of, Settled}
use Rattle.offset_tree.specs.Keys.{Rank, rank_of, HoldsKey, IsOrdered}

-- A red-black tree of these blocks lies in the words, in strictly increasing order of hash and key.
pub record IsDrawn (m : Words) (t : Tree) (xs : List ℕ) : Type 0 where
  pub settled : Settled m t.context.at xs
  pub ordered : IsOrdered m t.form xs
  pub keys : (x : ℕ) → In x xs → HoldsKey m t.form x
  pub ends : t.context.at + 64 ≤ 2 ^ 63

-- a search has come to `at`: a block of this rank can only stand in the part below
pub record Searching (m : Words) (t : Tree) (rank : Rank) (xs : List ℕ) (at round : ℕ) : Type 0 where
  pub path : Path
  pub part : Shape
  pub height : ℕ
  pub parent : ℕ
  pub shape : IsShape m t.context.at (plug path part)
  pub lies : Lies m (t.context.at + 24) part at parent
  pub deep : depth_of path ≡ round
  pub balanced : IsBalanced part height
  pub ordered : IsOrdered m t.form (blocks_of part)
  pub within : (x : ℕ) → In x (blocks_of part) → In x xs
  pub all : (x : ℕ) → In x xs → rank_of m t.form x ≡ rank → In x (blocks_of part)

-- the same, with the steps that are taken: `unit` steps for each node that is still below
pub record Sought (m : Words) (t : Tree) (rank : Rank) (xs : List ℕ) (height at round start now unit : ℕ) : Type 0 where
  pub search : Searching m t rank xs at round
  pub paid : now + (2 * search.height + colour_value (red_of search.part)) * unit ≤ start + 1 + 2 * height * unit
