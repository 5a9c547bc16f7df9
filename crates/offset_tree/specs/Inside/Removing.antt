-- Where a block is taken out, and what stands afterwards.
use Rattle.std.specs.Prelude.{ℕ, ◌≡◌, ◌≢◌, ◌+◌, ◌≤◌, Bool, List, ◌++◌}
use Rattle.zone_region.specs.Words.{Words}
use Rattle.offset_tree.specs.Inside.Shape.{Shape, node, Path, plug, blocks_of}
use Rattle.offset_tree.specs.Inside.Links.{Lies, IsShape}
use Rattle.offset_tree.specs.Inside.Balance.{depth_of}

-- where a block stands in a tree
pub record Seat : Type 0 where
  pub path : Path
  pub red : Bool
  pub left : Shape
  pub right : Shape

-- the tree with this block at the seat
abbrev pub seated : Seat → ℕ → Shape
seated u x = plug u.path (node u.red u.left x u.right)

-- the block at `at` has nothing before it but `before`
pub record Leftward (m : Words) (context at : ℕ) (tree : Shape) (before : List ℕ) (depth : ℕ) : Type 0 where
  pub path : Path
  pub part : Shape
  pub parent : ℕ
  pub whole : plug path part ≡ tree
  pub shape : IsShape m context tree
  pub lies : Lies m (context + 24) part at parent
  pub live : at ≢ context + 24
  pub after : List ℕ
  pub split : (u : Shape) → blocks_of (plug path u) ≡ before ++ (blocks_of u ++ after)
  pub deep : depth ≤ depth_of path
