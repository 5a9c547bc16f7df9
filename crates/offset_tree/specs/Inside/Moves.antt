-- Changes of a tree, as they are drawn, and what they leave alone.
use Rattle.std.specs.Prelude.{ℕ, ◌≡◌, ◌≢◌, ◌⊎◌, ◌/◌, ◌≤◌, Bool, length}
use Rattle.zone_region.specs.Words.{Words, word_at}
use Rattle.offset_tree.specs.declared.side.Side.{Side}
use Rattle.offset_tree.specs.Inside.Shape.{Shape, branch, Path, plug, hits, before_turn, after_turn}

-- where a tree is turned: all but the block and the side
pub record Turn : Type 0 where
  pub path : Path
  pub red : Bool
  pub child_red : Bool
  pub near : Shape
  pub inner : Shape
  pub child : ℕ
  pub outer : Shape

-- the tree before the turn
abbrev pub unturned : Turn → Side → ℕ → Shape
unturned u s x = plug u.path (before_turn s u.red u.child_red u.near x u.inner u.child u.outer)

-- the tree after the turn
abbrev pub turned : Turn → Side → ℕ → Shape
turned u s x = plug u.path (after_turn s u.red u.child_red u.near x u.inner u.child u.outer)

-- where a block stands in a tree
pub record Spot : Type 0 where
  pub path : Path
  pub side : Side
  pub red : Bool
  pub near : Shape
  pub far : Shape

-- the tree with this block at the spot
abbrev pub shape_at : Spot → ℕ → Shape
shape_at u x = plug u.path (branch u.side u.red u.near x u.far)

-- the same, with the block in this colour
abbrev pub recoloured : Spot → ℕ → Bool → Shape
recoloured u x c = plug u.path (branch u.side c u.near x u.far)

-- Only links and colours of the tree's blocks changed, and the root.
pub record ChangesTree (old new : Words) (context : ℕ) (t : Shape) : Type 0 where
  pub lengths : (z : ℕ) → length (new z) ≡ length (old z)
  pub others : (z : ℕ) → z ≢ context → hits z t ≡ 0 → new z ≡ old z
  pub nodes : (z i : ℕ) → z ≢ context → (i ≡ 0) ⊎ (5 ≤ i) → word_at new z i ≡ word_at old z i
  pub flags : (z : ℕ) → z ≢ context → word_at new z 4 / 256 ≡ word_at old z 4 / 256
  pub head : (i : ℕ) → i ≢ 0 → word_at new context i ≡ word_at old context i
