-- The states of the delete fixup, after a black block was taken out.
use Rattle.std.specs.Prelude.{ℕ, ◌≡◌, ◌+◌, suc, Bool, true, false, List}
use Rattle.zone_region.specs.Words.{Words}
use Rattle.offset_tree.specs.declared.side.Side.{Side}
use Rattle.offset_tree.specs.Inside.Shape.{Shape, leaf, branch, Path, step, plug, blocks_of, IsHole}
use Rattle.offset_tree.specs.Inside.Links.{Lies, IsShape}
use Rattle.offset_tree.specs.Inside.Balance.{red_of, IsBalanced, IsPathBalanced, depth_of}

-- the part at `at` is one black block short
pub record Lacking (m : Words) (context at p : ℕ) (side : Side) (xs : List ℕ) (depth : ℕ) : Type 0 where
  pub path : Path
  pub part : Shape
  pub height : ℕ
  pub shape : IsShape m context (plug path part)
  pub lies : Lies m (context + 24) part at p
  pub hole : IsHole path p side
  pub balanced : IsBalanced part height
  pub around : IsPathBalanced path (suc height)
  pub blocks : blocks_of (plug path part) ≡ xs
  pub deep : depth_of path ≡ depth

-- the part on this side of the black `p` is one short, and its sibling `w` is red
pub record RedSibling (m : Words) (context p w : ℕ) (side : Side) (xs : List ℕ) : Type 0 where
  pub path : Path
  pub part : Shape
  pub near : Shape
  pub outer : Shape
  pub height : ℕ
  pub shape : IsShape m context (plug path (branch side false part p (branch side true near w outer)))
  pub part_balanced : IsBalanced part height
  pub near_black : red_of near ≡ false
  pub near_balanced : IsBalanced near (suc height)
  pub outer_balanced : IsBalanced outer (suc height)
  pub around : IsPathBalanced path (suc (suc height))
  pub blocks : blocks_of (plug path (branch side false part p (branch side true near w outer))) ≡ xs

-- the part on this side of `p` is one short, and its sibling `w` is black
pub record BlackSibling (m : Words) (context p w : ℕ) (side : Side) (xs : List ℕ) (depth : ℕ) : Type 0 where
  pub path : Path
  pub red : Bool
  pub part : Shape
  pub near : Shape
  pub outer : Shape
  pub height : ℕ
  pub shape : IsShape m context (plug path (branch side red part p (branch side false near w outer)))
  pub part_balanced : IsBalanced part height
  pub near_balanced : IsBalanced near height
  pub outer_balanced : IsBalanced outer height
  pub around : IsPathBalanced (step side red p (branch side false near w outer) path) (suc height)
  pub blocks : blocks_of (plug path (branch side red part p (branch side false near w outer))) ≡ xs
  pub deep : red ≡ false → suc (depth_of path) ≡ depth

-- the block `y` of a red-black tree has nothing on this side; `xs` are the others
pub record OneSided (m : Words) (context y : ℕ) (side : Side) (xs : List ℕ) : Type 0 where
  pub path : Path
  pub red : Bool
  pub rest : Shape
  pub height : ℕ
  pub shape : IsShape m context (plug path (branch side red leaf y rest))
  pub black : red_of (plug path (branch side red leaf y rest)) ≡ false
  pub balanced : IsBalanced (plug path (branch side red leaf y rest)) height
  pub blocks : blocks_of (plug path rest) ≡ xs
