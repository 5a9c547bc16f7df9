-- The states of the insert fixup, after a red block was put in.
use Rattle.std.specs.Prelude.{ℕ, ◌≡◌, suc, true, false, List}
use Rattle.zone_region.specs.Words.{Words}
use Rattle.offset_tree.specs.declared.side.Side.{Side}
use Rattle.offset_tree.specs.Inside.Shape.{Shape, node, branch, Path, plug, blocks_of}
use Rattle.offset_tree.specs.Inside.Links.{IsShape}
use Rattle.offset_tree.specs.Inside.Balance.{red_of, IsBalanced, IsPathBalanced, depth_of}

-- all is well but that the red block `x` may stand at the root or under a red block
pub record Rising (m : Words) (context x : ℕ) (xs : List ℕ) (depth : ℕ) : Type 0 where
  pub path : Path
  pub side : Side
  pub near : Shape
  pub far : Shape
  pub height : ℕ
  pub shape : IsShape m context (plug path (branch side true near x far))
  pub balanced : IsBalanced (branch side true near x far) height
  pub around : IsPathBalanced path height
  pub blocks : blocks_of (plug path (branch side true near x far)) ≡ xs
  pub deep : depth_of path ≡ depth

-- the red `x` stands under the red `p`, which stands on this side of the black `g`
pub record Conflict (m : Words) (context x p g : ℕ) (side : Side) (xs : List ℕ) (depth : ℕ) : Type 0 where
  pub path : Path
  pub x_side : Side
  pub low_side : Side
  pub near : Shape
  pub far : Shape
  pub beside : Shape
  pub uncle : Shape
  pub height : ℕ
  pub shape : IsShape m context (plug path (branch side false (branch x_side true (branch low_side true near x far) p beside) g uncle))
  pub balanced : IsBalanced (branch low_side true near x far) height
  pub beside_black : red_of beside ≡ false
  pub beside_balanced : IsBalanced beside height
  pub uncle_balanced : IsBalanced uncle height
  pub around : IsPathBalanced path (suc height)
  pub blocks : blocks_of (plug path (branch side false (branch x_side true (branch low_side true near x far) p beside) g uncle)) ≡ xs
  pub deep : suc (suc (depth_of path)) ≡ depth

-- a conflict whose uncle is the red `v`
pub record RedUncle (m : Words) (context p v g : ℕ) (xs : List ℕ) (depth : ℕ) : Type 0 where
  pub path : Path
  pub side : Side
  pub x_side : Side
  pub low : Shape
  pub beside : Shape
  pub left : Shape
  pub right : Shape
  pub height : ℕ
  pub shape : IsShape m context (plug path (branch side false (branch x_side true low p beside) g (node true left v right)))
  pub low_balanced : IsBalanced low height
  pub beside_balanced : IsBalanced beside height
  pub uncle_balanced : IsBalanced (node true left v right) height
  pub around : IsPathBalanced path (suc height)
  pub blocks : blocks_of (plug path (branch side false (branch x_side true low p beside) g (node true left v right))) ≡ xs
  pub deep : suc (suc (depth_of path)) ≡ depth

-- the red `p` with a child that may be red on the same outer side, under the black `g`
pub record Straight (m : Words) (context p g : ℕ) (side : Side) (xs : List ℕ) : Type 0 where
  pub path : Path
  pub outer : Shape
  pub inner : Shape
  pub uncle : Shape
  pub height : ℕ
  pub shape : IsShape m context (plug path (branch side false (branch side true outer p inner) g uncle))
  pub outer_balanced : IsBalanced outer height
  pub inner_black : red_of inner ≡ false
  pub inner_balanced : IsBalanced inner height
  pub uncle_black : red_of uncle ≡ false
  pub uncle_balanced : IsBalanced uncle height
  pub around : IsPathBalanced path (suc height)
  pub blocks : blocks_of (plug path (branch side false (branch side true outer p inner) g uncle)) ≡ xs
