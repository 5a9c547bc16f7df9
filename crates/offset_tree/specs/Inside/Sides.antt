-- The two sides of a node.
use Rattle.std.specs.Prelude.{ℕ}
use Rattle.offset_tree.specs.declared.side.Side.{Side}
use Rattle.offset_tree.specs.declared.side.Side.TheVariants.{Left, Right}

-- the word of a node that links its child on that side
abbrev pub child_word : Side → ℕ
child_word Left = 1
child_word Right = 2

-- the other side
abbrev pub other_of : Side → Side
other_of Left = Right
other_of Right = Left
