-- Trees as they are drawn, and places in them.
use Rattle.std.specs.Prelude.{ℕ, ◌≡◌, ◌+◌, Bool, List, [], ◌∷◌, ◌++◌, if◌then◌else◌, ◌==◌}
use Rattle.offset_tree.specs.declared.side.Side.{Side}
use Rattle.offset_tree.specs.declared.side.Side.TheVariants.{Left, Right}

-- a tree of blocks: red or black, what is on the left, the block, what is on the right
pub data Shape : Type 0 where
  leaf : Shape
  node : (red : Bool) (left : Shape) (at : ℕ) (right : Shape) → Shape

-- its blocks in order
abbrev pub blocks_of : Shape → List ℕ
blocks_of leaf = []
blocks_of (node c l x r) = blocks_of l ++ x ∷ blocks_of r

-- a node with `near` on this side and `far` on the other
abbrev pub branch : Side → Bool → Shape → ℕ → Shape → Shape
branch Left c near x far = node c near x far
branch Right c near x far = node c far x near

-- the way from a place in a tree up to the root: on which side of `at` the place is, and what is on the other side
pub data Path : Type 0 where
  top : Path
  step : (side : Side) (red : Bool) (at : ℕ) (far : Shape) (up : Path) → Path

-- the tree with `t` in that place
abbrev pub plug : Path → Shape → Shape
plug top t = t
plug (step s c x far up) t = plug up (branch s c t x far)

-- the place is under `p` on this side, or the root where `p` is 0
abbrev pub IsHole : Path → ℕ → Side → Type 0
IsHole top p s = p ≡ 0
IsHole (step s' c x far up) p s = (p ≡ x) × (s ≡ s')

-- how often `z` is `x`
unfoldable pub one : ℕ → ℕ → ℕ
one z x = if x == z then 1 else 0

-- how often `z` stands in the tree
abbrev pub hits : ℕ → Shape → ℕ
hits z leaf = 0
hits z (node c l x r) = hits z l + (one z x + hits z r)

-- how often `z` stands on the way up or beside it
abbrev pub hits_path : ℕ → Path → ℕ
hits_path z top = 0
hits_path z (step s c x far up) = one z x + hits z far + hits_path z up

-- `x` has `y` on the side other than `s`; a turn brings `y` up and `x` down on side `s`
abbrev pub before_turn : Side → Bool → Bool → Shape → ℕ → Shape → ℕ → Shape → Shape
before_turn s c d a x b y e = branch s c a x (branch s d b y e)

-- the tree after it
abbrev pub after_turn : Side → Bool → Bool → Shape → ℕ → Shape → ℕ → Shape → Shape
after_turn s c d a x b y e = branch s d (branch s c a x b) y e
