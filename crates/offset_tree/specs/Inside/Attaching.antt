-- A block that is put into an empty place.
use Rattle.std.specs.Prelude.{ℕ, ◌≡◌, ◌≢◌, ◌⊎◌, ◌+◌, ◌^◌, ◌<◌, ◌≤◌, Bool, true, length}
use Rattle.zone_region.specs.Words.{Words, word_at, SetsWord}
use Rattle.offset_tree.specs.declared.side.Side.{Side}
use Rattle.offset_tree.specs.Inside.Sides.{child_word}
use Rattle.offset_tree.specs.Inside.Shape.{Shape, leaf, Path, plug, hits, IsHole}
use Rattle.offset_tree.specs.Inside.Links.{IsShape, with_colour}

-- the block isn't in the tree, and could be
pub record IsFresh (m : Words) (context b : ℕ) (t : Shape) : Type 0 where
  pub room : 5 ≤ length (m b)
  pub new : hits b t ≡ 0
  pub apart : (b ≢ context) × (b ≢ context + 24) × (b ≢ 0)
  pub below : b < 2 ^ 63

-- an empty place under `p` on this side
pub record Gap (m : Words) (context p : ℕ) (side : Side) (k : Path) (b : ℕ) : Type 0 where
  pub shape : IsShape m context (plug k leaf)
  pub hole : IsHole k p side
  pub fresh : IsFresh m context b (plug k leaf)

-- the block is a red one without children under `p`
pub record Cleared (m n : Words) (nil b p : ℕ) : Type 0 where
  pub left : word_at n b 1 ≡ nil
  pub right : word_at n b 2 ≡ nil
  pub parent : word_at n b 3 ≡ p
  pub colour : word_at n b 4 ≡ with_colour (word_at m b 4) true
  pub rest : (i : ℕ) → (i ≡ 0) ⊎ (5 ≤ i) → word_at n b i ≡ word_at m b i
  pub others : (z : ℕ) → z ≢ b → n z ≡ m z
  pub lengths : (z : ℕ) → length (n z) ≡ length (m z)

-- `b` is linked under `p` on this side, or as the root where `p` is 0
pub record Linked (m n : Words) (context p : ℕ) (side : Side) (b : ℕ) : Type 0 where
  pub root : p ≡ 0 → SetsWord m n context 0 b
  pub child : p ≢ 0 → SetsWord m n p (child_word side) b

-- the block has these links and this colour
pub record Filled (m n : Words) (y l r p : ℕ) (c : Bool) : Type 0 where
  pub left : word_at n y 1 ≡ l
  pub right : word_at n y 2 ≡ r
  pub parent : word_at n y 3 ≡ p
  pub colour : word_at n y 4 ≡ with_colour (word_at m y 4) c
  pub rest : (i : ℕ) → (i ≡ 0) ⊎ (5 ≤ i) → word_at n y i ≡ word_at m y i
  pub others : (z : ℕ) → z ≢ y → n z ≡ m z
  pub lengths : (z : ℕ) → length (n z) ≡ length (m z)
