-- Red and black trees.
use Rattle.std.specs.Prelude.{ℕ, ◌≡◌, zero, suc, Bool, true, false, List}
use Rattle.zone_region.specs.Words.{Words}
use Rattle.offset_tree.specs.Inside.Shape.{Shape, leaf, node, Path, top, step, blocks_of}
use Rattle.offset_tree.specs.Inside.Links.{IsShape}

-- whether a tree's top is red
abbrev pub red_of : Shape → Bool
red_of leaf = false
red_of (node c l x r) = c

-- each way down has `h` black blocks, and no red block has a red child
abbrev pub IsBalanced : Shape → ℕ → Type 0
IsBalanced leaf h = h ≡ 0
IsBalanced (node true l x r) h = (red_of l ≡ false) × (red_of r ≡ false) × IsBalanced l h × IsBalanced r h
IsBalanced (node false l x r) zero = ⊥
IsBalanced (node false l x r) (suc h) = IsBalanced l h × IsBalanced r h

-- only a black tree may stand here: at the root, and under a red block
abbrev pub wants_black : Path → Bool
wants_black top = true
wants_black (step s c x far up) = c

-- a tree of black height `h` fits here
abbrev pub IsPathBalanced : Path → ℕ → Type 0
IsPathBalanced top h = Unit {0}
IsPathBalanced (step s true x far up) h = (red_of far ≡ false) × IsBalanced far h × (wants_black up ≡ false) × IsPathBalanced up h
IsPathBalanced (step s false x far up) h = IsBalanced far h × IsPathBalanced up (suc h)

-- how many steps a path has
abbrev pub depth_of : Path → ℕ
depth_of top = 0
depth_of (step s c x far up) = suc (depth_of up)

-- a red-black tree of these blocks lies in the words
pub record Settled (m : Words) (context : ℕ) (xs : List ℕ) : Type 0 where
  pub tree : Shape
  pub height : ℕ
  pub shape : IsShape m context tree
  pub black : red_of tree ≡ false
  pub balanced : IsBalanced tree height
  pub blocks : blocks_of tree ≡ xs
