-- How a tree lies in words.
use Rattle.std.specs.Prelude.{ℕ, ◌≡◌, ◌≢◌, ◌⊎◌, ◌+◌, ◌-◌, ◌%◌, ◌^◌, ◌<◌, ◌≤◌, ◌==◌, if◌then◌else◌, Bool, true, false, length, slice_set}
use Rattle.zone_region.specs.Words.{Words, word_at, SetsWord}
use Rattle.offset_tree.specs.declared.side.Side.{Side}
use Rattle.offset_tree.specs.declared.side.Side.TheVariants.{Left, Right}
use Rattle.offset_tree.specs.Inside.Sides.{child_word, other_of}
use Rattle.offset_tree.specs.Inside.Shape.{Shape, leaf, node, Path, top, step, hits}

-- a colour as the byte that stands for it
abbrev pub colour_value : Bool → ℕ
colour_value true = 1
colour_value false = 0

-- the block has this colour
abbrev pub IsColoured : Words → ℕ → Bool → Type 0
IsColoured m x c = word_at m x 4 % 256 ≡ colour_value c

-- the tree lies at offset `o` under parent `p`
abbrev pub Lies : Words → ℕ → Shape → ℕ → ℕ → Type 0
Lies m nil leaf o p = o ≡ nil
Lies m nil (node c l x r) o p = (o ≡ x) × (word_at m x 3 ≡ p) × IsColoured m x c × Lies m nil l (word_at m x 1) x × Lies m nil r (word_at m x 2) x

-- the way lies around a place at offset `o` under parent `p`
abbrev pub LiesAround : Words → ℕ → ℕ → Path → ℕ → ℕ → Type 0
LiesAround m nil root top o p = (root ≡ o) × (p ≡ 0)
LiesAround m nil root (step s c x far up) o p =
    (p ≡ x) × (word_at m x (child_word s) ≡ o) × IsColoured m x c × Lies m nil far (word_at m x (child_word (other_of s))) x × LiesAround m nil root up x (word_at m x 3)

-- the tree of this context has this shape
pub record IsShape (m : Words) (context : ℕ) (t : Shape) : Type 0 where
  pub head : 8 ≤ length (m context)
  pub room : (z : ℕ) → 0 < hits z t → 5 ≤ length (m z)
  pub tidy : (z : ℕ) → hits z t ≤ 1
  pub apart : (z : ℕ) → 0 < hits z t → (z ≢ context) × (z ≢ context + 24) × (z ≢ 0)
  pub below : (z : ℕ) → 0 < hits z t → z < 2 ^ 63
  pub lies : Lies m (context + 24) t (word_at m context 0) 0

-- two words of the block changed
pub record SetsTwo (old new : Words) (o i v j w : ℕ) : Type 0 where
  pub changed : new o ≡ slice_set (slice_set (old o) i v) j w
  pub others : (p : ℕ) → p ≢ o → new p ≡ old p

-- the parent of `o` was set, unless `o` is the sentinel
pub record SetsParent (old new : Words) (nil o p : ℕ) : Type 0 where
  pub here : o ≢ nil → new o ≡ slice_set (old o) 3 p
  pub others : (z : ℕ) → (z ≢ o) ⊎ (o ≡ nil) → new z ≡ old z

-- where `p` (or, at 0, the root) linked `o`, it now links `v`
pub record Replaces (old new : Words) (context p o v : ℕ) : Type 0 where
  pub root : p ≡ 0 → SetsWord old new context 0 v
  pub left : p ≢ 0 → word_at old p 1 ≡ o → SetsWord old new p 1 v
  pub right : p ≢ 0 → word_at old p 1 ≢ o → SetsWord old new p 2 v

-- the block there is red; the sentinel is black
abbrev pub red_at : Words → ℕ → ℕ → Bool
red_at m nil o = if o == nil then false else (word_at m o 4 % 256 == 1)

-- the colour word with this colour
abbrev pub with_colour : ℕ → Bool → ℕ
with_colour w c = w - w % 256 + colour_value c

-- on which side of `p` the block `o` is linked
abbrev pub side_at : Words → ℕ → ℕ → Side
side_at m p o = if word_at m p 1 == o then Left else Right
