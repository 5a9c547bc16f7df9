-- The bits of a page of a class, read in one way for small, exact and big classes.
use Rattle.std.specs.Prelude.{ℕ, ◌≡◌, ◌⊎◌, ◌+◌, ◌*◌, ◌/◌, ◌^◌, ◌%◌, ◌<◌, ◌≤◌, true, List, slice_index}
use Rattle.std.specs.Int.{bit_at}
use Rattle.zone_region.specs.Members.{In}
use Rattle.slab_model.specs.declared.shape.Shape.{Shape}
use Rattle.slab_model.specs.Geometry.{Kind, small, exact, big, kind_of, class_count, first_index, blocks_in_page}
use Rattle.slab_model.specs.Numbers.{is_member}
use Rattle.slab_pages.specs.Places.{page_word, descriptor, slab_at}
use Rattle.slab_pages.specs.SlabLayout.{LaysBits}

-- word `j` of a page's bits: one of its bitmap, its slab word, or the upper half of that
abbrev pub bits_word : Kind → List ℕ → Shape → ℕ → ℕ → ℕ
bits_word small words shape page j = slice_index words (page_word shape page + j)
bits_word exact words shape page j = slab_at words (descriptor page)
bits_word big words shape page j = slab_at words (descriptor page) / 2 ^ 32

-- the half of the slab word that holds a big class's shift
abbrev pub HasShift : Kind → List ℕ → ℕ → ℕ → Type 0
HasShift small words page class = slab_at words (descriptor page) ≡ 3 + class
HasShift exact words page class = Unit {0}
HasShift big words page class = slab_at words (descriptor page) % 2 ^ 32 ≡ 3 + class

-- the values that a word of the bits can have
abbrev pub bits_limit : Kind → ℕ
bits_limit small = 2 ^ 64
bits_limit exact = 2 ^ 64
bits_limit big = 2 ^ 32

-- word `j` of the bits of a page of the class with these used indexes: set are the bits of used blocks and of a bitmap's own
pub record IsBitsWord (shape : Shape) (class j : ℕ) (used : List ℕ) (v : ℕ) : Type 0 where
  pub set : (k : ℕ) → k < 64 → bit_at v k ≡ 1 → (64 * j + k < first_index shape class) ⊎ (is_member (64 * j + k) used ≡ true)
  pub own : (k : ℕ) → k < 64 → 64 * j + k < first_index shape class → bit_at v k ≡ 1
  pub used_set : (k : ℕ) → k < 64 → is_member (64 * j + k) used ≡ true → bit_at v k ≡ 1

-- a page of the class with these used indexes, all of blocks that it can grant
pub record HasBits (words : List ℕ) (shape : Shape) (page class : ℕ) (used : List ℕ) : Type 0 where
  pub known : class < class_count shape
  pub bits : LaysBits (kind_of shape class) words shape page class used
  pub usable : (index : ℕ) → In index used → (first_index shape class ≤ index) × (index < blocks_in_page shape class)
