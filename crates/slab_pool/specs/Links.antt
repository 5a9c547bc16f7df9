-- A class's list of pages, as it is linked through heads and descriptors, and what one new link changes.
use Rattle.std.specs.Prelude.{ℕ, ◌≡◌, ◌≢◌, ◌⊎◌, ◌+◌, ◌/◌, List, [], ◌∷◌, length, slice_index}
use Rattle.slab_pages.specs.Places.{class_head, descriptor, next_at, prev_at}

-- from the descriptor at `o` on, these pages are linked, each with this type in its prev word, and back at the head the list ends
abbrev pub Linked : List ℕ → ℕ → ℕ → ℕ → List ℕ → Type 0
Linked words head type o [] = next_at words o ≡ head
Linked words head type o (page ∷ pages) = (next_at words o ≡ descriptor page) × (prev_at words (descriptor page) ≡ o + type) × Linked words head type (descriptor page) pages

-- the offset of the head of the class's list, or of a page's descriptor
abbrev pub IsNode : ℕ → ℕ → Type 0
IsNode class o = (o ≡ class_head class) ⊎ ((page : ℕ) × (o ≡ descriptor page))

-- the descriptor at `b` follows the one at `a` in the class's list, whose head has no word that points back
pub record LinksPages (class type : ℕ) (old new : List ℕ) (a b : ℕ) : Type 0 where
  pub same_length : length new ≡ length old
  pub next : next_at new a ≡ b
  pub prev : b ≢ class_head class → prev_at new b ≡ a + type
  pub others : (w : ℕ) → w ≢ a / 8 + 1 → (b ≢ class_head class → w ≢ b / 8 + 2) → slice_index new w ≡ slice_index old w
