-- What a change of some words of a zone leaves as it was.
use Rattle.std.specs.Prelude.{ℕ, ◌≡◌, ◌≢◌, ◌⊎◌, ◌+◌, ◌<◌, ◌≤◌, List, length, slice_index}
use Rattle.slab_model.specs.declared.page.PageState.TheVariants.{Class}
use Rattle.slab_model.specs.Geometry.{kind_of, small}
use Rattle.slab_model.specs.State.{Slab, page_at, pages_in}
use Rattle.slab_pages.specs.Places.{log_ctx_word, data_word, stat_word, descriptor_word, page_word, bitmap_words, slab_at, next_at, prev_at}

-- the words from `low` up to `high` are as before
abbrev pub SameFrom : List ℕ → List ℕ → ℕ → ℕ → Type 0
SameFrom old new low high = (w : ℕ) → low ≤ w → w < high → slice_index new w ≡ slice_index old w

-- the three words of a descriptor are as before
pub record SameWords (old new : List ℕ) (o : ℕ) : Type 0 where
  pub slab : slab_at new o ≡ slab_at old o
  pub next : next_at new o ≡ next_at old o
  pub prev : prev_at new o ≡ prev_at old o

-- its two links are as before
pub record SameLinks (old new : List ℕ) (o : ℕ) : Type 0 where
  pub next : next_at new o ≡ next_at old o
  pub prev : prev_at new o ≡ prev_at old o

-- no word but those from `low` up to `high` changed
pub record ChangesFrom (old new : List ℕ) (low high : ℕ) : Type 0 where
  pub same_length : length new ≡ length old
  pub others : (w : ℕ) → (w < low) ⊎ (high ≤ w) → slice_index new w ≡ slice_index old w

-- only the statistics of this class changed
abbrev pub ChangesStat : List ℕ → List ℕ → ℕ → Type 0
ChangesStat old new class = ChangesFrom old new (stat_word class) (stat_word class + 4)

-- every word that the layout of the slab speaks of is as before
pub record SameLaid (old new : List ℕ) (slab : Slab) : Type 0 where
  pub same_length : length new ≡ length old
  pub low : (w : ℕ) → w < descriptor_word (pages_in slab) → w ≢ log_ctx_word → w ≢ data_word → slice_index new w ≡ slice_index old w
  pub bitmaps : (page class : ℕ) (used : List ℕ) → page_at slab.pages page ≡ Class class used → kind_of slab.shape class ≡ small → SameFrom old new (page_word slab.shape page) (page_word slab.shape page + bitmap_words slab.shape class)
