-- How runs of pages are laid out in the words of a zone.
use Rattle.std.specs.Prelude.{ℕ, ◌≡◌, ◌≢◌, ◌⊎◌, ◌+◌, ◌-◌, ◌/◌, ◌%◌, ◌^◌, ◌<◌, ◌≤◌, false, List, [], ◌∷◌, length, slice_index}
use Rattle.slab_model.specs.declared.runs.Run.{Run}
use Rattle.slab_model.specs.Geometry.{pages_of}
use Rattle.slab_model.specs.Runs.{AreSound, is_covered, page_total}
use Rattle.slab_pages.specs.Places.{Image, is_list_word, is_run_word, free_head, pfree_word, descriptor, slab_at, next_at, prev_at, HasWords}

-- the later pages of a free run: zeros, and in the last one the way back to the first
pub record HasTail (words : List ℕ) (run : Run) : Type 0 where
  pub between : (page : ℕ) → run.first < page → page + 1 < run.first + run.pages → HasWords words (descriptor page) 0 0 0
  pub last : 1 < run.pages → HasWords words (descriptor (run.first + run.pages - 1)) 0 0 (descriptor run.first)

-- from the descriptor at `o` on, these free runs are linked, and back at the head the list ends
abbrev pub LaysFrom : List ℕ → ℕ → List Run → Type 0
LaysFrom words o [] = next_at words o ≡ free_head
LaysFrom words o (run ∷ runs) = (next_at words o ≡ descriptor run.first) × (slab_at words (descriptor run.first) ≡ run.pages) × (prev_at words (descriptor run.first) ≡ o) × HasTail words run × LaysFrom words (descriptor run.first) runs

-- the words lay out this list of free runs, which is sound
pub record LaysRuns (image : Image) (runs : List Run) : Type 0 where
  pub sized : length image.words ≡ image.shape.bytes / 8
  pub sound : AreSound (pages_of image.shape) runs
  pub slab_is : slab_at image.words free_head ≡ 0
  pub prev_is : prev_at image.words free_head ≡ 0
  pub linked : LaysFrom image.words free_head runs
  pub counted : slice_index image.words pfree_word ≡ page_total runs

-- word `w` of the zone may be set: no free run is kept in it
pub record MaySet (image : Image) (w : ℕ) : Type 0 where
  pub within : w < length image.words
  pub not_listed : is_list_word w ≡ false
  pub not_free : (runs : List Run) × LaysRuns image runs × (is_run_word runs w ≡ false)

-- the first page of a used run of so many pages, and its later pages
pub record HasUsedRun (words : List ℕ) (page count : ℕ) : Type 0 where
  pub first : HasWords words (descriptor page) (count + 2 ^ 63) 0 0
  pub later : (other : ℕ) → page < other → other < page + count → HasWords words (descriptor other) (2 ^ 64 - 1) 0 0

-- the descriptor of a page that isn't free: its type isn't that of whole pages, or it is in no list
abbrev pub IsBusy : List ℕ → ℕ → Type 0
IsBusy words page = (prev_at words (descriptor page) % 4 ≢ 0) ⊎ ((next_at words (descriptor page) ≡ 0) × (slab_at words (descriptor page) ≢ 0))

-- these pages can come back to a zone of so many: they lie in it, none of them is free, and a page right beside them that isn't free has the descriptor of one; that they are a whole used run isn't asked
pub record CanComeBack (count : ℕ) (words : List ℕ) (runs : List Run) (run : Run) : Type 0 where
  pub some : 0 < run.pages
  pub within : run.first + run.pages ≤ count
  pub used : (page : ℕ) → run.first ≤ page → page < run.first + run.pages → is_covered page runs ≡ false
  pub before : (page : ℕ) → page + 1 ≡ run.first → is_covered page runs ≡ false → IsBusy words page
  pub after : run.first + run.pages < count → is_covered (run.first + run.pages) runs ≡ false → IsBusy words (run.first + run.pages)

-- these pages of the zone can come back to its free runs
abbrev pub MayPut : Image → Run → Type 0
MayPut image run = (runs : List Run) × LaysRuns image runs × CanComeBack (pages_of image.shape) image.words runs run
