-- What the steps of taking and giving back a run leave in the words.
use Rattle.std.specs.Prelude.{ℕ, ◌≡◌, ◌≢◌, ◌⊎◌, ◌+◌, ◌-◌, ◌/◌, ◌<◌, ◌≤◌, false, nat_eq, List, [], ◌∷◌, length, slice_index, if◌then◌else◌}
use Rattle.slab_model.specs.declared.runs.Run.{Run}
use Rattle.slab_model.specs.Runs.{IsRunApart, AreSound, is_covered, pages_from, pages_before, take_run, give_run}
use Rattle.slab_pages.specs.Places.{free_head, pfree_word, descriptor, slab_at, next_at, prev_at, HasWords, KeepsOthers, page_limit, descriptor_word}
use Rattle.slab_pages.specs.Frames.{SameWords}
use Rattle.slab_pages.specs.Layout.{HasTail, LaysFrom, IsBusy, HasUsedRun}

-- the words lay out this list of free runs of a zone of so many pages; the count of free pages aside
pub record LaysList (count : ℕ) (words : List ℕ) (runs : List Run) : Type 0 where
  pub small : count ≤ page_limit
  pub room : descriptor_word count ≤ length words
  pub sound : AreSound count runs
  pub slab_is : slab_at words free_head ≡ 0
  pub prev_is : prev_at words free_head ≡ 0
  pub linked : LaysFrom words free_head runs

-- the descriptor at `b` follows the one at `a` in a list, and the head has no word that points back
pub record Links (old new : List ℕ) (a b : ℕ) : Type 0 where
  pub same_length : length new ≡ length old
  pub next : next_at new a ≡ b
  pub prev : b ≢ free_head → prev_at new b ≡ a
  pub head : b ≡ free_head → prev_at new b ≡ prev_at old b
  pub others : (w : ℕ) → w ≢ a / 8 + 1 → w ≢ b / 8 + 2 → slice_index new w ≡ slice_index old w

-- the descriptor at `o` has these words, and nothing else changed
pub record SetsWords (old new : List ℕ) (o slab next prev : ℕ) : Type 0 where
  pub same_length : length new ≡ length old
  pub has : HasWords new o slab next prev
  pub others : (w : ℕ) → (w < o / 8) ⊎ (o / 8 + 3 ≤ w) → slice_index new w ≡ slice_index old w

-- the descriptors of these pages have this slab word and no links, and nothing else changed
pub record FillsRun (old new : List ℕ) (first count slab : ℕ) : Type 0 where
  pub same_length : length new ≡ length old
  pub filled : (page : ℕ) → first ≤ page → page < first + count → HasWords new (descriptor page) slab 0 0
  pub others : (w : ℕ) → (w < descriptor_word first) ⊎ (descriptor_word (first + count) ≤ w) → slice_index new w ≡ slice_index old w

-- the later pages have no slab word and no next, and but for the last one no prev
pub record IsBlank (words : List ℕ) (run : Run) : Type 0 where
  pub slabs : (page : ℕ) → run.first < page → page < run.first + run.pages → slab_at words (descriptor page) ≡ 0
  pub nexts : (page : ℕ) → run.first < page → page < run.first + run.pages → next_at words (descriptor page) ≡ 0
  pub prevs : (page : ℕ) → run.first < page → page + 1 < run.first + run.pages → prev_at words (descriptor page) ≡ 0

-- a run's first and last descriptor are written, but for the links of the list
pub record BeginsRun (old new : List ℕ) (run : Run) : Type 0 where
  pub same_length : length new ≡ length old
  pub slab : slab_at new (descriptor run.first) ≡ run.pages
  pub next : next_at new (descriptor run.first) ≡ next_at old (descriptor run.first)
  pub tail : IsBlank old run → HasTail new run
  pub others : (w : ℕ) → (w < descriptor_word run.first) ⊎ (descriptor_word (run.first + run.pages) ≤ w) → slice_index new w ≡ slice_index old w

-- the list, but at the run that begins at `first` the rest of the list is made anew
abbrev pub change : ℕ → (Run → List Run → List Run) → List Run → List Run
change first f [] = []
change first f (x ∷ xs) = if nat_eq x.first first then f x xs else x ∷ change first f xs

-- the list without the run that begins at `first`
abbrev pub without_run : ℕ → List Run → List Run
without_run first runs = change first (λ x xs. xs) runs

-- the run that begins at `first` left the list, and its descriptors are as before
pub record Unlinks (count : ℕ) (runs : List Run) (old new : List ℕ) (first : ℕ) : Type 0 where
  pub laid : LaysList count new (without_run first runs)
  pub own : (page : ℕ) → first ≤ page → page < first + pages_from first runs → SameWords old new (descriptor page)
  pub kept : KeepsOthers runs old new
  pub free : slice_index new pfree_word ≡ slice_index old pfree_word

-- the run that begins at `first` left the list, and its descriptors are cleared
pub record Detaches (count : ℕ) (runs : List Run) (old new : List ℕ) (first pages : ℕ) : Type 0 where
  pub pages_are : pages ≡ pages_from first runs
  pub laid : LaysList count new (without_run first runs)
  pub cleared : (page : ℕ) → first ≤ page → page < first + pages → HasWords new (descriptor page) 0 0 0
  pub kept : KeepsOthers runs old new
  pub free : slice_index new pfree_word ≡ slice_index old pfree_word

-- the list is this one now, and but for its descriptors everything is as before
pub record Relists (count : ℕ) (runs after : List Run) (old new : List ℕ) : Type 0 where
  pub laid : LaysList count new after
  pub kept : KeepsOthers runs old new
  pub free : slice_index new pfree_word ≡ slice_index old pfree_word

-- no page of the run is listed, and all its descriptors are cleared
pub record IsCleared (count : ℕ) (words : List ℕ) (runs : List Run) (run : Run) : Type 0 where
  pub some : 0 < run.pages
  pub within : run.first + run.pages ≤ count
  pub apart : IsRunApart run runs
  pub cleared : (page : ℕ) → run.first ≤ page → page < run.first + run.pages → HasWords words (descriptor page) 0 0 0

-- the run that begins at this page is free, or the page isn't, or it is the end of the zone
abbrev pub IsAfter : ℕ → List ℕ → List Run → ℕ → Type 0
IsAfter count words runs page = (page ≡ count) ⊎ (0 < pages_from page runs) ⊎ ((page < count) × IsBusy words page)

-- the run that ends right before this page is free, or the page before isn't
abbrev pub IsBefore : ℕ → List ℕ → List Run → ℕ → Type 0
IsBefore count words runs page = (0 < pages_before page runs) ⊎ ((0 < page) × (page ≤ count) × IsBusy words (page - 1))

-- the first descriptor of the run whose last one is at `o`
abbrev pub start_at : List ℕ → ℕ → ℕ
start_at words o = if nat_eq (slab_at words o) 0 then prev_at words o else o

-- the descriptors of a used run are written, and nothing else changed
pub record MarksUsed (old new : List ℕ) (first n : ℕ) : Type 0 where
  pub same_length : length new ≡ length old
  pub used : HasUsedRun new first n
  pub others : (w : ℕ) → (w < descriptor_word first) ⊎ (descriptor_word (first + n) ≤ w) → slice_index new w ≡ slice_index old w

-- pages are taken from the first run that has as many
pub record TakesRun (count : ℕ) (runs : List Run) (old new : List ℕ) (first n : ℕ) : Type 0 where
  pub laid : LaysList count new (take_run n runs)
  pub counted : slice_index new pfree_word + n ≡ slice_index old pfree_word
  pub used : HasUsedRun new first n
  pub kept : KeepsOthers runs old new

-- a used run came back
pub record GivesRun (count : ℕ) (runs : List Run) (old new : List ℕ) (run : Run) : Type 0 where
  pub laid : LaysList count new (give_run run runs)
  pub counted : slice_index new pfree_word ≡ slice_index old pfree_word + run.pages
  pub kept : KeepsOthers (give_run run runs) old new

-- none of the pages from `first` up to `end` is in these runs
abbrev pub IsClearOfFree : List Run → ℕ → ℕ → Type 0
IsClearOfFree runs first end = (page : ℕ) → first ≤ page → page < end → is_covered page runs ≡ false
