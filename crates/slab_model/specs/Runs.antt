-- Runs of free pages, in the order of the pool's list.
use Rattle.std.specs.Prelude.{ℕ, ◌+◌, ◌-◌, ◌<◌, ◌≤◌, ◌⊎◌, Bool, false, not, ◌&&◌, ◌||◌, nat_le, nat_lt, nat_eq, List, [], ◌∷◌, Option, Some, None, filter, if◌then◌else◌}
use Rattle.slab_model.specs.declared.runs.Run.{Run}

-- the two runs share no page and no border
abbrev pub AreRunsApart : Run → Run → Type 0
AreRunsApart a b = (a.first + a.pages < b.first) ⊎ (b.first + b.pages < a.first)

-- the run is apart from each of these
abbrev pub IsRunApart : Run → List Run → Type 0
IsRunApart run [] = Unit {0}
IsRunApart run (other ∷ others) = AreRunsApart run other × IsRunApart run others

-- the list of free runs of a zone of so many pages: none is empty, and each is apart from all others
abbrev pub AreSound : ℕ → List Run → Type 0
AreSound count [] = Unit {0}
AreSound count (run ∷ runs) = (0 < run.pages) × (run.first + run.pages ≤ count) × IsRunApart run runs × AreSound count runs

-- the page is one of the pages from `first` on
abbrev pub is_within : ℕ → ℕ → ℕ → Bool
is_within page first count = nat_le first page && nat_lt page (first + count)

-- the page is in one of the runs
abbrev pub is_covered : ℕ → List Run → Bool
is_covered page [] = false
is_covered page (run ∷ runs) = is_within page run.first run.pages || is_covered page runs

-- the pages of all runs together
abbrev pub page_total : List Run → ℕ
page_total [] = 0
page_total (run ∷ runs) = run.pages + page_total runs

-- the first page of the first run in list order that has at least `count` pages
abbrev pub first_fit : ℕ → List Run → Option ℕ
first_fit count [] = None
first_fit count (run ∷ runs) = if nat_le count run.pages then Some run.first else first_fit count runs

-- what stands in a run's place once `count` pages are taken from its front
abbrev pub cut_run : ℕ → Run → List Run → List Run
cut_run count run runs = if nat_eq run.pages count then runs else record { first = run.first + count; pages = run.pages - count } ∷ runs

-- the list once `count` pages are taken from the front of its first run that has as many
abbrev pub take_run : ℕ → List Run → List Run
take_run count [] = []
take_run count (run ∷ runs) = if nat_le count run.pages then cut_run count run runs else run ∷ take_run count runs

-- the pages of the run that ends right before this page, 0 where none does
abbrev pub pages_before : ℕ → List Run → ℕ
pages_before page [] = 0
pages_before page (run ∷ runs) = if nat_eq (run.first + run.pages) page then run.pages else pages_before page runs

-- the pages of the run that begins at this page, 0 where none does
abbrev pub pages_from : ℕ → List Run → ℕ
pages_from page [] = 0
pages_from page (run ∷ runs) = if nat_eq run.first page then run.pages else pages_from page runs

-- a run with the free runs on both sides of it
abbrev pub merged_run : Run → List Run → Run
merged_run run runs = record {
  first = run.first - pages_before run.first runs;
  pages = pages_before run.first runs + run.pages + pages_from (run.first + run.pages) runs;
}

-- `other` ends right before the run or begins right after it
abbrev pub is_beside : Run → Run → Bool
is_beside run other = nat_eq (other.first + other.pages) run.first || nat_eq other.first (run.first + run.pages)

-- the list once a run is given back: merged with the runs beside it, which leave the list, it goes to the head
abbrev pub give_run : Run → List Run → List Run
give_run run runs = merged_run run runs ∷ filter (λ other. not (is_beside run other)) runs
