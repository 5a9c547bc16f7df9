-- The state of a slab pool: its pages, its free runs, the pages of each class that have room, and the statistics.
use Rattle.std.specs.Prelude.{ℕ, ◌+◌, zero, suc, List, [], ◌∷◌, replicate, slice_set, slice_index_or}
use Rattle.slab_model.specs.declared.runs.Run.{Run}
use Rattle.slab_model.specs.declared.shape.Shape.{Shape}
use Rattle.slab_model.specs.declared.stat.Stat.{Stat}
use Rattle.slab_model.specs.declared.page.PageState.{PageState}
use Rattle.slab_model.specs.declared.page.PageState.TheVariants.{Free}
use Rattle.slab_model.specs.Geometry.{pages_of, class_count}

-- a pool in a zone of this shape
pub record Slab : Type 0 where
  pub shape : Shape
  pub pages : List PageState
  pub runs : List Run
  pub lists : List (List ℕ)
  pub stats : List Stat

-- the number of its pages
abbrev pub pages_in : Slab → ℕ
pages_in slab = pages_of slab.shape

-- the number of its classes
abbrev pub classes_in : Slab → ℕ
classes_in slab = class_count slab.shape

-- page number `page`
abbrev pub page_at : List PageState → ℕ → PageState
page_at pages page = slice_index_or pages page Free

-- the pages of the class that have a block to grant, in list order
abbrev pub list_of : Slab → ℕ → List ℕ
list_of slab class = slice_index_or slab.lists class []

-- nothing was counted
abbrev pub no_stat : Stat
no_stat = record { total = 0; used = 0; reqs = 0; fails = 0 }

-- the statistics of the class
abbrev pub stat_of : Slab → ℕ → Stat
stat_of slab class = slice_index_or slab.stats class no_stat

-- a fresh pool: all pages are one free run
abbrev pub fresh_slab : Shape → Slab
fresh_slab shape = record {
  shape = shape;
  pages = replicate (pages_of shape) Free;
  runs = record { first = 0; pages = pages_of shape } ∷ [];
  lists = replicate (class_count shape) [];
  stats = replicate (class_count shape) no_stat;
}

-- so many pages from `page` on become this
abbrev pub fill_pages : PageState → ℕ → ℕ → List PageState → List PageState
fill_pages state page zero pages = pages
fill_pages state page (suc count) pages = fill_pages state (page + 1) count (slice_set pages page state)
