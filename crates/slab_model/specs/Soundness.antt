-- A slab whose parts fit together.
use Rattle.std.specs.Prelude.{ℕ, ◌≡◌, ◌+◌, ◌^◌, ◌<◌, ◌≤◌, ◌↔◌, Bool, true, false, not, ◌&&◌, nat_eq, List, length, sum_by, if◌then◌else◌}
use Rattle.zone_region.specs.Members.{In, IsDistinct}
use Rattle.slab_model.specs.declared.shape.Shape.{Shape}
use Rattle.slab_model.specs.declared.stat.Stat.{Stat}
use Rattle.slab_model.specs.declared.page.PageState.{PageState}
use Rattle.slab_model.specs.declared.page.PageState.TheVariants.{Free, First, Later, Class}
use Rattle.slab_model.specs.Geometry.{IsInLimits, class_count, blocks_in_page, first_index, usable_blocks}
use Rattle.slab_model.specs.Numbers.{AscendsFrom}
use Rattle.slab_model.specs.Runs.{AreSound, is_covered}
use Rattle.slab_model.specs.State.{Slab, pages_in, classes_in, page_at, list_of, stat_of}
use Rattle.slab_model.specs.Blocks.{is_full}
use Rattle.slab_model.specs.Counting.{is_free}

-- the first page of each used run is followed by its later pages, and each later page belongs to a run
pub record HasUsedRuns (count : ℕ) (pages : List PageState) : Type 0 where
  pub followed : (page n : ℕ) → page_at pages page ≡ First n → (0 < n) × (page + n ≤ count) × ((later : ℕ) → page < later → later < page + n → page_at pages later ≡ Later)
  pub belongs : (later : ℕ) → page_at pages later ≡ Later → (page n : ℕ) × (page_at pages page ≡ First n) × (page < later) × (later < page + n)

-- the used indexes of a page of the class: at least one, ascending, and each of a block that the page can grant
pub record AreUsed (shape : Shape) (class : ℕ) (used : List ℕ) : Type 0 where
  pub known : class < class_count shape
  pub some : 0 < length used
  pub ascending : AscendsFrom (first_index shape class) used
  pub below : (index : ℕ) → In index used → index < blocks_in_page shape class

-- a page of the class that can grant a block
abbrev pub has_room : Shape → ℕ → PageState → Bool
has_room shape class Free = false
has_room shape class (First pages) = false
has_room shape class Later = false
has_room shape class (Class own used) = nat_eq own class && not (is_full shape class used)

-- the blocks that a page can grant, if it is one of the class
abbrev pub usable_in_class : Shape → ℕ → PageState → ℕ
usable_in_class shape class Free = 0
usable_in_class shape class (First pages) = 0
usable_in_class shape class Later = 0
usable_in_class shape class (Class own used) = if nat_eq own class then usable_blocks shape class else 0

-- the live blocks of a page, if it is one of the class
abbrev pub used_in_class : ℕ → PageState → ℕ
used_in_class class Free = 0
used_in_class class (First pages) = 0
used_in_class class Later = 0
used_in_class class (Class own used) = if nat_eq own class then length used else 0

-- the statistics say what they count
pub record Counts (shape : Shape) (class : ℕ) (pages : List PageState) (stat : Stat) : Type 0 where
  pub total : stat.total ≡ sum_by (usable_in_class shape class) pages
  pub used : stat.used ≡ sum_by (used_in_class class) pages
  pub fails : stat.fails ≤ stat.reqs
  pub reqs : stat.reqs < 2 ^ 64

-- the class's list has, each once, just its pages that can grant a block
pub record Lists (shape : Shape) (class : ℕ) (pages : List PageState) (listed : List ℕ) : Type 0 where
  pub once : IsDistinct listed
  pub just : (page : ℕ) → In page listed ↔ (has_room shape class (page_at pages page) ≡ true)

-- a slab whose parts fit together
pub record IsSound (slab : Slab) : Type 0 where
  pub limits : IsInLimits slab.shape
  pub page_count : length slab.pages ≡ pages_in slab
  pub list_count : length slab.lists ≡ classes_in slab
  pub stat_count : length slab.stats ≡ classes_in slab
  pub runs : AreSound (pages_in slab) slab.runs
  pub free : (page : ℕ) → page < pages_in slab → is_free (page_at slab.pages page) ≡ is_covered page slab.runs
  pub used_runs : HasUsedRuns (pages_in slab) slab.pages
  pub used : (page class : ℕ) (used : List ℕ) → page_at slab.pages page ≡ Class class used → AreUsed slab.shape class used
  pub lists : (class : ℕ) → class < classes_in slab → Lists slab.shape class slab.pages (list_of slab class)
  pub counts : (class : ℕ) → class < classes_in slab → Counts slab.shape class slab.pages (stat_of slab class)
