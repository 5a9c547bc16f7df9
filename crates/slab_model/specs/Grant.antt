-- What a request for a block is given, and the slab afterwards.
use Rattle.std.specs.Prelude.{ℕ, ◌+◌, ◌-◌, ◌*◌, Bool, true, false, not, ◌||◌, List, [], ◌∷◌, slice_set, Option, Some, None, is_some, if◌then◌else◌}
use Rattle.zone_region.specs.declared.blocks.Block.{Block}
use Rattle.slab_model.specs.declared.page.PageState.{PageState}
use Rattle.slab_model.specs.declared.page.PageState.TheVariants.{First, Later, Class}
use Rattle.slab_model.specs.Geometry.{page_size, page_offset, class_size, class_of, pages_for, first_index, usable_blocks, block_offset}
use Rattle.slab_model.specs.Numbers.{with_number}
use Rattle.slab_model.specs.Runs.{first_fit, take_run}
use Rattle.slab_model.specs.State.{Slab, page_at, list_of, stat_of, fill_pages}
use Rattle.slab_model.specs.Blocks.{lowest_unused, is_full, used_in}
use Rattle.slab_model.specs.Counting.{count_grant, count_fail}

-- the offset of the block that was granted, if any
abbrev pub granted_offset : Option Block → Option ℕ
granted_offset None = None
granted_offset (Some block) = Some block.at

-- the used indexes of a page of the class once its lowest unused one is granted
abbrev pub with_lowest : Slab → ℕ → List ℕ → List ℕ
with_lowest slab class used = with_number (lowest_unused slab.shape class used) used

-- the lowest unused index of the list's first page, which leaves the list when it is full
abbrev pub grant_in_page : Slab → ℕ → ℕ → List ℕ → List ℕ → Option ℕ × Slab
grant_in_page slab class page rest used = (
  Some (block_offset slab.shape page class (lowest_unused slab.shape class used)),
  record {
    shape = slab.shape;
    pages = slice_set slab.pages page (Class class (with_lowest slab class used));
    runs = slab.runs;
    lists = (if is_full slab.shape class (with_lowest slab class used) then slice_set slab.lists class rest else slab.lists);
    stats = slice_set slab.stats class (count_grant 0 (stat_of slab class));
  },
)

-- the first usable index of a free page, which becomes the class's only listed page; a failure where no page is free
abbrev pub grant_in_new_page : Slab → ℕ → Option ℕ → Option ℕ × Slab
grant_in_new_page slab class None = (
  None,
  record {
    shape = slab.shape;
    pages = slab.pages;
    runs = slab.runs;
    lists = slab.lists;
    stats = slice_set slab.stats class (count_fail (stat_of slab class));
  },
)
grant_in_new_page slab class (Some page) = (
  Some (block_offset slab.shape page class (first_index slab.shape class)),
  record {
    shape = slab.shape;
    pages = slice_set slab.pages page (Class class (first_index slab.shape class ∷ []));
    runs = take_run 1 slab.runs;
    lists = slice_set slab.lists class (page ∷ []);
    stats = slice_set slab.stats class (count_grant (usable_blocks slab.shape class) (stat_of slab class));
  },
)

-- a block of a class whose list is this
abbrev pub grant_from_list : Slab → ℕ → List ℕ → Option ℕ × Slab
grant_from_list slab class [] = grant_in_new_page slab class (first_fit 1 slab.runs)
grant_from_list slab class (page ∷ rest) = grant_in_page slab class page rest (used_in (page_at slab.pages page))

-- the pages once a run is used
abbrev pub use_pages : ℕ → ℕ → List PageState → List PageState
use_pages page count pages = fill_pages Later (page + 1) (count - 1) (slice_set pages page (First count))

-- whole pages, from this one on
abbrev pub grant_run : Slab → ℕ → Option ℕ → Option ℕ × Slab
grant_run slab count None = (None, slab)
grant_run slab count (Some page) = (
  Some (page_offset slab.shape page),
  record {
    shape = slab.shape;
    pages = use_pages page count slab.pages;
    runs = take_run count slab.runs;
    lists = slab.lists;
    stats = slab.stats;
  },
)

-- a block of the class, or whole pages where no class is large enough
abbrev pub grant_as : Slab → ℕ → Option ℕ → Option ℕ × Slab
grant_as slab size None = grant_run slab (pages_for slab.shape size) (first_fit (pages_for slab.shape size) slab.runs)
grant_as slab size (Some class) = grant_from_list slab class (list_of slab class)

-- what a request of `size` bytes is given, and the slab afterwards
unfoldable pub grant : Slab → ℕ → Option ℕ × Slab
grant slab size = grant_as slab size (class_of slab.shape size)

-- the list is empty
abbrev pub is_empty : List ℕ → Bool
is_empty [] = true
is_empty (n ∷ ns) = false

-- whether a block of this size and class, if any, can be granted
abbrev pub fits_as : Slab → ℕ → Option ℕ → Bool
fits_as slab size None = is_some (first_fit (pages_for slab.shape size) slab.runs)
fits_as slab size (Some class) = not (is_empty (list_of slab class)) || is_some (first_fit 1 slab.runs)

-- there is a block for a request of `size` bytes: a listed page of its class, or a free run that is long enough
unfoldable pub fits : Slab → ℕ → Bool
fits slab size = fits_as slab size (class_of slab.shape size)

-- the bytes of the block that is granted for this size and class, if any
abbrev pub block_bytes_as : Slab → ℕ → Option ℕ → ℕ
block_bytes_as slab size None = page_size slab.shape * pages_for slab.shape size
block_bytes_as slab size (Some class) = class_size class

-- the bytes of a block that a request of `size` bytes is given
unfoldable pub block_bytes : Slab → ℕ → ℕ
block_bytes slab size = block_bytes_as slab size (class_of slab.shape size)
