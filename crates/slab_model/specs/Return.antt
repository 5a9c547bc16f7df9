-- The slab once a live block is given back.
use Rattle.std.specs.Prelude.{ℕ, ◌/◌, List, [], ◌∷◌, slice_set, if◌then◌else◌}
use Rattle.slab_model.specs.declared.page.PageState.{PageState}
use Rattle.slab_model.specs.declared.page.PageState.TheVariants.{Free, First, Later, Class}
use Rattle.slab_model.specs.Geometry.{class_size, usable_blocks}
use Rattle.slab_model.specs.Numbers.{without}
use Rattle.slab_model.specs.Runs.{give_run}
use Rattle.slab_model.specs.State.{Slab, page_at, list_of, stat_of, fill_pages}
use Rattle.slab_model.specs.Blocks.{is_full, page_number, place_in_page}
use Rattle.slab_model.specs.Counting.{count_return}

-- a used run comes back whole
abbrev pub give_pages : Slab → ℕ → ℕ → Slab
give_pages slab page count = record {
  shape = slab.shape;
  pages = fill_pages Free page count slab.pages;
  runs = give_run (record { first = page; pages = count }) slab.runs;
  lists = slab.lists;
  stats = slab.stats;
}

-- a block of a page comes back, and `left` stay used: a page without one is given back, and one that was full goes to the head of its list
abbrev pub give_in_page : Slab → ℕ → ℕ → List ℕ → List ℕ → Slab
give_in_page slab page class used [] = record {
  shape = slab.shape;
  pages = slice_set slab.pages page Free;
  runs = give_run (record { first = page; pages = 1 }) slab.runs;
  lists = slice_set slab.lists class (without page (list_of slab class));
  stats = slice_set slab.stats class (count_return (usable_blocks slab.shape class) (stat_of slab class));
}
give_in_page slab page class used (index ∷ left) = record {
  shape = slab.shape;
  pages = slice_set slab.pages page (Class class (index ∷ left));
  runs = slab.runs;
  lists = (if is_full slab.shape class used then slice_set slab.lists class (page ∷ list_of slab class) else slab.lists);
  stats = slice_set slab.stats class (count_return 0 (stat_of slab class));
}

-- the block so far into a page comes back; nothing changes where no block is live
abbrev pub give_from : Slab → ℕ → ℕ → PageState → Slab
give_from slab page place Free = slab
give_from slab page place (First count) = give_pages slab page count
give_from slab page place Later = slab
give_from slab page place (Class class used) = give_in_page slab page class used (without (place / class_size class) used)

-- the slab once the live block at this offset is given back
unfoldable pub give_back : Slab → ℕ → Slab
give_back slab at = give_from slab (page_number slab.shape at) (place_in_page slab.shape at) (page_at slab.pages (page_number slab.shape at))
