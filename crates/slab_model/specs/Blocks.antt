-- The blocks of a page of a class, and the live blocks of a slab.
use Rattle.std.specs.Prelude.{ℕ, ◌+◌, ◌-◌, ◌*◌, ◌/◌, ◌%◌, ◌<◌, zero, suc, Bool, ◌&&◌, nat_eq, nat_lt, List, [], if◌then◌else◌}
use Rattle.slab_model.specs.declared.shape.Shape.{Shape}
use Rattle.slab_model.specs.declared.page.PageState.{PageState}
use Rattle.slab_model.specs.declared.page.PageState.TheVariants.{Free, First, Later, Class}
use Rattle.slab_model.specs.Geometry.{page_size, start_of, class_size, blocks_in_page, first_index, usable_blocks}
use Rattle.slab_model.specs.Numbers.{is_member}
use Rattle.slab_model.specs.State.{Slab, page_at}

-- ---- the blocks of a page

-- among `count` indexes from `index` on, the first that isn't used, or the one past them
abbrev pub first_unused : ℕ → ℕ → List ℕ → ℕ
first_unused zero index used = index
first_unused (suc count) index used = if is_member index used then first_unused count (index + 1) used else index

-- the lowest index of a page of the class that can be granted, or the number of its blocks where all are used
abbrev pub lowest_unused : Shape → ℕ → List ℕ → ℕ
lowest_unused shape class used = first_unused (usable_blocks shape class) (first_index shape class) used

-- all blocks that the page can grant are used
abbrev pub is_full : Shape → ℕ → List ℕ → Bool
is_full shape class used = nat_eq (lowest_unused shape class used) (blocks_in_page shape class)

-- the used indexes of a page
abbrev pub used_in : PageState → List ℕ
used_in Free = []
used_in (First pages) = []
used_in Later = []
used_in (Class class used) = used

-- ---- the live blocks

-- the number of the page at this offset
abbrev pub page_number : Shape → ℕ → ℕ
page_number shape at = (at - start_of shape) / page_size shape

-- how far into its page the offset lies
abbrev pub place_in_page : Shape → ℕ → ℕ
place_in_page shape at = (at - start_of shape) % page_size shape

-- the bytes of the live block that begins so far into the page, 0 where none begins there
abbrev pub live_in_page : Shape → PageState → ℕ → ℕ
live_in_page shape Free place = 0
live_in_page shape (First pages) place = if nat_eq place 0 then page_size shape * pages else 0
live_in_page shape Later place = 0
live_in_page shape (Class class used) place = if nat_eq (place % class_size class) 0 && is_member (place / class_size class) used then class_size class else 0

-- the bytes of the live block that begins at this offset, 0 where none begins there
abbrev pub live_bytes : Slab → ℕ → ℕ
live_bytes slab at = if nat_lt at (start_of slab.shape) then 0 else live_in_page slab.shape (page_at slab.pages (page_number slab.shape at)) (place_in_page slab.shape at)

-- a live block begins at this offset
abbrev pub IsLive : Slab → ℕ → Type 0
IsLive slab at = 0 < live_bytes slab at

-- ---- counting blocks

-- once if a live block begins at this offset
abbrev pub live_at : Slab → ℕ → ℕ
live_at slab at = if nat_lt 0 (live_bytes slab at) then 1 else 0

-- once if this block begins at this offset
abbrev pub once_at : ℕ → ℕ → ℕ
once_at at block = if nat_eq block at then 1 else 0
