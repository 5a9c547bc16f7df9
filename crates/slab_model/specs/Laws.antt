-- What holds of every sound slab, and of a grant and a return there.
use Rattle.std.specs.Prelude.{ℕ, ◌≡◌, ◌≢◌, ◌+◌, ◌%◌, ◌<◌, ◌≤◌, ◌⊎◌, Bool, true, false, nat_eq, List, length, Option, Some, None, is_some, if◌then◌else◌}
use Rattle.zone_region.specs.Members.{In}
use Rattle.slab_model.specs.declared.shape.Shape.{Shape}
use Rattle.slab_model.specs.declared.page.PageState.{PageState}
use Rattle.slab_model.specs.declared.page.PageState.TheVariants.{Free, First, Later, Class}
use Rattle.slab_model.specs.Geometry.{IsInLimits, start_of, page_offset, class_count, class_of, pages_for, blocks_in_page, first_index}
use Rattle.slab_model.specs.State.{Slab, pages_in, page_at, list_of, stat_of, fresh_slab}
use Rattle.slab_model.specs.Blocks.{page_number, live_bytes, IsLive, lowest_unused, is_full}
use Rattle.slab_model.specs.Counting.{free_pages, used_pages, one_more}
use Rattle.slab_model.specs.Grant.{grant, fits, is_empty, block_bytes}
use Rattle.slab_model.specs.Return.{give_back}
use Rattle.slab_model.specs.Soundness.{IsSound}

-- ---- the live blocks

-- no two live blocks share a byte
abbrev pub HasDisjointBlocks : Slab → Type 0
HasDisjointBlocks slab = (a b : ℕ) → IsLive slab a → IsLive slab b → a ≢ b → (a + live_bytes slab a ≤ b) ⊎ (b + live_bytes slab b ≤ a)

-- a live block lies within the pages, and so within the zone, at a multiple of 8
pub record LiesInPages (slab : Slab) (at : ℕ) : Type 0 where
  pub low : start_of slab.shape ≤ at
  pub high : at + live_bytes slab at ≤ page_offset slab.shape (pages_in slab)
  pub inside : at + live_bytes slab at ≤ slab.shape.bytes
  pub even : at % 8 ≡ 0
  pub words : live_bytes slab at % 8 ≡ 0

-- the block at `at` is new, it has the bytes that a request of `size` is given, and every other block is as before
pub record Grants (old new : Slab) (size at : ℕ) : Type 0 where
  pub fresh : live_bytes old at ≡ 0
  pub bytes : live_bytes new at ≡ block_bytes old size
  pub others : (other : ℕ) → other ≢ at → live_bytes new other ≡ live_bytes old other

-- no block is live at `at` any more, and every other block is as before
pub record Returns (old new : Slab) (at : ℕ) : Type 0 where
  pub gone : live_bytes new at ≡ 0
  pub others : (other : ℕ) → other ≢ at → live_bytes new other ≡ live_bytes old other

-- the second slab has the live blocks and the number of free pages of the first
pub record SameBlocks (old new : Slab) : Type 0 where
  pub blocks : (at : ℕ) → live_bytes new at ≡ live_bytes old at
  pub free : free_pages new ≡ free_pages old

-- a block of so many bytes lies within the pages, and shares no byte with one that is live in the first slab
pub record IsNewBlock (old new : Slab) (at bytes : ℕ) : Type 0 where
  pub lies : LiesInPages new at
  pub apart : (other : ℕ) → IsLive old other → (at + bytes ≤ other) ⊎ (other + live_bytes old other ≤ at)

-- the pages that a request takes which is given a block: one where no page of its class is listed, or all that hold it
abbrev pub pages_taken_as : Slab → ℕ → Option ℕ → ℕ
pages_taken_as slab size None = pages_for slab.shape size
pages_taken_as slab size (Some class) = if is_empty (list_of slab class) then 1 else 0

-- the pages that a grant takes from the free ones
abbrev pub pages_taken : Slab → ℕ → ℕ
pages_taken slab size = pages_taken_as slab size (class_of slab.shape size)

-- the pages that become free when a block of this page comes back: the block's run, or the page where no other block of it is used
abbrev pub pages_back : PageState → ℕ
pages_back Free = 0
pages_back (First pages) = pages
pages_back Later = 0
pages_back (Class class used) = if nat_eq (length used) 1 then 1 else 0

-- a request of the class is counted, with the block that it was given or as a failure; the other classes count nothing
pub record CountsRequest (old new : Slab) (class : ℕ) (given : Bool) : Type 0 where
  pub used : (stat_of new class).used ≡ (if given then (stat_of old class).used + 1 else (stat_of old class).used)
  pub reqs : (stat_of new class).reqs ≡ one_more (stat_of old class).reqs
  pub fails : (stat_of new class).fails ≡ (if given then (stat_of old class).fails else one_more (stat_of old class).fails)
  pub others : (other : ℕ) → other ≢ class → stat_of new other ≡ stat_of old other

-- the class has a live block less, and the other classes count nothing
pub record CountsReturn (old new : Slab) (class : ℕ) : Type 0 where
  pub used : (stat_of new class).used + 1 ≡ (stat_of old class).used
  pub others : (other : ℕ) → other ≢ class → stat_of new other ≡ stat_of old other

-- a page that isn't full gives the lowest index that no block uses; a full one has a block at each
pub record GivesLowest (shape : Shape) (class : ℕ) (used : List ℕ) : Type 0 where
  pub lower : (index : ℕ) → first_index shape class ≤ index → index < lowest_unused shape class used → In index used
  pub given : is_full shape class used ≡ false → (first_index shape class ≤ lowest_unused shape class used) × (lowest_unused shape class used < blocks_in_page shape class) × (In (lowest_unused shape class used) used → ⊥)
  pub full : is_full shape class used ≡ true → (index : ℕ) → first_index shape class ≤ index → index < blocks_in_page shape class → In index used

-- ---- the laws

-- a fresh pool is sound and has no live block
abbrev pub FreshLaw : Type 0
FreshLaw = (shape : Shape) → IsInLimits shape → IsSound (fresh_slab shape) × ((at : ℕ) → live_bytes (fresh_slab shape) at ≡ 0)

-- a grant keeps a slab sound
abbrev pub GrantSoundLaw : Type 0
GrantSoundLaw = (slab : Slab) (size : ℕ) → IsSound slab → 0 < size → IsSound (grant slab size).1

-- a return keeps a slab sound
abbrev pub ReturnSoundLaw : Type 0
ReturnSoundLaw = (slab : Slab) (at : ℕ) → IsSound slab → IsLive slab at → IsSound (give_back slab at)

-- a grant adds one block, and is large enough
abbrev pub GrantLaw : Type 0
GrantLaw = (slab : Slab) (size at : ℕ) → IsSound slab → 0 < size → (grant slab size).0 ≡ Some at → Grants slab (grant slab size).1 size at × (size ≤ block_bytes slab size)

-- a granted block lies within the pages and shares no byte with a live one
abbrev pub NewBlockLaw : Type 0
NewBlockLaw = (slab : Slab) (size at : ℕ) → IsSound slab → 0 < size → (grant slab size).0 ≡ Some at → IsNewBlock slab (grant slab size).1 at (block_bytes slab size)

-- a grant that gives no block changes no block
abbrev pub NoGrantLaw : Type 0
NoGrantLaw = (slab : Slab) (size : ℕ) → (grant slab size).0 ≡ None → SameBlocks slab (grant slab size).1

-- a return takes one block away
abbrev pub ReturnLaw : Type 0
ReturnLaw = (slab : Slab) (at : ℕ) → IsSound slab → IsLive slab at → Returns slab (give_back slab at) at

-- live blocks share no byte, and lie within the pages
abbrev pub BlocksLaw : Type 0
BlocksLaw = (slab : Slab) → IsSound slab → HasDisjointBlocks slab × ((at : ℕ) → IsLive slab at → LiesInPages slab at)

-- a page gives the lowest unused index, until it is full
abbrev pub LowestLaw : Type 0
LowestLaw = (shape : Shape) (class : ℕ) (used : List ℕ) → class < class_count shape → GivesLowest shape class used

-- free and used pages are all pages
abbrev pub PagesLaw : Type 0
PagesLaw = (slab : Slab) → IsSound slab → free_pages slab + used_pages slab ≡ pages_in slab

-- the free pages after a grant
abbrev pub GrantPagesLaw : Type 0
GrantPagesLaw = (slab : Slab) (size at : ℕ) → (grant slab size).0 ≡ Some at → free_pages (grant slab size).1 + pages_taken slab size ≡ free_pages slab

-- the free pages after a return
abbrev pub ReturnPagesLaw : Type 0
ReturnPagesLaw = (slab : Slab) (at : ℕ) → IsSound slab → IsLive slab at → free_pages (give_back slab at) ≡ free_pages slab + pages_back (page_at slab.pages (page_number slab.shape at))

-- what was just granted and comes back leaves the live blocks and the number of free pages as they were
abbrev pub RoundTripLaw : Type 0
RoundTripLaw = (slab : Slab) (size at : ℕ) → IsSound slab → 0 < size → (grant slab size).0 ≡ Some at → SameBlocks slab (give_back (grant slab size).1 at)

-- a request is given a block exactly where it fits
abbrev pub FitsLaw : Type 0
FitsLaw = (slab : Slab) (size : ℕ) → fits slab size ≡ is_some (grant slab size).0

-- each request of a class is counted, and each that was given no block
abbrev pub RequestsLaw : Type 0
RequestsLaw = (slab : Slab) (size class : ℕ) → IsSound slab → class_of slab.shape size ≡ Some class → CountsRequest slab (grant slab size).1 class (is_some (grant slab size).0)

-- a return counts no request
abbrev pub ReturnCountsLaw : Type 0
ReturnCountsLaw = (slab : Slab) (at class : ℕ) → ((stat_of (give_back slab at) class).reqs ≡ (stat_of slab class).reqs) × ((stat_of (give_back slab at) class).fails ≡ (stat_of slab class).fails)

-- a return of a block of a class lowers the class's count of live blocks
abbrev pub ReturnUsedLaw : Type 0
ReturnUsedLaw = (slab : Slab) (at class : ℕ) (used : List ℕ) → IsSound slab → IsLive slab at → page_at slab.pages (page_number slab.shape at) ≡ Class class used → CountsReturn slab (give_back slab at) class
