-- Why no live block begins at an offset.
use Rattle.std.specs.Prelude.{ℕ, ◌+◌, ◌*◌, ◌/◌, ◌%◌, not, ◌||◌, nat_eq, nat_lt, nat_le, List, Option, Some, None, Result, Ok, Err, if◌then◌else◌}
use Rattle.slab_model.specs.declared.shape.Shape.{Shape}
use Rattle.slab_model.specs.declared.page.PageState.{PageState}
use Rattle.slab_model.specs.declared.page.PageState.TheVariants.{Free, First, Later, Class}
use Rattle.slab_model.specs.Geometry.{page_size, start_of, pages_of, class_size, first_index}
use Rattle.slab_model.specs.Numbers.{is_member}
use Rattle.slab_model.specs.State.{Slab, page_at}
use Rattle.slab_model.specs.Blocks.{page_number, place_in_page}
use Rattle.slab_pool.specs.declared.fault.FreeFault.{FreeFault}
use Rattle.slab_pool.specs.declared.fault.FreeFault.TheVariants.{Outside, WrongChunk, AlreadyFree, PageAlreadyFree, WrongPage}

-- so far into a page of the class: no block of its size begins there that can be granted, or it isn't used
abbrev pub refusal_in_class : Shape → ℕ → List ℕ → ℕ → Option FreeFault
refusal_in_class shape class used place =
    if not (nat_eq (place % class_size class) 0) || nat_lt (place / class_size class) (first_index shape class) then Some WrongChunk
    else if not (is_member (place / class_size class) used) then Some AlreadyFree
    else None

-- so far into a page of another state
abbrev pub refusal_in_page : Shape → PageState → ℕ → Option FreeFault
refusal_in_page shape Free place = if not (nat_eq place 0) then Some WrongChunk else Some PageAlreadyFree
refusal_in_page shape (First pages) place = if not (nat_eq place 0) then Some WrongChunk else None
refusal_in_page shape Later place = if not (nat_eq place 0) then Some WrongChunk else Some WrongPage
refusal_in_page shape (Class class used) place = refusal_in_class shape class used place

-- why no live block begins at this offset, none where one does
unfoldable pub refusal : Slab → ℕ → Option FreeFault
refusal slab at = if nat_lt at (start_of slab.shape) || nat_le (start_of slab.shape + page_size slab.shape * pages_of slab.shape) at then Some Outside else refusal_in_page slab.shape (page_at slab.pages (page_number slab.shape at)) (place_in_page slab.shape at)

-- the fault that a call answered, if any
abbrev pub fault_in : Result (Unit {0}) FreeFault → Option FreeFault
fault_in (Ok done) = None
fault_in (Err fault) = Some fault
