-- What the plain program keeps, as a slab; its callers see the slab alone.
use Rattle.std.specs.Prelude.{ℕ, ◌+◌, ◌^◌, ◌<◌, nat_lt, List, [], ◌∷◌, if◌then◌else◌}
use Rattle.slab_model.specs.declared.parts.Parts.{Parts}
use Rattle.slab_model.specs.declared.shape.Shape.{Shape}
use Rattle.slab_model.specs.declared.page.PageState.{PageState}
use Rattle.slab_model.specs.declared.page.PageState.TheVariants.{Free, First, Later, Class}
use Rattle.slab_model.specs.Geometry.{class_count}
use Rattle.slab_model.specs.State.{Slab}

-- the slab that the lists are
abbrev pub slab_of : Parts → Slab
slab_of parts = record { shape = parts.shape; pages = parts.pages.items; runs = parts.runs.items; lists = parts.lists.items; stats = parts.stats.items }

-- the page is one of a class
abbrev pub IsOfClass : PageState → Type 0
IsOfClass Free = ⊥
IsOfClass (First pages) = ⊥
IsOfClass Later = ⊥
IsOfClass (Class class used) = Unit {0}

-- the numbers that a page keeps are those of a slab
abbrev pub IsSmallPage : Shape → PageState → Type 0
IsSmallPage shape Free = Unit {0}
IsSmallPage shape (First pages) = pages < 2 ^ 32
IsSmallPage shape Later = Unit {0}
IsSmallPage shape (Class class used) = class < class_count shape

-- how many numbers at the front of the list are at most `n`
abbrev pub place_in : ℕ → List ℕ → ℕ
place_in n [] = 0
place_in n (m ∷ ms) = if nat_lt n m then 0 else 1 + place_in n ms
