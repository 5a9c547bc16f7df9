-- For the zones: a grant and a return keep the slab's shape, and with it the bytes of what a request is given.
use Rattle.std.proofs.Common.{ℕ, ◌≡◌, ◌*◌, List, [], ◌∷◌, Option, Some, None, refl, ap, ◌∙◌}
use Rattle.slab_model.specs.declared.shape.Shape.{Shape}
use Rattle.slab_model.specs.declared.page.PageState.{PageState}
use Rattle.slab_model.specs.declared.page.PageState.TheVariants.{Free, First, Later, Class}
use Rattle.slab_model.specs.Geometry.{page_size, class_of, pages_for}
use Rattle.slab_model.specs.Runs.{first_fit}
use Rattle.slab_model.specs.State.{Slab, page_at, list_of}
use Rattle.slab_model.specs.Blocks.{page_number, place_in_page}
use Rattle.slab_model.specs.Grant.{grant, grant_as, grant_run, grant_from_list, grant_in_new_page, block_bytes, block_bytes_as}
use Rattle.slab_model.specs.Return.{give_back, give_from, give_in_page}

from_list_shape : (slab : Slab) (class : ℕ) (listed : List ℕ) → (grant_from_list slab class listed).1.shape ≡ slab.shape
from_list_shape slab class (page ∷ rest) = refl
from_list_shape slab class [] = new_page (first_fit 1 slab.runs) where
  new_page : (fit : Option ℕ) → (grant_in_new_page slab class fit).1.shape ≡ slab.shape
  new_page None = refl
  new_page (Some page) = refl

run_shape : (slab : Slab) (count : ℕ) (fit : Option ℕ) → (grant_run slab count fit).1.shape ≡ slab.shape
run_shape slab count None = refl
run_shape slab count (Some page) = refl

as_shape : (slab : Slab) (size : ℕ) (class : Option ℕ) → (grant_as slab size class).1.shape ≡ slab.shape
as_shape slab size None = run_shape slab (pages_for slab.shape size) (first_fit (pages_for slab.shape size) slab.runs)
as_shape slab size (Some class) = from_list_shape slab class (list_of slab class)

pub grant_shape : (slab : Slab) (size : ℕ) → (grant slab size).1.shape ≡ slab.shape
unfolding grant
grant_shape slab size = as_shape slab size (class_of slab.shape size)

in_page_shape : (slab : Slab) (page class : ℕ) (used left : List ℕ) → (give_in_page slab page class used left).shape ≡ slab.shape
in_page_shape slab page class used [] = refl
in_page_shape slab page class used (index ∷ left) = refl

from_shape : (slab : Slab) (page place : ℕ) (state : PageState) → (give_from slab page place state).shape ≡ slab.shape
from_shape slab page place Free = refl
from_shape slab page place (First count) = refl
from_shape slab page place Later = refl
from_shape slab page place (Class class used) = in_page_shape slab page class used _

pub back_shape : (slab : Slab) (at : ℕ) → (give_back slab at).shape ≡ slab.shape
unfolding give_back
back_shape slab at = from_shape slab (page_number slab.shape at) (place_in_page slab.shape at) (page_at slab.pages (page_number slab.shape at))

bytes_as : (old new : Slab) (size : ℕ) → new.shape ≡ old.shape → (class : Option ℕ) → block_bytes_as new size class ≡ block_bytes_as old size class
bytes_as old new size same None = ap (λ (t : Shape). page_size t * pages_for t size) same
bytes_as old new size same (Some class) = refl

pub bytes_same : (old new : Slab) (size : ℕ) → new.shape ≡ old.shape → block_bytes new size ≡ block_bytes old size
unfolding block_bytes
bytes_same old new size same = ap (λ (t : Shape). block_bytes_as new size (class_of t size)) same ∙ bytes_as old new size same (class_of old.shape size)
