-- For the zones: a request of at most half a page in a slab with a free page.
use Rattle.std.proofs.Common.{ℕ, ◌≡◌, ◌+◌, ◌<◌, ◌≤◌, Bool, true, false, cond, List, [], ◌∷◌, Option, Some, None, refl, sym, ◌∙◌, arith}
use Rattle.std.specs.Prelude.{is_some}
use Rattle.std.proofs.lemmas.Grind.{common_steps}
use Rattle.slab_model.specs.declared.runs.Run.{Run}
use Rattle.slab_model.specs.Geometry.{IsInLimits, shape_of, class_of, most_pages, start_of, pages_of}
use Rattle.slab_model.specs.Runs.{first_fit, page_total}
use Rattle.slab_model.specs.State.{Slab, fresh_slab, list_of}
use Rattle.slab_model.specs.Counting.{free_pages}
use Rattle.slab_model.specs.Grant.{grant, fits, fits_as, is_empty}
use Rattle.slab_model.specs.Laws.{pages_taken_as}
use Rattle.slab_model.proofs.ClassLemmas.{class_of-none}
use Rattle.slab_model.proofs.Laws.{fits-grant}
use Rattle.slab_model.proofs.CountLaws.{grant_pages-law}

fit_one : (runs : List Run) → 0 < page_total runs → is_some (first_fit 1 runs) ≡ true
fit_one [] some = absurd (omega (arith, some))
fit_one (run ∷ runs) some = let rest = fit_one runs in grind (arith, common_steps, rest)

fits_class : (slab : Slab) (size : ℕ) (class : Option ℕ) → class_of slab.shape size ≡ class → size ≤ 2048 → is_some (first_fit 1 slab.runs) ≡ true → fits_as slab size class ≡ true
fits_class slab size None is small some = absurd (let large = class_of-none slab.shape size is in omega (arith, large, small))
fits_class slab size (Some class) is small some = grind (arith, common_steps, some)

-- it fits
pub fits_small : (slab : Slab) (size : ℕ) → size ≤ 2048 → 0 < free_pages slab → fits slab size ≡ true
unfolding fits
fits_small slab size small free = fits_class slab size (class_of slab.shape size) refl small (fit_one slab.runs free)

taken_class : (slab : Slab) (size : ℕ) (class : Option ℕ) → class_of slab.shape size ≡ class → size ≤ 2048 → pages_taken_as slab size class ≤ 1
taken_class slab size None is small = absurd (let large = class_of-none slab.shape size is in omega (arith, large, small))
taken_class slab size (Some class) is small = at_most (is_empty (list_of slab class)) where
  at_most : (b : Bool) → cond b 1 0 ≤ 1
  at_most true = omega arith
  at_most false = omega arith

-- it is given a block, and takes a page at most
pub record IsGiven (slab : Slab) (size : ℕ) : Type 0 where
  pub at : ℕ
  pub block : (grant slab size).0 ≡ Some at
  pub free : free_pages slab ≤ free_pages (grant slab size).1 + 1

pub given_small : (slab : Slab) (size : ℕ) → size ≤ 2048 → 0 < free_pages slab → IsGiven slab size
given_small slab size small free = go (grant slab size).0 refl (sym (fits-grant slab size) ∙ fits_small slab size small free) where
  go : (block : Option ℕ) → (grant slab size).0 ≡ block → is_some (grant slab size).0 ≡ true → IsGiven slab size
  go None is some = absurd (cc)
  go (Some at) is some =
      let pages = grant_pages-law slab size at is in
      let taken = taken_class slab size (class_of slab.shape size) refl small in
      record { at = at; block = is; free = omega (arith, pages, taken) }

-- ---- a fresh slab

-- a zone has two pages at least
pub pages_two : (bytes : ℕ) → IsInLimits (shape_of bytes) → 2 ≤ pages_of (shape_of bytes)
unfolding start_of pages_of most_pages
pages_two bytes limits = let large = limits.large in let small = limits.small in omega (arith, large, small)

pub fresh_free : (bytes : ℕ) → free_pages (fresh_slab (shape_of bytes)) ≡ pages_of (shape_of bytes)
fresh_free bytes = omega arith
