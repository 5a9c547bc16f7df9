-- The laws of the slab.
use Rattle.std.proofs.Common.{ℕ, ◌≡◌, ◌*◌, ◌/◌, ◌<◌, true, not, ◌||◌, List, [], ◌∷◌, Option, Some, None, sym, ap, subst, ◌∙◌, refl, arith}
use Rattle.std.specs.Prelude.{is_some}
use Rattle.std.proofs.lemmas.Nat.{div-mul-add}
use Rattle.std.proofs.lemmas.Grind.{common_steps}
use Rattle.slab_model.specs.declared.shape.Shape.{Shape}
use Rattle.slab_model.specs.declared.page.PageState.TheVariants.{First, Class}
use Rattle.slab_model.specs.Geometry.{page_offset, block_offset, class_size, class_of, pages_for, blocks_in_page}
use Rattle.slab_model.specs.Numbers.{is_member, without}
use Rattle.slab_model.specs.Runs.{first_fit}
use Rattle.slab_model.specs.State.{Slab, page_at, list_of}
use Rattle.slab_model.specs.Blocks.{page_number, place_in_page}
use Rattle.slab_model.specs.Grant.{grant, grant_as, grant_run, grant_from_list, grant_in_new_page, fits, fits_as, is_empty}
use Rattle.slab_model.specs.Return.{give_back, give_from, give_in_page, give_pages}
use Rattle.slab_model.specs.Soundness.{AreUsed, IsSound}
use Rattle.slab_model.specs.Laws.{GrantSoundLaw, ReturnSoundLaw, FitsLaw}
use Rattle.slab_model.proofs.ClassLemmas.{cuts, class_of-some, pages_for-holds}
use Rattle.slab_model.proofs.NumberLemmas.{member}
use Rattle.slab_model.proofs.StateLemmas.{used-usable}
use Rattle.slab_model.proofs.SoundLemmas.{IsSound-in_page, IsSound-failed, IsSound-new_page, IsSound-run, IsSound-give_pages, IsSound-give_in_page}
use Rattle.slab_model.proofs.BlockLemmas.{page_number-is, place_in_page-is, block_end, Lies, lies}
use Rattle.slab_model.proofs.BlockLemmas.Lies.{in_page, over_pages}

-- ---- grant keeps soundness

grant_from_list-sound : (slab : Slab) (class : ℕ) → IsSound slab → class < 9 → (listed : List ℕ) → list_of slab class ≡ listed → IsSound (grant_from_list slab class listed).1
grant_from_list-sound slab class s known (page ∷ rest) is = IsSound-in_page slab class page rest s known is
grant_from_list-sound slab class s known [] is = new_page (first_fit 1 slab.runs) refl where
  new_page : (fit : Option ℕ) → first_fit 1 slab.runs ≡ fit → IsSound (grant_in_new_page slab class fit).1
  new_page None fit = IsSound-failed slab class s known
  new_page (Some page) fit = IsSound-new_page slab class page s known is fit

grant_run-sound : (slab : Slab) (count : ℕ) → IsSound slab → 0 < count → (fit : Option ℕ) → first_fit count slab.runs ≡ fit → IsSound (grant_run slab count fit).1
grant_run-sound slab count s some None fit = s
grant_run-sound slab count s some (Some page) fit = IsSound-run slab count page s some fit

grant_as-sound : (slab : Slab) (size : ℕ) → IsSound slab → 0 < size → (class : Option ℕ) → class_of slab.shape size ≡ class → IsSound (grant_as slab size class).1
grant_as-sound slab size s some None is = grant_run-sound slab (pages_for slab.shape size) s (pages_for-holds slab.shape size some).0 (first_fit (pages_for slab.shape size) slab.runs) refl
grant_as-sound slab size s some (Some class) is = grant_from_list-sound slab class s (class_of-some slab.shape size class is).0 (list_of slab class) refl

pub grant-sound : GrantSoundLaw
unfolding grant
grant-sound slab size s some = grant_as-sound slab size s some (class_of slab.shape size) refl

-- ---- give back keeps soundness

-- what is given back, read off where a live block lies
pub give_back-class : (slab : Slab) (page class index : ℕ) (used : List ℕ) → page_at slab.pages page ≡ Class class used → AreUsed slab.shape class used → is_member index used ≡ true → give_back slab (block_offset slab.shape page class index) ≡ give_in_page slab page class used (without index used)
unfolding give_back
give_back-class slab page class index used is ok there =
    let c = cuts slab.shape class ok.known in
    let end = block_end (class_size class) index (blocks_in_page slab.shape class) c.whole (used-usable slab.shape class index used ok ((member index used).0 there)).1 in
    let place : class_size class * index < 4096 = omega (arith, c.some) in
    ap (λ n. give_from slab n (place_in_page slab.shape (block_offset slab.shape page class index)) (page_at slab.pages n)) (page_number-is slab.shape page (class_size class * index) place)
    ∙ ap (λ n. give_from slab page n (page_at slab.pages page)) (place_in_page-is slab.shape page (class_size class * index) place)
    ∙ ap (λ t. give_from slab page (class_size class * index) t) is
    ∙ ap (λ n. give_in_page slab page class used (without n used)) (own (class_size class) index c.some)
  where
    own : (size index : ℕ) → 0 < size → (size * index) / size ≡ index
    own size index some = let h = div-mul-add index size 0 some in grind (arith, common_steps, h)

pub give_back-run : (slab : Slab) (page count : ℕ) → page_at slab.pages page ≡ First count → give_back slab (page_offset slab.shape page) ≡ give_pages slab page count
unfolding give_back
give_back-run slab page count is =
    ap (λ n. give_from slab n (place_in_page slab.shape (page_offset slab.shape page)) (page_at slab.pages n)) (number slab.shape page)
    ∙ ap (λ t. give_from slab page (place_in_page slab.shape (page_offset slab.shape page)) t) is
  where
    number : (shape : Shape) (page : ℕ) → page_number shape (page_offset shape page) ≡ page
    number shape page = omega arith

give_back-sound_at : (slab : Slab) (at : ℕ) → IsSound slab → Lies slab at → IsSound (give_back slab at)
give_back-sound_at slab at s (in_page page class used index is ok there at_is bytes) =
    subst (λ (a : ℕ). IsSound (give_back slab a)) (sym at_is)
    (subst (λ (t : Slab). IsSound t) (sym (give_back-class slab page class index used is ok there)) (IsSound-give_in_page slab class page index used (without index used) s is there refl))
give_back-sound_at slab at s (over_pages page count is at_is bytes) =
    subst (λ (a : ℕ). IsSound (give_back slab a)) (sym at_is)
    (subst (λ (t : Slab). IsSound t) (sym (give_back-run slab page count is)) (IsSound-give_pages slab page count s is))

pub give_back-sound : ReturnSoundLaw
give_back-sound slab at s live = give_back-sound_at slab at s (lies slab at s live)

-- ---- fits

fits_list : (slab : Slab) (class : ℕ) (listed : List ℕ) → (not (is_empty listed) || is_some (first_fit 1 slab.runs)) ≡ is_some (grant_from_list slab class listed).0
fits_list slab class [] = new_page (first_fit 1 slab.runs) where
  new_page : (fit : Option ℕ) → is_some fit ≡ is_some (grant_in_new_page slab class fit).0
  new_page None = refl
  new_page (Some page) = refl
fits_list slab class (page ∷ rest) = refl

fits_run : (slab : Slab) (count : ℕ) (fit : Option ℕ) → is_some fit ≡ is_some (grant_run slab count fit).0
fits_run slab count None = refl
fits_run slab count (Some page) = refl

fits_class : (slab : Slab) (size : ℕ) (class : Option ℕ) → fits_as slab size class ≡ is_some (grant_as slab size class).0
fits_class slab size None = fits_run slab (pages_for slab.shape size) (first_fit (pages_for slab.shape size) slab.runs)
fits_class slab size (Some class) = fits_list slab class (list_of slab class)

pub fits-grant : FitsLaw
unfolding fits grant
fits-grant slab size = fits_class slab size (class_of slab.shape size)
