-- The list of free runs in the words of a zone of known shape.
use Rattle.std.proofs.Common.{ℕ, ◌≡◌, ◌≢◌, ◌+◌, ◌/◌, ◌≤◌, false, List, [], ◌∷◌, length, get_or, set, sym, ap, subst, ◌∙◌, refl, arith, inl, inr}
use Rattle.std.proofs.lemmas.Grind.{common_steps}
use Rattle.slab_model.specs.declared.shape.Shape.{Shape}
use Rattle.slab_model.specs.declared.runs.Run.{Run}
use Rattle.slab_model.specs.Geometry.{IsInLimits, pages_of, most_pages, start_of}
use Rattle.slab_model.specs.Runs.{page_total, take_run, give_run}
use Rattle.slab_model.proofs.RunLemmas.{page_total-give}
use Rattle.slab_pages.specs.Places.{Image, free_head, pfree_word, descriptor, slab_at, is_list_word, is_run_word, page_limit, descriptor_word, free_word}
use Rattle.slab_pages.specs.Layout.{LaysFrom, LaysRuns, MaySet, MayPut, CanComeBack}
use Rattle.slab_pages.specs.RunSteps.{LaysList, TakesRun, GivesRun}
use Rattle.slab_pages.proofs.PlaceLemmas.{descriptor-head, descriptor-injective}
use Rattle.slab_pages.proofs.WriteLemmas.{get-written, length-written}
use Rattle.slab_pages.proofs.UnlinkLemmas.{LaysList-kept, beyond_run}

-- the descriptors lie in the zone
pub pages-room : (shape : Shape) → IsInLimits shape → (pages_of shape ≤ page_limit) × (descriptor_word (pages_of shape) ≤ shape.bytes / 8)
unfolding pages_of most_pages start_of
pages-room shape limits = let large = limits.large in let small = limits.small in (omega arith, omega arith)

pub runs-list : (image : Image) (runs : List Run) → IsInLimits image.shape → LaysRuns image runs → LaysList (pages_of image.shape) image.words runs
runs-list image runs limits h = let r = pages-room image.shape limits in record {
  small = r.0;
  room = omega (arith, r.1, h.sized);
  sound = h.sound;
  slab_is = h.slab_is;
  prev_is = h.prev_is;
  linked = h.linked;
}

pub list-runs : (shape : Shape) (words : List ℕ) (runs : List Run) → length words ≡ shape.bytes / 8 → LaysList (pages_of shape) words runs → get_or words pfree_word 0 ≡ page_total runs → LaysRuns (record { shape = shape; words = words }) runs
list-runs shape words runs sized h counted = record { sized = sized; sound = h.sound; slab_is = h.slab_is; prev_is = h.prev_is; linked = h.linked; counted = counted }

-- the words tell the list
from-unique : (words : List ℕ) (o : ℕ) (xs ys : List Run) → LaysFrom words o xs → LaysFrom words o ys → xs ≡ ys
from-unique words o [] [] h k = refl
from-unique words o [] (y ∷ ys) h k = absurd (descriptor-head y.first (sym k.0 ∙ h))
from-unique words o (x ∷ xs) [] h k = absurd (descriptor-head x.first (sym h.0 ∙ k))
from-unique words o (x ∷ xs) (y ∷ ys) h k =
    let first : x.first ≡ y.first = descriptor-injective x.first y.first (sym h.0 ∙ k.0) in
    let pages : x.pages ≡ y.pages = sym h.1 ∙ ap (λ n. slab_at words (descriptor n)) first ∙ k.1 in
    let rest = from-unique words (descriptor x.first) xs ys h.4 (subst (λ (n : ℕ). LaysFrom words (descriptor n) ys) (sym first) k.4) in
    ap (λ (zs : List Run). x ∷ zs) rest ∙ ap (λ (z : Run). z ∷ ys) (same x y first pages) where
      same : (x y : Run) → x.first ≡ y.first → x.pages ≡ y.pages → x ≡ y
      same x y first pages = grind (arith, common_steps)

pub runs-unique : (image : Image) (xs ys : List Run) → LaysRuns image xs → LaysRuns image ys → xs ≡ ys
runs-unique image xs ys h k = from-unique image.words free_head xs ys h.linked k.linked

-- one list of which this is known is every list
pub run_word-any : (image : Image) (runs : List Run) (w : ℕ) → LaysRuns image runs → MaySet image w → is_run_word runs w ≡ false
run_word-any image runs w h may = subst (λ (rs : List Run). is_run_word rs w ≡ false) (runs-unique image may.not_free.0 runs may.not_free.1 h) may.not_free.2

pub come_back-any : (image : Image) (runs : List Run) (run : Run) → LaysRuns image runs → MayPut image run → CanComeBack (pages_of image.shape) image.words runs run
come_back-any image runs run h may = subst (λ (rs : List Run). CanComeBack (pages_of image.shape) image.words rs run) (runs-unique image may.0 runs may.1 h) may.2

-- a word that no free run is kept in
pub set_other : (shape : Shape) (words new : List ℕ) (runs : List Run) (w v : ℕ) → IsInLimits shape → LaysRuns (record { shape = shape; words = words }) runs → MaySet (record { shape = shape; words = words }) w → new ≡ set words w v → LaysRuns (record { shape = shape; words = new }) runs
set_other shape words new runs w v limits h may is =
    let image : Image = record { shape = shape; words = words } in
    let list = may.not_listed in
    let run = run_word-any image runs w h may in
    let not = others w list in
    list-runs shape new runs (length-written words new w v is ∙ h.sized)
    (LaysList-kept (pages_of shape) words new runs (length-written words new w v is)
    (record { slab = get-written words new w v free_word is (λ e. not.0 (sym e)); next = get-written words new w v (free_word + 1) is (λ e. not.1 (sym e)); prev = get-written words new w v (free_word + 2) is (λ e. not.2 (sym e)) })
    (λ page c. let far = beyond_run runs page w c run in record {
      slab = get-written words new w v (descriptor page / 8) is (λ e. elim far [ inl l ↦ omega (arith, l, e) | inr g ↦ omega (arith, g, e) ]);
      next = get-written words new w v (descriptor page / 8 + 1) is (λ e. elim far [ inl l ↦ omega (arith, l, e) | inr g ↦ omega (arith, g, e) ]);
      prev = get-written words new w v (descriptor page / 8 + 2) is (λ e. elim far [ inl l ↦ omega (arith, l, e) | inr g ↦ omega (arith, g, e) ]);
    })
    (runs-list image runs limits h))
    (get-written words new w v pfree_word is (λ e. not.3 (sym e)) ∙ h.counted) where
      others : (w : ℕ) → is_list_word w ≡ false → (w ≢ free_word) × (w ≢ free_word + 1) × (w ≢ free_word + 2) × (w ≢ pfree_word)
      others w list = (λ e. grind (arith, common_steps), λ e. grind (arith, common_steps), λ e. grind (arith, common_steps), λ e. grind (arith, common_steps))

pub taken-runs : (shape : Shape) (words new : List ℕ) (runs : List Run) (first n : ℕ) → LaysRuns (record { shape = shape; words = words }) runs → TakesRun (pages_of shape) runs words new first n → page_total (take_run n runs) + n ≡ page_total runs → LaysRuns (record { shape = shape; words = new }) (take_run n runs)
taken-runs shape words new runs first n h takes total = list-runs shape new (take_run n runs) (takes.kept.same_length ∙ h.sized) takes.laid (omega (arith, takes.counted, h.counted, total))

pub given-runs : (shape : Shape) (words new : List ℕ) (runs : List Run) (run : Run) → LaysRuns (record { shape = shape; words = words }) runs → GivesRun (pages_of shape) runs words new run → LaysRuns (record { shape = shape; words = new }) (give_run run runs)
given-runs shape words new runs run h gives = list-runs shape new (give_run run runs) (gives.kept.same_length ∙ h.sized) gives.laid (omega (arith, gives.counted, h.counted, page_total-give (pages_of shape) run runs h.sound))
