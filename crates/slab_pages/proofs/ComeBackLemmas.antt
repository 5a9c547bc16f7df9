-- In a sound slab whose words are laid out, each used run and each page of a class can come back.
use Rattle.std.proofs.Common.{ℕ, ◌≡◌, ◌≢◌, ◌+◌, ◌%◌, ◌<◌, false, not, List, [], ◌∷◌, refl, arith, inl, inr, sym, ap, ◌∙◌}
use Rattle.std.proofs.lemmas.Bool.{cases_eq, cases_Bool}
use Rattle.slab_model.specs.declared.runs.Run.{Run}
use Rattle.slab_model.specs.declared.shape.Shape.{Shape}
use Rattle.slab_model.specs.declared.page.PageState.{PageState}
use Rattle.slab_model.specs.declared.page.PageState.TheVariants.{Free, First, Later, Class}
use Rattle.slab_model.specs.Geometry.{Kind, small, exact, big, kind_of}
use Rattle.zone_region.specs.Members.{In}
use Rattle.slab_model.specs.Runs.{is_covered}
use Rattle.slab_model.specs.State.{Slab, pages_in, page_at, list_of}
use Rattle.slab_model.specs.Soundness.{IsSound, has_room}
use Rattle.slab_model.specs.Blocks.{is_full}
use Rattle.slab_model.specs.Counting.{is_free}
use Rattle.slab_model.proofs.StateLemmas.{has_room-own}
use Rattle.slab_pages.specs.Places.{descriptor, prev_at, class_head}
use Rattle.slab_pages.specs.Layout.{IsBusy, CanComeBack, MayPut}
use Rattle.slab_pages.specs.SlabLayout.{LaysSlab, LaysPages, type_of}

-- descriptors begin at multiples of 8, so the low bits of a link are free for the type
eight : (page : ℕ) → descriptor page % 8 ≡ 0
unfolding descriptor
eight page = omega arith

-- a link tells the type that is added to it
typed : (k : Kind) (n : ℕ) → n % 8 ≡ 0 → (n + type_of k) % 4 ≡ type_of k
typed small n h = omega (arith, h)
typed exact n h = omega (arith, h)
typed big n h = omega (arith, h)

-- and so does the type alone
plain : (k : Kind) → type_of k % 4 ≡ type_of k
plain small = omega arith
plain exact = omega arith
plain big = omega arith

-- no class's pages have the type of whole pages
pub classed : (k : Kind) → type_of k ≢ 0
classed small = λ e. omega (arith, e)
classed exact = λ e. omega (arith, e)
classed big = λ e. omega (arith, e)

-- a page in a class's list has its type
listed : (words : List ℕ) (shape : Shape) (class o page : ℕ) (pages : List ℕ) → o % 8 ≡ 0 → LaysPages words shape class o pages → In page pages → prev_at words (descriptor page) % 4 ≡ type_of (kind_of shape class)
listed words shape class o page [] e h m = absurd m
listed words shape class o page (q ∷ qs) e h (inl same) = ap (λ n. n % 4) (ap (λ n. prev_at words (descriptor n)) same ∙ h.1) ∙ typed (kind_of shape class) o e
listed words shape class o page (q ∷ qs) e h (inr other) = listed words shape class (descriptor q) page qs (eight q) h.2 other

-- and so has a full one
pub class-type : (words : List ℕ) (slab : Slab) (page class : ℕ) (used : List ℕ) → IsSound slab → LaysSlab words slab → page_at slab.pages page ≡ Class class used → prev_at words (descriptor page) % 4 ≡ type_of (kind_of slab.shape class)
class-type words slab page class used s l is = elim (cases_Bool (is_full slab.shape class used)) [
  | inl full ↦ ap (λ n. n % 4) ((l.classes page class used is).prev_if_full full) ∙ plain (kind_of slab.shape class)
  | inr room ↦ let known = (s.used page class used is).known in listed words slab.shape class (class_head class) page (list_of slab class) (omega arith) (l.lists class known).linked
      (((s.lists class known).just page).1 (ap (has_room slab.shape class) is ∙ has_room-own slab.shape class used ∙ ap not room))
]

-- a page that isn't free has the descriptor of one
pub busy : (words : List ℕ) (slab : Slab) (page : ℕ) → IsSound slab → LaysSlab words slab → page < pages_in slab → is_covered page slab.runs ≡ false → IsBusy words page
busy words slab page s l below free = go (page_at slab.pages page) refl where
  go : (state : PageState) → page_at slab.pages page ≡ state → IsBusy words page
  go Free is = absurd (wrong (sym (ap is_free is) ∙ s.free page below ∙ free)) where
    wrong : is_free Free ≡ false → ⊥
    wrong h = cc
  go (First n) is = let h = l.used_runs page n is in inr (h.first.next_is, λ e. omega (arith, sym h.first.slab_is ∙ e))
  go Later is = let b = s.used_runs.belongs page is in let h = (l.used_runs b.0 b.1 b.2).later page b.3 b.4 in inr (h.next_is, λ e. omega (arith, sym h.slab_is ∙ e))
  go (Class class used) is = inl (λ z. classed (kind_of slab.shape class) (sym (class-type words slab page class used s l is) ∙ z))

-- a used run can come back
pub run-back : (words : List ℕ) (slab : Slab) (page n : ℕ) → IsSound slab → LaysSlab words slab → page_at slab.pages page ≡ First n → CanComeBack (pages_in slab) words slab.runs (record { first = page; pages = n })
run-back words slab page n s l is = let f = s.used_runs.followed page n is in record {
  some = f.0;
  within = f.1;
  used = λ q low high. elim (cases_eq q page) [
    | inl e ↦ sym (s.free q (omega (arith, high, f.1))) ∙ ap (λ p. is_free (page_at slab.pages p)) e ∙ ap is_free is
    | inr ne ↦ sym (s.free q (omega (arith, high, f.1))) ∙ ap is_free (f.2 q (omega (arith, low, ne)) high)
  ];
  before = λ q e free. busy words slab q s l (omega (arith, e, f.0, f.1)) free;
  after = λ low free. busy words slab (page + n) s l low free;
}

-- the page of a class can come back
pub page-back : (words : List ℕ) (slab : Slab) (page class : ℕ) (indexes : List ℕ) → IsSound slab → LaysSlab words slab → page_at slab.pages page ≡ Class class indexes → page < pages_in slab → CanComeBack (pages_in slab) words slab.runs (record { first = page; pages = 1 })
page-back words slab page class indexes s l is below = record {
  some = omega arith;
  within = omega (arith, below);
  used = λ q low high. let e : q ≡ page = omega (arith, low, high) in sym (s.free q (omega (arith, e, below))) ∙ ap (λ p. is_free (page_at slab.pages p)) e ∙ ap is_free is;
  before = λ q e free. busy words slab q s l (omega (arith, e, below)) free;
  after = λ low free. busy words slab (page + 1) s l low free;
}

-- so each of them meets what `Pages::put` asks
pub run-may_put : (words : List ℕ) (slab : Slab) (page n : ℕ) → IsSound slab → LaysSlab words slab → page_at slab.pages page ≡ First n → MayPut (record { shape = slab.shape; words = words }) (record { first = page; pages = n })
run-may_put words slab page n s l is = (slab.runs, l.runs, run-back words slab page n s l is)

-- and still does where other words change, as long as pages that aren't free keep the descriptor of one
pub come_back-kept : (count : ℕ) (old new : List ℕ) (runs : List Run) (run : Run) → ((page : ℕ) → page < count → is_covered page runs ≡ false → IsBusy old page → IsBusy new page) → CanComeBack count old runs run → CanComeBack count new runs run
come_back-kept count old new runs run same h = record {
  some = h.some;
  within = h.within;
  used = h.used;
  before = λ page e free. same page (omega (arith, e, h.within, h.some)) free (h.before page e free);
  after = λ low free. same (run.first + run.pages) low free (h.after low free);
}
