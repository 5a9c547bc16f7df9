-- What the numbers of a sound slab are below, and what the code may read of it.
use Rattle.std.proofs.Common.{ℕ, ◌≡◌, ◌⊎◌, ◌+◌, ◌*◌, ◌/◌, ◌^◌, ◌<◌, ◌≤◌, zero, suc, List, [], ◌∷◌, Some, length, get_or, sym, ap, subst, ◌∙◌, refl, arith, inl, inr}
use Rattle.std.specs.Prelude.{All}
use Rattle.std.proofs.Math.Nat.{mul-le-mul_left}
use Rattle.std.proofs.lemmas.List.{get_or_default, get_or_past}
use Rattle.std.proofs.lemmas.List.Sums.{sum_by-le}
use Rattle.std.proofs.lemmas.Bool.{cases_lt}
use Rattle.std.proofs.lemmas.Grind.{common_steps}
use Rattle.slab_model.specs.declared.runs.Run.{Run}
use Rattle.slab_model.specs.declared.shape.Shape.{Shape}
use Rattle.slab_model.specs.declared.page.PageState.{PageState}
use Rattle.slab_model.specs.declared.page.PageState.TheVariants.{Free, First, Later, Class}
use Rattle.slab_model.specs.Geometry.{start_of, pages_of, class_size, usable_blocks}
use Rattle.slab_model.specs.Numbers.{with_number, without}
use Rattle.slab_model.specs.Inside.{IsOfClass, IsSmallPage}
use Rattle.slab_model.specs.Runs.{AreSound, first_fit}
use Rattle.slab_model.specs.State.{Slab, page_at, list_of, stat_of}
use Rattle.slab_model.specs.Blocks.{page_number, place_in_page, live_in_page, IsLive, used_in, lowest_unused}
use Rattle.slab_model.specs.Return.{give_back, give_from, give_pages, give_in_page}
use Rattle.slab_model.specs.Soundness.{IsSound, AreUsed, usable_in_class, used_in_class}
use Rattle.slab_model.proofs.ClassLemmas.{cuts, zone}
use Rattle.slab_model.proofs.RunLemmas.{first_fit-in}
use Rattle.slab_model.proofs.StateLemmas.{length_used, lowest-in, AreUsed-grant}
use Rattle.slab_model.proofs.BlockLemmas.{live_bytes-low, live_bytes-in}
use Rattle.slab_model.proofs.SoundLemmas.{listed-is, class_page-in}

usable_le : (shape : Shape) (class : ℕ) → class < 9 → (state : PageState) → usable_in_class shape class state ≤ 512
usable_le shape class known Free = omega arith
usable_le shape class known (First n) = omega arith
usable_le shape class known Later = omega arith
usable_le shape class known (Class own used) = let c = cuts shape class known in let small : usable_blocks shape class ≤ 512 = omega (arith, c.sum, c.many) in grind (arith, common_steps, small)

used_le : (shape : Shape) (class : ℕ) (state : PageState) → ((own : ℕ) (used : List ℕ) → state ≡ Class own used → AreUsed shape own used) → used_in_class class state ≤ 512
used_le shape class Free ok = omega arith
used_le shape class (First n) ok = omega arith
used_le shape class Later ok = omega arith
used_le shape class (Class own used) ok =
    let a = ok own used refl in
    let few = length_used shape own used a in
    let c = cuts shape own a.known in
    let small : length used ≤ 512 = omega (arith, few, c.sum, c.many) in
    grind (arith, common_steps, small)

-- a class can grant no more than all pages hold
pub record Small (slab : Slab) (class : ℕ) : Type 0 where
  pub total : (stat_of slab class).total ≤ 8388608
  pub used : (stat_of slab class).used ≤ 8388608

pub small_stat : (slab : Slab) (class : ℕ) → IsSound slab → class < 9 → Small slab class
small_stat slab class s known =
    let z = zone slab.shape s.limits in
    let counts = s.counts class known in
    let total = sum_by-le (usable_in_class slab.shape class) 512 slab.pages (λ k d low. usable_le slab.shape class known (get_or slab.pages k d)) in
    let used = sum_by-le (used_in_class class) 512 slab.pages (λ k d low. used_le slab.shape class (get_or slab.pages k d) (λ own indexes is. s.used k own indexes (get_or_default slab.pages k Free d low ∙ is))) in
    record {
      total = omega (arith, z.many, counts.total, total, s.page_count);
      used = omega (arith, z.many, counts.used, used, s.page_count);
    }

-- what the code reads of the first page of a class's list
pub record Listed (slab : Slab) (class page : ℕ) : Type 0 where
  pub in_pages : page < length slab.pages
  pub few : page < 16384
  pub same : (d : PageState) → get_or slab.pages page d ≡ page_at slab.pages page
  pub of_class : IsOfClass (page_at slab.pages page)
  pub used : AreUsed slab.shape class (used_in (page_at slab.pages page))
  pub granted : AreUsed slab.shape class (with_number (lowest_unused slab.shape class (used_in (page_at slab.pages page))) (used_in (page_at slab.pages page)))
  pub index : lowest_unused slab.shape class (used_in (page_at slab.pages page)) < 512

pub listed : (slab : Slab) (class page : ℕ) (rest : List ℕ) → IsSound slab → class < 9 → list_of slab class ≡ page ∷ rest → Listed slab class page
listed slab class page rest s known is =
    let z = zone slab.shape s.limits in
    let l = listed-is slab class page rest s known is in
    let here = class_page-in slab class page (used_in (page_at slab.pages page)) s l.0 in
    let used = s.used page class (used_in (page_at slab.pages page)) l.0 in
    let low = lowest-in slab.shape class (used_in (page_at slab.pages page)) known l.1 in
    let c = cuts slab.shape class known in
    record {
      in_pages = omega (arith, here, s.page_count);
      few = omega (arith, here, z.many);
      same = λ d. get_or_default slab.pages page d Free (omega (arith, here, s.page_count));
      of_class = subst (λ (t : PageState). IsOfClass t) (sym l.0) tt;
      used = used;
      granted = AreUsed-grant slab.shape class (used_in (page_at slab.pages page)) used l.1;
      index = omega (arith, low.1, c.many);
    }

-- the offset of a block of a class fits
pub offsets : (slab : Slab) (class page index : ℕ) → IsSound slab → class < 9 → page < 16384 → index < 512 → (class_size class * index ≤ 1048576) × (start_of slab.shape ≤ 67108864)
offsets slab class page index s known low few =
    let z = zone slab.shape s.limits in
    let c = cuts slab.shape class known in
    let h = mul-le-mul_left (class_size class) few in
    let small : class_size class * 512 ≤ 1048576 = omega (arith, c.small) in
    (product (class_size class) index h small, omega (arith, z.last, s.limits.small))
  where
    product : (size index : ℕ) → size * suc index ≤ size * 512 → size * 512 ≤ 1048576 → size * index ≤ 1048576
    product size index h small = omega (arith, h, small)

AreSound-small : (count : ℕ) (runs : List Run) → count ≤ 16384 → AreSound count runs → (k : ℕ) (d : Run) → k < length runs → (get_or runs k d).first + (get_or runs k d).pages < 2 ^ 32
AreSound-small count [] few sound k d low = absurd (omega arith)
AreSound-small count (run ∷ runs) few sound zero d low = omega (arith, sound.1)
AreSound-small count (run ∷ runs) few sound (suc k) d low = AreSound-small count runs few sound.3 k d (omega arith)

-- the numbers of the free runs are small
pub small_runs : (slab : Slab) → IsSound slab → All (λ r. r.first + r.pages < 2 ^ 32) slab.runs
small_runs slab s = AreSound-small (pages_of slab.shape) slab.runs (zone slab.shape s.limits).many s.runs

-- a run that fits lies in the pages
pub fit_in : (slab : Slab) (count page : ℕ) → IsSound slab → first_fit count slab.runs ≡ Some page → (page + count ≤ length slab.pages) × (page + count ≤ 16384)
fit_in slab count page s fit = let h = first_fit-in (pages_of slab.shape) count slab.runs page s.runs fit in let z = zone slab.shape s.limits in (omega (arith, h, s.page_count), omega (arith, h, z.many))

-- a page of a class is one of the pages
pub class_page : (slab : Slab) (page class : ℕ) (used : List ℕ) → IsSound slab → page_at slab.pages page ≡ Class class used → (page < length slab.pages) × (page < 16384) × (class < 9)
class_page slab page class used s is =
    let z = zone slab.shape s.limits in
    let here = class_page-in slab class page used s is in
    (omega (arith, here, s.page_count), omega (arith, here, z.many), (s.used page class used is).known)

-- a used run lies in the pages
pub run_in : (slab : Slab) (page count : ℕ) → IsSound slab → page_at slab.pages page ≡ First count → (page + count ≤ length slab.pages) × (page + count ≤ 16384)
run_in slab page count s is =
    let z = zone slab.shape s.limits in
    let run = s.used_runs.followed page count is in
    (omega (arith, run.1, s.page_count), omega (arith, run.1, z.many))

-- what comes back, by what its page is
pub back_run : (slab : Slab) (at page count : ℕ) → page ≡ page_number slab.shape at → page_at slab.pages page ≡ First count → give_back slab at ≡ give_pages slab page count
unfolding give_back
back_run slab at page count e is =
    ap (λ n. give_from slab n (place_in_page slab.shape at) (page_at slab.pages n)) (sym e)
    ∙ ap (λ t. give_from slab page (place_in_page slab.shape at) t) is

pub back_class : (slab : Slab) (at page class index : ℕ) (used : List ℕ) → page ≡ page_number slab.shape at → index ≡ place_in_page slab.shape at / class_size class → page_at slab.pages page ≡ Class class used → give_back slab at ≡ give_in_page slab page class used (without index used)
unfolding give_back
back_class slab at page class index used e i is =
    ap (λ n. give_from slab n (place_in_page slab.shape at) (page_at slab.pages n)) (sym e)
    ∙ ap (λ t. give_from slab page (place_in_page slab.shape at) t) is
    ∙ ap (λ n. give_in_page slab page class used (without n used)) (sym i)

-- the page of a live block is one of the pages
pub live_page_in : (slab : Slab) (at page : ℕ) → page ≡ page_number slab.shape at → IsLive slab at → page < length slab.pages
live_page_in slab at page e live = elim (cases_lt page (length slab.pages)) [
  | inl low ↦ low
  | inr past ↦ absurd (none (cases_lt at (start_of slab.shape)) (ap (λ k. page_at slab.pages k) (sym e) ∙ get_or_past slab.pages page Free past))
] where
  none : (at < start_of slab.shape) ⊎ (start_of slab.shape ≤ at) → page_at slab.pages (page_number slab.shape at) ≡ Free → ⊥
  none (inl low) free = let h = live_bytes-low slab at low in omega arith
  none (inr behind) free = let h = live_bytes-in slab at behind ∙ ap (λ t. live_in_page slab.shape t (place_in_page slab.shape at)) free in omega arith

-- the numbers that a page of a sound slab keeps are small
small_state : (slab : Slab) (page : ℕ) → IsSound slab → (state : PageState) → page_at slab.pages page ≡ state → IsSmallPage slab.shape state
small_state slab page s Free is = tt
small_state slab page s (First count) is = let z = zone slab.shape s.limits in let run = s.used_runs.followed page count is in omega (arith, run.1, z.many)
small_state slab page s Later is = tt
small_state slab page s (Class class used) is = (s.used page class used is).known

pub small_page : (slab : Slab) (page : ℕ) (d : PageState) → IsSound slab → page < length slab.pages → IsSmallPage slab.shape (get_or slab.pages page d)
small_page slab page d s low = subst (λ (t : PageState). IsSmallPage slab.shape t) (get_or_default slab.pages page Free d low) (small_state slab page s (page_at slab.pages page) refl)
