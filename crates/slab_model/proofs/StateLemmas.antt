-- What the tests of a page say, and what sums over the pages are once some of them change.
use Rattle.std.proofs.Common.{ℕ, ◌≡◌, ◌≢◌, ◌+◌, ◌<◌, ◌≤◌, zero, suc, true, false, not, ◌&&◌, ◌||◌, sym, List, [], ◌∷◌, length, set, ap, ◌∙◌, refl, arith, inl, inr, eqb, get_or-set_other}
use Rattle.std.proofs.lemmas.List.{length-set, get_or_past}
use Rattle.std.proofs.lemmas.List.Sums.{sum_by-set}
use Rattle.std.proofs.lemmas.Bool.{cases_Bool, cases_eq, cases_lt, cases_order, eqb-true, eqb-false}
use Rattle.std.proofs.lemmas.Grind.{common_steps}
use Rattle.std.specs.Prelude.{sum_by}
use Rattle.slab_model.specs.declared.shape.Shape.{Shape}
use Rattle.slab_model.specs.declared.page.PageState.{PageState}
use Rattle.slab_model.specs.declared.page.PageState.TheVariants.{Free, First, Later, Class}
use Rattle.slab_model.specs.Geometry.{first_index, usable_blocks, blocks_in_page}
use Rattle.zone_region.specs.Members.{In, IsDistinct}
use Rattle.slab_model.specs.Numbers.{is_member, with_number, without}
use Rattle.slab_model.specs.State.{page_at, fill_pages}
use Rattle.slab_model.specs.Blocks.{is_full, lowest_unused, used_in}
use Rattle.slab_model.specs.Counting.{is_free}
use Rattle.slab_model.specs.Soundness.{has_room, AreUsed}
use Rattle.slab_model.specs.Laws.{LowestLaw}
use Rattle.slab_model.proofs.ClassLemmas.{cuts}
use Rattle.slab_model.proofs.NumberLemmas.{member, member_not, not_member, In-from, In-without, IsDistinct-ascending, AscendsFrom-with, AscendsFrom-without, is_member-with, length-with, length-ascending, first_unused-low, first_unused-high, first_unused-unused, first_unused-below, first_gap, first_gap-is, first_gap-full}

pub is_free-is : (state : PageState) → is_free state ≡ true → state ≡ Free
is_free-is Free h = refl
is_free-is (First n) h = absurd (cc)
is_free-is Later h = absurd (cc)
is_free-is (Class class used) h = absurd (cc)

-- a page that isn't free is one of the zone's
pub page_at-in : (pages : List PageState) (page : ℕ) → page_at pages page ≢ Free → page < length pages
page_at-in pages page not = elim (cases_lt page (length pages)) [ inl l ↦ l | inr past ↦ absurd (not (get_or_past pages page Free past)) ]

-- a page with room is one of the class, and not full
pub has_room-is : (shape : Shape) (class : ℕ) (state : PageState) → has_room shape class state ≡ true → (state ≡ Class class (used_in state)) × (is_full shape class (used_in state) ≡ false)
has_room-is shape class Free h = absurd (cc)
has_room-is shape class (First n) h = absurd (cc)
has_room-is shape class Later h = absurd (cc)
has_room-is shape class (Class own used) h = elim (cases_Bool (eqb own class)) [
  | inl same_class ↦ same (eqb-true own class same_class) h
  | inr other ↦ absurd (wrong other h)
] where
  wrong : eqb own class ≡ false → (eqb own class && not (is_full shape class used)) ≡ true → ⊥
  wrong other h = grind (arith, common_steps)

  same : own ≡ class → (eqb own class && not (is_full shape class used)) ≡ true → (Class own used ≡ Class class used) × (is_full shape class used ≡ false)
  same e h = (ap (λ c. Class c used) e, grind (arith, common_steps))

-- a page of the class has room where it is not full
pub has_room-own : (shape : Shape) (class : ℕ) (used : List ℕ) → has_room shape class (Class class used) ≡ not (is_full shape class used)
has_room-own shape class used = grind (arith, common_steps)

-- the lowest unused index of a page that is not full
pub lowest-in : (shape : Shape) (class : ℕ) (used : List ℕ) → class < 9 → is_full shape class used ≡ false → (first_index shape class ≤ lowest_unused shape class used) × (lowest_unused shape class used < blocks_in_page shape class) × (is_member (lowest_unused shape class used) used ≡ false)
lowest-in shape class used known full =
    let c = cuts shape class known in
    let low = first_unused-low (usable_blocks shape class) (first_index shape class) used in
    let high = first_unused-high (usable_blocks shape class) (first_index shape class) used in
    let unused = first_unused-unused (usable_blocks shape class) (first_index shape class) used in
    let ne = eqb-false (lowest_unused shape class used) (blocks_in_page shape class) full in
    let below : lowest_unused shape class used < blocks_in_page shape class = omega (arith, c.sum, ne) in
    (low, below, unused (omega (arith, c.sum)))

-- a page whose usable index isn't used is not full
pub not_full : (shape : Shape) (class index : ℕ) (used : List ℕ) → first_index shape class ≤ index → index < blocks_in_page shape class → is_member index used ≡ false → is_full shape class used ≡ false
not_full shape class index used low high unused = let below = first_unused-below (usable_blocks shape class) (first_index shape class) index used low in grind (arith, common_steps, below)

pub lowest-law : LowestLaw
lowest-law shape class used known = record {
  lower = λ index low below. (member index used).0 (first_unused-below (usable_blocks shape class) (first_index shape class) index used low below);
  given = λ part. let low = lowest-in shape class used known part in (low.0, low.1, not_member (lowest_unused shape class used) used low.2);
  full = λ whole index low high. elim (cases_Bool (is_member index used)) [ inl there ↦ (member index used).0 there | inr none ↦ absurd (both (not_full shape class index used low high none) whole) ];
} where
  both : is_full shape class used ≡ false → is_full shape class used ≡ true → ⊥
  both f t = cc

-- the lowest unused index of a page is one that isn't used, below which all are
pub lowest-is : (shape : Shape) (class index : ℕ) (used : List ℕ) → class < 9 → first_index shape class ≤ index → index < blocks_in_page shape class → (In index used → ⊥) → ((lower : ℕ) → first_index shape class ≤ lower → lower < index → In lower used) → lowest_unused shape class used ≡ index
lowest-is shape class index used known low high none below =
    let full = not_full shape class index used low high (member_not index used none) in
    let least = lowest-in shape class used known full in
    let lower = first_unused-below (usable_blocks shape class) (first_index shape class) index used low in
    elim (cases_order (lowest_unused shape class used) index) [
      | inl e ↦ e
      | inr ne ↦ elim ne [
        | inl less ↦ absurd (not_member (lowest_unused shape class used) used least.2 (below (lowest_unused shape class used) least.0 less))
        | inr more ↦ absurd (none ((member index used).0 (lower more)))
      ]
    ]

-- a page with one block is not full
pub not_full-one : (shape : Shape) (class index : ℕ) → class < 9 → is_full shape class (index ∷ []) ≡ false
not_full-one shape class index known = elim (cases_eq index (first_index shape class)) [
  | inl e ↦ not_full shape class (first_index shape class + 1) (index ∷ []) (omega arith) (omega (arith, (cuts shape class known).sum, (cuts shape class known).two)) (grind (arith, common_steps, e))
  | inr ne ↦ not_full shape class (first_index shape class) (index ∷ []) (omega arith) (omega (arith, (cuts shape class known).sum, (cuts shape class known).two)) (grind (arith, common_steps, ne))
]

-- what a used index of a page is
pub used-usable : (shape : Shape) (class index : ℕ) (used : List ℕ) → AreUsed shape class used → In index used → (first_index shape class ≤ index) × (index < blocks_in_page shape class)
used-usable shape class index used ok there = (In-from (first_index shape class) index used ok.ascending there, ok.below index there)

pub used-distinct : (shape : Shape) (class : ℕ) (used : List ℕ) → AreUsed shape class used → IsDistinct used
used-distinct shape class used ok = IsDistinct-ascending (first_index shape class) used ok.ascending

-- the used indexes once a block is granted
pub AreUsed-grant : (shape : Shape) (class : ℕ) (used : List ℕ) → AreUsed shape class used → is_full shape class used ≡ false → AreUsed shape class (with_number (lowest_unused shape class used) used)
AreUsed-grant shape class used ok full =
    let index = lowest_unused shape class used in
    let low = lowest-in shape class used ok.known full in
    record {
      known = ok.known;
      some = omega (arith, length-with index used);
      ascending = AscendsFrom-with (first_index shape class) index used low.0 ok.ascending (not_member index used low.2);
      below = λ i there. below i low.1 (ok.below i) (is_member-with i index used) ((member i (with_number index used)).1 there) (member i used).0;
    }
  where
    below : (i : ℕ) → lowest_unused shape class used < blocks_in_page shape class → (In i used → i < blocks_in_page shape class) → is_member i (with_number (lowest_unused shape class used) used) ≡ (eqb i (lowest_unused shape class used) || is_member i used) → is_member i (with_number (lowest_unused shape class used) used) ≡ true → (is_member i used ≡ true → In i used) → i < blocks_in_page shape class
    below i high old mem there is_in = elim (cases_eq i (lowest_unused shape class used)) [
      | inl e ↦ omega (arith, e, high)
      | inr ne ↦ old (is_in (was ne))
    ] where
      was : i ≢ lowest_unused shape class used → is_member i used ≡ true
      was ne = grind (arith, common_steps, mem, there, ne)

pub AreUsed-one : (shape : Shape) (class : ℕ) → class < 9 → AreUsed shape class (first_index shape class ∷ [])
AreUsed-one shape class known = let c = cuts shape class known in record {
  known = known;
  some = omega arith;
  ascending = (omega arith, tt);
  below = λ i there. elim there [ inl e ↦ omega (arith, e, c.sum, c.two) | inr none ↦ absurd none ];
}

-- the used indexes once a block comes back
pub AreUsed-give : (shape : Shape) (class index : ℕ) (used : List ℕ) → AreUsed shape class used → 0 < length (without index used) → AreUsed shape class (without index used)
AreUsed-give shape class index used ok some = record {
  known = ok.known;
  some = some;
  ascending = AscendsFrom-without (first_index shape class) index used ok.ascending;
  below = λ i there. ok.below i (In-without i index used there);
}

-- a page has no more live blocks than it can grant
pub length_used : (shape : Shape) (class : ℕ) (used : List ℕ) → AreUsed shape class used → length used ≤ usable_blocks shape class
length_used shape class used ok =
    let c = cuts shape class ok.known in
    let few = length-ascending (first_index shape class) (blocks_in_page shape class) used ok.ascending (omega (arith, c.sum)) ok.below in
    omega (arith, few, c.sum)

-- the lowest unused index in one pass over the used ones
pub lowest_gap : (shape : Shape) (class : ℕ) (used : List ℕ) → AreUsed shape class used → first_gap (first_index shape class) used ≡ lowest_unused shape class used
lowest_gap shape class used ok = let c = cuts shape class ok.known in first_gap-is (usable_blocks shape class) (first_index shape class) used ok.ascending (λ n there. let high = ok.below n there in omega (arith, high, c.sum))

-- a page is full where it has as many used indexes as it can grant
pub full_length : (shape : Shape) (class : ℕ) (used : List ℕ) → AreUsed shape class used → is_full shape class used ≡ eqb (length used) (usable_blocks shape class)
full_length shape class used ok =
    let c = cuts shape class ok.known in
    let gap = lowest_gap shape class used ok in
    let packed = first_gap-full (usable_blocks shape class) (first_index shape class) used ok.ascending (λ n there. let high = ok.below n there in omega (arith, high, c.sum)) in
    ap (λ k. eqb k (blocks_in_page shape class)) (sym gap) ∙ ap (λ k. eqb (first_gap (first_index shape class) used) k) (sym c.sum) ∙ packed

-- pages that weigh nothing become others that weigh nothing
pub sum_by-fill : (f : PageState → ℕ) (state : PageState) (page count : ℕ) (pages : List PageState) → page + count ≤ length pages → f state ≡ 0 → ((q : ℕ) → page ≤ q → q < page + count → f (page_at pages q) ≡ 0) → sum_by f (fill_pages state page count pages) ≡ sum_by f pages
sum_by-fill f state page zero pages room none old = refl
sum_by-fill f state page (suc count) pages room none old =
    let one = sum_by-set f pages page state Free (omega arith) in
    let here = old page (omega arith) (omega arith) in
    sum_by-fill f state (page + 1) count (set pages page state) (omega (arith, length-set pages page state)) none (λ q low high. kept q low high (old q (omega arith) (omega arith)))
    ∙ omega (arith, one, here, none)
  where
    kept : (q : ℕ) → page + 1 ≤ q → q < page + 1 + count → f (page_at pages q) ≡ 0 → f (page_at (set pages page state) q) ≡ 0
    kept q low high h = let ne : q ≢ page = λ e. absurd (omega arith) in ap f (get_or-set_other pages page q state Free ne) ∙ h
