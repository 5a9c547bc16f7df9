-- The live blocks: where they lie, and which of them a call changes.
use Rattle.std.proofs.Common.{ℕ, ◌≡◌, ◌≢◌, ◌⊎◌, ◌+◌, ◌*◌, ◌/◌, ◌%◌, ◌<◌, ◌≤◌, true, false, List, [], sym, ap, ◌∙◌, refl, arith, inl, inr}
use Rattle.std.proofs.Math.Nat.{mul-le-mul_left}
use Rattle.std.proofs.lemmas.Nat.{div-add-mod', div-mul-add, mod-mul-add}
use Rattle.std.proofs.lemmas.Bool.{cases_Bool, cases_eq, cases_lt}
use Rattle.std.proofs.lemmas.Grind.{common_steps}
use Rattle.slab_model.specs.declared.shape.Shape.{Shape}
use Rattle.slab_model.specs.declared.page.PageState.{PageState}
use Rattle.slab_model.specs.declared.page.PageState.TheVariants.{Free, First, Later, Class}
use Rattle.slab_model.specs.Geometry.{start_of, page_offset, block_offset, class_size}
use Rattle.slab_model.specs.Numbers.{is_member, with_number, without}
use Rattle.slab_model.specs.State.{Slab, page_at}
use Rattle.slab_model.specs.Blocks.{live_bytes, live_in_page, IsLive, page_number, place_in_page}
use Rattle.slab_model.specs.Soundness.{AreUsed, IsSound}
use Rattle.slab_model.proofs.ClassLemmas.{cuts}
use Rattle.slab_model.proofs.NumberLemmas.{is_member-with, is_member-without}

-- an offset behind the start is that of a place in a page
pub offset_is : (shape : Shape) (at : ℕ) → start_of shape ≤ at → (at ≡ page_offset shape (page_number shape at) + place_in_page shape at) × (place_in_page shape at < 4096)
offset_is shape at low = (omega arith, omega arith)

pub page_number-is : (shape : Shape) (page place : ℕ) → place < 4096 → page_number shape (page_offset shape page + place) ≡ page
page_number-is shape page place low = omega arith

pub place_in_page-is : (shape : Shape) (page place : ℕ) → place < 4096 → place_in_page shape (page_offset shape page + place) ≡ place
place_in_page-is shape page place low = omega arith

pub live_bytes-low : (slab : Slab) (at : ℕ) → at < start_of slab.shape → live_bytes slab at ≡ 0
live_bytes-low slab at low = grind (arith, common_steps)

pub live_bytes-in : (slab : Slab) (at : ℕ) → start_of slab.shape ≤ at → live_bytes slab at ≡ live_in_page slab.shape (page_at slab.pages (page_number slab.shape at)) (place_in_page slab.shape at)
live_bytes-in slab at low = grind (arith, common_steps)

pub live_bytes-at : (slab : Slab) (page place : ℕ) → place < 4096 → live_bytes slab (page_offset slab.shape page + place) ≡ live_in_page slab.shape (page_at slab.pages page) place
live_bytes-at slab page place low =
    live_bytes-in slab (page_offset slab.shape page + place) (omega arith)
    ∙ ap (λ n. live_in_page slab.shape (page_at slab.pages n) (place_in_page slab.shape (page_offset slab.shape page + place))) (page_number-is slab.shape page place low)
    ∙ ap (λ n. live_in_page slab.shape (page_at slab.pages page) n) (place_in_page-is slab.shape page place low)

-- a block of a page of a class
pub record IsBlock (shape : Shape) (class : ℕ) (used : List ℕ) (place : ℕ) : Type 0 where
  pub index : ℕ
  pub place_is : place ≡ class_size class * index
  pub used_one : is_member index used ≡ true
  pub bytes : live_in_page shape (Class class used) place ≡ class_size class

multiple : (n m : ℕ) → 0 < m → n % m ≡ 0 → n ≡ m * (n / m)
multiple n m some none = let h = div-add-mod' n m in grind (arith, common_steps, h)

pub block_of : (shape : Shape) (class : ℕ) (used : List ℕ) (place : ℕ) → 0 < class_size class → 0 < live_in_page shape (Class class used) place → IsBlock shape class used place
block_of shape class used place some live = elim (cases_eq (place % class_size class) 0) [
  | inl e ↦ elim (cases_Bool (is_member (place / class_size class) used)) [
    | inl there ↦ record { index = place / class_size class; place_is = multiple place (class_size class) some e; used_one = there; bytes = bytes e there }
    | inr gone ↦ absurd (none gone)
  ]
  | inr ne ↦ absurd (uneven ne)
] where
  bytes : place % class_size class ≡ 0 → is_member (place / class_size class) used ≡ true → live_in_page shape (Class class used) place ≡ class_size class
  bytes e there = grind (arith, common_steps)

  none : is_member (place / class_size class) used ≡ false → ⊥
  none gone = grind (arith, common_steps)

  uneven : place % class_size class ≢ 0 → ⊥
  uneven ne = grind (arith, common_steps)

div_own : (size index : ℕ) → 0 < size → (size * index) / size ≡ index
div_own size index some = let h = div-mul-add index size 0 some in grind (arith, common_steps, h)

mod_own : (size index : ℕ) → 0 < size → (size * index) % size ≡ 0
mod_own size index some = let h = mod-mul-add index size 0 some in grind (arith, common_steps, h)

-- a used index is a live block
pub live_of : (shape : Shape) (class : ℕ) (used : List ℕ) (index : ℕ) → 0 < class_size class → is_member index used ≡ true → live_in_page shape (Class class used) (class_size class * index) ≡ class_size class
live_of shape class used index some there = let d = div_own (class_size class) index some in let m = mod_own (class_size class) index some in grind (arith, common_steps, d, m)

pub live_not : (shape : Shape) (class : ℕ) (used : List ℕ) (index : ℕ) → 0 < class_size class → is_member index used ≡ false → live_in_page shape (Class class used) (class_size class * index) ≡ 0
live_not shape class used index some there = let d = div_own (class_size class) index some in let m = mod_own (class_size class) index some in grind (arith, common_steps, d, m)

-- an index more changes no other block
pub live_more : (shape : Shape) (class index : ℕ) (used : List ℕ) (place : ℕ) → 0 < class_size class → place ≢ class_size class * index → live_in_page shape (Class class (with_number index used)) place ≡ live_in_page shape (Class class used) place
live_more shape class index used place some ne = elim (cases_eq (place % class_size class) 0) [
  | inl e ↦ even (multiple place (class_size class) some e)
  | inr uneven ↦ odd uneven
] where
  even : place ≡ class_size class * (place / class_size class) → live_in_page shape (Class class (with_number index used)) place ≡ live_in_page shape (Class class used) place
  even e =
      let other : place / class_size class ≢ index = λ q. ne (e ∙ ap (λ k. class_size class * k) q) in
      let mem = is_member-with (place / class_size class) index used in
      grind (arith, common_steps, other, mem)

  odd : place % class_size class ≢ 0 → live_in_page shape (Class class (with_number index used)) place ≡ live_in_page shape (Class class used) place
  odd uneven = grind (arith, common_steps)

-- an index less changes no other block
pub live_less : (shape : Shape) (class index : ℕ) (used : List ℕ) (place : ℕ) → 0 < class_size class → place ≢ class_size class * index → live_in_page shape (Class class (without index used)) place ≡ live_in_page shape (Class class used) place
live_less shape class index used place some ne = elim (cases_eq (place % class_size class) 0) [
  | inl e ↦ even (multiple place (class_size class) some e)
  | inr uneven ↦ odd uneven
] where
  even : place ≡ class_size class * (place / class_size class) → live_in_page shape (Class class (without index used)) place ≡ live_in_page shape (Class class used) place
  even e =
      let other : index ≢ place / class_size class = λ q. ne (e ∙ ap (λ k. class_size class * k) (sym q)) in
      let mem = is_member-without (place / class_size class) index used in
      grind (arith, common_steps, other, mem)

  odd : place % class_size class ≢ 0 → live_in_page shape (Class class (without index used)) place ≡ live_in_page shape (Class class used) place
  odd uneven = grind (arith, common_steps)

pub live_none : (shape : Shape) (class place : ℕ) → live_in_page shape (Class class []) place ≡ 0
live_none shape class place = grind (arith, common_steps)

-- a block ends within its page
pub block_end : (size index blocks : ℕ) → size * blocks ≡ 4096 → index < blocks → size * index + size ≤ 4096
block_end size index blocks whole low = let next : index + 1 ≤ blocks = omega arith in let h = mul-le-mul_left size next in omega (arith, h)

-- ---- where the live blocks lie

-- how a live block lies in the zone: in a page of a class, or over the pages of a used run
pub data Lies (slab : Slab) (at : ℕ) : Type 0 where
  in_page : (page class : ℕ) (used : List ℕ) (index : ℕ) → page_at slab.pages page ≡ Class class used → AreUsed slab.shape class used → is_member index used ≡ true → at ≡ block_offset slab.shape page class index → live_bytes slab at ≡ class_size class → Lies slab at
  over_pages : (page count : ℕ) → page_at slab.pages page ≡ First count → at ≡ page_offset slab.shape page → live_bytes slab at ≡ 4096 * count → Lies slab at

lies_in : (slab : Slab) (at page place : ℕ) → IsSound slab → at ≡ page_offset slab.shape page + place → live_bytes slab at ≡ live_in_page slab.shape (page_at slab.pages page) place → 0 < live_bytes slab at → (state : PageState) → page_at slab.pages page ≡ state → Lies slab at
lies_in slab at page place s at_is bytes live Free is = absurd (none (bytes ∙ ap (λ t. live_in_page slab.shape t place) is)) where
  none : live_bytes slab at ≡ 0 → ⊥
  none h = omega arith
lies_in slab at page place s at_is bytes live (First count) is = run (cases_eq place 0) (bytes ∙ ap (λ t. live_in_page slab.shape t place) is) where
  run : (place ≡ 0) ⊎ (place ≢ 0) → live_bytes slab at ≡ live_in_page slab.shape (First count) place → Lies slab at
  run (inl e) h = over_pages page count is (omega arith) (grind (arith, common_steps))
  run (inr ne) h = absurd (inner ne h) where
    inner : place ≢ 0 → live_bytes slab at ≡ live_in_page slab.shape (First count) place → ⊥
    inner ne h = grind (arith, common_steps)
lies_in slab at page place s at_is bytes live Later is = absurd (none (bytes ∙ ap (λ t. live_in_page slab.shape t place) is)) where
  none : live_bytes slab at ≡ 0 → ⊥
  none h = omega arith
lies_in slab at page place s at_is bytes live (Class class used) is =
    let ok = s.used page class used is in
    let same = bytes ∙ ap (λ t. live_in_page slab.shape t place) is in
    let b = block_of slab.shape class used place (cuts slab.shape class ok.known).some (omega (arith, same)) in
    in_page page class used b.index is ok b.used_one (omega (arith, b.place_is)) (same ∙ b.bytes)

pub lies : (slab : Slab) (at : ℕ) → IsSound slab → IsLive slab at → Lies slab at
lies slab at s live = elim (cases_lt at (start_of slab.shape)) [
  | inl low ↦ absurd (none (live_bytes-low slab at low))
  | inr behind ↦ lies_in slab at (page_number slab.shape at) (place_in_page slab.shape at) s (offset_is slab.shape at behind).0 (live_bytes-in slab at behind) live (page_at slab.pages (page_number slab.shape at)) refl
] where
  none : live_bytes slab at ≡ 0 → ⊥
  none h = omega arith
