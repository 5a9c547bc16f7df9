-- What the words of a pool tell of its pages and blocks.
use Rattle.std.proofs.Common.{ℕ, ◌≡◌, ◌≢◌, ◌⊎◌, ◌↔◌, ◌+◌, ◌-◌, ◌/◌, ◌%◌, ◌^◌, ◌<◌, ◌≤◌, true, false, not, ◌&&◌, ◌||◌, eqb, leb, ltb, cond, List, [], ◌∷◌, sym, ap, subst, ◌∙◌, refl, arith, inl, inr}
use Rattle.std.specs.Int.{bit_at}
use Rattle.std.proofs.lemmas.Bool.{cases_lt, cases_eq, cases_Bool}
use Rattle.std.proofs.lemmas.List.{get_or_past}
use Rattle.std.proofs.lemmas.Nat.{div_below}
use Rattle.std.proofs.lemmas.Grind.{common_steps}
use Rattle.slab_model.specs.declared.runs.Run.{Run}
use Rattle.slab_model.specs.declared.page.PageState.{PageState}
use Rattle.slab_model.specs.declared.page.PageState.TheVariants.{Free, First, Later, Class}
use Rattle.slab_model.specs.declared.shape.Shape.{Shape}
use Rattle.slab_model.specs.Geometry.{Kind, small, exact, big, kind_of, class_size, first_index, blocks_in_page, start_of, pages_of}
use Rattle.slab_model.specs.Numbers.{is_member}
use Rattle.slab_model.specs.Runs.{AreSound, is_covered, is_within}
use Rattle.zone_region.specs.Members.{In}
use Rattle.slab_model.specs.State.{Slab, page_at, list_of}
use Rattle.slab_model.specs.Blocks.{is_full, live_bytes, live_in_page, page_number, place_in_page}
use Rattle.slab_model.specs.Counting.{is_free}
use Rattle.slab_model.specs.Soundness.{has_room}
use Rattle.slab_model.proofs.ClassLemmas.{cuts, zone}
use Rattle.slab_model.proofs.StateLemmas.{has_room-own, used-usable}
use Rattle.slab_model.proofs.NumberLemmas.{member}
use Rattle.slab_model.proofs.BlockLemmas.{live_bytes-low, live_bytes-in, offset_is}
use Rattle.slab_pages.specs.Places.{Image, class_head, free_head, descriptor, slab_at, prev_at}
use Rattle.slab_pages.specs.Layout.{HasTail, LaysFrom}
use Rattle.slab_pages.specs.SlabLayout.{LaysPages, LaysBits, type_of}
use Rattle.slab_pool.specs.Bits.{bits_word}
use Rattle.slab_pool.specs.Pool.{LaysPool}
use Rattle.slab_pool.specs.Live.{page_type, class_in, run_bytes, is_used_at, class_bytes, bytes_in_page, bytes_at}
use Rattle.slab_pool.proofs.WordLemmas.{bit_set}
use Rattle.slab_pool.proofs.BitLemmas.{KindAt, at_small, at_exact, at_big, kind_at}
use Rattle.slab_pool.proofs.KindLemmas.{one_word}
use Rattle.slab_pool.proofs.LinkLemmas.{descriptor-eight}

-- ---- the types of pages

typed : (k : Kind) (n : ℕ) → n % 8 ≡ 0 → (n + type_of k) % 4 ≡ type_of k
typed small n h = omega (arith, h)
typed exact n h = omega (arith, h)
typed big n h = omega (arith, h)

plain : (k : Kind) → type_of k % 4 ≡ type_of k
plain small = refl
plain exact = refl
plain big = refl

pub typed-some : (k : Kind) → 0 < type_of k
typed-some small = omega arith
typed-some exact = omega arith
typed-some big = omega arith

-- a page in a class's list
pub listed_type : (words : List ℕ) (shape : Shape) (class o page : ℕ) (pages : List ℕ) → o % 8 ≡ 0 → LaysPages words shape class o pages → In page pages → page_type words page ≡ type_of (kind_of shape class)
listed_type words shape class o page [] e h m = absurd m
listed_type words shape class o page (q ∷ qs) e h m = elim m [
  | inl same ↦ ap (λ n. n % 4) (ap (λ n. prev_at words (descriptor n)) same ∙ h.1) ∙ typed (kind_of shape class) o e
  | inr later ↦ listed_type words shape class (descriptor q) page qs (descriptor-eight q) h.2 later
]

pub class-type : (image : Image) (slab : Slab) (page class : ℕ) (used : List ℕ) → LaysPool image slab → page_at slab.pages page ≡ Class class used → page_type image.words page ≡ type_of (kind_of slab.shape class)
class-type image slab page class used p is = elim (cases_Bool (is_full slab.shape class used)) [
  | inl full ↦ ap (λ n. n % 4) ((p.laid.classes page class used is).prev_if_full full) ∙ plain (kind_of slab.shape class)
  | inr room ↦
      let known = (p.sound.used page class used is).known in
      listed_type image.words slab.shape class (class_head class) page (list_of slab class) (omega arith) (p.laid.lists class known).linked
      (((p.sound.lists class known).just page).1 (ap (has_room slab.shape class) is ∙ has_room-own slab.shape class used ∙ ap not room))
]

-- the class that the descriptor tells
pub class_in-class : (image : Image) (slab : Slab) (page class : ℕ) (used : List ℕ) → LaysPool image slab → page_at slab.pages page ≡ Class class used → class_in image.words page ≡ class
class_in-class image slab page class used p is =
    let known = (p.sound.used page class used is).known in
    go (kind_at slab.shape class known) known (class-type image slab page class used p is) (p.laid.classes page class used is).bits where
      shifted : (n class type : ℕ) → class < 9 → type ≢ 2 → n % 2 ^ 32 ≡ 3 + class → cond (eqb type 2) 3 (n % 2 ^ 32 - 3) ≡ class
      shifted n class type known ne e = grind (arith, common_steps)

      two : (n type class : ℕ) → type ≡ 2 → class ≡ 3 → cond (eqb type 2) 3 n ≡ class
      two n type class e f = grind (arith, common_steps)

      go : KindAt slab.shape class → class < 9 → page_type image.words page ≡ type_of (kind_of slab.shape class) → LaysBits (kind_of slab.shape class) image.words slab.shape page class used → class_in image.words page ≡ class
      go (at_small low kind) known type bits =
          let b = subst (λ (k : Kind). LaysBits k image.words slab.shape page class used) kind bits in
          let t : page_type image.words page ≡ 3 = type ∙ ap type_of kind in
          shifted (slab_at image.words (descriptor page)) class (page_type image.words page) known (λ e. absurd (omega (arith, e, t))) (ap (λ n. n % 2 ^ 32) b.shift ∙ omega (arith, known))
      go (at_exact same kind) known type bits = two (slab_at image.words (descriptor page) % 2 ^ 32 - 3) (page_type image.words page) class (type ∙ ap type_of kind) same
      go (at_big high kind) known type bits =
          let b = subst (λ (k : Kind). LaysBits k image.words slab.shape page class used) kind bits in
          let t : page_type image.words page ≡ 1 = type ∙ ap type_of kind in
          shifted (slab_at image.words (descriptor page)) class (page_type image.words page) known (λ e. absurd (omega (arith, e, t))) b.shift

-- a page of a free run has no type, and its slab word is no more than its number of pages
tail_words : (words : List ℕ) (run : Run) (page : ℕ) → HasTail words run → run.first < page → page < run.first + run.pages → (prev_at words (descriptor page) % 8 ≡ 0) × (slab_at words (descriptor page) ≡ 0)
tail_words words run page t low high = elim (cases_lt (page + 1) (run.first + run.pages)) [
  | inl l ↦ let h = t.between page low l in (ap (λ n. n % 8) h.prev_is, h.slab_is)
  | inr g ↦
      let h = t.last (omega (arith, low, high)) in
      let last : run.first + run.pages - 1 ≡ page = omega (arith, g, high) in
      (ap (λ n. prev_at words (descriptor n) % 8) (sym last) ∙ ap (λ n. n % 8) h.prev_is ∙ descriptor-eight run.first, ap (λ n. slab_at words (descriptor n)) (sym last) ∙ h.slab_is)
]

free_words : (count : ℕ) (words : List ℕ) (o : ℕ) (runs : List Run) (page : ℕ) → o % 8 ≡ 0 → AreSound count runs → LaysFrom words o runs → is_covered page runs ≡ true → (prev_at words (descriptor page) % 8 ≡ 0) × (slab_at words (descriptor page) ≤ count)
free_words count words o [] page e sound h c = absurd (cc)
free_words count words o (run ∷ runs) page e sound h c = elim (cases_Bool (is_within page run.first run.pages)) [
  | inl here ↦ let parts = within_parts page run here in elim (cases_eq page run.first) [
    | inl same ↦ (ap (λ n. prev_at words (descriptor n) % 8) same ∙ ap (λ n. n % 8) h.2 ∙ e, omega (arith, ap (λ n. slab_at words (descriptor n)) same ∙ h.1, sound.1))
    | inr ne ↦ let t = tail_words words run page h.3 (omega (arith, parts.0, ne)) parts.1 in (t.0, omega (arith, t.1))
  ]
  | inr there ↦ free_words count words (descriptor run.first) runs page (descriptor-eight run.first) sound.3 h.4 (later page run runs there c)
] where
  within_parts : (page : ℕ) (run : Run) → is_within page run.first run.pages ≡ true → (run.first ≤ page) × (page < run.first + run.pages)
  within_parts page run h = grind (arith, common_steps)

  later : (page : ℕ) (run : Run) (runs : List Run) → is_within page run.first run.pages ≡ false → is_covered page (run ∷ runs) ≡ true → is_covered page runs ≡ true
  later page run runs none c = grind (arith, common_steps)

pub free-type : (image : Image) (slab : Slab) (page : ℕ) → LaysPool image slab → page < pages_of slab.shape → page_at slab.pages page ≡ Free → (page_type image.words page ≡ 0) × (slab_at image.words (descriptor page) < 2 ^ 63)
free-type image slab page p low is =
    let h = free_words (pages_of slab.shape) image.words free_head slab.runs page (omega arith) p.laid.runs.sound p.laid.runs.linked (sym (p.sound.free page low) ∙ ap is_free is) in
    let z = zone slab.shape p.sound.limits in
    (omega (arith, h.0), omega (arith, h.1, z.many))

pub first-type : (image : Image) (slab : Slab) (page count : ℕ) → LaysPool image slab → page_at slab.pages page ≡ First count → (page_type image.words page ≡ 0) × (slab_at image.words (descriptor page) ≡ count + 2 ^ 63)
first-type image slab page count p is = let h = (p.laid.used_runs page count is).first in (ap (λ n. n % 4) h.prev_is, h.slab_is)

pub later-type : (image : Image) (slab : Slab) (page : ℕ) → LaysPool image slab → page_at slab.pages page ≡ Later → (page_type image.words page ≡ 0) × (slab_at image.words (descriptor page) ≡ 2 ^ 64 - 1)
later-type image slab page p is = let b = p.sound.used_runs.belongs page is in let h = (p.laid.used_runs b.0 b.1 b.2).later page b.3 b.4 in (ap (λ n. n % 4) h.prev_is, h.slab_is)

-- ---- the bit of a block

-- a page of a class has the bits of its used indexes
used_bit : (kind : Kind) (words : List ℕ) (shape : Shape) (page class : ℕ) (used : List ℕ) (index : ℕ) → class < 9 → kind_of shape class ≡ kind → LaysBits kind words shape page class used → index < blocks_in_page shape class → (bit_at (bits_word kind words shape page (index / 64)) (index % 64) ≡ 1) ↔ ((index < first_index shape class) ⊎ In index used)
used_bit small words shape page class used index known kind laid low = let b = laid.bits index low in (λ one. b.0 ((bit_set _ _).1 one), λ m. (bit_set _ _).0 (b.1 m))
used_bit exact words shape page class used index known kind laid low =
    let one = one_word shape class (omega (arith, class_is)) known in
    let small_index : index < 64 = omega (arith, low, one.2) in
    let place : index % 64 ≡ index = omega (arith, small_index) in
    let b = laid index small_index in (
      λ h. inr (b.0 ((bit_set _ _).1 (sym (ap (λ i. bit_at (slab_at words (descriptor page)) i) place) ∙ h))),
      λ m. ap (λ i. bit_at (slab_at words (descriptor page)) i) place ∙ (bit_set _ _).0 (b.1 (elim m [ inl own ↦ absurd (omega (arith, own, one.1)) | inr there ↦ there ])),
    ) where
      class_is : class ≡ 3
      class_is = elim (kind_at shape class known) [ at_small l k ↦ absurd (cc) | at_exact l k ↦ l | at_big l k ↦ absurd (cc) ]
used_bit big words shape page class used index known kind laid low =
    let one = one_word shape class (omega (arith, class_is)) known in
    let small_index : index < 32 = omega (arith, low, one.3 class_is) in
    let place : index % 64 ≡ index = omega (arith, small_index) in
    let b = laid.bits index small_index in (
      λ h. inr (b.0 ((bit_set _ _).1 (sym (ap (λ i. bit_at (slab_at words (descriptor page) / 2 ^ 32) i) place) ∙ h))),
      λ m. ap (λ i. bit_at (slab_at words (descriptor page) / 2 ^ 32) i) place ∙ (bit_set _ _).0 (b.1 (elim m [ inl own ↦ absurd (omega (arith, own, one.1)) | inr there ↦ there ])),
    ) where
      class_is : 3 < class
      class_is = elim (kind_at shape class known) [ at_small l k ↦ absurd (cc) | at_exact l k ↦ absurd (cc) | at_big l k ↦ l ]

pub is_used_at-is : (words : List ℕ) (shape : Shape) (page class : ℕ) (used : List ℕ) (index : ℕ) → class < 9 → LaysBits (kind_of shape class) words shape page class used → ((i : ℕ) → In i used → first_index shape class ≤ i) → index < blocks_in_page shape class → is_used_at words shape page class index ≡ is_member index used
is_used_at-is words shape page class used index known laid usable low =
    let b = used_bit (kind_of shape class) words shape page class used index known refl laid low in
    go (bit_at (bits_word (kind_of shape class) words shape page (index / 64)) (index % 64)) (in_used b) (λ m. usable index ((member index used).0 m)) (cases_Bool (is_member index used)) where
      in_used : {P : Type 0} → P ↔ ((index < first_index shape class) ⊎ In index used) → P ↔ ((index < first_index shape class) ⊎ (is_member index used ≡ true))
      in_used b = (λ one. elim (b.0 one) [ inl own ↦ inl own | inr there ↦ inr ((member index used).1 there) ], λ m. b.1 (elim m [ inl own ↦ inl own | inr there ↦ inr ((member index used).0 there) ]))

      go : (v : ℕ) → (v ≡ 1) ↔ ((index < first_index shape class) ⊎ (is_member index used ≡ true)) → (is_member index used ≡ true → first_index shape class ≤ index) → (is_member index used ≡ true) ⊎ (is_member index used ≡ false) → (leb (first_index shape class) index && eqb v 1) ≡ is_member index used
      go v b usable (inl there) = let one = b.1 (inr there) in let high = usable there in grind (arith, common_steps, one, high, there)
      go v b usable (inr none) = elim (cases_lt index (first_index shape class)) [
        | inl own ↦ grind (arith, common_steps, own, none)
        | inr high ↦ let zero : v ≢ 1 = λ e. elim (b.0 e) [ inl own ↦ absurd (omega (arith, own, high)) | inr there ↦ absurd (cc) ] in grind (arith, common_steps, zero, none)
      ]

-- ---- the bytes of a live block

class_bytes-is : (words : List ℕ) (shape : Shape) (page class : ℕ) (used : List ℕ) (place : ℕ) → (place / class_size class < blocks_in_page shape class → is_used_at words shape page class (place / class_size class) ≡ is_member (place / class_size class) used) → place / class_size class < blocks_in_page shape class → class_bytes words shape page class place ≡ live_in_page shape (Class class used) place
class_bytes-is words shape page class used place same low = let e = same low in ap (λ b. cond (eqb (place % class_size class) 0 && b) (class_size class) 0) e

index_in : (shape : Shape) (class place : ℕ) → class < 9 → place < 4096 → place / class_size class < blocks_in_page shape class
index_in shape class place known low = let c = cuts shape class known in div_below place (class_size class) (blocks_in_page shape class) c.some (omega (arith, c.whole, low))

pub bytes_in_page-is : (image : Image) (slab : Slab) (page place : ℕ) → LaysPool image slab → page < pages_of slab.shape → place < 4096 → bytes_in_page image.words slab.shape page place ≡ live_in_page slab.shape (page_at slab.pages page) place
bytes_in_page-is image slab page place p low fits = go (page_at slab.pages page) refl where
  whole : (type n place other : ℕ) → type ≡ 0 → cond (eqb type 0) n other ≡ n
  whole type n place other e = grind (arith, common_steps)

  typed_page : (type n other : ℕ) → 0 < type → cond (eqb type 0) n other ≡ other
  typed_page type n other some = grind (arith, common_steps)

  none_free : (shape : Shape) (slab place : ℕ) → slab < 2 ^ 63 → run_bytes shape slab place ≡ 0
  none_free shape slab place small_slab = grind (arith, common_steps)

  none_later : (shape : Shape) (slab place : ℕ) → slab ≡ 2 ^ 64 - 1 → run_bytes shape slab place ≡ 0
  none_later shape slab place is = grind (arith, common_steps)

  some_first : (shape : Shape) (slab place count : ℕ) → count < 2 ^ 62 → slab ≡ count + 2 ^ 63 → run_bytes shape slab place ≡ live_in_page shape (First count) place
  some_first shape slab place count few is = grind (arith, common_steps)

  go : (state : PageState) → page_at slab.pages page ≡ state → bytes_in_page image.words slab.shape page place ≡ live_in_page slab.shape (page_at slab.pages page) place
  go Free is = let t = free-type image slab page p low is in whole _ _ place _ t.0 ∙ none_free slab.shape (slab_at image.words (descriptor page)) place t.1 ∙ sym (ap (λ s. live_in_page slab.shape s place) is)
  go Later is = let t = later-type image slab page p is in whole _ _ place _ t.0 ∙ none_later slab.shape (slab_at image.words (descriptor page)) place t.1 ∙ sym (ap (λ s. live_in_page slab.shape s place) is)
  go (First count) is =
      let t = first-type image slab page count p is in
      let f = p.sound.used_runs.followed page count is in
      let z = zone slab.shape p.sound.limits in
      whole _ _ place _ t.0 ∙ some_first slab.shape (slab_at image.words (descriptor page)) place count (omega (arith, f.1, z.many)) t.1 ∙ sym (ap (λ s. live_in_page slab.shape s place) is)
  go (Class class used) is =
      let ok = p.sound.used page class used is in
      let t = class-type image slab page class used p is in
      let same = is_used_at-is image.words slab.shape page class used (place / class_size class) ok.known (p.laid.classes page class used is).bits (λ i m. (used-usable slab.shape class i used ok m).0) in
      typed_page (page_type image.words page) (run_bytes slab.shape (slab_at image.words (descriptor page)) place) (class_bytes image.words slab.shape page (class_in image.words page) place) (omega (arith, t, typed-some (kind_of slab.shape class)))
      ∙ ap (λ c. class_bytes image.words slab.shape page c place) (class_in-class image slab page class used p is)
      ∙ class_bytes-is image.words slab.shape page class used place same (index_in slab.shape class place ok.known fits)
      ∙ sym (ap (λ s. live_in_page slab.shape s place) is)

-- the words tell the bytes of each live block
pub bytes_at-is : (image : Image) (slab : Slab) (at : ℕ) → LaysPool image slab → bytes_at image at ≡ live_bytes slab at
unfolding bytes_at
bytes_at-is image slab at p = subst (λ (n : Shape). cond (ltb at (start_of n) || leb (pages_of n) (page_number n at)) 0 (bytes_in_page image.words n (page_number n at) (place_in_page n at)) ≡ live_bytes slab at) p.shape_is (own (cases_lt at (start_of slab.shape)) (cases_lt (page_number slab.shape at) (pages_of slab.shape))) where
  inside : (at start number count n : ℕ) → start ≤ at → number < count → cond (ltb at start || leb count number) 0 n ≡ n
  inside at start number count n a b = grind (arith, common_steps)

  outside : (at start number count n : ℕ) → (at < start) ⊎ (count ≤ number) → cond (ltb at start || leb count number) 0 n ≡ 0
  outside at start number count n out = grind (arith, common_steps)

  own : (at < start_of slab.shape) ⊎ (start_of slab.shape ≤ at) → (page_number slab.shape at < pages_of slab.shape) ⊎ (pages_of slab.shape ≤ page_number slab.shape at) → cond (ltb at (start_of slab.shape) || leb (pages_of slab.shape) (page_number slab.shape at)) 0 (bytes_in_page image.words slab.shape (page_number slab.shape at) (place_in_page slab.shape at)) ≡ live_bytes slab at
  own (inl low) behind = outside at (start_of slab.shape) (page_number slab.shape at) (pages_of slab.shape) _ (inl low) ∙ sym (live_bytes-low slab at low)
  own (inr high) (inl within) =
      inside at (start_of slab.shape) (page_number slab.shape at) (pages_of slab.shape) _ high within
      ∙ bytes_in_page-is image slab (page_number slab.shape at) (place_in_page slab.shape at) p within (offset_is slab.shape at high).1
      ∙ sym (live_bytes-in slab at high)
  own (inr high) (inr past) =
      let free : page_at slab.pages (page_number slab.shape at) ≡ Free = get_or_past slab.pages (page_number slab.shape at) Free (omega (arith, past, p.sound.page_count)) in
      outside at (start_of slab.shape) (page_number slab.shape at) (pages_of slab.shape) _ (inr past)
      ∙ sym (live_bytes-in slab at high ∙ ap (λ s. live_in_page slab.shape s (place_in_page slab.shape at)) free)
