-- Which live blocks a grant and a return change, and where live blocks lie.
use Rattle.std.proofs.Common.{ℕ, ◌≡◌, ◌≢◌, ◌⊎◌, ◌+◌, ◌*◌, ◌/◌, ◌%◌, ◌<◌, ◌≤◌, ◌||◌, eqb, true, false, List, [], ◌∷◌, Option, Some, None, length, set, replicate, sym, ap, subst, ◌∙◌, refl, arith, inl, inr, mul_assoc, get_or-set_same, get_or-set_other}
use Rattle.std.proofs.Math.Nat.{mul-le-mul_left}
use Rattle.std.proofs.lemmas.List.{length-replicate, get_or-replicate, get_or_past}
use Rattle.std.proofs.lemmas.Bool.{cases_eq, cases_lt, cases_order}
use Rattle.std.proofs.lemmas.Grind.{common_steps}
use Rattle.slab_model.specs.declared.shape.Shape.{Shape}
use Rattle.slab_model.specs.declared.page.PageState.{PageState}
use Rattle.slab_model.specs.declared.page.PageState.TheVariants.{Free, First, Class}
use Rattle.slab_model.specs.Geometry.{start_of, pages_of, page_offset, block_offset, class_size, class_of, pages_for, blocks_in_page, first_index}
use Rattle.slab_model.specs.Numbers.{is_member, with_number, without}
use Rattle.slab_model.specs.Runs.{first_fit}
use Rattle.slab_model.specs.State.{Slab, page_at, list_of, fresh_slab, fill_pages}
use Rattle.slab_model.specs.Blocks.{IsLive, live_bytes, live_in_page, page_number, place_in_page, lowest_unused, used_in}
use Rattle.slab_model.specs.Grant.{use_pages, block_bytes, block_bytes_as, grant, grant_as, grant_run, grant_from_list, grant_in_page, grant_in_new_page}
use Rattle.slab_model.specs.Return.{give_back, give_in_page, give_pages}
use Rattle.slab_model.specs.Soundness.{AreUsed, IsSound}
use Rattle.slab_model.specs.Laws.{HasDisjointBlocks, LiesInPages, Grants, Returns, SameBlocks, FreshLaw, GrantLaw, NewBlockLaw, NoGrantLaw, ReturnLaw, BlocksLaw}
use Rattle.slab_model.proofs.ClassLemmas.{cuts, zone, class_of-some, pages_for-holds}
use Rattle.slab_model.proofs.NumberLemmas.{member, is_member-with, is_member-without}
use Rattle.slab_model.proofs.RunLemmas.{first_fit-in}
use Rattle.slab_model.proofs.PageLemmas.{Place, place_of, page_at-fill_in, page_at-fill_out, page_at-use_out, page_at-use_first, page_at-use_later}
use Rattle.slab_model.proofs.PageLemmas.Place.{out, within}
use Rattle.slab_model.proofs.StateLemmas.{page_at-in, lowest-in, used-usable}
use Rattle.slab_model.proofs.SoundLemmas.{IsSound-fresh, listed-is, fit_free, class_page-in}
use Rattle.slab_model.proofs.BlockLemmas.{offset_is, live_bytes-low, live_bytes-in, live_bytes-at, live_of, live_not, live_more, live_less, live_none, block_end, Lies, lies}
use Rattle.slab_model.proofs.BlockLemmas.Lies.{in_page, over_pages}
use Rattle.slab_model.proofs.Laws.{grant-sound, give_back-class, give_back-run}

-- two slabs over the same zone have the same block at an offset where their pages agree on it
live_same : (old new : Slab) (at : ℕ) → new.shape ≡ old.shape → (start_of old.shape ≤ at → live_in_page old.shape (page_at new.pages (page_number old.shape at)) (place_in_page old.shape at) ≡ live_in_page old.shape (page_at old.pages (page_number old.shape at)) (place_in_page old.shape at)) → live_bytes new at ≡ live_bytes old at
live_same old new at bytes same = elim (cases_lt at (start_of old.shape)) [
  | inl low ↦ live_bytes-low new at (subst (λ (b : Shape). at < start_of b) (sym bytes) low) ∙ sym (live_bytes-low old at low)
  | inr behind ↦
      live_bytes-in new at (subst (λ (b : Shape). start_of b ≤ at) (sym bytes) behind)
      ∙ ap (λ b. live_in_page b (page_at new.pages (page_number b at)) (place_in_page b at)) bytes
      ∙ same behind
      ∙ sym (live_bytes-in old at behind)
]

-- one page changes
live_page : (slab new : Slab) (page : ℕ) (state : PageState) (at : ℕ) → new.shape ≡ slab.shape → new.pages ≡ set slab.pages page state → page < length slab.pages → ((place : ℕ) → at ≡ page_offset slab.shape page + place → live_in_page slab.shape state place ≡ live_in_page slab.shape (page_at slab.pages page) place) → live_bytes new at ≡ live_bytes slab at
live_page slab new page state at bytes pages here same = live_same slab new at bytes (λ behind. agree behind (cases_eq (page_number slab.shape at) page)) where
  agree : start_of slab.shape ≤ at → (page_number slab.shape at ≡ page) ⊎ (page_number slab.shape at ≢ page) → live_in_page slab.shape (page_at new.pages (page_number slab.shape at)) (place_in_page slab.shape at) ≡ live_in_page slab.shape (page_at slab.pages (page_number slab.shape at)) (place_in_page slab.shape at)
  agree behind (inl e) =
      ap (λ ps. live_in_page slab.shape (page_at ps (page_number slab.shape at)) (place_in_page slab.shape at)) pages
      ∙ ap (λ n. live_in_page slab.shape (page_at (set slab.pages page state) n) (place_in_page slab.shape at)) e
      ∙ ap (λ t. live_in_page slab.shape t (place_in_page slab.shape at)) (get_or-set_same slab.pages page state Free here)
      ∙ same (place_in_page slab.shape at) ((offset_is slab.shape at behind).0 ∙ ap (λ n. page_offset slab.shape n + place_in_page slab.shape at) e)
      ∙ ap (λ n. live_in_page slab.shape (page_at slab.pages n) (place_in_page slab.shape at)) (sym e)
  agree behind (inr ne) =
      ap (λ ps. live_in_page slab.shape (page_at ps (page_number slab.shape at)) (place_in_page slab.shape at)) pages
      ∙ ap (λ t. live_in_page slab.shape t (place_in_page slab.shape at)) (get_or-set_other slab.pages page (page_number slab.shape at) state Free ne)

-- a block of a page of a class lies in its first 4096 bytes
place_low : (shape : Shape) (class index : ℕ) → class < 9 → index < blocks_in_page shape class → class_size class * index < 4096
place_low shape class index known low = let c = cuts shape class known in let end = block_end (class_size class) index (blocks_in_page shape class) c.whole low in omega (arith, c.some)

-- a page of a class, or a free page, has a block more
Grants-page : (slab new : Slab) (class page index size : ℕ) (used now : List ℕ) → class < 9 → new.shape ≡ slab.shape → new.pages ≡ set slab.pages page (Class class now) → now ≡ with_number index used → page < length slab.pages → index < blocks_in_page slab.shape class → is_member index used ≡ false → ((place : ℕ) → live_in_page slab.shape (page_at slab.pages page) place ≡ live_in_page slab.shape (Class class used) place) → block_bytes slab size ≡ class_size class → Grants slab new size (block_offset slab.shape page class index)
Grants-page slab new class page index size used now known shape_is pages now_is here low unused before size_is =
    let c = cuts slab.shape class known in
    let place = place_low slab.shape class index known low in
    record {
      fresh = live_bytes-at slab page (class_size class * index) place ∙ before (class_size class * index) ∙ live_not slab.shape class used index c.some unused;
      bytes = live_now place c.some ∙ sym size_is;
      others = λ other ne. live_page slab new page (Class class now) other shape_is pages here (λ q is. ap (λ l. live_in_page slab.shape (Class class l) q) now_is ∙ live_more slab.shape class index used q c.some (λ e. ne (is ∙ ap (λ k. page_offset slab.shape page + k) e)) ∙ sym (before q));
    }
  where
    live_now : class_size class * index < 4096 → 0 < class_size class → live_bytes new (block_offset slab.shape page class index) ≡ class_size class
    live_now place some =
        ap (λ b. live_bytes new (block_offset b page class index)) (sym shape_is)
        ∙ live_bytes-at new page (class_size class * index) place
        ∙ ap (λ ps. live_in_page new.shape (page_at ps page) (class_size class * index)) pages
        ∙ ap (λ t. live_in_page new.shape t (class_size class * index)) (get_or-set_same slab.pages page (Class class now) Free here)
        ∙ live_of new.shape class now index some (ap (is_member index) now_is ∙ own (is_member-with index index used))
      where
        own : is_member index (with_number index used) ≡ (eqb index index || is_member index used) → is_member index (with_number index used) ≡ true
        own mem = grind (arith, common_steps, mem)

-- free pages become a used run
Grants-run : (slab : Slab) (count page size : ℕ) → IsSound slab → 0 < count → first_fit count slab.runs ≡ Some page → block_bytes slab size ≡ 4096 * count → Grants slab (grant_run slab count (Some page)).1 size (page_offset slab.shape page)
Grants-run slab count page size s some fit size_is =
    let free_first = fit_free slab count page page s fit (omega arith) (omega arith) in
    let w = first_fit-in (pages_of slab.shape) count slab.runs page s.runs fit in
    let here : page < length slab.pages = omega (arith, s.page_count, w) in
    record {
      fresh = at_first slab ∙ ap (λ t. live_in_page slab.shape t 0) free_first;
      bytes = at_first (grant_run slab count (Some page)).1 ∙ ap (λ t. live_in_page slab.shape t 0) (page_at-use_first page count slab.pages here) ∙ sym size_is;
      others = λ other ne. live_same slab (grant_run slab count (Some page)).1 other refl (λ behind. agree other ne behind here w (place_of (page_number slab.shape other) page count));
    }
  where
    at_first : (t : Slab) → live_bytes t (page_offset t.shape page) ≡ live_in_page slab.shape (page_at t.pages page) 0
    at_first t = ap (λ o. live_bytes t o) (sym (plus_none (page_offset t.shape page))) ∙ live_bytes-at t page 0 (omega arith) where
      plus_none : (n : ℕ) → n + 0 ≡ n
      plus_none n = omega arith

    first_page : (place : ℕ) → place ≢ 0 → live_in_page slab.shape (First count) place ≡ 0
    first_page place ne = grind (arith, common_steps)

    agree_within : (other : ℕ) → other ≢ page_offset slab.shape page → start_of slab.shape ≤ other → page < length slab.pages → page + count ≤ pages_of slab.shape → page ≤ page_number slab.shape other → page_number slab.shape other < page + count → (page_number slab.shape other ≡ page) ⊎ (page_number slab.shape other ≢ page) → live_in_page slab.shape (page_at (use_pages page count slab.pages) (page_number slab.shape other)) (place_in_page slab.shape other) ≡ live_in_page slab.shape (page_at slab.pages (page_number slab.shape other)) (place_in_page slab.shape other)
    agree_within other ne behind here w low high (inl e) =
        let o = offset_is slab.shape other behind in
        let place_some : place_in_page slab.shape other ≢ 0 = λ none. ne (o.0 ∙ ap (λ k. page_offset slab.shape (page_number slab.shape other) + k) none ∙ plus_none e) in
        ap (λ n. live_in_page slab.shape (page_at (use_pages page count slab.pages) n) (place_in_page slab.shape other)) e
        ∙ ap (λ t. live_in_page slab.shape t (place_in_page slab.shape other)) (page_at-use_first page count slab.pages here)
        ∙ first_page (place_in_page slab.shape other) place_some
        ∙ sym (ap (λ t. live_in_page slab.shape t (place_in_page slab.shape other)) (fit_free slab count page (page_number slab.shape other) s fit low high))
      where
        plus_none : page_number slab.shape other ≡ page → page_offset slab.shape (page_number slab.shape other) + 0 ≡ page_offset slab.shape page
        plus_none e = omega arith
    agree_within other ne behind here w low high (inr later) =
        ap (λ t. live_in_page slab.shape t (place_in_page slab.shape other)) (page_at-use_later page count slab.pages (page_number slab.shape other) (omega (arith, s.page_count)) (omega (arith, later)) high)
        ∙ sym (ap (λ t. live_in_page slab.shape t (place_in_page slab.shape other)) (fit_free slab count page (page_number slab.shape other) s fit low high))

    agree : (other : ℕ) → other ≢ page_offset slab.shape page → start_of slab.shape ≤ other → page < length slab.pages → page + count ≤ pages_of slab.shape → Place (page_number slab.shape other) page count → live_in_page slab.shape (page_at (use_pages page count slab.pages) (page_number slab.shape other)) (place_in_page slab.shape other) ≡ live_in_page slab.shape (page_at slab.pages (page_number slab.shape other)) (place_in_page slab.shape other)
    agree other ne behind here w (out o) = ap (λ t. live_in_page slab.shape t (place_in_page slab.shape other)) (page_at-use_out page count slab.pages (page_number slab.shape other) some o)
    agree other ne behind here w (within low high) = agree_within other ne behind here w low high (cases_eq (page_number slab.shape other) page)

-- ---- grant

grant_from_list-grants : (slab : Slab) (class size at : ℕ) → IsSound slab → class < 9 → block_bytes slab size ≡ class_size class → (listed : List ℕ) → list_of slab class ≡ listed → (grant_from_list slab class listed).0 ≡ Some at → Grants slab (grant_from_list slab class listed).1 size at
grant_from_list-grants slab class size at s known size_is (page ∷ rest) is given =
    let used = used_in (page_at slab.pages page) in
    let l = listed-is slab class page rest s known is in
    let low = lowest-in slab.shape class used known l.1 in
    let here = class_page-in slab class page used s l.0 in
    let at_is : block_offset slab.shape page class (lowest_unused slab.shape class used) ≡ at = cc in
    subst (λ (a : ℕ). Grants slab (grant_in_page slab class page rest used).1 size a) at_is
    (Grants-page slab (grant_in_page slab class page rest used).1 class page (lowest_unused slab.shape class used) size used (with_number (lowest_unused slab.shape class used) used) known refl refl refl (omega (arith, here, s.page_count)) low.1 low.2 (λ place. ap (λ t. live_in_page slab.shape t place) l.0) size_is)
grant_from_list-grants slab class size at s known size_is [] is given = new_page (first_fit 1 slab.runs) refl given where
  new_page : (fit : Option ℕ) → first_fit 1 slab.runs ≡ fit → (grant_in_new_page slab class fit).0 ≡ Some at → Grants slab (grant_in_new_page slab class fit).1 size at
  new_page None fit given = absurd (cc)
  new_page (Some page) fit given =
      let free = fit_free slab 1 page page s fit (omega arith) (omega arith) in
      let w = first_fit-in (pages_of slab.shape) 1 slab.runs page s.runs fit in
      let c = cuts slab.shape class known in
      let at_is : block_offset slab.shape page class (first_index slab.shape class) ≡ at = cc in
      subst (λ (a : ℕ). Grants slab (grant_in_new_page slab class (Some page)).1 size a) at_is
      (Grants-page slab (grant_in_new_page slab class (Some page)).1 class page (first_index slab.shape class) size [] (first_index slab.shape class ∷ []) known refl refl refl (omega (arith, w, s.page_count)) (omega (arith, c.sum, c.two)) refl (λ place. ap (λ t. live_in_page slab.shape t place) free ∙ sym (live_none slab.shape class place)) size_is)

grant_run-grants : (slab : Slab) (count size at : ℕ) → IsSound slab → 0 < count → block_bytes slab size ≡ 4096 * count → (fit : Option ℕ) → first_fit count slab.runs ≡ fit → (grant_run slab count fit).0 ≡ Some at → Grants slab (grant_run slab count fit).1 size at
grant_run-grants slab count size at s some size_is None fit given = absurd (cc)
grant_run-grants slab count size at s some size_is (Some page) fit given =
    let at_is : page_offset slab.shape page ≡ at = cc in
    subst (λ (a : ℕ). Grants slab (grant_run slab count (Some page)).1 size a) at_is (Grants-run slab count page size s some fit size_is)

block_bytes-is : (slab : Slab) (size : ℕ) (class : Option ℕ) → class_of slab.shape size ≡ class → block_bytes slab size ≡ block_bytes_as slab size class
unfolding block_bytes
block_bytes-is slab size class is = ap (block_bytes_as slab size) is

grant_as-grants : (slab : Slab) (size at : ℕ) → IsSound slab → 0 < size → (class : Option ℕ) → class_of slab.shape size ≡ class → (grant_as slab size class).0 ≡ Some at → Grants slab (grant_as slab size class).1 size at × (size ≤ block_bytes slab size)
grant_as-grants slab size at s some None is given =
    let holds = pages_for-holds slab.shape size some in
    (grant_run-grants slab (pages_for slab.shape size) size at s holds.0 (block_bytes-is slab size None is) (first_fit (pages_for slab.shape size) slab.runs) refl given, omega (arith, holds.1, block_bytes-is slab size None is))
grant_as-grants slab size at s some (Some class) is given =
    let known = class_of-some slab.shape size class is in
    (grant_from_list-grants slab class size at s known.0 (block_bytes-is slab size (Some class) is) (list_of slab class) refl given, omega (arith, known.1, block_bytes-is slab size (Some class) is))

pub grant-grants : GrantLaw
unfolding grant
grant-grants slab size at s some given = grant_as-grants slab size at s some (class_of slab.shape size) refl given

-- a grant that gives no block
none_from_list : (slab : Slab) (class : ℕ) (listed : List ℕ) → (grant_from_list slab class listed).0 ≡ None → SameBlocks slab (grant_from_list slab class listed).1
none_from_list slab class (page ∷ rest) none = absurd (cc)
none_from_list slab class [] none = new_page (first_fit 1 slab.runs) none where
  new_page : (fit : Option ℕ) → (grant_in_new_page slab class fit).0 ≡ None → SameBlocks slab (grant_in_new_page slab class fit).1
  new_page None none = record { blocks = λ at. refl; free = refl }
  new_page (Some page) none = absurd (cc)

none_run : (slab : Slab) (count : ℕ) (fit : Option ℕ) → (grant_run slab count fit).0 ≡ None → SameBlocks slab (grant_run slab count fit).1
none_run slab count None none = record { blocks = λ at. refl; free = refl }
none_run slab count (Some page) none = absurd (cc)

none_as : (slab : Slab) (size : ℕ) (class : Option ℕ) → (grant_as slab size class).0 ≡ None → SameBlocks slab (grant_as slab size class).1
none_as slab size None none = none_run slab (pages_for slab.shape size) (first_fit (pages_for slab.shape size) slab.runs) none
none_as slab size (Some class) none = none_from_list slab class (list_of slab class) none

pub grant-none : NoGrantLaw
unfolding grant
grant-none slab size none = none_as slab size (class_of slab.shape size) none

-- a fresh pool has no live block
pub fresh-law : FreshLaw
fresh-law shape limits = (IsSound-fresh shape limits, λ at. empty at (cases_lt at (start_of shape))) where
  all_free : (q : ℕ) → page_at (replicate (pages_of shape) Free) q ≡ Free
  all_free q = elim (cases_lt q (pages_of shape)) [
    | inl l ↦ get_or-replicate (pages_of shape) q Free Free l
    | inr past ↦ get_or_past (replicate (pages_of shape) Free) q Free (omega (arith, length-replicate (pages_of shape) Free))
  ]

  empty : (at : ℕ) → (at < start_of shape) ⊎ (start_of shape ≤ at) → live_bytes (fresh_slab shape) at ≡ 0
  empty at (inl low) = live_bytes-low (fresh_slab shape) at low
  empty at (inr behind) = live_bytes-in (fresh_slab shape) at behind ∙ ap (λ t. live_in_page shape t (place_in_page shape at)) (all_free (page_number shape at))

-- ---- give back

-- a page of a class has a block less
Returns-page : (slab new : Slab) (class page index : ℕ) (used : List ℕ) (state : PageState) → class < 9 → new.shape ≡ slab.shape → new.pages ≡ set slab.pages page state → page < length slab.pages → index < blocks_in_page slab.shape class → page_at slab.pages page ≡ Class class used → ((place : ℕ) → live_in_page slab.shape state place ≡ live_in_page slab.shape (Class class (without index used)) place) → Returns slab new (block_offset slab.shape page class index)
Returns-page slab new class page index used state known bytes pages here low is left =
    let c = cuts slab.shape class known in
    let place = place_low slab.shape class index known low in
    record {
      gone = gone place c.some;
      others = λ other ne. live_page slab new page state other bytes pages here (λ q q_is. left q ∙ live_less slab.shape class index used q c.some (λ e. ne (q_is ∙ ap (λ k. page_offset slab.shape page + k) e)) ∙ sym (ap (λ t. live_in_page slab.shape t q) is));
    }
  where
    gone : class_size class * index < 4096 → 0 < class_size class → live_bytes new (block_offset slab.shape page class index) ≡ 0
    gone place some =
        ap (λ b. live_bytes new (block_offset b page class index)) (sym bytes)
        ∙ live_bytes-at new page (class_size class * index) place
        ∙ ap (λ ps. live_in_page slab.shape (page_at ps page) (class_size class * index)) pages
        ∙ ap (λ t. live_in_page slab.shape t (class_size class * index)) (get_or-set_same slab.pages page state Free here)
        ∙ left (class_size class * index)
        ∙ live_not slab.shape class (without index used) index some (not_there index used)
      where
        not_there : (index : ℕ) (used : List ℕ) → is_member index (without index used) ≡ false
        not_there index used = let h = is_member-without index index used in grind (arith, common_steps, h)

-- the pages of a used run become free
Returns-run : (slab : Slab) (page count : ℕ) → IsSound slab → page_at slab.pages page ≡ First count → Returns slab (give_pages slab page count) (page_offset slab.shape page)
Returns-run slab page count s is =
    let run = s.used_runs.followed page count is in
    let room : page + count ≤ length slab.pages = omega (arith, run.1, s.page_count) in
    record {
      gone = at_first (give_pages slab page count) ∙ ap (λ t. live_in_page slab.shape t 0) (page_at-fill_in Free page count slab.pages page room (omega arith) (omega (arith, run.0)));
      others = λ other ne. live_same slab (give_pages slab page count) other refl (λ behind. agree other ne behind room (place_of (page_number slab.shape other) page count));
    }
  where
    at_first : (t : Slab) → live_bytes t (page_offset t.shape page) ≡ live_in_page slab.shape (page_at t.pages page) 0
    at_first t = ap (λ o. live_bytes t o) (sym (plus_none (page_offset t.shape page))) ∙ live_bytes-at t page 0 (omega arith) where
      plus_none : (n : ℕ) → n + 0 ≡ n
      plus_none n = omega arith

    first_page : (place : ℕ) → place ≢ 0 → live_in_page slab.shape (First count) place ≡ 0
    first_page place ne = grind (arith, common_steps)

    old_none : (other : ℕ) → other ≢ page_offset slab.shape page → start_of slab.shape ≤ other → page ≤ page_number slab.shape other → page_number slab.shape other < page + count → (page_number slab.shape other ≡ page) ⊎ (page_number slab.shape other ≢ page) → live_in_page slab.shape (page_at slab.pages (page_number slab.shape other)) (place_in_page slab.shape other) ≡ 0
    old_none other ne behind low high (inl e) =
        let o = offset_is slab.shape other behind in
        let place_some : place_in_page slab.shape other ≢ 0 = λ none. ne (o.0 ∙ ap (λ k. page_offset slab.shape (page_number slab.shape other) + k) none ∙ plus_none e) in
        ap (λ n. live_in_page slab.shape (page_at slab.pages n) (place_in_page slab.shape other)) e
        ∙ ap (λ t. live_in_page slab.shape t (place_in_page slab.shape other)) is
        ∙ first_page (place_in_page slab.shape other) place_some
      where
        plus_none : page_number slab.shape other ≡ page → page_offset slab.shape (page_number slab.shape other) + 0 ≡ page_offset slab.shape page
        plus_none e = omega arith
    old_none other ne behind low high (inr later) = ap (λ t. live_in_page slab.shape t (place_in_page slab.shape other)) ((s.used_runs.followed page count is).2 (page_number slab.shape other) (omega (arith, later)) high)

    agree : (other : ℕ) → other ≢ page_offset slab.shape page → start_of slab.shape ≤ other → page + count ≤ length slab.pages → Place (page_number slab.shape other) page count → live_in_page slab.shape (page_at (fill_pages Free page count slab.pages) (page_number slab.shape other)) (place_in_page slab.shape other) ≡ live_in_page slab.shape (page_at slab.pages (page_number slab.shape other)) (place_in_page slab.shape other)
    agree other ne behind room (out o) = ap (λ t. live_in_page slab.shape t (place_in_page slab.shape other)) (page_at-fill_out Free page count slab.pages (page_number slab.shape other) o)
    agree other ne behind room (within low high) =
        ap (λ t. live_in_page slab.shape t (place_in_page slab.shape other)) (page_at-fill_in Free page count slab.pages (page_number slab.shape other) room low high)
        ∙ sym (old_none other ne behind low high (cases_eq (page_number slab.shape other) page))

give_in_page-returns : (slab : Slab) (class page index : ℕ) (used left : List ℕ) → IsSound slab → AreUsed slab.shape class used → is_member index used ≡ true → page_at slab.pages page ≡ Class class used → without index used ≡ left → Returns slab (give_in_page slab page class used left) (block_offset slab.shape page class index)
give_in_page-returns slab class page index used [] s ok there is now =
    Returns-page slab (give_in_page slab page class used []) class page index used Free ok.known refl refl (page_at-in slab.pages page (λ e. cc)) (used-usable slab.shape class index used ok ((member index used).0 there)).1 is (λ place. sym (ap (λ l. live_in_page slab.shape (Class class l) place) now ∙ live_none slab.shape class place))
give_in_page-returns slab class page index used (l ∷ ls) s ok there is now =
    Returns-page slab (give_in_page slab page class used (l ∷ ls)) class page index used (Class class (l ∷ ls)) ok.known refl refl (page_at-in slab.pages page (λ e. cc)) (used-usable slab.shape class index used ok ((member index used).0 there)).1 is (λ place. sym (ap (λ k. live_in_page slab.shape (Class class k) place) now))

returns_at : (slab : Slab) (at : ℕ) → IsSound slab → Lies slab at → Returns slab (give_back slab at) at
returns_at slab at s (in_page page class used index is ok there at_is bytes) =
    subst (λ (a : ℕ). Returns slab (give_back slab a) a) (sym at_is)
    (subst (λ (t : Slab). Returns slab t (block_offset slab.shape page class index)) (sym (give_back-class slab page class index used is ok there)) (give_in_page-returns slab class page index used (without index used) s ok there is refl))
returns_at slab at s (over_pages page count is at_is bytes) =
    subst (λ (a : ℕ). Returns slab (give_back slab a) a) (sym at_is)
    (subst (λ (t : Slab). Returns slab t (page_offset slab.shape page)) (sym (give_back-run slab page count is)) (Returns-run slab page count s is))

pub give_back-returns : ReturnLaw
give_back-returns slab at s live = returns_at slab at s (lies slab at s live)

-- ---- where live blocks lie

eights_of : (size index : ℕ) → 8 * (size / 8) ≡ size → (size * index) % 8 ≡ 0
eights_of size index e = let h : size * index ≡ 8 * (size / 8 * index) = ap (λ k. k * index) (sym e) ∙ mul_assoc 8 (size / 8) index in omega (arith, h)

lies_in_pages : (slab : Slab) (at : ℕ) → IsSound slab → Lies slab at → LiesInPages slab at
lies_in_pages slab at s (in_page page class used index is ok there at_is bytes) =
    let c = cuts slab.shape class ok.known in
    let z = zone slab.shape s.limits in
    let end = block_end (class_size class) index (blocks_in_page slab.shape class) c.whole (used-usable slab.shape class index used ok ((member index used).0 there)).1 in
    let here = class_page-in slab class page used s is in
    let even = eights_of (class_size class) index c.eights in
    record {
      low = omega (arith, at_is);
      high = omega (arith, at_is, bytes, end, here);
      inside = omega (arith, at_is, bytes, end, here, z.last);
      even = omega (arith, at_is, z.eights, even);
      words = omega (arith, bytes, c.eights);
    }
lies_in_pages slab at s (over_pages page count is at_is bytes) =
    let z = zone slab.shape s.limits in
    let run = s.used_runs.followed page count is in
    record {
      low = omega (arith, at_is);
      high = omega (arith, at_is, bytes, run.1);
      inside = omega (arith, at_is, bytes, run.1, z.last);
      even = omega (arith, at_is, z.eights);
      words = omega (arith, bytes);
    }

-- of two blocks of one page
in_one_page : (size i j : ℕ) → size * i < size * j → size * i + size ≤ size * j
in_one_page size i j less = elim (cases_lt i j) [
  | inl lt ↦ let next : i + 1 ≤ j = omega arith in let h = mul-le-mul_left size next in omega (arith, h)
  | inr ge ↦ let h = mul-le-mul_left size ge in absurd (omega (arith, h))
]

-- the first of two live blocks ends before the second
ends_before : (slab : Slab) (a b : ℕ) → IsSound slab → a < b → Lies slab a → Lies slab b → a + live_bytes slab a ≤ b
ends_before slab a b s less (in_page page class used i is ok there a_is a_bytes) (in_page other own indexes j o_is o_ok o_there b_is b_bytes) =
    let c = cuts slab.shape class ok.known in
    let d = cuts slab.shape own o_ok.known in
    let end = block_end (class_size class) i (blocks_in_page slab.shape class) c.whole (used-usable slab.shape class i used ok ((member i used).0 there)).1 in
    let o_end = block_end (class_size own) j (blocks_in_page slab.shape own) d.whole (used-usable slab.shape own j indexes o_ok ((member j indexes).0 o_there)).1 in
    elim (cases_order page other) [
      | inl e ↦
          let states : Class class used ≡ Class own indexes = sym is ∙ ap (λ k. page_at slab.pages k) e ∙ o_is in
          let same : class ≡ own = cc in
          let sizes : class_size class ≡ class_size own = ap class_size same in
          let products : class_size own * j ≡ class_size class * j = ap (λ k. k * j) (sym sizes) in
          let step = in_one_page (class_size class) i j (omega (arith, a_is, b_is, e, products)) in
          omega (arith, a_is, b_is, a_bytes, e, products, step)
      | inr ne ↦ elim ne [
        | inl before ↦ omega (arith, a_is, b_is, a_bytes, end)
        | inr after ↦ absurd (omega (arith, a_is, b_is, o_end, d.some))
      ]
    ]
ends_before slab a b s less (in_page page class used i is ok there a_is a_bytes) (over_pages other count o_is b_is b_bytes) =
    let c = cuts slab.shape class ok.known in
    let end = block_end (class_size class) i (blocks_in_page slab.shape class) c.whole (used-usable slab.shape class i used ok ((member i used).0 there)).1 in
    elim (cases_order page other) [
      | inl e ↦ let states : Class class used ≡ First count = sym is ∙ ap (λ k. page_at slab.pages k) e ∙ o_is in absurd (cc)
      | inr ne ↦ elim ne [
        | inl before ↦ omega (arith, a_is, b_is, a_bytes, end)
        | inr after ↦ absurd (omega (arith, a_is, b_is))
      ]
    ]
ends_before slab a b s less (over_pages page count is a_is a_bytes) (in_page other own indexes j o_is o_ok o_there b_is b_bytes) =
    let d = cuts slab.shape own o_ok.known in
    let o_end = block_end (class_size own) j (blocks_in_page slab.shape own) d.whole (used-usable slab.shape own j indexes o_ok ((member j indexes).0 o_there)).1 in
    let run = s.used_runs.followed page count is in
    elim (cases_lt other (page + count)) [
      | inl low ↦ elim (cases_order page other) [
        | inl e ↦ let states : First count ≡ Class own indexes = sym is ∙ ap (λ k. page_at slab.pages k) e ∙ o_is in absurd (cc)
        | inr ne ↦ elim ne [
          | inl before ↦ let later = run.2 other before low in absurd (cc)
          | inr after ↦ absurd (omega (arith, a_is, b_is, o_end, d.some))
        ]
      ]
      | inr high ↦ omega (arith, a_is, b_is, a_bytes)
    ]
ends_before slab a b s less (over_pages page count is a_is a_bytes) (over_pages other n o_is b_is b_bytes) =
    let run = s.used_runs.followed page count is in
    elim (cases_lt other (page + count)) [
      | inl low ↦ elim (cases_order page other) [
        | inl e ↦ absurd (omega (arith, a_is, b_is, e))
        | inr ne ↦ elim ne [
          | inl before ↦ let later = run.2 other before low in absurd (cc)
          | inr after ↦ absurd (omega (arith, a_is, b_is))
        ]
      ]
      | inr high ↦ omega (arith, a_is, b_is, a_bytes)
    ]

pub blocks-law : BlocksLaw
blocks-law slab s = (disjoint, λ at live. lies_in_pages slab at s (lies slab at s live)) where
  disjoint : HasDisjointBlocks slab
  disjoint a b a_live b_live ne = elim (cases_order a b) [
    | inl e ↦ absurd (ne e)
    | inr other ↦ elim other [
      | inl less ↦ inl (ends_before slab a b s less (lies slab a s a_live) (lies slab b s b_live))
      | inr more ↦ inr (ends_before slab b a s more (lies slab b s b_live) (lies slab a s a_live))
    ]
  ]

pub new_block-law : NewBlockLaw
new_block-law slab size at s some given =
    let new = (grant slab size).1 in
    let g = grant-grants slab size at s some given in
    let sound = grant-sound slab size s some in
    let live : IsLive new at = omega (arith, g.0.bytes, g.1) in
    let blocks = blocks-law new sound in
    record {
      lies = blocks.1 at live;
      apart = λ other was.
          let ne : other ≢ at = λ e. absurd (omega (arith, g.0.fresh, ap (λ k. live_bytes slab k) e)) in
          let same = g.0.others other ne in
          elim (blocks.0 at other live (omega (arith, same)) (λ e. ne (sym e))) [
            | inl before ↦ inl (omega (arith, before, g.0.bytes))
            | inr after ↦ inr (omega (arith, after, same))
          ];
    }
