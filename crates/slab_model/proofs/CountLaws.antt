-- Free and used pages are all pages, and what was just granted comes back without a trace.
use Rattle.std.proofs.Common.{ℕ, ◌≡◌, ◌+◌, ◌-◌, ◌*◌, ◌<◌, zero, suc, min, max, true, not, ◌||◌, eqb, List, [], ◌∷◌, Option, Some, None, length, sym, ap, subst, ◌∙◌, refl, arith, inl, inr, cond, get_or-set_same}
use Rattle.std.specs.Prelude.{count_by}
use Rattle.std.proofs.lemmas.List.Sums.{sum_by-cons}
use Rattle.std.proofs.lemmas.Bool.{cases_eq}
use Rattle.std.proofs.lemmas.Grind.{common_steps}
use Rattle.slab_model.specs.declared.runs.Run.{Run}
use Rattle.slab_model.specs.declared.page.PageState.{PageState}
use Rattle.slab_model.specs.declared.page.PageState.TheVariants.{Free, Class}
use Rattle.slab_model.specs.Geometry.{class_size, blocks_in_page, page_offset, block_offset, pages_of, class_of, pages_for, first_index}
use Rattle.slab_model.specs.Numbers.{is_member, with_number, without}
use Rattle.slab_model.specs.Runs.{AreSound, IsRunApart, is_covered, is_within, page_total, first_fit, take_run, give_run}
use Rattle.slab_model.specs.State.{Slab, page_at, list_of}
use Rattle.slab_model.specs.Blocks.{page_number, live_bytes, IsLive, lowest_unused, used_in}
use Rattle.slab_model.specs.Counting.{is_free, free_pages}
use Rattle.slab_model.specs.Grant.{is_empty, grant, grant_as, grant_run, grant_from_list, grant_in_page, grant_in_new_page}
use Rattle.slab_model.specs.Return.{give_back, give_in_page}
use Rattle.slab_model.specs.Soundness.{AreUsed, IsSound}
use Rattle.slab_model.specs.Laws.{PagesLaw, GrantPagesLaw, ReturnPagesLaw, RoundTripLaw, pages_taken_as, pages_back}
use Rattle.slab_model.proofs.ClassLemmas.{cuts, class_of-some, pages_for-holds}
use Rattle.slab_model.proofs.NumberLemmas.{member, is_member-with, without-with, length-without}
use Rattle.slab_model.proofs.RunLemmas.{apart_covers, page_total-take, page_total-give, AreSound-take, first_fit-in, is_within-parts}
use Rattle.slab_model.proofs.PageLemmas.{page_at-use_first}
use Rattle.slab_model.proofs.StateLemmas.{used-usable, used-distinct, lowest-in, AreUsed-grant, AreUsed-one}
use Rattle.slab_model.proofs.SoundLemmas.{listed-is, class_page-in}
use Rattle.slab_model.proofs.BlockLemmas.{page_number-is, block_end, Lies, lies}
use Rattle.slab_model.proofs.BlockLemmas.Lies.{in_page, over_pages}
use Rattle.slab_model.proofs.Laws.{grant-sound, give_back-class, give_back-run}
use Rattle.slab_model.proofs.BlockLaws.{grant-grants, give_back-returns}

-- ---- counting pages

-- of `count` pages from `from` on, those that are in a run
covered_pages : ℕ → ℕ → List Run → ℕ
covered_pages from zero runs = 0
covered_pages from (suc count) runs = cond (is_covered from runs) 1 0 + covered_pages (from + 1) count runs

-- of `count` pages from `from` on, those that are in this stretch
pages_within : ℕ → ℕ → ℕ → ℕ → ℕ
pages_within from zero first pages = 0
pages_within from (suc count) first pages = cond (is_within from first pages) 1 0 + pages_within (from + 1) count first pages

pages_within-is : (from count first pages : ℕ) → pages_within from count first pages ≡ min (from + count) (first + pages) - max from first
unfolding pages_within
pages_within-is from zero first pages = omega arith
pages_within-is from (suc count) first pages = let ih = pages_within-is (from + 1) count first pages in grind (arith, common_steps, ih)

covered_pages-none : (from count : ℕ) → covered_pages from count [] ≡ 0
unfolding covered_pages
covered_pages-none from zero = refl
covered_pages-none from (suc count) = let ih = covered_pages-none (from + 1) count in omega (arith, ih)

covered_pages-cons : (from count : ℕ) (run : Run) (runs : List Run) → IsRunApart run runs → covered_pages from count (run ∷ runs) ≡ pages_within from count run.first run.pages + covered_pages from count runs
unfolding covered_pages pages_within
covered_pages-cons from zero run runs apart = refl
covered_pages-cons from (suc count) run runs apart =
    let ih = covered_pages-cons (from + 1) count run runs apart in
    let parts = is_within-parts from run.first run.pages in
    let none = apart_covers run runs from apart in
    grind (arith, common_steps, ih, parts, none)

covered_pages-total : (count : ℕ) (runs : List Run) → AreSound count runs → covered_pages 0 count runs ≡ page_total runs
covered_pages-total count [] sound = covered_pages-none 0 count
covered_pages-total count (run ∷ runs) sound =
    let ih = covered_pages-total count runs sound.3 in
    let head = covered_pages-cons 0 count run runs sound.2 in
    let here = pages_within-is 0 count run.first run.pages in
    omega (arith, ih, head, here, sound.1)

used_are : (from : ℕ) (pages : List PageState) (runs : List Run) → ((q : ℕ) → q < length pages → is_free (page_at pages q) ≡ is_covered (from + q) runs) → covered_pages from (length pages) runs + count_by (λ page. not (is_free page)) pages ≡ length pages
unfolding covered_pages
used_are from [] runs same = refl
used_are from (page ∷ pages) runs same =
    let rest = used_are (from + 1) pages runs (λ q low. later q low (same (suc q))) in
    let here = same 0 in
    let sum = sum_by-cons (λ p. cond (not (is_free p)) 1 0) page pages in
    grind (arith, common_steps, rest, here, sum)
  where
    later : (q : ℕ) → q < length pages → (suc q < length (page ∷ pages) → is_free (page_at (page ∷ pages) (suc q)) ≡ is_covered (from + suc q) runs) → is_free (page_at pages q) ≡ is_covered (from + 1 + q) runs
    later q low h = let e : from + suc q ≡ from + 1 + q = omega arith in h (omega arith) ∙ ap (λ k. is_covered k runs) e

pub pages-law : PagesLaw
pages-law slab s =
    let all = used_are 0 slab.pages slab.runs (λ q low. same q low) in
    let free = covered_pages-total (pages_of slab.shape) slab.runs s.runs in
    let long = ap (λ n. covered_pages 0 n slab.runs) s.page_count in
    omega (arith, all, free, long, s.page_count)
  where
    same : (q : ℕ) → q < length slab.pages → is_free (page_at slab.pages q) ≡ is_covered (0 + q) slab.runs
    same q low = let e : q ≡ 0 + q = omega arith in s.free q (omega (arith, s.page_count)) ∙ ap (λ k. is_covered k slab.runs) e

-- ---- there and back

-- what comes back to a page of a class that keeps a block
give_kept : (slab : Slab) (page class : ℕ) (used left now : List ℕ) → left ≡ now → 0 < length now → (give_in_page slab page class used left).runs ≡ slab.runs
give_kept slab page class used [] now e some = absurd (none e some) where
  none : [] ≡ now → 0 < length now → ⊥
  none e some = grind (arith, common_steps)
give_kept slab page class used (l ∷ ls) now e some = refl

give_last : (slab : Slab) (page class : ℕ) (used left : List ℕ) → left ≡ [] → (give_in_page slab page class used left).runs ≡ give_run (record { first = page; pages = 1 }) slab.runs
give_last slab page class used [] e = refl
give_last slab page class used (l ∷ ls) e = absurd (cc)

without-own : (n : ℕ) → without n (n ∷ []) ≡ []
without-own n = grind (arith, common_steps)

back_in_page : (slab : Slab) (class page : ℕ) (rest : List ℕ) → IsSound slab → class < 9 → list_of slab class ≡ page ∷ rest → free_pages (give_back (grant_in_page slab class page rest (used_in (page_at slab.pages page))).1 (block_offset slab.shape page class (lowest_unused slab.shape class (used_in (page_at slab.pages page))))) ≡ free_pages slab
back_in_page slab class page rest s known listed =
    let used = used_in (page_at slab.pages page) in
    let index = lowest_unused slab.shape class used in
    let now = with_number index used in
    let new = (grant_in_page slab class page rest used).1 in
    let l = listed-is slab class page rest s known listed in
    let old_ok = s.used page class used l.0 in
    let low = lowest-in slab.shape class used known l.1 in
    let ok = AreUsed-grant slab.shape class used old_ok l.1 in
    let here = class_page-in slab class page used s l.0 in
    let is : page_at new.pages page ≡ Class class now = get_or-set_same slab.pages page (Class class now) Free (omega (arith, here, s.page_count)) in
    let back = give_back-class new page class index now is ok (own index used (is_member-with index index used)) in
    ap (λ (t : Slab). page_total t.runs) back ∙ ap page_total (give_kept new page class now (without index now) used (without-with index used low.2) old_ok.some)
  where
    own : (index : ℕ) (used : List ℕ) → is_member index (with_number index used) ≡ (eqb index index || is_member index used) → is_member index (with_number index used) ≡ true
    own index used mem = grind (arith, common_steps, mem)

back_in_new_page : (slab : Slab) (class page : ℕ) → IsSound slab → class < 9 → first_fit 1 slab.runs ≡ Some page → free_pages (give_back (grant_in_new_page slab class (Some page)).1 (block_offset slab.shape page class (first_index slab.shape class))) ≡ free_pages slab
back_in_new_page slab class page s known fit =
    let new = (grant_in_new_page slab class (Some page)).1 in
    let total = pages_of slab.shape in
    let w = first_fit-in total 1 slab.runs page s.runs fit in
    let ok = AreUsed-one slab.shape class known in
    let is : page_at new.pages page ≡ Class class (first_index slab.shape class ∷ []) = get_or-set_same slab.pages page (Class class (first_index slab.shape class ∷ [])) Free (omega (arith, w, s.page_count)) in
    let back = give_back-class new page class (first_index slab.shape class) (first_index slab.shape class ∷ []) is ok (head (first_index slab.shape class) []) in
    let taken = page_total-take 1 slab.runs page fit in
    let given = page_total-give total (record { first = page; pages = 1 }) (take_run 1 slab.runs) (AreSound-take total 1 slab.runs (omega arith) s.runs) in
    ap (λ (t : Slab). page_total t.runs) back ∙ ap page_total (give_last new page class (first_index slab.shape class ∷ []) (without (first_index slab.shape class) (first_index slab.shape class ∷ [])) (without-own (first_index slab.shape class))) ∙ omega (arith, taken, given)
  where
    head : (index : ℕ) (used : List ℕ) → is_member index (index ∷ used) ≡ true
    head index used = grind (arith, common_steps)

back_run : (slab : Slab) (count page : ℕ) → IsSound slab → 0 < count → first_fit count slab.runs ≡ Some page → free_pages (give_back (grant_run slab count (Some page)).1 (page_offset slab.shape page)) ≡ free_pages slab
back_run slab count page s some fit =
    let new = (grant_run slab count (Some page)).1 in
    let total = pages_of slab.shape in
    let w = first_fit-in total count slab.runs page s.runs fit in
    let is = page_at-use_first page count slab.pages (omega (arith, w, s.page_count)) in
    let back = give_back-run new page count is in
    let taken = page_total-take count slab.runs page fit in
    let given = page_total-give total (record { first = page; pages = count }) (take_run count slab.runs) (AreSound-take total count slab.runs some s.runs) in
    ap (λ (t : Slab). page_total t.runs) back ∙ omega (arith, taken, given)

back_from_list : (slab : Slab) (class at : ℕ) → IsSound slab → class < 9 → (listed : List ℕ) → list_of slab class ≡ listed → (grant_from_list slab class listed).0 ≡ Some at → free_pages (give_back (grant_from_list slab class listed).1 at) ≡ free_pages slab
back_from_list slab class at s known (page ∷ rest) is given =
    let at_is : block_offset slab.shape page class (lowest_unused slab.shape class (used_in (page_at slab.pages page))) ≡ at = cc in
    subst (λ (a : ℕ). free_pages (give_back (grant_in_page slab class page rest (used_in (page_at slab.pages page))).1 a) ≡ free_pages slab) at_is (back_in_page slab class page rest s known is)
back_from_list slab class at s known [] is given = new_page (first_fit 1 slab.runs) refl given where
  new_page : (fit : Option ℕ) → first_fit 1 slab.runs ≡ fit → (grant_in_new_page slab class fit).0 ≡ Some at → free_pages (give_back (grant_in_new_page slab class fit).1 at) ≡ free_pages slab
  new_page None fit given = absurd (cc)
  new_page (Some page) fit given =
      let at_is : block_offset slab.shape page class (first_index slab.shape class) ≡ at = cc in
      subst (λ (a : ℕ). free_pages (give_back (grant_in_new_page slab class (Some page)).1 a) ≡ free_pages slab) at_is (back_in_new_page slab class page s known fit)

back_from_runs : (slab : Slab) (count at : ℕ) → IsSound slab → 0 < count → (fit : Option ℕ) → first_fit count slab.runs ≡ fit → (grant_run slab count fit).0 ≡ Some at → free_pages (give_back (grant_run slab count fit).1 at) ≡ free_pages slab
back_from_runs slab count at s some None fit given = absurd (cc)
back_from_runs slab count at s some (Some page) fit given =
    let at_is : page_offset slab.shape page ≡ at = cc in
    subst (λ (a : ℕ). free_pages (give_back (grant_run slab count (Some page)).1 a) ≡ free_pages slab) at_is (back_run slab count page s some fit)

back_as : (slab : Slab) (size at : ℕ) → IsSound slab → 0 < size → (class : Option ℕ) → class_of slab.shape size ≡ class → (grant_as slab size class).0 ≡ Some at → free_pages (give_back (grant_as slab size class).1 at) ≡ free_pages slab
back_as slab size at s some None is given = back_from_runs slab (pages_for slab.shape size) at s (pages_for-holds slab.shape size some).0 (first_fit (pages_for slab.shape size) slab.runs) refl given
back_as slab size at s some (Some class) is given = back_from_list slab class at s (class_of-some slab.shape size class is).0 (list_of slab class) refl given

back_free : (slab : Slab) (size at : ℕ) → IsSound slab → 0 < size → (grant slab size).0 ≡ Some at → free_pages (give_back (grant slab size).1 at) ≡ free_pages slab
unfolding grant
back_free slab size at s some given = back_as slab size at s some (class_of slab.shape size) refl given

-- ---- the free pages after a grant and a return

taken_from_list : (slab : Slab) (class at : ℕ) (listed : List ℕ) → (grant_from_list slab class listed).0 ≡ Some at → free_pages (grant_from_list slab class listed).1 + cond (is_empty listed) 1 0 ≡ free_pages slab
taken_from_list slab class at (page ∷ rest) given = omega arith
taken_from_list slab class at [] given = new_page (first_fit 1 slab.runs) refl given where
  new_page : (fit : Option ℕ) → first_fit 1 slab.runs ≡ fit → (grant_in_new_page slab class fit).0 ≡ Some at → free_pages (grant_in_new_page slab class fit).1 + 1 ≡ free_pages slab
  new_page None fit given = absurd (cc)
  new_page (Some page) fit given = page_total-take 1 slab.runs page fit

taken_from_runs : (slab : Slab) (count at : ℕ) (fit : Option ℕ) → first_fit count slab.runs ≡ fit → (grant_run slab count fit).0 ≡ Some at → free_pages (grant_run slab count fit).1 + count ≡ free_pages slab
taken_from_runs slab count at None fit given = absurd (cc)
taken_from_runs slab count at (Some page) fit given = page_total-take count slab.runs page fit

taken_as : (slab : Slab) (size at : ℕ) (class : Option ℕ) → (grant_as slab size class).0 ≡ Some at → free_pages (grant_as slab size class).1 + pages_taken_as slab size class ≡ free_pages slab
taken_as slab size at None given = taken_from_runs slab (pages_for slab.shape size) at (first_fit (pages_for slab.shape size) slab.runs) refl given
taken_as slab size at (Some class) given = taken_from_list slab class at (list_of slab class) given

pub grant_pages-law : GrantPagesLaw
unfolding grant
grant_pages-law slab size at given = taken_as slab size at (class_of slab.shape size) given

-- the list of free runs once a run of a sound slab came back
back_total : (slab : Slab) (first count : ℕ) → IsSound slab → page_total (give_run (record { first = first; pages = count }) slab.runs) ≡ page_total slab.runs + count
back_total slab first count s = let given = page_total-give (pages_of slab.shape) (record { first = first; pages = count }) slab.runs s.runs in omega (arith, given)

back_of_class : (slab : Slab) (page class index : ℕ) (used left : List ℕ) → IsSound slab → AreUsed slab.shape class used → is_member index used ≡ true → without index used ≡ left → page_total (give_in_page slab page class used left).runs ≡ page_total slab.runs + pages_back (Class class used)
back_of_class slab page class index used [] s ok there now =
    let fewer = length-without index used (used-distinct slab.shape class used ok) there in
    let none = ap (λ l. length l) now in
    let one : length used ≡ 1 = omega (arith, fewer, none) in
    let back = back_total slab page 1 s in
    grind (arith, common_steps, back, one)
back_of_class slab page class index used (l ∷ ls) s ok there now =
    let fewer = length-without index used (used-distinct slab.shape class used ok) there in
    let more = ap (λ l. length l) now in
    let many : 1 < length used = omega (arith, fewer, more) in
    grind (arith, common_steps, many)

back_at : (slab : Slab) (at : ℕ) → IsSound slab → Lies slab at → free_pages (give_back slab at) ≡ free_pages slab + pages_back (page_at slab.pages (page_number slab.shape at))
back_at slab at s (in_page page class used index is ok there at_is bytes) =
    let c = cuts slab.shape class ok.known in
    let end = block_end (class_size class) index (blocks_in_page slab.shape class) c.whole (used-usable slab.shape class index used ok ((member index used).0 there)).1 in
    let number : page_number slab.shape at ≡ page = ap (λ k. page_number slab.shape k) at_is ∙ page_number-is slab.shape page (class_size class * index) (omega (arith, end, c.some)) in
    ap (λ k. free_pages (give_back slab k)) at_is
    ∙ ap (λ (t : Slab). page_total t.runs) (give_back-class slab page class index used is ok there)
    ∙ back_of_class slab page class index used (without index used) s ok there refl
    ∙ ap (λ t. page_total slab.runs + pages_back t) (sym (ap (λ k. page_at slab.pages k) number ∙ is))
back_at slab at s (over_pages page count is at_is bytes) =
    let number : page_number slab.shape at ≡ page = omega (arith, at_is) in
    ap (λ k. free_pages (give_back slab k)) at_is
    ∙ ap (λ (t : Slab). page_total t.runs) (give_back-run slab page count is)
    ∙ back_total slab page count s
    ∙ ap (λ t. page_total slab.runs + pages_back t) (sym (ap (λ k. page_at slab.pages k) number ∙ is))

pub return_pages-law : ReturnPagesLaw
return_pages-law slab at s live = back_at slab at s (lies slab at s live)

pub round_trip-law : RoundTripLaw
round_trip-law slab size at s some given =
    let g = grant-grants slab size at s some given in
    let live : IsLive (grant slab size).1 at = omega (arith, g.0.bytes, g.1) in
    let r = give_back-returns (grant slab size).1 at (grant-sound slab size s some) live in
    record {
      blocks = λ other. elim (cases_eq other at) [
        | inl e ↦ ap (λ k. live_bytes (give_back (grant slab size).1 at) k) e ∙ r.gone ∙ sym (ap (λ k. live_bytes slab k) e ∙ g.0.fresh)
        | inr ne ↦ r.others other ne ∙ g.0.others other ne
      ];
      free = back_free slab size at s some given;
    }
