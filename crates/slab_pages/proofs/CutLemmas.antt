-- Pages are taken from the front of a listed run.
use Rattle.std.proofs.Common.{ℕ, ◌≡◌, ◌≢◌, ◌⊎◌, ◌+◌, ◌-◌, ◌<◌, ◌≤◌, List, [], ◌∷◌, sym, ap, subst, ◌∙◌, refl, arith, inl, inr, Some}
use Rattle.std.proofs.lemmas.Grind.{common_steps}
use Rattle.std.proofs.lemmas.Bool.{cases_eq}
use Rattle.slab_model.specs.declared.runs.Run.{Run}
use Rattle.slab_model.specs.Runs.{AreSound, pages_from, first_fit, cut_run, take_run}
use Rattle.slab_model.proofs.RunLemmas.{AreSound-take}
use Rattle.slab_pages.specs.Places.{free_head, pfree_word, descriptor, slab_at, next_at, prev_at, IsDescriptorOffset}
use Rattle.slab_pages.specs.Layout.{LaysFrom}
use Rattle.slab_pages.specs.RunSteps.{Links, LaysList, IsBlank, BeginsRun, Relists, Unlinks, change, without_run}
use Rattle.slab_pages.proofs.PlaceLemmas.{descriptor-head, descriptor-other, SameWords-then, Links-slab, Links-next, Links-prev, Links-prev_head}
use Rattle.slab_pages.proofs.ListLemmas.{pages_from-here, pages_from-covers, pages_from-beyond, HasTail-kept, covered-rest, Near, Outside, relink, relaid}
use Rattle.slab_pages.proofs.UnlinkLemmas.{run_at, IsNode, node_place, node_before, node_after, before_beyond, after_beyond, near_here, links_free, links_kept, kept_then}
use Rattle.slab_pages.proofs.AddLemmas.{begun_other, begun_head, begun_kept, links_other}

-- the first fit is a listed run that has as many pages
pub first_fit-from : (count n : ℕ) (runs : List Run) (first : ℕ) → 0 < n → AreSound count runs → first_fit n runs ≡ Some first → n ≤ pages_from first runs
first_fit-from count n [] first some sound found = absurd (cc)
first_fit-from count n (x ∷ xs) first some sound found = let ih = first_fit-from count n xs first some sound.3 in let beyond = pages_from-beyond x xs first x.first sound.2 in grind (arith, common_steps, ih, beyond)

-- taking from the first fit changes the list at that run
take-change : (count n : ℕ) (runs : List Run) (first : ℕ) → 0 < n → AreSound count runs → first_fit n runs ≡ Some first → change first (cut_run n) runs ≡ take_run n runs
take-change count n [] first some sound found = refl
take-change count n (x ∷ xs) first some sound found = let ih = take-change count n xs first some sound.3 in let fit = first_fit-from count n xs first some sound.3 in let beyond = pages_from-beyond x xs first x.first sound.2 in grind (arith, common_steps, ih, fit, beyond)

without-change : (n : ℕ) (runs : List Run) (first : ℕ) → pages_from first runs ≡ n → without_run first runs ≡ change first (cut_run n) runs
without-change n [] first same = refl
without-change n (x ∷ xs) first same = let ih = without-change n xs first in grind (arith, common_steps, ih)

-- the whole run is taken
pub taken_whole : (count n first : ℕ) (runs : List Run) (old new : List ℕ) → 0 < n → AreSound count runs → first_fit n runs ≡ Some first → pages_from first runs ≡ n → Unlinks count runs old new first → Relists count runs (take_run n runs) old new
taken_whole count n first runs old new some sound found same un = record {
  laid = subst (λ (rs : List Run). LaysList count new rs) (without-change n runs first same ∙ take-change count n runs first some sound found) un.laid;
  kept = un.kept;
  free = un.free;
}

cut-run-is : (n : ℕ) (x : Run) (xs : List Run) (first pages : ℕ) → x.first ≡ first → x.pages ≡ pages → n < pages → cut_run n x xs ≡ record { first = first + n; pages = pages - n } ∷ xs
cut-run-is n x xs first pages ef ep less = subst (λ (k : ℕ). cut_run n x xs ≡ record { first = k + n; pages = pages - n } ∷ xs) ef (subst (λ (m : ℕ). cut_run n x xs ≡ record { first = x.first + n; pages = m - n } ∷ xs) ep (here n x xs (omega (arith, less, ep)))) where
  here : (n : ℕ) (x : Run) (xs : List Run) → n < x.pages → cut_run n x xs ≡ record { first = x.first + n; pages = x.pages - n } ∷ xs
  here n x xs less = grind (arith, common_steps)

-- the front of the run is taken, and the rest stands in its place
pub taken_front : (count n first : ℕ) (runs : List Run) (old mid next new : List ℕ) → LaysList count old runs → 0 < n → first_fit n runs ≡ Some first → n < pages_from first runs → BeginsRun old mid (record { first = first + n; pages = pages_from first runs - n }) → Links mid next (descriptor (first + n)) (next_at old (descriptor first)) → Links next new (prev_at old (descriptor first)) (descriptor (first + n)) → Relists count runs (take_run n runs) old new
taken_front count n first runs old mid next new h some found less begins one two =
    let pages = pages_from first runs in
    let listed : 0 < pages = omega (arith, less) in
    let rest : Run = record { first = first + n; pages = pages - n } in
    let o = descriptor (first + n) in
    let a = prev_at old (descriptor first) in
    let b = next_at old (descriptor first) in
    let na = node_before count old runs first h listed in
    let nb = node_after count old runs first h listed in
    let pa = node_place a runs na in
    let pb = node_place b runs nb in
    let po : IsDescriptorOffset o = inr (first + n, refl) in
    let head : IsDescriptorOffset free_head = inl refl in
    let not_a : o ≢ a = before_beyond count old runs first (first + n) h listed (omega arith) (omega (arith, less)) in
    let not_b : o ≢ b = after_beyond count old runs first (first + n) h listed (omega arith) (omega (arith, less)) in
    let far = λ (page : ℕ) (beyond : (page < first) ⊎ (first + pages ≤ page)). apart_rest first n pages page less beyond in
    let not_o = λ (page : ℕ) (beyond : (page < first) ⊎ (first + pages ≤ page)). descriptor-other page (first + n) (beyond_rest first n pages page less beyond) in
    let near : Near old new first pages a b = record {
      slabs = λ page beyond. Links-slab next new a o (descriptor page) pa po (inr (page, refl)) two ∙ Links-slab mid next o b (descriptor page) po pb (inr (page, refl)) one ∙ (begun_other old mid rest page begins (far page beyond)).slab;
      nexts = λ page beyond ne. Links-next next new a o (descriptor page) pa po (inr (page, refl)) ne two ∙ Links-next mid next o b (descriptor page) po pb (inr (page, refl)) (not_o page beyond) one ∙ (begun_other old mid rest page begins (far page beyond)).next;
      prevs = λ page beyond ne. Links-prev next new a o (descriptor page) pa po (inr (page, refl)) (not_o page beyond) two ∙ Links-prev mid next o b (descriptor page) po pb (inr (page, refl)) ne one ∙ (begun_other old mid rest page begins (far page beyond)).prev;
      head = λ ne. Links-next next new a o free_head pa po head ne two ∙ Links-next mid next o b free_head po pb head (λ e. descriptor-head (first + n) (sym e)) one ∙ (begun_head old mid rest begins).next;
    } in
    let tail = (run_at count old free_head runs first h.sound h.linked listed).1 in
    let blank : IsBlank old rest = record {
      slabs = λ page low high. elim (cases_eq (page + 1) (first + pages)) [
        | inl e ↦ subst (λ (k : ℕ). slab_at old (descriptor k) ≡ 0) (omega (arith, e)) (tail.last (omega (arith, less, some))).slab_is
        | inr ne ↦ (tail.between page (omega (arith, low)) (omega (arith, ne, high, less))).slab_is
      ];
      nexts = λ page low high. elim (cases_eq (page + 1) (first + pages)) [
        | inl e ↦ subst (λ (k : ℕ). next_at old (descriptor k) ≡ 0) (omega (arith, e)) (tail.last (omega (arith, less, some))).next_is
        | inr ne ↦ (tail.between page (omega (arith, low)) (omega (arith, ne, high, less))).next_is
      ];
      prevs = λ page low high. (tail.between page (omega (arith, low)) (omega (arith, high, less))).prev_is;
    } in
    let own = λ (page : ℕ) (low : first + n < page) (high : page < first + n + (pages - n)). SameWords-then mid next new (descriptor page)
    (links_other mid next o b page po pb (descriptor-other page (first + n) (omega (arith, low))) (after_beyond count old runs first page h listed (omega (arith, low)) (omega (arith, high, less))) one)
    (links_other next new a o page pa po (before_beyond count old runs first page h listed (omega (arith, low)) (omega (arith, high, less))) (descriptor-other page (first + n) (omega (arith, low))) two) in
    let slab : slab_at new o ≡ pages - n = Links-slab next new a o o pa po po two ∙ Links-slab mid next o b o po pb po one ∙ begins.slab in
    let to_next : next_at new o ≡ b = Links-next next new a o o pa po po not_a two ∙ one.next in
    let from_next : b ≢ free_head → prev_at new b ≡ o = λ ne. Links-prev next new a o b pa po pb (λ e. not_b (sym e)) two ∙ one.prev ne in
    let local : (q : ℕ) (x : Run) (xs : List Run) → x.first ≡ first → prev_at old (descriptor first) ≡ q → Outside q (x ∷ xs) → AreSound count (x ∷ xs) → pages_from first (x ∷ xs) ≡ pages_from first runs → LaysFrom old q (x ∷ xs) → LaysFrom new q (cut_run n x xs) = λ q x xs e pq out sound same hx.
    subst (λ (rs : List Run). LaysFrom new q rs) (sym (cut-run-is n x xs first pages e (sym (pages_from-here x xs first e) ∙ same) less)) (
      subst (λ (p : ℕ). next_at new p ≡ o) pq two.next,
      slab,
      two.prev (descriptor-head (first + n)) ∙ pq,
      HasTail-kept mid new rest own (begins.tail blank),
      relink count old new o a x xs sound.2 sound.3 (λ page c eq. out page (covered-rest x xs page c) (eq ∙ pq)) (near_here old new first pages x xs e same near)
          (to_next ∙ ap (λ k. next_at old (descriptor k)) (sym e))
          (subst (λ (k : ℕ). next_at old (descriptor k) ≢ free_head → prev_at new (next_at old (descriptor k)) ≡ o) (sym e) from_next)
          hx.4,
    ) in
    let covered = λ (page : ℕ) (low : first + n ≤ page) (high : page < first + n + (pages - n)). pages_from-covers first page runs (omega (arith, low)) (omega (arith, high, less)) in
    let no : IsNode o runs = inr (first + n, refl, covered (first + n) (omega arith) (omega (arith, less))) in
    record {
      laid = record {
        small = h.small;
        room = omega (arith, h.room, begins.same_length, one.same_length, two.same_length);
        sound = AreSound-take count n runs some h.sound;
        slab_is = Links-slab next new a o free_head pa po head two ∙ Links-slab mid next o b free_head po pb head one ∙ (begun_head old mid rest begins).slab ∙ h.slab_is;
        prev_is = Links-prev_head next new a o pa po two ∙ Links-prev_head mid next o b po pb one ∙ (begun_head old mid rest begins).prev ∙ h.prev_is;
        linked = subst (λ (rs : List Run). LaysFrom new free_head rs) (take-change count n runs first some h.sound found) (relaid count old new first (cut_run n) free_head runs head (λ page c. descriptor-head page) h.sound h.linked listed near local);
      };
      kept = kept_then runs old next new (kept_then runs old mid next (begun_kept old mid rest runs covered begins) (links_kept mid next o b runs no nb one)) (links_kept next new a o runs na no two);
      free = links_free next new a o pa po two ∙ links_free mid next o b po pb one ∙ begins.others pfree_word (inl (omega arith));
    } where
      apart_rest : (first n pages page : ℕ) → n < pages → (page < first) ⊎ (first + pages ≤ page) → (page < first + n) ⊎ (first + n + (pages - n) ≤ page)
      apart_rest first n pages page less beyond = elim beyond [ inl l ↦ inl (omega (arith, l)) | inr g ↦ inr (omega (arith, g, less)) ]

      beyond_rest : (first n pages page : ℕ) → n < pages → (page < first) ⊎ (first + pages ≤ page) → page ≢ first + n
      beyond_rest first n pages page less beyond e = elim beyond [ inl l ↦ omega (arith, l, e) | inr g ↦ omega (arith, g, e, less) ]
