-- Taking and giving back whole runs.
use Rattle.std.proofs.Common.{ℕ, ◌≡◌, ◌≢◌, ◌⊎◌, zero, suc, ◌+◌, ◌-◌, ◌/◌, ◌%◌, ◌^◌, ◌<◌, ◌≤◌, Bool, true, false, not, ◌&&◌, ◌||◌, List, [], ◌∷◌, length, get_or, set, sym, ap, subst, ◌∙◌, refl, arith, inl, inr, Some, min}
use Rattle.std.specs.Prelude.{filter, if◌then◌else◌}
use Rattle.std.proofs.lemmas.Grind.{common_steps}
use Rattle.std.proofs.lemmas.Bool.{cases_eq, cases_lt}
use Rattle.slab_model.specs.declared.runs.Run.{Run}
use Rattle.slab_model.specs.Runs.{IsRunApart, AreSound, is_covered, page_total, pages_from, pages_before, merged_run, is_beside, first_fit, take_run, give_run}
use Rattle.slab_model.proofs.RunLemmas.{AreSound-give, is_covered-give, is_covered-take, page_total-take, first_fit-covered, is_within-in}
use Rattle.slab_pages.specs.Places.{free_head, pfree_word, descriptor, KeepsOthers, is_list_word, is_run_word, descriptor_word, descriptor_page, free_word}
use Rattle.slab_pages.specs.Layout.{IsBusy, CanComeBack}
use Rattle.slab_pages.specs.Frames.{SameWords}
use Rattle.slab_pages.specs.RunSteps.{LaysList, FillsRun, Detaches, IsCleared, Relists, MarksUsed, TakesRun, GivesRun, IsAfter, IsBefore, without_run}
use Rattle.slab_pages.proofs.PlaceLemmas.{descriptor-word, HasWords-kept, SameWords-then}
use Rattle.slab_pages.proofs.WriteLemmas.{get-written, get-read, length-written}
use Rattle.slab_pages.proofs.ListLemmas.{covers-apart}
use Rattle.slab_pages.proofs.UnlinkLemmas.{beyond_run, covered-without, covered-of_without, kept_then, LaysList-kept}
use Rattle.slab_pages.proofs.JoinLemmas.{covered-before, covered-from, before-from, before-without, filter-without}

differ : true ≡ false → ⊥
differ e = cc

-- ---- counting pages

-- how many of the first `k` pages are in the run
overlap : ℕ → Run → ℕ
overlap k run = min k (run.first + run.pages) - min k run.first

-- how many of the first `k` pages are in the runs
listed_below : ℕ → List Run → ℕ
listed_below zero runs = 0
listed_below (suc k) runs = if is_covered k runs then suc (listed_below k runs) else listed_below k runs

listed_below-le : (k : ℕ) (runs : List Run) → listed_below k runs ≤ k
unfolding listed_below
listed_below-le zero runs = omega arith
listed_below-le (suc k) runs = let ih = listed_below-le k runs in grind (arith, common_steps, ih)

listed_below-none : (k : ℕ) → listed_below k [] ≡ 0
unfolding listed_below
listed_below-none zero = refl
listed_below-none (suc k) = listed_below-none k

listed_below-cons : (k : ℕ) (x : Run) (xs : List Run) → 0 < x.pages → IsRunApart x xs → listed_below k (x ∷ xs) ≡ listed_below k xs + overlap k x
unfolding listed_below overlap
listed_below-cons zero x xs some apart = omega arith
listed_below-cons (suc k) x xs some apart =
    let ih = listed_below-cons k x xs some apart in
    let away = covers-apart x xs k apart in
    grind (arith, common_steps, ih, away)

overlap-all : (k : ℕ) (x : Run) → x.first + x.pages ≤ k → overlap k x ≡ x.pages
unfolding overlap
overlap-all k x h = omega (arith, h)

page_total-listed : (count : ℕ) (runs : List Run) → AreSound count runs → page_total runs ≡ listed_below count runs
page_total-listed count [] sound = sym (listed_below-none count)
page_total-listed count (x ∷ xs) sound = omega (arith, page_total-listed count xs sound.3, listed_below-cons count x xs sound.0 sound.2, overlap-all count x sound.1)

-- the free pages are pages of the zone
pub page_total-le : (count : ℕ) (runs : List Run) → AreSound count runs → page_total runs ≤ count
page_total-le count runs sound = omega (arith, page_total-listed count runs sound, listed_below-le count runs)

-- there are no more runs than pages
pub length-runs : (count : ℕ) (runs : List Run) → AreSound count runs → length runs ≤ page_total runs
length-runs count [] sound = omega arith
length-runs count (x ∷ xs) sound = omega (arith, length-runs count xs sound.3, sound.0)

-- ---- words that stay

pub kept_words : (runs : List Run) (old new : List ℕ) (page : ℕ) → KeepsOthers runs old new → is_covered page runs ≡ false → SameWords old new (descriptor page)
kept_words runs old new page h free = record {
  slab = h.others (descriptor page / 8) (far page 0 (descriptor page / 8) (omega (arith, descriptor-word page))) (run page 0 (descriptor page / 8) (omega arith) (omega (arith, descriptor-word page)) runs free);
  next = h.others (descriptor page / 8 + 1) (far page 1 (descriptor page / 8 + 1) (omega (arith, descriptor-word page))) (run page 1 (descriptor page / 8 + 1) (omega arith) (omega (arith, descriptor-word page)) runs free);
  prev = h.others (descriptor page / 8 + 2) (far page 2 (descriptor page / 8 + 2) (omega (arith, descriptor-word page))) (run page 2 (descriptor page / 8 + 2) (omega arith) (omega (arith, descriptor-word page)) runs free);
} where
  far : (page j w : ℕ) → w ≡ descriptor_word page + j → is_list_word w ≡ false
  far page j w e = grind (arith, common_steps)

  run : (page j w : ℕ) → j ≤ 2 → w ≡ descriptor_word page + j → (runs : List Run) → is_covered page runs ≡ false → is_run_word runs w ≡ false
  run page j w small e runs free = let at : descriptor_page w ≡ page = omega (arith, small, e) in let here : is_covered (descriptor_page w) runs ≡ false = ap (λ k. is_covered k runs) at ∙ free in grind (arith, common_steps)

-- what keeps all but a part keeps all but the whole
pub kept_within : (part whole : List Run) (old new : List ℕ) → ((page : ℕ) → is_covered page part ≡ true → is_covered page whole ≡ true) → KeepsOthers part old new → KeepsOthers whole old new
kept_within part whole old new more h = record { same_length = h.same_length; others = λ w list run. h.others w list (smaller part whole w (more (descriptor_page w)) run) } where
  smaller : (part whole : List Run) (w : ℕ) → (is_covered (descriptor_page w) part ≡ true → is_covered (descriptor_page w) whole ≡ true) → is_run_word whole w ≡ false → is_run_word part w ≡ false
  smaller part whole w more h = grind (arith, common_steps, more)

-- words of pages that are listed afterwards
pub range_kept : (runs : List Run) (old new : List ℕ) (first n : ℕ) → ((page : ℕ) → first ≤ page → page < first + n → is_covered page runs ≡ true) → length new ≡ length old → ((w : ℕ) → (w < descriptor_word first) ⊎ (descriptor_word (first + n) ≤ w) → get_or new w 0 ≡ get_or old w 0) → KeepsOthers runs old new
range_kept runs old new first n covered len others = record { same_length = len; others = λ w list is. others w (far w is) } where
  far : (w : ℕ) → is_run_word runs w ≡ false → (w < descriptor_word first) ⊎ (descriptor_word (first + n) ≤ w)
  far w is = elim (cases_lt w (descriptor_word first)) [
    | inl l ↦ inl l
    | inr g ↦ elim (cases_lt w (descriptor_word (first + n))) [
      | inl inside ↦
          let page = descriptor_page w in
          let c = covered page (omega (arith, g)) (omega (arith, g, inside)) in
          elim (beyond_run runs page w c is) [ inl l ↦ absurd (omega (arith, l, g, descriptor-word page)) | inr after ↦ absurd (omega (arith, after, g, descriptor-word page)) ]
      | inr after ↦ inr after
    ]
  ]

range_other : (old new : List ℕ) (first n page : ℕ) → ((w : ℕ) → (w < descriptor_word first) ⊎ (descriptor_word (first + n) ≤ w) → get_or new w 0 ≡ get_or old w 0) → (page < first) ⊎ (first + n ≤ page) → SameWords old new (descriptor page)
range_other old new first n page others beyond = record {
  slab = others (descriptor page / 8) (elim beyond [ inl l ↦ inl (omega (arith, l, descriptor-word page)) | inr g ↦ inr (omega (arith, g, descriptor-word page)) ]);
  next = others (descriptor page / 8 + 1) (elim beyond [ inl l ↦ inl (omega (arith, l, descriptor-word page)) | inr g ↦ inr (omega (arith, g, descriptor-word page)) ]);
  prev = others (descriptor page / 8 + 2) (elim beyond [ inl l ↦ inl (omega (arith, l, descriptor-word page)) | inr g ↦ inr (omega (arith, g, descriptor-word page)) ]);
}

range_head : (old new : List ℕ) (first n : ℕ) → ((w : ℕ) → (w < descriptor_word first) ⊎ (descriptor_word (first + n) ≤ w) → get_or new w 0 ≡ get_or old w 0) → SameWords old new free_head
range_head old new first n others = record { slab = others free_word (inl (omega arith)); next = others (free_word + 1) (inl (omega arith)); prev = others (free_word + 2) (inl (omega arith)) }

-- the count of free pages is written
pub counted_list : (count : ℕ) (old new : List ℕ) (runs : List Run) (v : ℕ) → LaysList count old runs → new ≡ set old pfree_word v → LaysList count new runs
counted_list count old new runs v h is = LaysList-kept count old new runs (length-written old new pfree_word v is) (record {
  slab = get-written old new pfree_word v free_word is (λ e. omega (arith, e));
  next = get-written old new pfree_word v (free_word + 1) is (λ e. omega (arith, e));
  prev = get-written old new pfree_word v (free_word + 2) is (λ e. omega (arith, e));
}) (λ page c. record {
  slab = get-written old new pfree_word v (descriptor page / 8) is (λ e. omega (arith, e, descriptor-word page));
  next = get-written old new pfree_word v (descriptor page / 8 + 1) is (λ e. omega (arith, e, descriptor-word page));
  prev = get-written old new pfree_word v (descriptor page / 8 + 2) is (λ e. omega (arith, e, descriptor-word page));
}) h

pub counted_kept : (old new : List ℕ) (runs : List Run) (v : ℕ) → new ≡ set old pfree_word v → KeepsOthers runs old new
counted_kept old new runs v is = record { same_length = length-written old new pfree_word v is; others = λ w list run. get-written old new pfree_word v w is (other w list) } where
  other : (w : ℕ) → is_list_word w ≡ false → w ≢ pfree_word
  other w list e = grind (arith, common_steps)

pub counted_other : (old new : List ℕ) (v page : ℕ) → new ≡ set old pfree_word v → SameWords old new (descriptor page)
counted_other old new v page is = record {
  slab = get-written old new pfree_word v (descriptor page / 8) is (λ e. omega (arith, e, descriptor-word page));
  next = get-written old new pfree_word v (descriptor page / 8 + 1) is (λ e. omega (arith, e, descriptor-word page));
  prev = get-written old new pfree_word v (descriptor page / 8 + 2) is (λ e. omega (arith, e, descriptor-word page));
}

-- ---- take

pub taken : (count first n : ℕ) (runs : List Run) (old mid next new : List ℕ) (v : ℕ) → 0 < n → LaysList count old runs → first_fit n runs ≡ Some first → Relists count runs (take_run n runs) old mid → MarksUsed mid next first n → new ≡ set next pfree_word v → v + n ≡ get_or old pfree_word 0 → TakesRun count runs old new first n
taken count first n runs old mid next new v some h found re marks is counts =
    let covered = λ (page : ℕ) (low : first ≤ page) (high : page < first + n). first_fit-covered n runs first page found low high in
    let room : pfree_word < length next = omega (arith, h.room, re.kept.same_length, marks.same_length) in
    record {
      laid = counted_list count next new (take_run n runs) v (LaysList-kept count mid next (take_run n runs) marks.same_length (range_head mid next first n marks.others) (λ page c. range_other mid next first n page marks.others (outside page c)) re.laid) is;
      counted = omega (arith, get-read next new pfree_word v is room, counts);
      used = record {
        first = HasWords-kept next new (descriptor first) (n + 2 ^ 63) 0 0 (counted_other next new v first is) marks.used.first;
        later = λ page low high. HasWords-kept next new (descriptor page) (2 ^ 64 - 1) 0 0 (counted_other next new v page is) (marks.used.later page low high);
      };
      kept = kept_then runs old next new (kept_then runs old mid next re.kept (range_kept runs mid next first n covered marks.same_length marks.others)) (counted_kept next new runs v is);
    } where
      outside : (page : ℕ) → is_covered page (take_run n runs) ≡ true → (page < first) ⊎ (first + n ≤ page)
      outside page c = elim (cases_lt page first) [
        | inl l ↦ inl l
        | inr g ↦ elim (cases_lt page (first + n)) [
          | inl inside ↦ absurd (no_page _ _ (sym (is_covered-take count n runs first page h.sound found) ∙ c) (is_within-in page first n g inside))
          | inr after ↦ inr after
        ]
      ] where
        no_page : (a b : Bool) → (a && not b) ≡ true → b ≡ true → ⊥
        no_page a b e f = grind (arith, common_steps)

-- the list keeps its count
pub taken_total : (n first : ℕ) (runs : List Run) → first_fit n runs ≡ Some first → page_total (take_run n runs) + n ≡ page_total runs
taken_total n first runs found = page_total-take n runs first found

-- ---- give

-- the run that comes back is cleared, and the list stays
pub given_clear : (count first n : ℕ) (runs : List Run) (old new : List ℕ) → LaysList count old runs → CanComeBack count old runs (record { first = first; pages = n }) → FillsRun old new first n 0 → LaysList count new runs
given_clear count first n runs old new h used fills = LaysList-kept count old new runs fills.same_length (range_head old new first n fills.others) (λ page c. range_other old new first n page fills.others (outside page c)) h where
  outside : (page : ℕ) → is_covered page runs ≡ true → (page < first) ⊎ (first + n ≤ page)
  outside page c = elim (cases_lt page first) [
    | inl l ↦ inl l
    | inr g ↦ elim (cases_lt page (first + n)) [
      | inl inside ↦ absurd (differ (sym c ∙ used.used page g inside))
      | inr after ↦ inr after
    ]
  ]

busy_kept : (old new : List ℕ) (page : ℕ) → SameWords old new (descriptor page) → IsBusy old page → IsBusy new page
busy_kept old new page same busy = elim busy [
  | inl t ↦ inl (λ e. t (ap (λ x. x % 4) (sym same.prev) ∙ e))
  | inr z ↦ inr (same.next ∙ z.0, λ e. z.1 (sym same.slab ∙ e))
]

pub given_after : (count first n : ℕ) (runs : List Run) (old new : List ℕ) → LaysList count old runs → CanComeBack count old runs (record { first = first; pages = n }) → FillsRun old new first n 0 → IsAfter count new runs (first + n)
given_after count first n runs old new h used fills = elim (cases_eq (first + n) count) [
  | inl e ↦ inl e
  | inr ne ↦ by_cover (is_covered (first + n) runs) refl ne
] where
  by_cover : (b : Bool) → is_covered (first + n) runs ≡ b → first + n ≢ count → IsAfter count new runs (first + n)
  by_cover true c ne = inr (inl (subst (λ (k : ℕ). 0 < pages_from k runs) (omega (arith, used.some)) (covered-from count runs (first + n - 1) h.sound (used.used (first + n - 1) (omega (arith, used.some)) (omega (arith, used.some))) (subst (λ (k : ℕ). is_covered k runs ≡ true) (omega (arith, used.some)) c))))
  by_cover false c ne = let low : first + n < count = omega (arith, used.within, ne) in inr (inr (low, busy_kept old new (first + n) (range_other old new first n (first + n) fills.others (inr (omega arith))) (used.after low c)))

pub given_before : (count first n : ℕ) (runs : List Run) (old mid new : List ℕ) (after : ℕ) → LaysList count old runs → CanComeBack count old runs (record { first = first; pages = n }) → FillsRun old mid first n 0 → Detaches count runs mid new (first + n) after → (first ≡ 0) ⊎ IsBefore count new (without_run (first + n) runs) first
given_before count first n runs old mid new after h used fills detach = elim (cases_eq first 0) [
  | inl e ↦ inl e
  | inr ne ↦ inr (by_cover (is_covered (first - 1) runs) refl ne)
] where
  by_cover : (b : Bool) → is_covered (first - 1) runs ≡ b → first ≢ 0 → IsBefore count new (without_run (first + n) runs) first
  by_cover true c ne =
      let some : 0 < pages_before first runs = subst (λ (k : ℕ). 0 < pages_before k runs) (omega (arith, ne)) (covered-before count runs (first - 1) h.sound c (subst (λ (k : ℕ). is_covered k runs ≡ false) (omega (arith, ne)) (used.used first (omega arith) (omega (arith, used.some))))) in
      inl (omega (arith, some, before-without runs (first + n) first (omega (arith, used.some))))
  by_cover false c ne = inr (
    omega (arith, ne),
    omega (arith, used.within),
    busy_kept old new (first - 1)
        (SameWords-then old mid new (descriptor (first - 1)) (range_other old mid first n (first - 1) fills.others (inl (omega (arith, ne)))) (kept_words runs mid new (first - 1) detach.kept c))
        (used.before (first - 1) (omega (arith, ne)) c),
  )

-- a page that isn't free isn't in what is left of the list
pub uncovered_without : (runs : List Run) (first page : ℕ) → is_covered page runs ≡ false → is_covered page (without_run first runs) ≡ false
uncovered_without runs first page free = by_cover (is_covered page (without_run first runs)) refl where
  by_cover : (b : Bool) → is_covered page (without_run first runs) ≡ b → is_covered page (without_run first runs) ≡ false
  by_cover true c = absurd (differ (sym (covered-of_without runs first page c) ∙ free))
  by_cover false c = c

-- a run with the pages before and after it
abbrev pub joined_run : ℕ → ℕ → ℕ → ℕ → Run
joined_run first n before after = record { first = first - before; pages = before + n + after }

-- the merged run is cleared, and the other runs are the ones that stay
pub record Merges (count first n : ℕ) (runs : List Run) (new : List ℕ) (before after : ℕ) : Type 0 where
  pub low : before ≤ first
  pub laid : LaysList count new (without_run (first - before) (without_run (first + n) runs))
  pub cleared : IsCleared count new (without_run (first - before) (without_run (first + n) runs)) (record { first = first - before; pages = before + n + after })
  pub list : joined_run first n before after ∷ without_run (first - before) (without_run (first + n) runs) ≡ give_run (record { first = first; pages = n }) runs

pub merges : (count first n : ℕ) (runs : List Run) (old one two three : List ℕ) (after before : ℕ) → LaysList count old runs → CanComeBack count old runs (record { first = first; pages = n }) → FillsRun old one first n 0 → Detaches count runs one two (first + n) after → before ≡ pages_before first (without_run (first + n) runs) → Detaches count (without_run (first + n) runs) two three (first - before) before → Merges count first n runs three before after
merges count first n runs old one two three after before h used fills d1 is d2 =
    let run : Run = record { first = first; pages = n } in
    let free = used.used first (omega arith) (omega (arith, used.some)) in
    let b_is : before ≡ pages_before first runs = is ∙ before-without runs (first + n) first (omega (arith, used.some)) in
    let a_is : after ≡ pages_from (first + n) runs = d1.pages_are in
    let rest = filter-without count run runs h.sound used.some free in
    let new_run : Run = record { first = first - before; pages = before + n + after } in
    let merged : new_run ≡ merged_run run runs = make (first) (n) before (pages_before first runs) after (pages_from (first + n) runs) b_is a_is in
    let others : without_run (first - before) (without_run (first + n) runs) ≡ filter (λ other. not (is_beside run other)) runs = ap (λ (k : ℕ). without_run (first - k) (without_run (first + n) runs)) b_is ∙ sym rest in
    let list = two_equal new_run (merged_run run runs) (without_run (first - before) (without_run (first + n) runs)) (filter (λ other. not (is_beside run other)) runs) merged others in
    let sound : AreSound count (new_run ∷ without_run (first - before) (without_run (first + n) runs)) = subst (λ (rs : List Run). AreSound count rs) (sym list) (AreSound-give count run runs used.some used.within used.used h.sound) in
    record {
      low = lower b_is;
      laid = d2.laid;
      cleared = record {
        some = sound.0;
        within = sound.1;
        apart = sound.2;
        cleared = λ page low high. elim (cases_lt page first) [
          | inl before_it ↦ d2.cleared page low (omega (arith, before_it, low))
          | inr g ↦ elim (cases_lt page (first + n)) [
            | inl inside ↦
                let uncovered = used.used page g inside in
                HasWords-kept two three (descriptor page) 0 0 0 (kept_words (without_run (first + n) runs) two three page d2.kept (uncovered_without runs (first + n) page uncovered))
                (HasWords-kept one two (descriptor page) 0 0 0 (kept_words runs one two page d1.kept uncovered) (fills.filled page g inside))
            | inr past ↦ HasWords-kept two three (descriptor page) 0 0 0 (kept_words (without_run (first + n) runs) two three page d2.kept (gone page past (omega (arith, a_is, high, low, past, lower b_is)))) (d1.cleared page past (omega (arith, high, low, past, lower b_is)))
          ]
        ];
      };
      list = list;
    } where
      make : (first n b c a d : ℕ) → b ≡ c → a ≡ d → joined_run first n b a ≡ joined_run first n c d
      make first n b c a d eb ea = ap (λ k. joined_run first n k a) eb ∙ ap (λ k. joined_run first n c k) ea

      two_equal : (x y : Run) (xs ys : List Run) → x ≡ y → xs ≡ ys → x ∷ xs ≡ y ∷ ys
      two_equal x y xs ys e f = ap (λ (z : Run). z ∷ xs) e ∙ ap (λ (zs : List Run). y ∷ zs) f

      lower : before ≡ pages_before first runs → before ≤ first
      lower e = elim (cases_lt 0 (pages_before first runs)) [ inl some ↦ omega (arith, e, (before-from count runs first h.sound some).0) | inr none ↦ omega (arith, e, none) ]

      gone : (page : ℕ) → first + n ≤ page → page < first + n + pages_from (first + n) runs → is_covered page (without_run (first + n) runs) ≡ false
      gone page low high = by_cover (is_covered page (without_run (first + n) runs)) refl where
        by_cover : (b : Bool) → is_covered page (without_run (first + n) runs) ≡ b → is_covered page (without_run (first + n) runs) ≡ false
        by_cover true c = absurd (elim (covered-without count runs (first + n) page h.sound c) [ inl l ↦ omega (arith, l, low) | inr g ↦ omega (arith, g, high) ])
        by_cover false c = c

pub given : (count first n : ℕ) (runs : List Run) (old one two three four new : List ℕ) (after before v : ℕ) → LaysList count old runs → CanComeBack count old runs (record { first = first; pages = n }) → FillsRun old one first n 0 → Detaches count runs one two (first + n) after → Detaches count (without_run (first + n) runs) two three (first - before) before → Merges count first n runs three before after → Relists count (record { first = first - before; pages = before + n + after } ∷ without_run (first - before) (without_run (first + n) runs)) (record { first = first - before; pages = before + n + after } ∷ without_run (first - before) (without_run (first + n) runs)) three four → new ≡ set four pfree_word v → v ≡ get_or old pfree_word 0 + n → GivesRun count runs old new (record { first = first; pages = n })
given count first n runs old one two three four new after before v h used fills d1 d2 m adds is counts =
    let run : Run = record { first = first; pages = n } in
    let after_list = give_run run runs in
    let re : Relists count after_list after_list three four = subst (λ (rs : List Run). Relists count rs rs three four) m.list adds in
    let more = λ (page : ℕ) (c : is_covered page runs ≡ true). is_covered-give count page run runs h.sound ∙ either_left _ _ c in
    let own = λ (page : ℕ) (low : first ≤ page) (high : page < first + n). is_covered-give count page run runs h.sound ∙ either_right _ _ (is_within-in page first n low high) in
    let room : pfree_word < length four = omega (arith, re.laid.room) in
    record {
      laid = counted_list count four new after_list v re.laid is;
      counted = get-read four new pfree_word v is room ∙ counts;
      kept = kept_then after_list old four new (kept_then after_list old three four (kept_then after_list old two three (kept_then after_list old one two
          (range_kept after_list old one first n own fills.same_length fills.others)
          (kept_within runs after_list one two more d1.kept))
          (kept_within (without_run (first + n) runs) after_list two three (λ page c. more page (covered-of_without runs (first + n) page c)) d2.kept))
          re.kept)
          (counted_kept four new after_list v is);
    } where
      either_left : (a b : Bool) → a ≡ true → (a || b) ≡ true
      either_left a b e = grind (arith, common_steps)

      either_right : (a b : Bool) → b ≡ true → (a || b) ≡ true
      either_right a b e = grind (arith, common_steps)
