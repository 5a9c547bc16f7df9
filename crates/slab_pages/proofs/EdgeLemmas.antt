-- What the code meets at the descriptors that it reads.
use Rattle.std.proofs.Common.{ℕ, ◌≡◌, ◌≢◌, ◌+◌, ◌-◌, ◌/◌, ◌%◌, ◌^◌, ◌<◌, ◌≤◌, false, List, length, sym, ap, subst, ◌∙◌, refl, arith, inl, inr}
use Rattle.std.proofs.lemmas.Grind.{common_steps}
use Rattle.std.proofs.lemmas.Bool.{cases_lt}
use Rattle.slab_model.specs.declared.runs.Run.{Run}
use Rattle.slab_model.specs.Runs.{is_covered, pages_from, pages_before}
use Rattle.slab_pages.specs.Places.{free_head, descriptor, slab_at, next_at, prev_at, HasWords, page_limit, descriptor_word}
use Rattle.slab_pages.specs.RunSteps.{Links, LaysList, SetsWords, FillsRun, Detaches, IsAfter, IsBefore, MarksUsed, start_at}
use Rattle.slab_pages.proofs.PlaceLemmas.{descriptor-word, descriptor-zero, HasWords-kept}
use Rattle.slab_pages.proofs.ListLemmas.{pages_from-within}
use Rattle.slab_pages.proofs.UnlinkLemmas.{run_at, IsNode, node_before, node_after}
use Rattle.slab_pages.proofs.JoinLemmas.{covered-within, before-from, uncovered-from, without-none}

pub descriptor-type : (page : ℕ) → descriptor page % 4 ≡ 0
unfolding descriptor
descriptor-type page = omega arith

-- the descriptors of the list lie in the words
pub node_room : (count : ℕ) (words : List ℕ) (runs : List Run) (o : ℕ) → LaysList count words runs → IsNode o runs → o / 8 + 2 < length words
node_room count words runs o h node = elim node [
  | inl e ↦ let w = ap (λ x. x / 8) e in omega (arith, w, h.room)
  | inr m ↦ let w = ap (λ x. x / 8) m.1 in omega (arith, w, descriptor-word m.0, covered-within count runs m.0 h.sound m.2, h.room)
]

pub record IsIn (count : ℕ) (words : List ℕ) (first pages : ℕ) : Type 0 where
  pub within : first + pages ≤ count
  pub small : first + pages ≤ page_limit
  pub room : descriptor_word (first + pages) ≤ length words
  pub word : descriptor first / 8 + 2 < length words

pub listed_in : (count : ℕ) (words : List ℕ) (runs : List Run) (first : ℕ) → LaysList count words runs → 0 < pages_from first runs → IsIn count words first (pages_from first runs)
listed_in count words runs first h some = let within = pages_from-within count runs first h.sound some in record {
  within = within;
  small = omega (arith, within, h.small);
  room = omega (arith, within, h.room);
  word = omega (arith, within, h.room, some, descriptor-word first);
}

pub links_at : (old new : List ℕ) (a b c d : ℕ) → a ≡ c → b ≡ d → Links old new a b → Links old new c d
links_at old new a b c d ea eb h = subst (λ (x : ℕ). Links old new x d) ea (subst (λ (y : ℕ). Links old new a y) eb h)

pub sets_at : (old new : List ℕ) (o p slab next prev : ℕ) → o ≡ p → SetsWords old new o slab next prev → SetsWords old new p slab next prev
sets_at old new o p slab next prev e h = subst (λ (x : ℕ). SetsWords old new x slab next prev) e h

-- the descriptors of a used run
pub marked : (old mid new : List ℕ) (first n : ℕ) → 0 < n → SetsWords old mid (descriptor first) (n + 2 ^ 63) 0 0 → FillsRun mid new (first + 1) (n - 1) (2 ^ 64 - 1) → MarksUsed old new first n
marked old mid new first n some one rest = record {
  same_length = rest.same_length ∙ one.same_length;
  used = record {
    first = HasWords-kept mid new (descriptor first) (n + 2 ^ 63) 0 0 (record {
      slab = rest.others (descriptor first / 8) (inl (omega (arith, descriptor-word first)));
      next = rest.others (descriptor first / 8 + 1) (inl (omega (arith, descriptor-word first)));
      prev = rest.others (descriptor first / 8 + 2) (inl (omega (arith, descriptor-word first)));
    }) one.has;
    later = λ page low high. rest.filled page (omega (arith, low)) (omega (arith, high, some));
  };
  others = λ w far. elim far [
    | inl l ↦ rest.others w (inl (omega (arith, l))) ∙ one.others w (inl (omega (arith, l, descriptor-word first)))
    | inr g ↦ rest.others w (inr (omega (arith, g, some))) ∙ one.others w (inr (omega (arith, g, some, descriptor-word first)))
  ];
}

-- ---- is a free run beside the pages that come back

-- the first descriptor of a listed run has the type of whole pages, and is linked
pub listed_first : (count : ℕ) (words : List ℕ) (runs : List Run) (first : ℕ) → LaysList count words runs → 0 < pages_from first runs → (prev_at words (descriptor first) % 4 ≡ 0) × (next_at words (descriptor first) ≢ 0)
listed_first count words runs first h some = (
  elim (node_before count words runs first h some) [ inl e ↦ ap (λ x. x % 4) e | inr m ↦ ap (λ x. x % 4) m.1 ∙ descriptor-type m.0 ],
  λ zero. elim (node_after count words runs first h some) [ inl e ↦ omega (arith, e, zero) | inr m ↦ descriptor-zero m.0 (sym m.1 ∙ zero) ],
)

pub after_within : (count : ℕ) (words : List ℕ) (runs : List Run) (page : ℕ) → LaysList count words runs → IsAfter count words runs page → page ≢ count → page < count
after_within count words runs page h after ne = elim after [
  | inl e ↦ absurd (ne e)
  | inr r ↦ elim r [ inl some ↦ omega (arith, pages_from-within count runs page h.sound some, some) | inr b ↦ b.0 ]
]

-- where it isn't the first page of a free run, nothing is detached
pub after_none : (count : ℕ) (words : List ℕ) (runs : List Run) (page : ℕ) → LaysList count words runs → pages_from page runs ≡ 0 → Detaches count runs words words page 0
after_none count words runs page h none = record {
  pages_are = sym none;
  laid = subst (λ (rs : List Run). LaysList count words rs) (sym (without-none count runs page h.sound none)) h;
  cleared = λ p low high. absurd (omega (arith, low, high));
  kept = record { same_length = refl; others = λ w list run. refl };
  free = refl;
}

pub after_end : (count : ℕ) (words : List ℕ) (runs : List Run) (page : ℕ) → LaysList count words runs → page ≡ count → pages_from page runs ≡ 0
after_end count words runs page h e = elim (cases_lt 0 (pages_from page runs)) [
  | inl some ↦ absurd (omega (arith, pages_from-within count runs page h.sound some, some, e))
  | inr none ↦ omega (arith, none)
]

pub after_not_first : (count : ℕ) (words : List ℕ) (runs : List Run) (page : ℕ) → LaysList count words runs → ((prev_at words (descriptor page) % 4 ≡ 0) × (next_at words (descriptor page) ≢ 0) → ⊥) → pages_from page runs ≡ 0
after_not_first count words runs page h never = elim (cases_lt 0 (pages_from page runs)) [
  | inl some ↦ absurd (never (listed_first count words runs page h some))
  | inr none ↦ omega (arith, none)
]

pub after_first : (count : ℕ) (words : List ℕ) (runs : List Run) (page : ℕ) → LaysList count words runs → IsAfter count words runs page → page ≢ count → (prev_at words (descriptor page) % 4 ≡ 0) × (next_at words (descriptor page) ≢ 0) → 0 < pages_from page runs
after_first count words runs page h after ne first = elim after [
  | inl e ↦ absurd (ne e)
  | inr r ↦ elim r [ inl some ↦ some | inr b ↦ absurd (elim b.1 [ inl t ↦ t first.0 | inr z ↦ first.1 z.0 ]) ]
]

-- what the last descriptor of a free run says
pub record Ends (words : List ℕ) (page pages : ℕ) : Type 0 where
  pub low : pages ≤ page
  pub type_is : prev_at words (descriptor (page - 1)) % 4 ≡ 0
  pub start : start_at words (descriptor (page - 1)) ≡ descriptor (page - pages)
  pub linked : next_at words (descriptor (page - pages)) ≢ 0
  pub within : page - pages + pages ≤ page_limit

start-here : (words : List ℕ) (o : ℕ) → slab_at words o ≢ 0 → start_at words o ≡ o
start-here words o ne = grind (arith, common_steps)

start-back : (words : List ℕ) (o : ℕ) → slab_at words o ≡ 0 → start_at words o ≡ prev_at words o
start-back words o e = grind (arith, common_steps)

pub run_ends : (count : ℕ) (words : List ℕ) (runs : List Run) (page : ℕ) → LaysList count words runs → 0 < pages_before page runs → Ends words page (pages_before page runs)
run_ends count words runs page h some =
    let m = pages_before page runs in
    let f = before-from count runs page h.sound some in
    let listed : 0 < pages_from (page - m) runs = omega (arith, f.1, some) in
    let first = listed_first count words runs (page - m) h listed in
    let at = run_at count words free_head runs (page - m) h.sound h.linked listed in
    let is_in = listed_in count words runs (page - m) h listed in
    elim (cases_lt 1 m) [
      | inl many ↦
          let last : HasWords words (descriptor (page - 1)) 0 0 (descriptor (page - m)) = subst (λ (k : ℕ). HasWords words (descriptor k) 0 0 (descriptor (page - m))) (omega (arith, f.0, f.1, some)) (at.1.last (omega (arith, f.1, many))) in
          record {
            low = f.0;
            type_is = ap (λ x. x % 4) last.prev_is ∙ descriptor-type (page - m);
            start = start-back words (descriptor (page - 1)) last.slab_is ∙ last.prev_is;
            linked = first.1;
            within = omega (arith, is_in.small, f.1);
          }
      | inr one ↦
          let same : page - m ≡ page - 1 = omega (arith, one, some) in
          let nonzero : slab_at words (descriptor (page - 1)) ≢ 0 = subst (λ (k : ℕ). slab_at words (descriptor k) ≢ 0) same (λ e. omega (arith, e, at.0, f.1, some)) in
          record {
            low = f.0;
            type_is = subst (λ (k : ℕ). prev_at words (descriptor k) % 4 ≡ 0) same first.0;
            start = start-here words (descriptor (page - 1)) nonzero ∙ ap (λ k. descriptor k) (sym same);
            linked = first.1;
            within = omega (arith, is_in.small, f.1);
          }
    ]

-- the place before a page lies in the words
pub before_in : (count : ℕ) (words : List ℕ) (runs : List Run) (page : ℕ) → LaysList count words runs → IsBefore count words runs page → (0 < page) × (page ≤ page_limit) × (descriptor (page - 1) / 8 + 2 < length words)
before_in count words runs page h before = let p = bound before in (p.0, omega (arith, p.1, h.small), omega (arith, p.0, p.1, h.room, descriptor-word (page - 1))) where
  bound : IsBefore count words runs page → (0 < page) × (page ≤ count)
  bound before = elim before [
    | inl some ↦ let f = before-from count runs page h.sound some in let w = pages_from-within count runs (page - pages_before page runs) h.sound (omega (arith, f.1, some)) in (omega (arith, f.0, some), omega (arith, f.0, f.1, w))
    | inr b ↦ (b.0, b.1)
  ]

pub before_type : (count : ℕ) (words : List ℕ) (runs : List Run) (page : ℕ) → LaysList count words runs → prev_at words (descriptor (page - 1)) % 4 ≢ 0 → pages_before page runs ≡ 0
before_type count words runs page h ne = elim (cases_lt 0 (pages_before page runs)) [
  | inl some ↦ absurd (ne (run_ends count words runs page h some).type_is)
  | inr none ↦ omega (arith, none)
]

-- the first descriptor of what ends before the page
pub before_start : (count : ℕ) (words : List ℕ) (runs : List Run) (page : ℕ) → LaysList count words runs → IsBefore count words runs page → prev_at words (descriptor (page - 1)) % 4 ≡ 0 → (first : ℕ) × (start_at words (descriptor (page - 1)) ≡ descriptor first) × (descriptor first / 8 + 2 < length words)
before_start count words runs page h before zero = elim before [
  | inl some ↦ let e = run_ends count words runs page h some in let f = before-from count runs page h.sound some in
      (page - pages_before page runs, e.start, (listed_in count words runs (page - pages_before page runs) h (omega (arith, f.1, some))).word)
  | inr b ↦ (page - 1, start-here words (descriptor (page - 1)) (elim b.2 [ inl t ↦ absurd (t zero) | inr z ↦ z.1 ]), (before_in count words runs page h (inr b)).2)
]

pub before_loose : (count : ℕ) (words : List ℕ) (runs : List Run) (page : ℕ) → LaysList count words runs → next_at words (start_at words (descriptor (page - 1))) ≡ 0 → pages_before page runs ≡ 0
before_loose count words runs page h zero = elim (cases_lt 0 (pages_before page runs)) [
  | inl some ↦ let e = run_ends count words runs page h some in absurd (e.linked (subst (λ (o : ℕ). next_at words o ≡ 0) e.start zero))
  | inr none ↦ omega (arith, none)
]

pub before_linked : (count : ℕ) (words : List ℕ) (runs : List Run) (page : ℕ) → LaysList count words runs → IsBefore count words runs page → prev_at words (descriptor (page - 1)) % 4 ≡ 0 → next_at words (start_at words (descriptor (page - 1))) ≢ 0 → (0 < pages_before page runs) × (start_at words (descriptor (page - 1)) ≡ descriptor (page - pages_before page runs)) × (pages_before page runs ≤ page)
before_linked count words runs page h before zero linked = elim before [
  | inl some ↦ let e = run_ends count words runs page h some in (some, e.start, e.low)
  | inr b ↦ absurd (elim b.2 [
    | inl t ↦ t zero
    | inr z ↦ linked (ap (λ o. next_at words o) (start-here words (descriptor (page - 1)) z.1) ∙ z.0)
  ])
]

-- where no free run ends before the page, nothing is detached
pub before_none : (count : ℕ) (words : List ℕ) (runs : List Run) (page : ℕ) → LaysList count words runs → is_covered page runs ≡ false → pages_before page runs ≡ 0 → (0 ≡ pages_before page runs) × Detaches count runs words words (page - 0) 0
before_none count words runs page h free none = (sym none, subst (λ (k : ℕ). Detaches count runs words words k 0) (omega arith) (after_none count words runs page h (uncovered-from runs page free)))

pub before_zero : (count : ℕ) (words : List ℕ) (runs : List Run) (page : ℕ) → LaysList count words runs → page ≡ 0 → pages_before page runs ≡ 0
before_zero count words runs page h e = elim (cases_lt 0 (pages_before page runs)) [
  | inl some ↦ absurd (omega (arith, e, some, (before-from count runs page h.sound some).0))
  | inr none ↦ omega (arith, none)
]

-- the run that ends before the page begins at its first page
pub before_first : (count : ℕ) (words : List ℕ) (runs : List Run) (page first : ℕ) → LaysList count words runs → 0 < pages_before page runs → first + pages_before page runs ≡ page → (0 < pages_from first runs) × (pages_from first runs ≡ pages_before page runs)
before_first count words runs page first h some at =
    let f = before-from count runs page h.sound some in
    let same : pages_from first runs ≡ pages_before page runs = subst (λ (k : ℕ). pages_from k runs ≡ pages_before page runs) (omega (arith, at)) f.1 in
    (omega (arith, same, some), same)
