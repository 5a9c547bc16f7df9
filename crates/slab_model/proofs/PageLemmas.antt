-- The pages of a slab once some of them change.
use Rattle.std.proofs.Common.{ℕ, ◌≡◌, ◌≢◌, ◌⊎◌, ◌+◌, ◌-◌, ◌<◌, ◌≤◌, zero, suc, not, List, length, set, sym, ap, ◌∙◌, refl, arith, inl, inr, get_or-set_same, get_or-set_other}
use Rattle.std.proofs.lemmas.List.{length-set}
use Rattle.std.proofs.lemmas.Bool.{cases_eq, cases_lt}
use Rattle.std.proofs.lemmas.Grind.{common_steps}
use Rattle.slab_model.specs.declared.page.PageState.{PageState}
use Rattle.slab_model.specs.declared.page.PageState.TheVariants.{Free, First, Later, Class}
use Rattle.slab_model.specs.State.{page_at, fill_pages}
use Rattle.slab_model.specs.Grant.{use_pages}
use Rattle.slab_model.specs.Soundness.{HasUsedRuns}

pub length-fill : (state : PageState) (page count : ℕ) (pages : List PageState) → length (fill_pages state page count pages) ≡ length pages
length-fill state page zero pages = refl
length-fill state page (suc count) pages = length-fill state (page + 1) count (set pages page state) ∙ length-set pages page state

pub page_at-fill_out : (state : PageState) (page count : ℕ) (pages : List PageState) (q : ℕ) → (q < page) ⊎ (page + count ≤ q) → page_at (fill_pages state page count pages) q ≡ page_at pages q
page_at-fill_out state page zero pages q out = refl
page_at-fill_out state page (suc count) pages q out = let ih = page_at-fill_out state (page + 1) count (set pages page state) q in let here = get_or-set_other pages page q state Free in grind (arith, common_steps, ih, here, out)

pub page_at-fill_in : (state : PageState) (page count : ℕ) (pages : List PageState) (q : ℕ) → page + count ≤ length pages → page ≤ q → q < page + count → page_at (fill_pages state page count pages) q ≡ state
page_at-fill_in state page zero pages q room low high = absurd (omega arith)
page_at-fill_in state page (suc count) pages q room low high =
    let ih = page_at-fill_in state (page + 1) count (set pages page state) q in
    let out = page_at-fill_out state (page + 1) count (set pages page state) q in
    let here = get_or-set_same pages page state Free in
    let long = length-set pages page state in
    grind (arith, common_steps, ih, here, out, long)

-- the page is in no used run
pub record NotInRun (state : PageState) : Type 0 where
  pub first : (n : ℕ) → state ≢ First n
  pub later : state ≢ Later

pub Free-NotInRun : NotInRun Free
Free-NotInRun = record { first = λ n e. cc; later = λ e. cc }

pub Class-NotInRun : (class : ℕ) (used : List ℕ) → NotInRun (Class class used)
Class-NotInRun class used = record { first = λ n e. cc; later = λ e. cc }

-- a page of no used run becomes another such page
pub HasUsedRuns-set : (count page : ℕ) (state : PageState) (pages : List PageState) → page < length pages → NotInRun (page_at pages page) → NotInRun state → HasUsedRuns count pages → HasUsedRuns count (set pages page state)
HasUsedRuns-set count page state pages here old new runs = record {
  followed = λ q n is. followed q n is (runs.followed q n) (cases_eq q page);
  belongs = λ q is. belongs q is (runs.belongs q) (cases_eq q page);
} where
  same : page_at (set pages page state) page ≡ state
  same = get_or-set_same pages page state Free here

  other : (q : ℕ) → q ≢ page → page_at (set pages page state) q ≡ page_at pages q
  other q ne = get_or-set_other pages page q state Free ne

  later_kept : (q : ℕ) → page_at pages q ≡ Later → (q ≡ page) ⊎ (q ≢ page) → page_at (set pages page state) q ≡ Later
  later_kept q is (inl e) = absurd (old.later (ap (λ k. page_at pages k) (sym e) ∙ is))
  later_kept q is (inr ne) = other q ne ∙ is

  followed : (q n : ℕ) → page_at (set pages page state) q ≡ First n → (page_at pages q ≡ First n → (0 < n) × (q + n ≤ count) × ((later : ℕ) → q < later → later < q + n → page_at pages later ≡ Later)) → (q ≡ page) ⊎ (q ≢ page) → (0 < n) × (q + n ≤ count) × ((later : ℕ) → q < later → later < q + n → page_at (set pages page state) later ≡ Later)
  followed q n is before (inl e) = absurd (new.first n (sym same ∙ ap (λ k. page_at (set pages page state) k) (sym e) ∙ is))
  followed q n is before (inr ne) = let h = before (sym (other q ne) ∙ is) in (h.0, h.1, λ l low high. later_kept l (h.2 l low high) (cases_eq l page))

  first_kept : (q n : ℕ) → page_at pages q ≡ First n → (q ≡ page) ⊎ (q ≢ page) → page_at (set pages page state) q ≡ First n
  first_kept q n is (inl e) = absurd (old.first n (ap (λ k. page_at pages k) (sym e) ∙ is))
  first_kept q n is (inr ne) = other q ne ∙ is

  belongs : (q : ℕ) → page_at (set pages page state) q ≡ Later → (page_at pages q ≡ Later → (first n : ℕ) × (page_at pages first ≡ First n) × (first < q) × (q < first + n)) → (q ≡ page) ⊎ (q ≢ page) → (first n : ℕ) × (page_at (set pages page state) first ≡ First n) × (first < q) × (q < first + n)
  belongs q is before (inl e) = absurd (new.later (sym same ∙ ap (λ k. page_at (set pages page state) k) (sym e) ∙ is))
  belongs q is before (inr ne) = let h = before (sym (other q ne) ∙ is) in (h.0, h.1, first_kept h.0 h.1 h.2 (cases_eq h.0 page), h.3, h.4)

-- where a page lies beside a stretch of pages
pub data Place (q page count : ℕ) : Type 0 where
  out : (q < page) ⊎ (page + count ≤ q) → Place q page count
  within : page ≤ q → q < page + count → Place q page count

pub place_of : (q page count : ℕ) → Place q page count
place_of q page count = elim (cases_lt q page) [
  | inl l ↦ out (inl l)
  | inr g ↦ elim (cases_lt q (page + count)) [ inl l ↦ within g l | inr h ↦ out (inr h) ]
]

-- the pages of a run that is taken
pub page_at-use_out : (page count : ℕ) (pages : List PageState) (q : ℕ) → 0 < count → (q < page) ⊎ (page + count ≤ q) → page_at (use_pages page count pages) q ≡ page_at pages q
page_at-use_out page count pages q some o =
    let rest = page_at-fill_out Later (page + 1) (count - 1) (set pages page (First count)) q in
    let here = get_or-set_other pages page q (First count) Free in
    grind (arith, common_steps, rest, here, o)

pub page_at-use_first : (page count : ℕ) (pages : List PageState) → page < length pages → page_at (use_pages page count pages) page ≡ First count
page_at-use_first page count pages here = page_at-fill_out Later (page + 1) (count - 1) (set pages page (First count)) page (inl (omega arith)) ∙ get_or-set_same pages page (First count) Free here

pub page_at-use_later : (page count : ℕ) (pages : List PageState) (q : ℕ) → page + count ≤ length pages → page < q → q < page + count → page_at (use_pages page count pages) q ≡ Later
page_at-use_later page count pages q room low high = page_at-fill_in Later (page + 1) (count - 1) (set pages page (First count)) q (omega (arith, length-set pages page (First count))) (omega arith) (omega arith)

-- free pages become a used run
pub HasUsedRuns-use : (total page count : ℕ) (pages : List PageState) → length pages ≡ total → 0 < count → page + count ≤ total → ((q : ℕ) → page ≤ q → q < page + count → page_at pages q ≡ Free) → HasUsedRuns total pages → HasUsedRuns total (use_pages page count pages)
HasUsedRuns-use total page count pages long some room free runs = record {
  followed = λ q n is. followed q n is (place_of q page count);
  belongs = λ q is. belongs q is (place_of q page count);
} where
  kept : (q : ℕ) (state : PageState) → page_at pages q ≡ state → state ≢ Free → page_at (use_pages page count pages) q ≡ state
  kept q state is not = elim (place_of q page count) [
    | out o ↦ page_at-use_out page count pages q some o ∙ is
    | within low high ↦ absurd (not (sym is ∙ free q low high))
  ]

  inside : (q n : ℕ) → page_at (use_pages page count pages) q ≡ First n → page ≤ q → q < page + count → (q ≡ page) ⊎ (q ≢ page) → (0 < n) × (q + n ≤ total) × ((later : ℕ) → q < later → later < q + n → page_at (use_pages page count pages) later ≡ Later)
  inside q n is low high (inl e) =
      let at_first : page_at (use_pages page count pages) page ≡ First n = ap (λ k. page_at (use_pages page count pages) k) (sym e) ∙ is in
      let same : First count ≡ First n = sym (page_at-use_first page count pages (omega arith)) ∙ at_first in
      let n_is : count ≡ n = cc in
      (omega arith, omega arith, λ l l_low l_high. page_at-use_later page count pages l (omega arith) (omega arith) (omega arith))
  inside q n is low high (inr ne) = let later = page_at-use_later page count pages q (omega arith) (omega (arith, ne)) high in absurd (cc)

  followed : (q n : ℕ) → page_at (use_pages page count pages) q ≡ First n → Place q page count → (0 < n) × (q + n ≤ total) × ((later : ℕ) → q < later → later < q + n → page_at (use_pages page count pages) later ≡ Later)
  followed q n is (out o) = let h = runs.followed q n (sym (page_at-use_out page count pages q some o) ∙ is) in (h.0, h.1, λ l low high. kept l Later (h.2 l low high) (λ e. cc))
  followed q n is (within low high) = inside q n is low high (cases_eq q page)

  member : (q : ℕ) → page_at (use_pages page count pages) q ≡ Later → page ≤ q → q < page + count → (q ≡ page) ⊎ (q ≢ page) → (first n : ℕ) × (page_at (use_pages page count pages) first ≡ First n) × (first < q) × (q < first + n)
  member q is low high (inl e) =
      let first = page_at-use_first page count pages (omega arith) in
      let at_first : page_at (use_pages page count pages) page ≡ Later = ap (λ k. page_at (use_pages page count pages) k) (sym e) ∙ is in
      absurd (cc)
  member q is low high (inr ne) = (page, count, page_at-use_first page count pages (omega arith), omega (arith, ne), high)

  belongs : (q : ℕ) → page_at (use_pages page count pages) q ≡ Later → Place q page count → (first n : ℕ) × (page_at (use_pages page count pages) first ≡ First n) × (first < q) × (q < first + n)
  belongs q is (out o) = let h = runs.belongs q (sym (page_at-use_out page count pages q some o) ∙ is) in (h.0, h.1, kept h.0 (First h.1) h.2 (λ e. cc), h.3, h.4)
  belongs q is (within low high) = member q is low high (cases_eq q page)

-- a used run becomes free
pub HasUsedRuns-free : (total page count : ℕ) (pages : List PageState) → length pages ≡ total → page_at pages page ≡ First count → HasUsedRuns total pages → HasUsedRuns total (fill_pages Free page count pages)
HasUsedRuns-free total page count pages long is_first runs = record {
  followed = λ q n is. followed q n is (place_of q page count);
  belongs = λ q is. belongs q is (place_of q page count);
} where
  run : (0 < count) × (page + count ≤ total) × ((later : ℕ) → page < later → later < page + count → page_at pages later ≡ Later)
  run = runs.followed page count is_first

  -- a page of another run is not in this one
  apart : (first n q : ℕ) → page_at pages first ≡ First n → first ≢ page → first < q → q < first + n → (q < page) ⊎ (page + count ≤ q)
  apart first n q is ne low high = elim (place_of q page count) [
    | out o ↦ o
    | within q_low q_high ↦ elim (cases_lt first page) [
      | inl before ↦ let h = (runs.followed first n is).2 page before in absurd (before_it first n is q q_low high before)
      | inr after ↦ let h = run.2 first (omega (arith, ne)) (omega arith) in absurd (cc)
    ]
  ] where
    before_it : (first n : ℕ) → page_at pages first ≡ First n → (q : ℕ) → page ≤ q → q < first + n → first < page → ⊥
    before_it first n is q low high before = let h = (runs.followed first n is).2 page before (omega arith) in cc

  kept : (q : ℕ) (state : PageState) → page_at pages q ≡ state → (q < page) ⊎ (page + count ≤ q) → page_at (fill_pages Free page count pages) q ≡ state
  kept q state is o = page_at-fill_out Free page count pages q o ∙ is

  -- the first page of another run
  first_out : (q n : ℕ) → page_at pages q ≡ First n → q ≢ page → (q < page) ⊎ (page + count ≤ q)
  first_out q n is ne = elim (place_of q page count) [
    | out o ↦ o
    | within low high ↦ let h = run.2 q (omega (arith, ne)) high in absurd (cc)
  ]

  followed : (q n : ℕ) → page_at (fill_pages Free page count pages) q ≡ First n → Place q page count → (0 < n) × (q + n ≤ total) × ((later : ℕ) → q < later → later < q + n → page_at (fill_pages Free page count pages) later ≡ Later)
  followed q n is (out o) =
      let was : page_at pages q ≡ First n = sym (page_at-fill_out Free page count pages q o) ∙ is in
      let some = run.0 in
      let ne : q ≢ page = λ e. out_ne q o e some in
      let h = runs.followed q n was in
      (h.0, h.1, λ l low high. kept l Later (h.2 l low high) (apart q n l was ne low high))
    where
      out_ne : (q : ℕ) → (q < page) ⊎ (page + count ≤ q) → q ≡ page → 0 < count → ⊥
      out_ne q o e some = grind (arith, common_steps)
  followed q n is (within low high) = let free = page_at-fill_in Free page count pages q (omega (arith, run.1)) low high in absurd (cc)

  belongs : (q : ℕ) → page_at (fill_pages Free page count pages) q ≡ Later → Place q page count → (first n : ℕ) × (page_at (fill_pages Free page count pages) first ≡ First n) × (first < q) × (q < first + n)
  belongs q is (out o) =
      let was : page_at pages q ≡ Later = sym (page_at-fill_out Free page count pages q o) ∙ is in
      let h = runs.belongs q was in
      let ne : h.0 ≢ page = λ e. other_run q o h.0 h.1 h.2 h.3 h.4 e in
      (h.0, h.1, kept h.0 (First h.1) h.2 (first_out h.0 h.1 h.2 ne), h.3, h.4)
    where
      other_run : (q : ℕ) → (q < page) ⊎ (page + count ≤ q) → (first n : ℕ) → page_at pages first ≡ First n → first < q → q < first + n → first ≡ page → ⊥
      other_run q o first n is low high e =
          let at_page : page_at pages page ≡ First n = ap (λ k. page_at pages k) (sym e) ∙ is in
          let n_is : n ≡ count = cc in
          grind (arith, common_steps)
  belongs q is (within low high) = let free = page_at-fill_in Free page count pages q (omega (arith, run.1)) low high in absurd (cc)
