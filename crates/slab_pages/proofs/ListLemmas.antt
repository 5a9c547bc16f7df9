-- What writes to the links of the list of free runs leave.
use Rattle.std.proofs.Common.{ℕ, ◌≡◌, ◌≢◌, ◌⊎◌, ◌+◌, ◌-◌, ◌<◌, ◌≤◌, true, List, [], ◌∷◌, sym, ap, subst, ◌∙◌, refl, arith, inl, inr}
use Rattle.std.proofs.lemmas.Grind.{common_steps}
use Rattle.std.proofs.lemmas.Bool.{cases_eq, cases_lt}
use Rattle.slab_model.specs.declared.runs.Run.{Run}
use Rattle.slab_model.specs.Runs.{AreRunsApart, IsRunApart, AreSound, is_covered, pages_from}
use Rattle.slab_pages.specs.Places.{free_head, descriptor, slab_at, next_at, prev_at, IsDescriptorOffset}
use Rattle.slab_pages.specs.Layout.{HasTail, LaysFrom}
use Rattle.slab_pages.proofs.PlaceLemmas.{descriptor-head, descriptor-injective, HasWords-kept}
use Rattle.slab_pages.specs.Frames.{SameWords}
use Rattle.slab_pages.specs.RunSteps.{change}

-- ---- pages and runs

pub pages_from-here : (x : Run) (xs : List Run) (first : ℕ) → x.first ≡ first → pages_from first (x ∷ xs) ≡ x.pages
pages_from-here x xs first e = grind (arith, common_steps)

pub pages_from-there : (x : Run) (xs : List Run) (first : ℕ) → x.first ≢ first → pages_from first (x ∷ xs) ≡ pages_from first xs
pages_from-there x xs first ne = grind (arith, common_steps)

-- the pages of a listed run are free
pub pages_from-covers : (first page : ℕ) (runs : List Run) → first ≤ page → page < first + pages_from first runs → is_covered page runs ≡ true
pages_from-covers first page [] low high = absurd (omega arith)
pages_from-covers first page (x ∷ xs) low high = let ih = pages_from-covers first page xs low in grind (arith, common_steps, ih)

-- no listed run begins in a run that is apart from them
pub pages_from-apart : (x : Run) (xs : List Run) (page : ℕ) → IsRunApart x xs → x.first ≤ page → page < x.first + x.pages → pages_from page xs ≡ 0
pages_from-apart x [] page apart low high = refl
pages_from-apart x (y ∷ ys) page apart low high = let ih = pages_from-apart x ys page apart.1 low high in grind (arith, common_steps, ih)

-- a run that is apart from the listed ones is apart from the one that begins at `first`
pub pages_from-beyond : (x : Run) (xs : List Run) (first page : ℕ) → IsRunApart x xs → 0 < pages_from first xs → x.first ≤ page → page < x.first + x.pages → (page < first) ⊎ (first + pages_from first xs ≤ page)
pages_from-beyond x [] first page apart some low high = absurd (omega arith)
pages_from-beyond x (y ∷ ys) first page apart some low high = let ih = pages_from-beyond x ys first page apart.1 in grind (arith, common_steps, ih)

-- a run that is listed later
pages_from-later : (count : ℕ) (x : Run) (xs : List Run) (page : ℕ) → AreSound count (x ∷ xs) → 0 < pages_from page xs → 0 < pages_from page (x ∷ xs)
pages_from-later count x xs page sound h = let some = sound.0 in grind (arith, common_steps)

-- a listed run ends within the zone
pub pages_from-within : (count : ℕ) (runs : List Run) (first : ℕ) → AreSound count runs → 0 < pages_from first runs → first + pages_from first runs ≤ count
pages_from-within count [] first sound some = absurd (omega arith)
pages_from-within count (x ∷ xs) first sound some = let ih = pages_from-within count xs first sound.3 in grind (arith, common_steps, ih)

-- no listed run begins within another one
pub pages_from-inside : (count : ℕ) (runs : List Run) (first page : ℕ) → AreSound count runs → first < page → page < first + pages_from first runs → pages_from page runs ≡ 0
pages_from-inside count [] first page sound low high = refl
pages_from-inside count (x ∷ xs) first page sound low high = let ih = pages_from-inside count xs first page sound.3 low in let apart = pages_from-apart x xs page sound.2 in let beyond = pages_from-beyond x xs first x.first sound.2 in grind (arith, common_steps, ih, apart, beyond)

-- ---- what stays laid out

pub HasTail-kept : (old new : List ℕ) (run : Run) → ((page : ℕ) → run.first < page → page < run.first + run.pages → SameWords old new (descriptor page)) → HasTail old run → HasTail new run
HasTail-kept old new run same h = record {
  between = λ page low high. HasWords-kept old new (descriptor page) 0 0 0 (same page low (omega arith)) (h.between page low high);
  last = λ many. HasWords-kept old new (descriptor (run.first + run.pages - 1)) 0 0 (descriptor run.first) (same (run.first + run.pages - 1) (omega (arith, many)) (omega (arith, many))) (h.last many);
}

pub covered-first : (x : Run) (xs : List Run) (page : ℕ) → x.first ≤ page → page < x.first + x.pages → is_covered page (x ∷ xs) ≡ true
covered-first x xs page low high = grind (arith, common_steps)

pub covered-rest : (x : Run) (xs : List Run) (page : ℕ) → is_covered page xs ≡ true → is_covered page (x ∷ xs) ≡ true
covered-rest x xs page h = grind (arith, common_steps)

pub LaysFrom-kept : (count : ℕ) (old new : List ℕ) (p : ℕ) (runs : List Run) → AreSound count runs → next_at new p ≡ next_at old p → ((page : ℕ) → is_covered page runs ≡ true → SameWords old new (descriptor page)) → LaysFrom old p runs → LaysFrom new p runs
LaysFrom-kept count old new p [] sound next same h = next ∙ h
LaysFrom-kept count old new p (x ∷ xs) sound next same h =
    let first = same x.first (covered-first x xs x.first (omega arith) (omega (arith, sound.0))) in (
      next ∙ h.0,
      first.slab ∙ h.1,
      first.prev ∙ h.2,
      HasTail-kept old new x (λ page low high. same page (covered-first x xs page (omega arith) high)) h.3,
      LaysFrom-kept count old new (descriptor x.first) xs sound.3 first.next (λ page c. same page (covered-rest x xs page c)) h.4,
    )

-- ---- one run of the list changes

pub change-here : (x : Run) (xs : List Run) (first : ℕ) (f : Run → List Run → List Run) → x.first ≡ first → change first f (x ∷ xs) ≡ f x xs
change-here x xs first f e = grind (arith, common_steps)

pub change-there : (x : Run) (xs : List Run) (first : ℕ) (f : Run → List Run → List Run) → x.first ≢ first → change first f (x ∷ xs) ≡ x ∷ change first f xs
change-there x xs first f ne = grind (arith, common_steps)

-- outside a run only one next and one prev changed
pub record Near (old new : List ℕ) (first pages a b : ℕ) : Type 0 where
  pub slabs : (page : ℕ) → (page < first) ⊎ (first + pages ≤ page) → slab_at new (descriptor page) ≡ slab_at old (descriptor page)
  pub nexts : (page : ℕ) → (page < first) ⊎ (first + pages ≤ page) → descriptor page ≢ a → next_at new (descriptor page) ≡ next_at old (descriptor page)
  pub prevs : (page : ℕ) → (page < first) ⊎ (first + pages ≤ page) → descriptor page ≢ b → prev_at new (descriptor page) ≡ prev_at old (descriptor page)
  pub head : free_head ≢ a → next_at new free_head ≡ next_at old free_head

-- the place is of none of the pages of these runs
abbrev pub Outside : ℕ → List Run → Type 0
Outside p runs = (page : ℕ) → is_covered page runs ≡ true → descriptor page ≢ p

pub same_near : (old new : List ℕ) (first pages a b page : ℕ) → Near old new first pages a b → (page < first) ⊎ (first + pages ≤ page) → descriptor page ≢ a → descriptor page ≢ b → SameWords old new (descriptor page)
same_near old new first pages a b page near beyond na nb = record { slab = near.slabs page beyond; next = near.nexts page beyond na; prev = near.prevs page beyond nb }

-- the place before a run, and the one after it
pub prev_in : (count : ℕ) (words : List ℕ) (p : ℕ) (runs : List Run) (first : ℕ) → AreSound count runs → LaysFrom words p runs → 0 < pages_from first runs → (prev_at words (descriptor first) ≡ p) ⊎ ((page : ℕ) × (prev_at words (descriptor first) ≡ descriptor page) × (0 < pages_from page runs) × (page ≢ first))
prev_in count words p [] first sound h some = absurd (omega arith)
prev_in count words p (x ∷ xs) first sound h some = elim (cases_eq x.first first) [
  | inl e ↦ inl (subst (λ (k : ℕ). prev_at words (descriptor k) ≡ p) e h.2)
  | inr ne ↦ elim (prev_in count words (descriptor x.first) xs first sound.3 h.4 (omega (arith, some, pages_from-there x xs first ne))) [
    | inl at ↦ inr (x.first, at, omega (arith, sound.0, pages_from-here x xs x.first refl), ne)
    | inr m ↦ inr (m.0, m.1, pages_from-later count x xs m.0 sound m.2, m.3)
  ]
]

pub next_in : (count : ℕ) (words : List ℕ) (p : ℕ) (runs : List Run) (first : ℕ) → AreSound count runs → LaysFrom words p runs → 0 < pages_from first runs → (next_at words (descriptor first) ≡ free_head) ⊎ ((page : ℕ) × (next_at words (descriptor first) ≡ descriptor page) × (0 < pages_from page runs) × (page ≢ first))
next_in count words p [] first sound h some = absurd (omega arith)
next_in count words p (x ∷ []) first sound h some = elim (cases_eq x.first first) [
  | inl e ↦ inl (subst (λ (k : ℕ). next_at words (descriptor k) ≡ free_head) e h.4)
  | inr ne ↦ absurd (omega (arith, some, pages_from-there x [] first ne))
]
next_in count words p (x ∷ y ∷ ys) first sound h some = elim (cases_eq x.first first) [
  | inl e ↦ inr (y.first, subst (λ (k : ℕ). next_at words (descriptor k) ≡ descriptor y.first) e h.4.0, pages_from-later count x (y ∷ ys) y.first sound (omega (arith, sound.3.0, pages_from-here y ys y.first refl)), different first x y e sound.0 sound.2.0)
  | inr ne ↦ elim (next_in count words (descriptor x.first) (y ∷ ys) first sound.3 h.4 (omega (arith, some, pages_from-there x (y ∷ ys) first ne))) [
    | inl at ↦ inl at
    | inr m ↦ inr (m.0, m.1, pages_from-later count x (y ∷ ys) m.0 sound m.2, m.3)
  ]
] where
  different : (first : ℕ) (x y : Run) → x.first ≡ first → 0 < x.pages → AreRunsApart x y → y.first ≢ first
  different first x y e some apart same = elim apart [ inl l ↦ omega (arith, l, e, same) | inr g ↦ omega (arith, g, e, same, some) ]

-- a page of a run that is apart from a listed one isn't in it
pub covers-apart : (x : Run) (xs : List Run) (page : ℕ) → IsRunApart x xs → is_covered page xs ≡ true → (page < x.first) ⊎ (x.first + x.pages ≤ page)
covers-apart x [] page apart h = absurd (cc)
covers-apart x (y ∷ ys) page apart h = let ih = covers-apart x ys page apart.1 in grind (arith, common_steps, ih)

-- the runs that followed `first` follow `a` instead
pub relink : (count : ℕ) (old new : List ℕ) (a : ℕ) (before : ℕ) (x : Run) (xs : List Run) → IsRunApart x xs → AreSound count xs → Outside before xs → Near old new x.first x.pages before (next_at old (descriptor x.first)) → next_at new a ≡ next_at old (descriptor x.first) → (next_at old (descriptor x.first) ≢ free_head → prev_at new (next_at old (descriptor x.first)) ≡ a) → LaysFrom old (descriptor x.first) xs → LaysFrom new a xs
relink count old new a before x [] apart sound out near next prev h = next ∙ h
relink count old new a before x (y ∷ ys) apart sound out near next prev h =
    let beyond = λ (page : ℕ) (c : is_covered page (y ∷ ys) ≡ true). covers-apart x (y ∷ ys) page apart c in
    let here = covered-first y ys y.first (omega arith) (omega (arith, sound.0)) in
    let is_next = λ (page : ℕ) (ne : page ≢ y.first) (e : descriptor page ≡ next_at old (descriptor x.first)). ne (descriptor-injective page y.first (e ∙ h.0)) in
    let same = λ (page : ℕ) (c : is_covered page (y ∷ ys) ≡ true) (ne : page ≢ y.first). same_near old new x.first x.pages before (next_at old (descriptor x.first)) page near (beyond page c) (out page c) (is_next page ne) in
    let not_head : next_at old (descriptor x.first) ≢ free_head = λ e. descriptor-head y.first (sym h.0 ∙ e) in
    let back : prev_at new (descriptor y.first) ≡ a = subst (λ (o : ℕ). prev_at new o ≡ a) h.0 (prev not_head) in
    let after : next_at new (descriptor y.first) ≡ next_at old (descriptor y.first) = near.nexts y.first (beyond y.first here) (out y.first here) in (
      next ∙ h.0,
      near.slabs y.first (beyond y.first here) ∙ h.1,
      back,
      HasTail-kept old new y (λ page low high. same page (covered-first y ys page (omega arith) high) (omega (arith, low))) h.3,
      LaysFrom-kept count old new (descriptor y.first) ys sound.3 after (λ page c. same page (covered-rest y ys page c) (covers-first y ys page sound.2 sound.0 c)) h.4,
    ) where
      covers-first : (y : Run) (ys : List Run) (page : ℕ) → IsRunApart y ys → 0 < y.pages → is_covered page ys ≡ true → page ≢ y.first
      covers-first y ys page apart some c e = elim (covers-apart y ys page apart c) [ inl l ↦ omega (arith, l, e) | inr g ↦ omega (arith, g, e, some) ]

-- a change at one run leaves the rest of the list
pub relaid : (count : ℕ) (old new : List ℕ) (first : ℕ) (f : Run → List Run → List Run) (p : ℕ) (runs : List Run) → IsDescriptorOffset p → Outside p runs → AreSound count runs → LaysFrom old p runs → 0 < pages_from first runs → Near old new first (pages_from first runs) (prev_at old (descriptor first)) (next_at old (descriptor first)) → ((q : ℕ) (x : Run) (xs : List Run) → x.first ≡ first → prev_at old (descriptor first) ≡ q → Outside q (x ∷ xs) → AreSound count (x ∷ xs) → pages_from first (x ∷ xs) ≡ pages_from first runs → LaysFrom old q (x ∷ xs) → LaysFrom new q (f x xs)) → LaysFrom new p (change first f runs)
relaid count old new first f p [] place out sound h some near local = absurd (omega arith)
relaid count old new first f p (x ∷ xs) place out sound h some near local = elim (cases_eq x.first first) [
  | inl e ↦ subst (λ (rs : List Run). LaysFrom new p rs) (sym (change-here x xs first f e)) (local p x xs e (subst (λ (k : ℕ). prev_at old (descriptor k) ≡ p) e h.2) out sound refl h)
  | inr ne ↦ subst (λ (rs : List Run). LaysFrom new p rs) (sym (change-there x xs first f ne)) (there count old new first f p x xs place out sound h ne (omega (arith, some, pages_from-there x xs first ne)) (subst (λ (n : ℕ). Near old new first n (prev_at old (descriptor first)) (next_at old (descriptor first))) (pages_from-there x xs first ne) near)
      (relaid count old new first f (descriptor x.first) xs (inr (x.first, refl)) (outside count x xs sound) sound.3 h.4 (omega (arith, some, pages_from-there x xs first ne)) (subst (λ (n : ℕ). Near old new first n (prev_at old (descriptor first)) (next_at old (descriptor first))) (pages_from-there x xs first ne) near)
      (λ q y ys ey pq oy sy same hy. local q y ys ey pq oy sy (same ∙ sym (pages_from-there x xs first ne)) hy)))
] where
  outside : (count : ℕ) (x : Run) (xs : List Run) → AreSound count (x ∷ xs) → Outside (descriptor x.first) xs
  outside count x xs sound page c e = let same = descriptor-injective page x.first e in elim (covers-apart x xs page sound.2 c) [ inl l ↦ omega (arith, l, same) | inr g ↦ omega (arith, g, same, sound.0) ]

  there : (count : ℕ) (old new : List ℕ) (first : ℕ) (f : Run → List Run → List Run) (p : ℕ) (x : Run) (xs : List Run) → IsDescriptorOffset p → Outside p (x ∷ xs) → AreSound count (x ∷ xs) → LaysFrom old p (x ∷ xs) → x.first ≢ first → 0 < pages_from first xs → Near old new first (pages_from first xs) (prev_at old (descriptor first)) (next_at old (descriptor first)) → LaysFrom new (descriptor x.first) (change first f xs) → LaysFrom new p (x ∷ change first f xs)
  there count old new first f p x xs place out sound h ne some near rest =
      let some_x : 0 < x.pages = sound.0 in
      let a = prev_at old (descriptor first) in
      let b = next_at old (descriptor first) in
      let prev = prev_in count old (descriptor x.first) xs first sound.3 h.4 some in
      let next = next_in count old (descriptor x.first) xs first sound.3 h.4 some in
      let beyond = λ (page : ℕ) (low : x.first ≤ page) (high : page < x.first + x.pages). pages_from-beyond x xs first page sound.2 some low high in
      let none = λ (page : ℕ) (low : x.first ≤ page) (high : page < x.first + x.pages). pages_from-apart x xs page sound.2 low high in
      let not_next : (page : ℕ) → x.first ≤ page → page < x.first + x.pages → descriptor page ≢ b = λ page low high e. elim next [
        | inl at ↦ descriptor-head page (e ∙ at)
        | inr m ↦ let same = descriptor-injective page m.0 (e ∙ m.1) in omega (arith, ap (λ k. pages_from k xs) same, m.2, none page low high)
      ] in
      let not_prev : (page : ℕ) → x.first < page → page < x.first + x.pages → descriptor page ≢ a = λ page low high e. elim prev [
        | inl at ↦ omega (arith, low, descriptor-injective page x.first (e ∙ at))
        | inr m ↦ let same = descriptor-injective page m.0 (e ∙ m.1) in omega (arith, ap (λ k. pages_from k xs) same, m.2, none page (omega (arith, low)) high)
      ] in
      let prev_covered : (page : ℕ) → a ≡ descriptor page → is_covered page (x ∷ xs) ≡ true = λ page e. elim prev [
        | inl at ↦ covered-first x xs page (omega (arith, descriptor-injective page x.first (sym e ∙ at))) (omega (arith, descriptor-injective page x.first (sym e ∙ at), some_x))
        | inr m ↦ let same = descriptor-injective page m.0 (sym e ∙ m.1) in covered-rest x xs page (pages_from-covers page page xs (omega arith) (omega (arith, ap (λ k. pages_from k xs) same, m.2)))
      ] in
      let same_next : next_at new p ≡ next_at old p = elim place [
        | inl at ↦ subst (λ (o : ℕ). next_at new o ≡ next_at old o) (sym at) (near.head (λ e. elim prev [ inl pr ↦ descriptor-head x.first (sym pr ∙ sym e) | inr m ↦ descriptor-head m.0 (sym m.1 ∙ sym e) ]))
        | inr m ↦ subst (λ (o : ℕ). next_at new o ≡ next_at old o) (sym m.1) (near.nexts m.0 (elsewhere first m.0 x xs (λ c. out m.0 c (sym m.1))) (λ e. out m.0 (prev_covered m.0 (sym e)) (sym m.1)))
      ] in (
        same_next ∙ h.0,
        near.slabs x.first (beyond x.first (omega arith) (omega (arith, some_x))) ∙ h.1,
        near.prevs x.first (beyond x.first (omega arith) (omega (arith, some_x))) (not_next x.first (omega arith) (omega (arith, some_x))) ∙ h.2,
        HasTail-kept old new x (λ page low high. same_near old new first (pages_from first xs) a b page near (beyond page (omega (arith, low)) high) (not_prev page low high) (not_next page (omega (arith, low)) high)) h.3,
        rest,
      ) where
        elsewhere : (first page : ℕ) (x : Run) (xs : List Run) → (is_covered page (x ∷ xs) ≡ true → ⊥) → (page < first) ⊎ (first + pages_from first xs ≤ page)
        elsewhere first page x xs never = elim (cases_lt page first) [
          | inl l ↦ inl l
          | inr g ↦ elim (cases_lt page (first + pages_from first xs)) [
            | inl inside ↦ absurd (never (covered-rest x xs page (pages_from-covers first page xs g inside)))
            | inr after ↦ inr after
          ]
        ]
