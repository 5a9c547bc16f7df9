-- The free runs beside a run that comes back.
use Rattle.std.proofs.Common.{ℕ, ◌≡◌, ◌≢◌, ◌+◌, ◌-◌, ◌<◌, ◌≤◌, true, false, not, List, [], ◌∷◌, sym, ap, subst, ◌∙◌, refl, arith, inl, inr}
use Rattle.std.specs.Prelude.{filter}
use Rattle.std.proofs.lemmas.Grind.{common_steps}
use Rattle.std.proofs.lemmas.Bool.{cases_eq, cases_lt}
use Rattle.slab_model.specs.declared.runs.Run.{Run}
use Rattle.slab_model.specs.Runs.{IsRunApart, AreSound, is_covered, pages_from, pages_before, is_beside}
use Rattle.slab_pages.specs.RunSteps.{without_run}
use Rattle.slab_pages.proofs.ListLemmas.{pages_from-there, pages_from-covers, pages_from-apart, covered-first}
use Rattle.slab_pages.proofs.UnlinkLemmas.{AreSound-without}

-- ---- pages

pub covered-within : (count : ℕ) (runs : List Run) (page : ℕ) → AreSound count runs → is_covered page runs ≡ true → page < count
covered-within count [] page sound c = absurd (cc)
covered-within count (x ∷ xs) page sound c = let ih = covered-within count xs page sound.3 in grind (arith, common_steps, ih)

-- the run that ends right before a page
pub before-from : (count : ℕ) (runs : List Run) (page : ℕ) → AreSound count runs → 0 < pages_before page runs → (pages_before page runs ≤ page) × (pages_from (page - pages_before page runs) runs ≡ pages_before page runs)
before-from count [] page sound some = absurd (omega arith)
before-from count (x ∷ xs) page sound some = elim (cases_eq (x.first + x.pages) page) [
  | inl e ↦ let is : pages_before page (x ∷ xs) ≡ x.pages = grind (arith, common_steps) in let at : pages_from x.first (x ∷ xs) ≡ x.pages = grind (arith, common_steps) in
      (omega (arith, is, e), subst (λ (k : ℕ). pages_from (page - k) (x ∷ xs) ≡ k) (sym is) (subst (λ (k : ℕ). pages_from k (x ∷ xs) ≡ x.pages) (omega (arith, e)) at))
  | inr ne ↦ let is : pages_before page (x ∷ xs) ≡ pages_before page xs = grind (arith, common_steps) in
      let ih = before-from count xs page sound.3 (omega (arith, some, is)) in
      let some' : 0 < pages_before page xs = omega (arith, some, is) in
      let other : x.first ≢ page - pages_before page xs = λ e. omega (arith, pages_from-apart x xs x.first sound.2 (omega arith) (omega (arith, sound.0)), ih.1, some', ap (λ k. pages_from k xs) e) in
      let there : pages_from (page - pages_before page xs) (x ∷ xs) ≡ pages_from (page - pages_before page xs) xs = pages_from-there x xs (page - pages_before page xs) other in
      (omega (arith, is, ih.0), subst (λ (k : ℕ). pages_from (page - k) (x ∷ xs) ≡ k) (sym is) (there ∙ ih.1))
]

-- a free page before one that isn't is the last of its run
pub covered-before : (count : ℕ) (runs : List Run) (page : ℕ) → AreSound count runs → is_covered page runs ≡ true → is_covered (page + 1) runs ≡ false → 0 < pages_before (page + 1) runs
covered-before count [] page sound c free = absurd (cc)
covered-before count (x ∷ xs) page sound c free = let ih = covered-before count xs page sound.3 in let some = sound.0 in grind (arith, common_steps, ih)

-- a free page after one that isn't is the first of its run
pub covered-from : (count : ℕ) (runs : List Run) (page : ℕ) → AreSound count runs → is_covered page runs ≡ false → is_covered (page + 1) runs ≡ true → 0 < pages_from (page + 1) runs
covered-from count [] page sound free c = absurd (cc)
covered-from count (x ∷ xs) page sound free c = let ih = covered-from count xs page sound.3 in let some = sound.0 in grind (arith, common_steps, ih)

pub uncovered-from : (runs : List Run) (page : ℕ) → is_covered page runs ≡ false → pages_from page runs ≡ 0
uncovered-from runs page not = elim (cases_lt 0 (pages_from page runs)) [
  | inl some ↦ absurd (differ (sym (pages_from-covers page page runs (omega arith) (omega (arith, some))) ∙ not))
  | inr none ↦ omega (arith, none)
] where
  differ : true ≡ false → ⊥
  differ e = cc

-- a list without a run that it doesn't have
pub without-none : (count : ℕ) (runs : List Run) (first : ℕ) → AreSound count runs → pages_from first runs ≡ 0 → without_run first runs ≡ runs
without-none count [] first sound none = refl
without-none count (x ∷ xs) first sound none = let ih = without-none count xs first sound.3 in let some = sound.0 in grind (arith, common_steps, ih)

pub before-without : (runs : List Run) (first page : ℕ) → page < first → pages_before page (without_run first runs) ≡ pages_before page runs
before-without [] first page low = refl
before-without (x ∷ xs) first page low = let ih = before-without xs first page low in grind (arith, common_steps, ih)

-- giving a run back takes the runs beside it out of the list
pub filter-without : (count : ℕ) (run : Run) (runs : List Run) → AreSound count runs → 0 < run.pages → is_covered run.first runs ≡ false → filter (λ other. not (is_beside run other)) runs ≡ without_run (run.first - pages_before run.first runs) (without_run (run.first + run.pages) runs)
filter-without count run [] sound some free = refl
filter-without count run (x ∷ xs) sound some free =
    let ih = filter-without count run xs sound.3 some (uncovered-rest x xs run.first free) in
    let none = uncovered-from xs run.first (uncovered-rest x xs run.first free) in
    elim (cases_eq (x.first + x.pages) run.first) [
      | inl e ↦ before_it count run x xs sound some e none ih
      | inr nb ↦ elim (cases_eq x.first (run.first + run.pages)) [
        | inl e ↦ after_it count run x xs sound some nb e ih
        | inr na ↦ beside_none count run x xs sound some free nb na ih
      ]
    ] where
      uncovered-rest : (x : Run) (xs : List Run) (page : ℕ) → is_covered page (x ∷ xs) ≡ false → is_covered page xs ≡ false
      uncovered-rest x xs page h = grind (arith, common_steps)

      before-apart : (x : Run) (xs : List Run) → IsRunApart x xs → pages_before (x.first + x.pages) xs ≡ 0
      before-apart x [] apart = refl
      before-apart x (y ∷ ys) apart = let ih = before-apart x ys apart.1 in grind (arith, common_steps, ih)

      from-apart : (x : Run) (xs : List Run) → IsRunApart x xs → 0 < x.pages → pages_from x.first xs ≡ 0
      from-apart x xs apart some = pages_from-apart x xs x.first apart (omega arith) (omega (arith, some))

      pages_from-without : (count : ℕ) (xs : List Run) (first other : ℕ) → AreSound count xs → pages_from first xs ≡ 0 → pages_from first (without_run other xs) ≡ 0
      pages_from-without count [] first other sound none = refl
      pages_from-without count (y ∷ ys) first other sound none = let ih = pages_from-without count ys first other sound.3 in let some = sound.0 in grind (arith, common_steps, ih)

      before_it : (count : ℕ) (run x : Run) (xs : List Run) → AreSound count (x ∷ xs) → 0 < run.pages → x.first + x.pages ≡ run.first → pages_from run.first xs ≡ 0 → filter (λ other. not (is_beside run other)) xs ≡ without_run (run.first - pages_before run.first xs) (without_run (run.first + run.pages) xs) → filter (λ other. not (is_beside run other)) (x ∷ xs) ≡ without_run (run.first - pages_before run.first (x ∷ xs)) (without_run (run.first + run.pages) (x ∷ xs))
      before_it count run x xs sound some e none ih =
          let zero_before : pages_before run.first xs ≡ 0 = subst (λ (k : ℕ). pages_before k xs ≡ 0) e (before-apart x xs sound.2) in
          let is : pages_before run.first (x ∷ xs) ≡ x.pages = grind (arith, common_steps) in
          let drops : filter (λ other. not (is_beside run other)) (x ∷ xs) ≡ filter (λ other. not (is_beside run other)) xs = grind (arith, common_steps) in
          let rest : without_run (run.first - pages_before run.first xs) (without_run (run.first + run.pages) xs) ≡ without_run (run.first + run.pages) xs =
          without-none count (without_run (run.first + run.pages) xs) (run.first - pages_before run.first xs) (AreSound-without count xs (run.first + run.pages) sound.3)
          (pages_from-without count xs (run.first - pages_before run.first xs) (run.first + run.pages) sound.3 (subst (λ (k : ℕ). pages_from k xs ≡ 0) (omega (arith, zero_before)) none)) in
          let goal : without_run (run.first - pages_before run.first (x ∷ xs)) (without_run (run.first + run.pages) (x ∷ xs)) ≡ without_run (run.first + run.pages) xs = grind (arith, common_steps, is) in
          drops ∙ ih ∙ rest ∙ sym goal

      after_it : (count : ℕ) (run x : Run) (xs : List Run) → AreSound count (x ∷ xs) → 0 < run.pages → x.first + x.pages ≢ run.first → x.first ≡ run.first + run.pages → filter (λ other. not (is_beside run other)) xs ≡ without_run (run.first - pages_before run.first xs) (without_run (run.first + run.pages) xs) → filter (λ other. not (is_beside run other)) (x ∷ xs) ≡ without_run (run.first - pages_before run.first (x ∷ xs)) (without_run (run.first + run.pages) (x ∷ xs))
      after_it count run x xs sound some nb e ih =
          let is : pages_before run.first (x ∷ xs) ≡ pages_before run.first xs = grind (arith, common_steps) in
          let drops : filter (λ other. not (is_beside run other)) (x ∷ xs) ≡ filter (λ other. not (is_beside run other)) xs = grind (arith, common_steps) in
          let same : without_run (run.first + run.pages) xs ≡ xs = without-none count xs (run.first + run.pages) sound.3 (subst (λ (k : ℕ). pages_from k xs ≡ 0) e (from-apart x xs sound.2 sound.0)) in
          let goal : without_run (run.first + run.pages) (x ∷ xs) ≡ xs = grind (arith, common_steps) in
          drops ∙ ih ∙ ap (λ (ys : List Run). without_run (run.first - pages_before run.first xs) ys) same ∙ ap (λ (k : ℕ). without_run (run.first - k) xs) (sym is) ∙ ap (λ (ys : List Run). without_run (run.first - pages_before run.first (x ∷ xs)) ys) (sym goal)

      elsewhere : (count : ℕ) (run x : Run) (xs : List Run) → AreSound count (x ∷ xs) → is_covered run.first (x ∷ xs) ≡ false → x.first ≢ run.first - pages_before run.first xs
      elsewhere count run x xs sound free e = elim (cases_lt 0 (pages_before run.first xs)) [
        | inl more ↦ let h = before-from count xs run.first sound.3 more in omega (arith, ap (λ k. pages_from k xs) e, h.1, more, from-apart x xs sound.2 sound.0)
        | inr none ↦ differ (sym (covered-first x xs run.first (omega (arith, e, none)) (omega (arith, e, none, sound.0))) ∙ free)
      ] where
        differ : true ≡ false → ⊥
        differ e = cc

      beside_none : (count : ℕ) (run x : Run) (xs : List Run) → AreSound count (x ∷ xs) → 0 < run.pages → is_covered run.first (x ∷ xs) ≡ false → x.first + x.pages ≢ run.first → x.first ≢ run.first + run.pages → filter (λ other. not (is_beside run other)) xs ≡ without_run (run.first - pages_before run.first xs) (without_run (run.first + run.pages) xs) → filter (λ other. not (is_beside run other)) (x ∷ xs) ≡ without_run (run.first - pages_before run.first (x ∷ xs)) (without_run (run.first + run.pages) (x ∷ xs))
      beside_none count run x xs sound some free nb na ih =
          let is : pages_before run.first (x ∷ xs) ≡ pages_before run.first xs = grind (arith, common_steps) in
          let keeps : filter (λ other. not (is_beside run other)) (x ∷ xs) ≡ x ∷ filter (λ other. not (is_beside run other)) xs = grind (arith, common_steps) in
          let other : x.first ≢ run.first - pages_before run.first xs = elsewhere count run x xs sound free in
          let one : without_run (run.first + run.pages) (x ∷ xs) ≡ x ∷ without_run (run.first + run.pages) xs = grind (arith, common_steps) in
          let two : without_run (run.first - pages_before run.first xs) (x ∷ without_run (run.first + run.pages) xs) ≡ x ∷ without_run (run.first - pages_before run.first xs) (without_run (run.first + run.pages) xs) = grind (arith, common_steps) in
          keeps ∙ ap (λ (ys : List Run). x ∷ ys) ih ∙ sym two ∙ ap (λ (ys : List Run). without_run (run.first - pages_before run.first xs) ys) (sym one) ∙ ap (λ (k : ℕ). without_run (run.first - k) (without_run (run.first + run.pages) (x ∷ xs))) (sym is)
