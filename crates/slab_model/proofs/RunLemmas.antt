-- What taking pages from the list of free runs and giving a run back leave.
use Rattle.std.proofs.Common.{ℕ, ◌≡◌, ◌⊎◌, ◌+◌, ◌-◌, ◌<◌, ◌≤◌, true, false, not, ◌&&◌, ◌||◌, List, [], ◌∷◌, Some, None, refl, arith, inl, inr}
use Rattle.std.specs.Prelude.{filter}
use Rattle.std.proofs.lemmas.Grind.{common_steps}
use Rattle.slab_model.specs.declared.runs.Run.{Run}
use Rattle.slab_model.specs.Runs.{AreRunsApart, IsRunApart, AreSound, is_within, is_covered, page_total, first_fit, cut_run, take_run, pages_before, pages_from, merged_run, is_beside, give_run}

-- a page within bounds, and one outside
pub is_within-in : (page first count : ℕ) → first ≤ page → page < first + count → is_within page first count ≡ true
is_within-in page first count low high = grind (arith, common_steps)

pub is_within-parts : (page first count : ℕ) → is_within page first count ≡ true → (first ≤ page) × (page < first + count)
is_within-parts page first count h = grind (arith, common_steps)

pub is_within-not : (page first count : ℕ) → (page < first) ⊎ (first + count ≤ page) → is_within page first count ≡ false
is_within-not page first count h = grind (arith, common_steps)

-- a run that is apart from others holds no page of theirs
pub apart_covers : (run : Run) (runs : List Run) (page : ℕ) → IsRunApart run runs → run.first ≤ page → page < run.first + run.pages → is_covered page runs ≡ false
apart_covers run [] page apart low high = refl
apart_covers run (other ∷ others) page apart low high = let ih = apart_covers run others page apart.1 low high in grind (arith, common_steps, ih)

-- the pages of the first fit are free
pub first_fit-covered : (count : ℕ) (runs : List Run) (first page : ℕ) → first_fit count runs ≡ Some first → first ≤ page → page < first + count → is_covered page runs ≡ true
first_fit-covered count [] first page found low high = absurd (cc)
first_fit-covered count (run ∷ runs) first page found low high = let ih = first_fit-covered count runs first page in grind (arith, common_steps, ih)

pub first_fit-in : (total count : ℕ) (runs : List Run) (first : ℕ) → AreSound total runs → first_fit count runs ≡ Some first → first + count ≤ total
first_fit-in total count [] first sound found = absurd (cc)
first_fit-in total count (run ∷ runs) first sound found = let ih = first_fit-in total count runs first sound.3 in grind (arith, common_steps, ih)

-- what is apart from all runs is apart from what is left of them
pub IsRunApart-take : (count : ℕ) (run : Run) (runs : List Run) → 0 < count → IsRunApart run runs → IsRunApart run (take_run count runs)
IsRunApart-take count run [] some apart = tt
IsRunApart-take count run (other ∷ others) some apart = let ih = IsRunApart-take count run others some apart.1 in grind (arith, common_steps, ih)

-- a part of a run is apart from what the run is apart from
pub IsRunApart-part : (run part : Run) (runs : List Run) → run.first ≤ part.first → part.first + part.pages ≤ run.first + run.pages → IsRunApart run runs → IsRunApart part runs
IsRunApart-part run part [] low high apart = tt
IsRunApart-part run part (other ∷ others) low high apart = let ih = IsRunApart-part run part others low high apart.1 in grind (arith, common_steps, ih)

AreSound-cut : (total count : ℕ) (run : Run) (runs : List Run) → 0 < count → AreSound total (run ∷ runs) → count ≤ run.pages → AreSound total (cut_run count run runs)
AreSound-cut total count run runs some sound fits = let cut : Run = record { first = run.first + count; pages = run.pages - count } in let part : IsRunApart cut runs = IsRunApart-part run cut runs (omega arith) (omega arith) sound.2 in grind (arith, common_steps, part)

pub AreSound-take : (total count : ℕ) (runs : List Run) → 0 < count → AreSound total runs → AreSound total (take_run count runs)
AreSound-take total count [] some sound = tt
AreSound-take total count (run ∷ runs) some sound = let ih = AreSound-take total count runs some sound.3 in let ap' = IsRunApart-take count run runs some sound.2 in let cut = AreSound-cut total count run runs some sound in grind (arith, common_steps, ih, ap', cut)

pub is_covered-take : (total count : ℕ) (runs : List Run) (first page : ℕ) → AreSound total runs → first_fit count runs ≡ Some first → is_covered page (take_run count runs) ≡ (is_covered page runs && not (is_within page first count))
is_covered-take total count [] first page sound found = absurd (cc)
is_covered-take total count (run ∷ runs) first page sound found = let ih = is_covered-take total count runs first page sound.3 in let here = apart_covers run runs page sound.2 in let there = first_fit-covered count runs first page in grind (arith, common_steps, ih, here, there)

pub page_total-take : (count : ℕ) (runs : List Run) (first : ℕ) → first_fit count runs ≡ Some first → page_total (take_run count runs) + count ≡ page_total runs
page_total-take count [] first found = absurd (cc)
page_total-take count (run ∷ runs) first found = let ih = page_total-take count runs first in grind (arith, common_steps, ih)

-- a request that no run serves leaves the list
pub take_run-none : (count : ℕ) (runs : List Run) → first_fit count runs ≡ None → take_run count runs ≡ runs
take_run-none count [] none = refl
take_run-none count (run ∷ runs) none = let ih = take_run-none count runs in grind (arith, common_steps, ih)

-- the run shares no page with these
abbrev pub IsFree : Run → List Run → Type 0
IsFree run runs = (page : ℕ) → run.first ≤ page → page < run.first + run.pages → is_covered page runs ≡ false

others : Run → List Run → List Run
others run runs = filter (λ other. not (is_beside run other)) runs

pages_before-le : (page : ℕ) (runs : List Run) → pages_before page runs ≤ page
pages_before-le page [] = omega arith
pages_before-le page (run ∷ runs) = let ih = pages_before-le page runs in grind (arith, common_steps, ih)

pages_from-le : (total page : ℕ) (runs : List Run) → page ≤ total → AreSound total runs → page + pages_from page runs ≤ total
pages_from-le total page [] low sound = omega arith
pages_from-le total page (run ∷ runs) low sound = let ih = pages_from-le total page runs low sound.3 in grind (arith, common_steps, ih)

-- each of these runs is this one, or apart from it
abbrev IsApartBut : Run → List Run → Type 0
IsApartBut run [] = Unit {0}
IsApartBut run (other ∷ others) = ((run ≡ other) ⊎ AreRunsApart run other) × IsApartBut run others

abbrev AreApartBut : List Run → List Run → Type 0
AreApartBut [] all = Unit {0}
AreApartBut (run ∷ runs) all = IsApartBut run all × AreApartBut runs all

IsApartBut-from : (run : Run) (runs : List Run) → IsRunApart run runs → IsApartBut run runs
IsApartBut-from run [] apart = tt
IsApartBut-from run (other ∷ others) apart = (inr apart.0, IsApartBut-from run others apart.1)

AreRunsApart-sym : (a b : Run) → AreRunsApart a b → AreRunsApart b a
AreRunsApart-sym a b h = elim h [ inl l ↦ inr l | inr r ↦ inl r ]

AreApartBut-cons : (run : Run) (runs all : List Run) → IsRunApart run runs → AreApartBut runs all → AreApartBut runs (run ∷ all)
AreApartBut-cons run [] all apart but = tt
AreApartBut-cons run (other ∷ others) all apart but = ((inr (AreRunsApart-sym run other apart.0), but.0), AreApartBut-cons run others all apart.1 but.1)

AreApartBut-self : (total : ℕ) (runs : List Run) → AreSound total runs → AreApartBut runs runs
AreApartBut-self total [] sound = tt
AreApartBut-self total (run ∷ runs) sound = ((inl refl, IsApartBut-from run runs sound.2), AreApartBut-cons run runs runs sound.2 (AreApartBut-self total runs sound.3))

apart_before : (page : ℕ) (run : Run) (runs : List Run) → IsApartBut run runs → run.first + run.pages < page → run.first + run.pages < page - pages_before page runs
apart_before page run [] but low = omega arith
apart_before page run (other ∷ others) but low = let ih = apart_before page run others but.1 low in grind (arith, common_steps, ih)

apart_after : (page : ℕ) (run : Run) (runs : List Run) → IsApartBut run runs → page < run.first → page + pages_from page runs < run.first
apart_after page run [] but low = omega arith
apart_after page run (other ∷ others) but low = let ih = apart_after page run others but.1 low in grind (arith, common_steps, ih)

-- a run whose pages are not covered shares no page with any of the runs
IsFree-head : (run other : Run) (others : List Run) → IsFree run (other ∷ others) → 0 < run.pages → 0 < other.pages → (other.first + other.pages ≤ run.first) ⊎ (run.first + run.pages ≤ other.first)
IsFree-head run other others free some many = let low = free run.first in let high = free other.first in grind (arith, common_steps, low, high)

IsFree-tail : (run other : Run) (others : List Run) → IsFree run (other ∷ others) → IsFree run others
IsFree-tail run other others free page low high = let h = free page low high in grind (arith, common_steps, h)

IsRunApart-merged : (total : ℕ) (run : Run) (all runs : List Run) → 0 < run.pages → IsFree run runs → AreSound total runs → AreApartBut runs all → IsRunApart (merged_run run all) (others run runs)
unfolding others
IsRunApart-merged total run all [] some free sound but = tt
IsRunApart-merged total run all (other ∷ rest) some free sound but =
    let ih = IsRunApart-merged total run all rest some (IsFree-tail run other rest free) sound.3 but.1 in
    let sides = IsFree-head run other rest free some sound.0 in
    let before = apart_before run.first other all but.0 in
    let after = apart_after (run.first + run.pages) other all but.0 in
    let small = pages_before-le run.first all in
    grind (arith, common_steps, ih, sides, before, after, small)

IsRunApart-others : (run other : Run) (runs : List Run) → IsRunApart other runs → IsRunApart other (others run runs)
unfolding others
IsRunApart-others run other [] apart = tt
IsRunApart-others run other (next ∷ rest) apart = let ih = IsRunApart-others run other rest apart.1 in grind (arith, common_steps, ih)

AreSound-others : (total : ℕ) (run : Run) (runs : List Run) → AreSound total runs → AreSound total (others run runs)
unfolding others
AreSound-others total run [] sound = tt
AreSound-others total run (other ∷ rest) sound = let ih = AreSound-others total run rest sound.3 in let apart = IsRunApart-others run other rest sound.2 in grind (arith, common_steps, ih, apart)

pub AreSound-give : (total : ℕ) (run : Run) (runs : List Run) → 0 < run.pages → run.first + run.pages ≤ total → IsFree run runs → AreSound total runs → AreSound total (give_run run runs)
unfolding others
AreSound-give total run runs some low free sound =
    let small = pages_before-le run.first runs in
    let high = pages_from-le total (run.first + run.pages) runs low sound in
    (omega arith, omega arith, IsRunApart-merged total run runs runs some free sound (AreApartBut-self total runs sound), AreSound-others total run runs sound)

pages_before-none : (run : Run) (runs : List Run) → IsRunApart run runs → pages_before (run.first + run.pages) runs ≡ 0
pages_before-none run [] apart = refl
pages_before-none run (other ∷ rest) apart = let ih = pages_before-none run rest apart.1 in grind (arith, common_steps, ih)

pages_from-none : (run : Run) (runs : List Run) → IsRunApart run runs → pages_from run.first runs ≡ 0
pages_from-none run [] apart = refl
pages_from-none run (other ∷ rest) apart = let ih = pages_from-none run rest apart.1 in grind (arith, common_steps, ih)

page_total-others : (total : ℕ) (run : Run) (runs : List Run) → AreSound total runs → page_total (others run runs) + pages_before run.first runs + pages_from (run.first + run.pages) runs ≡ page_total runs
unfolding others
page_total-others total run [] sound = refl
page_total-others total run (other ∷ rest) sound =
    let ih = page_total-others total run rest sound.3 in
    let before = pages_before-none other rest sound.2 in
    let after = pages_from-none other rest sound.2 in
    grind (arith, common_steps, ih, before, after)

pub page_total-give : (total : ℕ) (run : Run) (runs : List Run) → AreSound total runs → page_total (give_run run runs) ≡ page_total runs + run.pages
unfolding others
page_total-give total run runs sound = let h = page_total-others total run runs sound in omega arith

-- a covered page is in a run that is not beside this one, or in one of the two that are
covered_parts : (total page : ℕ) (run : Run) (runs : List Run) → AreSound total runs → is_covered page runs ≡ (is_covered page (others run runs) || (is_within page (run.first - pages_before run.first runs) (pages_before run.first runs) || is_within page (run.first + run.pages) (pages_from (run.first + run.pages) runs)))
unfolding others
covered_parts total page run [] sound = grind (arith, common_steps)
covered_parts total page run (other ∷ rest) sound =
    let ih = covered_parts total page run rest sound.3 in
    let before = pages_before-none other rest sound.2 in
    let after = pages_from-none other rest sound.2 in
    let small = pages_before-le run.first rest in
    grind (arith, common_steps, ih, before, after, small)

pub is_covered-give : (total page : ℕ) (run : Run) (runs : List Run) → AreSound total runs → is_covered page (give_run run runs) ≡ (is_covered page runs || is_within page run.first run.pages)
unfolding others
is_covered-give total page run runs sound =
    let parts = covered_parts total page run runs sound in
    let small = pages_before-le run.first runs in
    grind (arith, common_steps, parts, small)
