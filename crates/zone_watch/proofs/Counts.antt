-- Counts of zones that are raised one after another, and notices that are made line by line.
use Rattle.std.proofs.Common.{ℕ, zero, suc, ◌≡◌, ◌+◌, ◌<◌, List, [], ◌∷◌, ◌++◌, length, take, drop, get_or, min, sym, ap, refl, add-one, ◌∙◌, arith}
use Rattle.std.specs.Prelude.{slice_set}
use Rattle.replay_log.specs.declared.line.Line.{Line}
use Rattle.request_script.specs.declared.decision.Decision.{Decision}
use Rattle.request_script.specs.declared.decision.Notice.{Notice}
use Rattle.zone_watch.specs.RefusedCounts.{counted_for, raised_from}
use Rattle.zone_watch.specs.Notices.{notices_of}

raise-one : (d : Decision) (first i : ℕ) (counts : List ℕ) → i < length counts
    → slice_set (raised_from first d (take i counts) ++ drop i counts) i (counted_for (first + i) d (get_or (raised_from first d (take i counts) ++ drop i counts) i 0))
    ≡ raised_from first d (take (suc i) counts) ++ drop (suc i) counts
raise-one d first i [] low = absurd (omega (arith, low))
raise-one d first zero (c ∷ counts) low =
    let at : first + 0 ≡ first = omega arith in
    ap (λ (z : ℕ). counted_for z d c ∷ counts) at
raise-one d first (suc i) (c ∷ counts) low =
    let at : first + suc i ≡ first + 1 + i = omega arith in
    ap (λ (cs : List ℕ). counted_for first d c ∷ cs)
    (ap (λ (z : ℕ). slice_set (raised_from (first + 1) d (take i counts) ++ drop i counts) i (counted_for z d (get_or (raised_from (first + 1) d (take i counts) ++ drop i counts) i 0))) at
    ∙ raise-one d (first + 1) i counts (omega (arith, low)))

-- the count at a place is raised
pub raise-next : (d : Decision) (i : ℕ) (counts : List ℕ) (new : ℕ) (now : List ℕ) → i < length counts → now ≡ raised_from 0 d (take i counts) ++ drop i counts → new ≡ counted_for i d (get_or now i 0)
    → slice_set now i new ≡ raised_from 0 d (take (i + 1) counts) ++ drop (i + 1) counts
raise-next d i counts new now low had is =
    let at : i ≡ 0 + i = omega arith in
    ap (slice_set now i) (is ∙ ap (λ (z : ℕ). counted_for z d (get_or now i 0)) at)
    ∙ ap (λ (cs : List ℕ). slice_set cs i (counted_for (0 + i) d (get_or cs i 0))) had
    ∙ raise-one d 0 i counts low
    ∙ ap (λ (j : ℕ). raised_from 0 d (take j counts) ++ drop j counts) (sym (add-one i))

-- the notice of one line more
pub notices-push : (lines : List Line) (decisions : List Decision) (i : ℕ) (line : Line) (decision : Decision) → i < length lines → i < length decisions → line ≡ get_or lines i line → decision ≡ get_or decisions i decision
    → notices_of (take i lines) (take i decisions) ++ record { line = line.number; decision = decision } ∷ [] ≡ notices_of (take (suc i) lines) (take (suc i) decisions)
notices-push [] decisions i line decision low_line low_decision line_is decision_is = absurd (omega (arith, low_line))
notices-push (l ∷ lines) [] i line decision low_line low_decision line_is decision_is = absurd (omega (arith, low_decision))
notices-push (l ∷ lines) (d ∷ decisions) zero line decision low_line low_decision line_is decision_is =
    ap (λ (x : Line). record { line = x.number; decision = decision } ∷ []) line_is ∙ ap (λ (x : Decision). record { line = l.number; decision = x } ∷ []) decision_is
notices-push (l ∷ lines) (d ∷ decisions) (suc i) line decision low_line low_decision line_is decision_is =
    ap (λ (ns : List Notice). record { line = l.number; decision = d } ∷ ns) (notices-push lines decisions i line decision (omega (arith, low_line)) (omega (arith, low_decision)) line_is decision_is)

-- when the shorter list ends
pub notices-whole : (lines : List Line) (decisions : List Decision) (n : ℕ) → n ≡ min (length lines) (length decisions) → notices_of (take n lines) (take n decisions) ≡ notices_of lines decisions
notices-whole [] decisions n is =
    let none : n ≡ 0 = omega (arith, is) in
    ap (λ (k : ℕ). notices_of (take k []) (take k decisions)) none
notices-whole (l ∷ lines) [] n is =
    let none : n ≡ 0 = omega (arith, is) in
    ap (λ (k : ℕ). notices_of (take k (l ∷ lines)) (take k [])) none
notices-whole (l ∷ lines) (d ∷ decisions) n is =
    let more : n ≡ suc (min (length lines) (length decisions)) = omega (arith, is) in
    ap (λ (k : ℕ). notices_of (take k (l ∷ lines)) (take k (d ∷ decisions))) more
    ∙ ap (λ (ns : List Notice). record { line = l.number; decision = d } ∷ ns) (notices-whole lines decisions (min (length lines) (length decisions)) refl)

none-decided : (lines : List Line) → notices_of lines [] ≡ []
none-decided [] = refl
none-decided (l ∷ lines) = refl

-- the notices of the first lines, and those of the lines behind them
pub notices-apart : (lines : List Line) (decisions : List Decision) (i : ℕ) → notices_of (take i lines) (take i decisions) ++ notices_of (drop i lines) (drop i decisions) ≡ notices_of lines decisions
notices-apart lines decisions zero = refl
notices-apart [] decisions (suc i) = refl
notices-apart (l ∷ lines) [] (suc i) = none-decided (drop i lines)
notices-apart (l ∷ lines) (d ∷ decisions) (suc i) = ap (λ (ns : List Notice). record { line = l.number; decision = d } ∷ ns) (notices-apart lines decisions i)
