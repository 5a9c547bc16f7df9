-- A text that is written line after line.
use Rattle.std.proofs.Common.{ℕ, ◌≡◌, ◌+◌, ◌<◌, ◌≤◌, List, ◌++◌, length, take, drop, sym, ap, ◌∙◌, arith, length-append, append_assoc}
use Rattle.std.proofs.Math.Seq.{take-append-add}
use Rattle.std.proofs.lemmas.List.{take-append-le, take-append-drop}

-- the line and what is behind it are what was left
pub cut_is : (rest line later : List ℕ) (n : ℕ) → line ≡ take n rest → later ≡ drop n rest → line ++ later ≡ rest
cut_is rest line later n front back = ap (λ (t : List ℕ). t ++ later) front ∙ ap (λ (t : List ℕ). take n rest ++ t) back ∙ take-append-drop n rest

-- what was written with the line, before what is behind it
pub line_after : (text done rest line later : List ℕ) → text ≡ done ++ rest → line ++ later ≡ rest → text ≡ (done ++ line) ++ later
line_after text done rest line later is cut = is ∙ ap (λ (t : List ℕ). done ++ t) (sym cut) ∙ sym (append_assoc done line later)

-- a proper part of the line is a proper part of the text
pub line_part : (text done rest line later : List ℕ) (n : ℕ) → text ≡ done ++ rest → line ++ later ≡ rest → n < length line → (m : ℕ) × (m < length text) × (take m text ≡ done ++ take n line)
line_part text done rest line later n is cut part =
    let whole : text ≡ done ++ (line ++ later) = is ∙ ap (λ (t : List ℕ). done ++ t) (sym cut) in
    let here : n ≤ length line = omega (arith, part) in
    let taken : take (length done + n) (done ++ (line ++ later)) ≡ done ++ take n line = take-append-add done (line ++ later) n ∙ ap (λ (t : List ℕ). done ++ t) (take-append-le n line later here) in
    (length done + n, rw whole (omega (arith, part, length-append done (line ++ later), length-append line later)), ap (take (length done + n)) whole ∙ taken)
