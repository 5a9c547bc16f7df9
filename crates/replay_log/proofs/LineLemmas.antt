-- The lines of a log, from the left.
use Rattle.std.proofs.Common.{ℕ, ◌≡◌, ◌+◌, ◌<◌, ◌≤◌, cond, ltb, List, [], ◌∷◌, ◌++◌, Result, Ok, Err, ap, sym, ◌∙◌, refl, append_assoc}
use Rattle.std.proofs.lemmas.Bool.{le-ltb, lt-ltb}
use Rattle.replay_log.specs.Lines.{Fault, parts, before_rest, lines_from}
use Rattle.replay_log.specs.Next.{IsNext}
use Rattle.replay_log.proofs.PartLemmas.{some_part}

module _ {L : Type 0} (says : ℕ → List ℕ → Result L ℕ) where
  -- a line that ends in a line feed, before the others
  lines_cons : (n : ℕ) (line : List ℕ) (lines : List (List ℕ)) (first : List ℕ) (others : List (List ℕ)) → lines ≡ first ∷ others → lines_from says n (line ∷ lines) ≡ cond (ltb 131072 n) (Err (record { line = n; kind = 11 })) (before_rest n (says n line) (lines_from says (n + 1) lines))
  lines_cons n line lines first others is = rw is refl

  lines_more : (n : ℕ) (line text : List ℕ) → lines_from says n (line ∷ parts 10 text) ≡ cond (ltb 131072 n) (Err (record { line = n; kind = 11 })) (before_rest n (says n line) (lines_from says (n + 1) (parts 10 text)))
  lines_more n line text = let h = some_part 10 text in lines_cons n line (parts 10 text) h.0 h.1.0 h.1.1

  -- a line past the last that a log may have
  pub line_too_many : (n : ℕ) (line text : List ℕ) → 131072 < n → lines_from says n (line ∷ parts 10 text) ≡ Err (record { line = n; kind = 11 })
  line_too_many n line text past = lines_more n line text ∙ ap (λ b. cond b (Err (record { line = n; kind = 11 })) (before_rest n (says n line) (lines_from says (n + 1) (parts 10 text)))) (lt-ltb 131072 n past)

  -- a line that counts
  pub line_counts : (n : ℕ) (line text : List ℕ) → n ≤ 131072 → lines_from says n (line ∷ parts 10 text) ≡ before_rest n (says n line) (lines_from says (n + 1) (parts 10 text))
  line_counts n line text within = lines_more n line text ∙ ap (λ b. cond b (Err (record { line = n; kind = 11 })) (before_rest n (says n line) (lines_from says (n + 1) (parts 10 text)))) (le-ltb 131072 n within)

-- lines before what the later ones say
abbrev pub after_lines : {L : Type 0} → List L → Result (List L) Fault → Result (List L) Fault
after_lines lines (Ok more) = Ok (lines ++ more)
after_lines lines (Err fault) = Err fault

-- one line more
pub after_more : {L : Type 0} → (lines : List L) (n : ℕ) (line : L) (rest : Result (List L) Fault) → after_lines lines (before_rest n (Ok line) rest) ≡ after_lines (lines ++ line ∷ []) rest
after_more lines n line (Ok more) = ap Ok (sym (append_assoc lines (line ∷ []) more))
after_more lines n line (Err fault) = refl

-- the first line of what is left, before those behind it
pub next_lines : {L : Type 0} → (says : ℕ → List ℕ → Result L ℕ) (n : ℕ) (rest : List ℕ) (line : L) (tail : List ℕ) → IsNext says n rest line tail
    → lines_from says n (parts 10 rest) ≡ before_rest n (Ok line) (lines_from says (n + 1) (parts 10 tail))
next_lines says n rest line tail is =
    ap (lines_from says n) is.cut ∙ line_counts says n is.front tail is.counts ∙ ap (λ l. before_rest n l (lines_from says (n + 1) (parts 10 tail))) is.said
