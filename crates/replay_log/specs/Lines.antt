-- The lines of a log, each ended by a line feed.
use Rattle.std.specs.Prelude.{ℕ, ◌+◌, ◌==◌, nat_lt, if◌then◌else◌, List, [], ◌∷◌, Result, Ok, Err}
use Rattle.std.specs.List.{slice_split}
use Rattle.zone_outside.specs.Numbers.{is_empty}

-- the first faulty line, from 1, and the kind of its first fault
pub record Fault : Type 0 where
  pub line : ℕ
  pub kind : ℕ

-- what stands between two bytes of this kind
abbrev pub parts : ℕ → List ℕ → List (List ℕ)
parts separator text = slice_split (λ c. c == separator) text

-- one line before the others; its own fault stands first
abbrev pub before_rest : {L : Type 0} → ℕ → Result L ℕ → Result (List L) Fault → Result (List L) Fault
before_rest n (Err kind) rest = Err (record { line = n; kind = kind })
before_rest n (Ok line) (Err fault) = Err fault
before_rest n (Ok line) (Ok rest) = Ok (line ∷ rest)

-- The lines from number n on, each of which says what `says` tells of its number and its bytes. What stands after
-- the last line feed is a line that lacks its own.
abbrev pub lines_from : {L : Type 0} → (ℕ → List ℕ → Result L ℕ) → ℕ → List (List ℕ) → Result (List L) Fault
lines_from says n [] = Ok []
lines_from says n (last ∷ []) = if is_empty last then Ok [] else Err (record { line = n; kind = 1 })
lines_from says n (line ∷ next ∷ rest) =
    if nat_lt 131072 n then Err (record { line = n; kind = 11 })
    else before_rest n (says n line) (lines_from says (n + 1) (next ∷ rest))

-- the lines of a log, or its first fault
abbrev pub lines_of : {L : Type 0} → (ℕ → List ℕ → Result L ℕ) → List ℕ → Result (List L) Fault
lines_of says log = lines_from says 1 (parts 10 log)
