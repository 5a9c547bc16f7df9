-- Rows and columns of a table.
use Rattle.std.specs.Prelude.{ℕ, ◌≡◌, List, [], ◌∷◌, ◌++◌, Option, Some, None, slice_get}

-- the columns, each with an element more, from a row
abbrev pub added : {X : Type 0} → List (List X) → List X → List (List X)
added columns [] = columns
added (column ∷ columns) (x ∷ row) = (column ++ x ∷ []) ∷ added columns row
added [] (x ∷ row) = []

-- and from one row after another
abbrev pub filled : {X : Type 0} → List (List X) → List (List X) → List (List X)
filled columns [] = columns
filled columns (row ∷ rows) = filled (added columns row) rows

-- what stands at this place of a row, if there is one
abbrev pub at_place : {X : Type 0} → Option (List X) → ℕ → Option X
at_place None j = None
at_place (Some row) j = slice_get row j

-- what stands at this place of this row
abbrev pub cell : {X : Type 0} → List (List X) → ℕ → ℕ → Option X
cell rows i j = at_place (slice_get rows i) j

-- rows and columns change places
abbrev pub IsTransposed : {X : Type 0} → List (List X) → List (List X) → Type 0
IsTransposed rows columns = (i j : ℕ) → cell columns j i ≡ cell rows i j
