-- A tree written out flat, as what its text says in order.
use Rattle.std.specs.Prelude.{ℕ, List, [], ◌∷◌, ◌++◌, Option, None, Some, map}
use Rattle.directive_text.specs.declared.tree.Directive.{Directive}
use Rattle.directive_text.specs.declared.tree.Directive.TheOpen.{Directive-F}
use Rattle.directive_text.specs.declared.tree.Directive.TheFolds.{fold-Directive}

-- a directive begins on a line, has its words, and ends or has a block
pub data Mark : Type 0 where
  begins : ℕ → Mark
  has : List ℕ → Mark
  ended : Mark
  opened : Mark
  closed : Mark

-- lists one after the other
abbrev pub joined : List (List Mark) → List Mark
joined [] = []
joined (ms ∷ rest) = ms ++ joined rest

-- the end of a directive: `;`, or its block
abbrev pub ending : Option (List (List Mark)) → List Mark
ending None = ended ∷ []
ending (Some inner) = opened ∷ joined inner ++ closed ∷ []

-- one directive, with the marks of each inner one in its place
abbrev pub marks_step : Directive-F (List Mark) → List Mark
marks_step d = begins d.line ∷ map has d.words ++ ending d.block

-- the marks of a directive
abbrev pub directive_marks : Directive → List Mark
directive_marks = fold-Directive (List Mark) marks_step

-- the marks of directives in their order
abbrev pub marks_of : List Directive → List Mark
marks_of ds = joined (map directive_marks ds)
