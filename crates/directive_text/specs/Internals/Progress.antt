-- How far a text is read: the marks of what is read of it.
use Rattle.std.specs.Prelude.{ℕ, Bool, true, false, List, [], ◌∷◌, ◌++◌, map, length}
use Rattle.directive_text.specs.declared.tree.Directive.{Directive}
use Rattle.directive_text.specs.declared.builder.Frame.{Frame}
use Rattle.directive_text.specs.Marks.{Mark, begins, has, opened, joined, marks_of}

-- the marks of what is read, the number of open blocks, and whether words of a directive are pending
pub record Progress : Type 0 where
  pub marks : List Mark
  pub blocks : ℕ
  pub pending : Bool

-- whether there is a word
abbrev pub some_word : List (List ℕ) → Bool
some_word [] = false
some_word (w ∷ ws) = true

-- the marks of words that are pending
abbrev pub pending_marks : ℕ → List (List ℕ) → List Mark
pending_marks line [] = []
pending_marks line (w ∷ ws) = begins line ∷ map has (w ∷ ws)

-- the marks of an open block's directive, and of what stands before it
abbrev pub frame_marks : Frame → List Mark
frame_marks f = marks_of f.before.items ++ (begins f.line ∷ map has f.words ++ opened ∷ [])

-- what is read: open blocks, outermost first, the directives of the innermost, and pending words
abbrev pub progress_of : List Frame → List Directive → ℕ → List (List ℕ) → Progress
progress_of frames done line words = record {
  marks = joined (map frame_marks frames) ++ marks_of done ++ pending_marks line words;
  blocks = length frames;
  pending = some_word words;
}
