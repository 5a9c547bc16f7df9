-- A canonical text of a tree, at the lines of its directives.
use Rattle.std.specs.Prelude.{ℕ, ◌+◌, ◌-◌, ◌<◌, ◌≤◌, ◌≡◌, Bool, true, false, ◌==◌, ◌&&◌, ◌||◌, not, List, [], ◌∷◌, ◌++◌, replicate, if◌then◌else◌}
use Rattle.std.specs.List.{list_all, flat_map}
use Rattle.directive_text.specs.declared.tree.Directive.{Directive}
use Rattle.directive_text.specs.Bytes.{is_blank, is_quote}
use Rattle.directive_text.specs.Marks.{Mark, begins, has, ended, opened, closed, marks_of}

-- a byte that means itself wherever it stands in a plain word
abbrev pub is_plain : ℕ → Bool
is_plain b = not (is_blank b || is_quote b || b == 35 || b == 36 || b == 59 || b == 92 || b == 123 || b == 125)

-- a word that may stand without quotes
abbrev pub is_plain_word : List ℕ → Bool
is_plain_word [] = false
is_plain_word (b ∷ bs) = is_plain b && list_all is_plain bs

-- A byte in double quotes: a double quote and a backslash behind a backslash, LF as `\n`, so that a word ends no line.
abbrev pub in_quotes : ℕ → List ℕ
in_quotes b = if b == 34 || b == 92 then 92 ∷ b ∷ [] else if b == 10 then 92 ∷ 110 ∷ [] else b ∷ []

-- a word as it stands, or quoted where it must be
abbrev pub word_text : List ℕ → List ℕ
word_text w = if is_plain_word w then w else 34 ∷ flat_map in_quotes w ++ 34 ∷ []

-- the text of marks from a line on: LFs down to each directive's line, and a space behind each word
abbrev pub marks_text : ℕ → List Mark → List ℕ
marks_text line [] = []
marks_text line (begins n ∷ ms) = replicate (n - line) 10 ++ marks_text n ms
marks_text line (has w ∷ ms) = word_text w ++ 32 ∷ marks_text line ms
marks_text line (ended ∷ ms) = 59 ∷ marks_text line ms
marks_text line (opened ∷ ms) = 123 ∷ marks_text line ms
marks_text line (closed ∷ ms) = 125 ∷ marks_text line ms

-- the canonical text of a tree
abbrev pub printed : List Directive → List ℕ
printed directives = marks_text 1 (marks_of directives)

-- From a line on, with some blocks open, and words pending or not: no directive's line is above the one
-- before it, each directive has a word, and no more than 16 blocks are open at once.
abbrev pub MarksFit : ℕ → ℕ → Bool → List Mark → Type 0
MarksFit line blocks pending [] = Unit {0}
MarksFit line blocks pending (begins n ∷ ms) = (line ≤ n) × MarksFit n blocks false ms
MarksFit line blocks pending (has w ∷ ms) = MarksFit line blocks true ms
MarksFit line blocks pending (ended ∷ ms) = (pending ≡ true) × MarksFit line blocks false ms
MarksFit line blocks pending (opened ∷ ms) = (pending ≡ true) × (blocks < 16) × MarksFit line (blocks + 1) false ms
MarksFit line blocks pending (closed ∷ ms) = MarksFit line (blocks - 1) false ms

-- a tree that a text may spell
abbrev pub Fits : List Directive → Type 0
Fits directives = MarksFit 1 0 false (marks_of directives)
