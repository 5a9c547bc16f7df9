-- What tokens say: a tree, or their first fault.
use Rattle.std.specs.Prelude.{◌≡◌, ℕ, ◌+◌, ◌-◌, Bool, true, false, ◌==◌, ◌||◌, nat_lt, List, [], ◌∷◌, ◌++◌, Option, None, Some, if◌then◌else◌}
use Rattle.directive_text.specs.declared.tree.Directive.{Directive}
use Rattle.directive_text.specs.Internals.Lexemes.{Token, Lexeme, word, semicolon, opening, closing, misplaced, end, tokens_of}
use Rattle.directive_text.specs.Marks.{Mark, begins, has, ended, opened, closed, marks_of}

-- a fault's line and its kind
pub record Fault : Type 0 where
  pub line : ℕ
  pub kind : ℕ

-- What is wrong with a lexeme where some blocks are open, and words of a directive are pending or not.
abbrev pub kind_at : ℕ → Bool → Lexeme → Option ℕ
kind_at blocks pending (word w) = None
kind_at blocks pending semicolon = if pending then None else Some 3
kind_at blocks pending opening = if pending then (if nat_lt blocks 16 then None else Some 7) else Some 4
kind_at blocks pending closing = if pending || blocks == 0 then Some 5 else None
kind_at blocks pending misplaced = Some 6
kind_at blocks pending end = if pending || nat_lt 0 blocks then Some 2 else None

-- the number of open blocks after a lexeme
abbrev pub blocks_after : ℕ → Lexeme → ℕ
blocks_after blocks opening = blocks + 1
blocks_after blocks closing = blocks - 1
blocks_after blocks _ = blocks

-- words are pending after a word
abbrev pub is_word : Lexeme → Bool
is_word (word w) = true
is_word _ = false

-- the first fault of the tokens from here on
abbrev pub first_fault : ℕ → Bool → List Token → Option Fault
first_fault blocks pending [] = None
first_fault blocks pending (t ∷ ts) =
    elim (kind_at blocks pending t.lexeme) [
      | Some kind ↦ Some (record { line = t.line; kind = kind })
      | None ↦ first_fault (blocks_after blocks t.lexeme) (is_word t.lexeme) ts
    ]

-- the marks of one lexeme on a line
abbrev pub lexeme_marks : Bool → ℕ → Lexeme → List Mark
lexeme_marks pending line (word w) = if pending then has w ∷ [] else begins line ∷ has w ∷ []
lexeme_marks pending line semicolon = ended ∷ []
lexeme_marks pending line opening = opened ∷ []
lexeme_marks pending line closing = closed ∷ []
lexeme_marks pending line misplaced = []
lexeme_marks pending line end = []

-- the marks of tokens: a directive begins at a word where none is pending
abbrev pub token_marks : Bool → List Token → List Mark
token_marks pending [] = []
token_marks pending (t ∷ ts) = lexeme_marks pending t.line t.lexeme ++ token_marks (is_word t.lexeme) ts

-- the first fault of a text's tokens, if they have one
abbrev pub fault_of : List ℕ → Option Fault
fault_of text = first_fault 0 false (tokens_of text)

-- the tokens of a text without a fault have the marks of these directives
pub record Says (text : List ℕ) (directives : List Directive) : Type 0 where
  pub sound : fault_of text ≡ None
  pub marks : token_marks false (tokens_of text) ≡ marks_of directives
