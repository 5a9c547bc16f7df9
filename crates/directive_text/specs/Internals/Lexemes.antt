-- The lexemes of a text: one function for each place in which a byte may stand.
use Rattle.std.specs.Prelude.{ℕ, ◌+◌, Bool, false, ◌==◌, ◌&&◌, ◌||◌, not, List, [], ◌∷◌, ◌++◌, if◌then◌else◌}
use Rattle.directive_text.specs.Bytes.{is_blank, is_quote, may_follow, below, unescaped}

-- what a place of a text says: a word, by its value, `;`, `{`, `}`, a byte that may not stand there, or its end
pub data Lexeme : Type 0 where
  word : List ℕ → Lexeme
  semicolon : Lexeme
  opening : Lexeme
  closing : Lexeme
  misplaced : Lexeme
  end : Lexeme

-- a lexeme, and the line of its first byte
pub record Token : Type 0 where
  pub line : ℕ
  pub lexeme : Lexeme

-- the rest of a word's value, and the tokens after the word
pub record Rest : Type 0 where
  pub value : List ℕ
  pub tokens : List Token

-- bytes in front of the rest of a word
abbrev pub kept : List ℕ → Rest → Rest
kept bytes rest = record { value = bytes ++ rest.value; tokens = rest.tokens }

-- nothing more of a word
abbrev pub ends : List Token → Rest
ends tokens = record { value = []; tokens = tokens }

-- a word that begins on this line
abbrev pub word_at : ℕ → Rest → List Token
word_at line rest = record { line = line; lexeme = word rest.value } ∷ rest.tokens

-- after a closing quote, a byte that may not follow it is misplaced
abbrev pub followed : ℕ → List ℕ → List Token → List Token
followed line [] tokens = tokens
followed line (b ∷ bs) tokens = if may_follow b then tokens else record { line = line; lexeme = misplaced } ∷ []

abbrev mutual
  -- between words, on this line
  pub between : ℕ → List ℕ → List Token
  between line [] = record { line = line; lexeme = end } ∷ []
  between line (b ∷ bs) =
      if is_blank b then between (below line b) bs
      else if b == 35 then comment line bs
      else if b == 59 then record { line = line; lexeme = semicolon } ∷ between line bs
      else if b == 123 then record { line = line; lexeme = opening } ∷ between line bs
      else if b == 125 then record { line = line; lexeme = closing } ∷ between line bs
      else if is_quote b then word_at line (quoted b line bs)
      else if b == 92 then word_at line (plain_pair line bs)
      else word_at line (kept (b ∷ []) (plain (b == 36) line bs))

  -- in a comment, which ends with its line
  pub comment : ℕ → List ℕ → List Token
  comment line [] = record { line = line; lexeme = end } ∷ []
  comment line (b ∷ bs) = if b == 10 then between (line + 1) bs else comment line bs

  -- In a plain word. White space, `;` and `{` end it, and mean what they mean between words; but right
  -- after a `$`, and the `{` that follow it, a `{` belongs to the word.
  pub plain : Bool → ℕ → List ℕ → Rest
  plain dollar line [] = ends (record { line = line; lexeme = end } ∷ [])
  plain dollar line (b ∷ bs) =
      if is_blank b then ends (between (below line b) bs)
      else if b == 59 then ends (record { line = line; lexeme = semicolon } ∷ between line bs)
      else if b == 123 && not dollar then ends (record { line = line; lexeme = opening } ∷ between line bs)
      else if b == 92 then plain_pair line bs
      else kept (b ∷ []) (plain (b == 36 || b == 123) line bs)

  -- after a backslash in a plain word
  pub plain_pair : ℕ → List ℕ → Rest
  plain_pair line [] = ends (record { line = line; lexeme = end } ∷ [])
  plain_pair line (b ∷ bs) = kept (unescaped b) (plain false (below line b) bs)

  -- in a quoted word, which ends at the same quote
  pub quoted : ℕ → ℕ → List ℕ → Rest
  quoted quote line [] = ends (record { line = line; lexeme = end } ∷ [])
  quoted quote line (b ∷ bs) =
      if b == quote then ends (followed line bs (between line bs))
      else if b == 92 then quoted_pair quote line bs
      else kept (b ∷ []) (quoted quote (below line b) bs)

  -- after a backslash in a quoted word
  pub quoted_pair : ℕ → ℕ → List ℕ → Rest
  quoted_pair quote line [] = ends (record { line = line; lexeme = end } ∷ [])
  quoted_pair quote line (b ∷ bs) = kept (unescaped b) (quoted quote (below line b) bs)

-- the tokens of a text, whose first line is 1
abbrev pub tokens_of : List ℕ → List Token
tokens_of text = between 1 text
