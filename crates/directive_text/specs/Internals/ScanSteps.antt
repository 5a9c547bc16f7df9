-- What a scanner passes over: one byte, one token.
use Rattle.std.specs.Prelude.{◌≡◌, ℕ, Bool, true, false, List, [], ◌∷◌, if◌then◌else◌}
use Rattle.directive_text.specs.declared.symbol.Symbol.{Symbol}
use Rattle.directive_text.specs.declared.symbol.Symbol.TheVariants.{Word, Semicolon, Opening, Closing, Misplaced, End}
use Rattle.directive_text.specs.declared.symbol.PlacedSymbol.{PlacedSymbol}
use Rattle.directive_text.specs.Bytes.{below}
use Rattle.directive_text.specs.Internals.Lexemes.{Lexeme, word, semicolon, opening, closing, misplaced, end, Token, followed, between}

-- what a symbol of the code says
abbrev pub lexeme_of : Symbol → Lexeme
lexeme_of (Word value) = word value
lexeme_of Semicolon = semicolon
lexeme_of Opening = opening
lexeme_of Closing = closing
lexeme_of Misplaced = misplaced
lexeme_of End = end

-- the same with its line
abbrev pub token_of : PlacedSymbol → Token
token_of s = record { line = s.line; lexeme = lexeme_of s.symbol }

-- from a line and the bytes left to the line and the bytes behind the first of these
pub record Passes (line : ℕ) (left : List ℕ) (byte line_after : ℕ) (left_after : List ℕ) : Type 0 where
  pub bytes : left ≡ byte ∷ left_after
  pub lines : line_after ≡ below line byte

-- The tokens from a place on. Right after a closing quote the next byte must be one that may follow it.
abbrev pub ahead : Bool → ℕ → List ℕ → List Token
ahead after_quote line left = if after_quote then followed line left (between line left) else between line left

-- the lexemes behind which nothing is read
abbrev pub is_last : Lexeme → Bool
is_last misplaced = true
is_last end = true
is_last _ = false

-- a token, and those behind it where something is read behind it
abbrev pub begun : Token → List Token → List Token
begun token behind = if is_last token.lexeme then token ∷ [] else token ∷ behind

-- the end of the text
abbrev pub is_end : Lexeme → Bool
is_end end = true
is_end _ = false
