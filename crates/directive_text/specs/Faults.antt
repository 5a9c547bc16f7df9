-- The first fault of a text.
use Rattle.std.specs.Prelude.{ℕ, ◌+◌, ◌<◌, true, false, Bool, IsTrue, List, ◌∷◌, ◌++◌}
use Rattle.std.specs.Bool.{IsFalse}
use Rattle.std.specs.List.{list_all, flat_map}
use Rattle.directive_text.specs.declared.tree.Directive.{Directive}
use Rattle.directive_text.specs.declared.fault.TextFault.{TextFault}
use Rattle.directive_text.specs.declared.fault.TextFault.TheVariants.{At, NoMemory}
use Rattle.directive_text.specs.Bytes.{is_quote, may_follow}
use Rattle.directive_text.specs.Spelling.{line_feeds, Piece, piece_text, stays_quoted, GapText, WordText, Spells}

-- Reading a text comes to a place without a fault: with so many open blocks, words of a directive that are pending or not, on this line, in front of these bytes.
pub data Reaches (text : List ℕ) : ℕ → Bool → ℕ → List ℕ → Type 0 where
  begin : Reaches text 0 false 1 text
  gap : (blocks line : ℕ) (pending : Bool) (gap left : List ℕ)
      → Reaches text blocks pending line (gap ++ left) → GapText gap → Reaches text blocks pending (line + line_feeds gap) left
  word : (blocks line next : ℕ) (pending : Bool) (value word left : List ℕ)
      → Reaches text blocks pending line (word ++ next ∷ left) → WordText next value word → Reaches text blocks true (line + line_feeds word) (next ∷ left)
  semicolon : (blocks line : ℕ) (left : List ℕ)
      → Reaches text blocks true line (59 ∷ left) → Reaches text blocks false line left
  opening : (blocks line : ℕ) (left : List ℕ)
      → Reaches text blocks true line (123 ∷ left) → blocks < 16 → Reaches text (blocks + 1) false line left
  closing : (blocks line : ℕ) (left : List ℕ)
      → Reaches text (blocks + 1) false line (125 ∷ left) → Reaches text blocks false line left

-- The first fault of a text is on this line and of this kind.
pub data HasFault (text : List ℕ) : ℕ → ℕ → Type 0 where
  -- the text ends too early: it spells nothing, but would with more behind it
  too_short : (more : List ℕ) (directives : List Directive)
      → Spells (text ++ more) directives → ((others : List Directive) → ¬ Spells text others) → HasFault text (1 + line_feeds text) 2
  -- `;` or `{` without a word
  ends_nothing : (blocks line : ℕ) (left : List ℕ) → Reaches text blocks false line (59 ∷ left) → HasFault text line 3
  opens_nothing : (blocks line : ℕ) (left : List ℕ) → Reaches text blocks false line (123 ∷ left) → HasFault text line 4
  -- `}` behind a word, or without an open block
  closes_words : (blocks line : ℕ) (left : List ℕ) → Reaches text blocks true line (125 ∷ left) → HasFault text line 5
  closes_nothing : (line : ℕ) (left : List ℕ) → Reaches text 0 false line (125 ∷ left) → HasFault text line 5
  -- a byte that may not follow a closing quote
  follows_quote : (blocks line quote next : ℕ) (pending : Bool) (pieces : List Piece) (left : List ℕ)
      → IsTrue (is_quote quote) → IsTrue (list_all (stays_quoted quote) pieces) → IsFalse (may_follow next)
      → Reaches text blocks pending line (quote ∷ flat_map piece_text pieces ++ quote ∷ next ∷ left)
      → HasFault text (line + line_feeds (flat_map piece_text pieces)) 6
  -- `{` where 16 blocks are open
  opens_too_many : (line : ℕ) (left : List ℕ) → Reaches text 16 true line (123 ∷ left) → HasFault text line 7

-- an answer that is a fault is the text's first one
abbrev pub GivesFault : List ℕ → TextFault → Type 0
GivesFault text (At line kind) = HasFault text line kind
GivesFault text NoMemory = Unit {0}
