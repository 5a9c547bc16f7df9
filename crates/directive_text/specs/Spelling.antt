-- How a tree may be spelled: each word plain or in quotes with any escapes, and any gaps between the words.
use Rattle.std.specs.Prelude.{◌≡◌, ◌≢◌, ℕ, ◌+◌, ◌<◌, Bool, true, false, ◌==◌, ◌&&◌, ◌||◌, not, IsTrue, List, [], ◌∷◌, ◌++◌, None, Some, count_by}
use Rattle.std.specs.List.{list_all, flat_map}
use Rattle.directive_text.specs.declared.tree.Directive.{Directive}
use Rattle.directive_text.specs.declared.tree.Directive.TheViews.{roll-Directive}
use Rattle.directive_text.specs.Bytes.{is_blank, is_quote, may_follow, ends_plain, unescaped}

-- the number of LFs: what follows a text stands so many lines lower
abbrev pub line_feeds : List ℕ → ℕ
line_feeds text = count_by (λ b. b == 10) text

-- a piece of a word: a byte that means itself, or a backslash and the byte that it escapes
pub data Piece : Type 0 where
  itself : ℕ → Piece
  escaped : ℕ → Piece

-- the bytes of a piece
abbrev pub piece_text : Piece → List ℕ
piece_text (itself b) = b ∷ []
piece_text (escaped b) = 92 ∷ b ∷ []

-- what a piece adds to the word's value
abbrev pub piece_value : Piece → List ℕ
piece_value (itself b) = b ∷ []
piece_value (escaped b) = unescaped b

-- a piece that doesn't end a quoted word: its quote stands only behind a backslash
abbrev pub stays_quoted : ℕ → Piece → Bool
stays_quoted quote (itself b) = not (b == quote || b == 92)
stays_quoted quote (escaped b) = true

-- Pieces of a plain word that just this next byte ends. A `{` ends none right behind a `$` or such a `{`.
abbrev pub ends_before : ℕ → Bool → List Piece → Bool
ends_before next dollar [] = ends_plain dollar next
ends_before next dollar (itself b ∷ pieces) = not (ends_plain dollar b || b == 92) && ends_before next (b == 36 || b == 123) pieces
ends_before next dollar (escaped b ∷ pieces) = ends_before next false pieces

-- pieces whose first byte begins a plain word, and no comment, no block's end and no quoted word
abbrev pub begins_plain : List Piece → Bool
begins_plain [] = false
begins_plain (itself b ∷ pieces) = not (b == 35 || b == 125 || is_quote b)
begins_plain (escaped b ∷ pieces) = true

-- A word, plain or in quotes, in front of a next byte.
pub data WordText (next : ℕ) : List ℕ → List ℕ → Type 0 where
  plain : (pieces : List Piece) → IsTrue (begins_plain pieces) → IsTrue (ends_before next false pieces)
      → WordText next (flat_map piece_value pieces) (flat_map piece_text pieces)
  quoted : (quote : ℕ) (pieces : List Piece) → IsTrue (is_quote quote) → IsTrue (list_all (stays_quoted quote) pieces) → IsTrue (may_follow next)
      → WordText next (flat_map piece_value pieces) (quote ∷ flat_map piece_text pieces ++ quote ∷ [])

-- A gap: white space, and comments up to their LF.
pub data GapText : List ℕ → Type 0 where
  nothing : GapText []
  blank : (b : ℕ) (rest : List ℕ) → IsTrue (is_blank b) → GapText rest → GapText (b ∷ rest)
  comment : (said rest : List ℕ) → line_feeds said ≡ 0 → GapText rest → GapText (35 ∷ said ++ 10 ∷ rest)

-- the first byte of a text and of what follows it
abbrev pub first : List ℕ → ℕ → ℕ
first [] next = next
first (b ∷ bs) next = b

-- Words in front of a next byte, each with a gap behind it.
pub data WordsText (next : ℕ) : List (List ℕ) → List ℕ → Type 0 where
  no_word : WordsText next [] []
  one_word : (word : List ℕ) (words : List (List ℕ)) (text gap rest : List ℕ)
      → WordText (first (gap ++ rest) next) word text → GapText gap → WordsText next words rest
      → WordsText next (word ∷ words) (text ++ gap ++ rest)

mutual
  -- A directive on this line, in so many open blocks: a word or more, and `;` or a block.
  pub data DirectiveText : ℕ → ℕ → Directive → List ℕ → Type 0 where
    simple : (blocks line : ℕ) (words : List (List ℕ)) (text : List ℕ)
        → words ≢ [] → WordsText 59 words text
        → DirectiveText blocks line (roll-Directive (record { words = words; line = line; block = None })) (text ++ 59 ∷ [])
    block : (blocks line : ℕ) (words : List (List ℕ)) (text : List ℕ) (directives : List Directive) (inner : List ℕ)
        → words ≢ [] → WordsText 123 words text → blocks < 16 → DirectivesText (blocks + 1) (line + line_feeds text) directives inner
        → DirectiveText blocks line (roll-Directive (record { words = words; line = line; block = Some directives })) (text ++ 123 ∷ inner ++ 125 ∷ [])

  -- Directives from this line on, in so many open blocks, with gaps round them.
  pub data DirectivesText : ℕ → ℕ → List Directive → List ℕ → Type 0 where
    no_directive : (blocks line : ℕ) (gap : List ℕ) → GapText gap → DirectivesText blocks line [] gap
    one_directive : (blocks line : ℕ) (directive : Directive) (directives : List Directive) (gap text rest : List ℕ)
        → GapText gap → DirectiveText blocks (line + line_feeds gap) directive text
        → DirectivesText blocks (line + line_feeds (gap ++ text)) directives rest
        → DirectivesText blocks line (directive ∷ directives) (gap ++ text ++ rest)

-- A text of directives. A comment at its end may lack its LF.
pub data Spells : List ℕ → List Directive → Type 0 where
  whole : (text : List ℕ) (directives : List Directive) → DirectivesText 0 1 directives text → Spells text directives
  in_comment : (text said : List ℕ) (directives : List Directive) → DirectivesText 0 1 directives text → line_feeds said ≡ 0
      → Spells (text ++ 35 ∷ said) directives
