-- What a text begins with: a gap, and a word or another byte.
use Rattle.std.proofs.Common.{◌≡◌, ℕ, ◌+◌, ◌<◌, Bool, true, false, not, ◌||◌, List, [], ◌∷◌, ◌++◌, length, Some, refl, sym, ◌∙◌, ap, subst, inl, inr, append_assoc, arith}
use Rattle.std.specs.Prelude.{◌==◌, ◌⊎◌, if◌then◌else◌}
use Rattle.std.specs.List.{list_all, flat_map}
use Rattle.std.proofs.lemmas.Bool.{eqb-true}
use Rattle.std.proofs.lemmas.List.Sums.{sum_by-cons}
use Rattle.directive_text.specs.Bytes.{is_blank, is_quote, may_follow, below, ends_plain}
use Rattle.directive_text.specs.Internals.Lexemes.{Token, end, misplaced, word_at, followed, between, plain, plain_pair, quoted, quoted_pair}
use Rattle.directive_text.specs.Internals.Tokens.{Fault, first_fault}
use Rattle.directive_text.specs.Spelling.{line_feeds, Piece, itself, escaped, piece_text, piece_value, stays_quoted, ends_before, begins_plain, WordText, GapText, nothing, blank}
use Rattle.directive_text.specs.Spelling as spelling
use Rattle.directive_text.proofs.TextPlaces.{tells, plain-byte, plain-backslash, between-plain, between-hash}
use Rattle.directive_text.proofs.Spelled.{quote-read, quoted-read, last_comment}

-- what stands behind a gap: nothing, a comment that the text's end ends, or a byte that is in no gap
pub data Behind : List ℕ → Type 0 where
  at_end : Behind []
  at_comment : (said : List ℕ) → line_feeds said ≡ 0 → Behind (35 ∷ said)
  at_byte : (b : ℕ) (bs : List ℕ) → is_blank b ≡ false → (b == 35) ≡ false → Behind (b ∷ bs)

-- a text as its gap and what stands behind it
pub record Skipped (bs : List ℕ) : Type 0 where
  pub gap : List ℕ
  pub rest : List ℕ
  pub is : bs ≡ gap ++ rest
  pub text : GapText gap
  pub behind : Behind rest

-- a comment's bytes up to its LF
record Said (bs : List ℕ) : Type 0 where
  said : List ℕ
  rest : List ℕ
  is : bs ≡ said ++ 10 ∷ rest
  none : line_feeds said ≡ 0
  skipped : Skipped rest

feed_free : (b : ℕ) (bs : List ℕ) → (b == 10) ≡ false → line_feeds bs ≡ 0 → line_feeds (b ∷ bs) ≡ 0
feed_free b bs h e = rw (sum_by-cons, h) (omega (arith, e))

said_on : (b : ℕ) (bs : List ℕ) → (b == 10) ≡ false → Said bs → Said (b ∷ bs)
said_on b bs h s = record { said = b ∷ s.said; rest = s.rest; is = ap (λ z. b ∷ z) s.is; none = feed_free b s.said h s.none; skipped = s.skipped }

skipped_said : (bs : List ℕ) → Said bs → Skipped (35 ∷ bs)
skipped_said bs s = record {
  gap = 35 ∷ s.said ++ 10 ∷ s.skipped.gap;
  rest = s.skipped.rest;
  is = ap (λ z. 35 ∷ z) (s.is ∙ ap (λ z. s.said ++ 10 ∷ z) s.skipped.is ∙ sym (append_assoc s.said (10 ∷ s.skipped.gap) s.skipped.rest));
  text = spelling.comment s.said s.skipped.gap s.none s.skipped.text;
  behind = s.skipped.behind;
}

mutual
  pub skip : (bs : List ℕ) → Skipped bs
  skip [] = record { gap = []; rest = []; is = refl; text = nothing; behind = at_end }
  skip (b ∷ bs) = elim (tells (is_blank b)) [
    | inl h ↦ let s = skip bs in record { gap = b ∷ s.gap; rest = s.rest; is = ap (λ z. b ∷ z) s.is; text = blank b s.gap h s.text; behind = s.behind }
    | inr h ↦ elim (tells (b == 35)) [
      | inl k ↦ subst (λ n. Skipped (n ∷ bs)) (sym (eqb-true b 35 k)) (elim (skip_comment bs) [
        | inl s ↦ skipped_said bs s
        | inr e ↦ record { gap = []; rest = 35 ∷ bs; is = refl; text = nothing; behind = at_comment bs e }
      ])
      | inr k ↦ record { gap = []; rest = b ∷ bs; is = refl; text = nothing; behind = at_byte b bs h k }
    ]
  ]

  skip_comment : (bs : List ℕ) → Said bs ⊎ (line_feeds bs ≡ 0)
  skip_comment [] = inr refl
  skip_comment (b ∷ bs) = elim (tells (b == 10)) [
    | inl h ↦ inl (subst (λ n. Said (n ∷ bs)) (sym (eqb-true b 10 h)) (record { said = []; rest = bs; is = refl; none = refl; skipped = skip bs }))
    | inr h ↦ elim (skip_comment bs) [
      | inl s ↦ inl (said_on b bs h s)
      | inr e ↦ inr (feed_free b bs h e)
    ]
  ]

-- these tokens' first fault, if they have one, isn't the end of the text
pub record Lasts (blocks : ℕ) (pending : Bool) (ts : List Token) : Type 0 where
  pub early : (fault : Fault) → first_fault blocks pending ts ≡ Some fault → fault.kind ≡ 2 → ⊥

lasts_along : {blocks : ℕ} {pending : Bool} {ts us : List Token} → ts ≡ us → Lasts blocks pending ts → Lasts blocks pending us
lasts_along {blocks} {pending} {ts} {us} e l = subst (Lasts blocks pending) e l

-- the rest of a plain word, and the byte that ends it
record PlainRest (dollar : Bool) (bs : List ℕ) : Type 0 where
  pieces : List Piece
  next : ℕ
  rest : List ℕ
  is : bs ≡ flat_map piece_text pieces ++ next ∷ rest
  ends : ends_before next dollar pieces ≡ true

record PairRest (bs : List ℕ) : Type 0 where
  byte : ℕ
  behind : List ℕ
  is : bs ≡ byte ∷ behind
  plain : PlainRest false behind

with_pair : (dollar : Bool) (bs : List ℕ) → PairRest bs → PlainRest dollar (92 ∷ bs)
with_pair dollar bs p = record {
  pieces = escaped p.byte ∷ p.plain.pieces;
  next = p.plain.next;
  rest = p.plain.rest;
  is = ap (λ z. 92 ∷ z) (p.is ∙ ap (λ z. p.byte ∷ z) p.plain.is);
  ends = p.plain.ends;
}

with_byte : (dollar : Bool) (b : ℕ) (bs : List ℕ) → ends_plain dollar b ≡ false → (b == 92) ≡ false → PlainRest (b == 36 || b == 123) bs → PlainRest dollar (b ∷ bs)
with_byte dollar b bs h k r = record {
  pieces = itself b ∷ r.pieces;
  next = r.next;
  rest = r.rest;
  is = ap (λ z. b ∷ z) r.is;
  ends = rw (h, k) r.ends;
}

mutual
  plain_rest : (blocks : ℕ) (dollar : Bool) (line : ℕ) (bs : List ℕ) → Lasts blocks true (plain dollar line bs).tokens → PlainRest dollar bs
  plain_rest blocks dollar line [] e = absurd (e.early (record { line = line; kind = 2 }) refl refl)
  plain_rest blocks dollar line (b ∷ bs) e = elim (tells (ends_plain dollar b)) [
    | inl h ↦ record { pieces = []; next = b; rest = bs; is = refl; ends = h }
    | inr h ↦ elim (tells (b == 92)) [
      | inl k ↦
          let is = eqb-true b 92 k in
          let read = ap (λ n. plain dollar line (n ∷ bs)) is ∙ plain-backslash dollar line bs in
          subst (λ n. PlainRest dollar (n ∷ bs)) (sym is) (with_pair dollar bs (pair_rest blocks line bs (lasts_along (ap (λ r. r.tokens) read) e)))
      | inr k ↦
          with_byte dollar b bs h k (plain_rest blocks (b == 36 || b == 123) line bs (lasts_along (ap (λ r. r.tokens) (plain-byte dollar line b bs h k)) e))
    ]
  ]

  pair_rest : (blocks line : ℕ) (bs : List ℕ) → Lasts blocks true (plain_pair line bs).tokens → PairRest bs
  pair_rest blocks line [] e = absurd (e.early (record { line = line; kind = 2 }) refl refl)
  pair_rest blocks line (b ∷ bs) e = record { byte = b; behind = bs; is = refl; plain = plain_rest blocks false (below line b) bs e }

-- the rest of a quoted word, and the byte behind it
record QuotedRest (quote : ℕ) (bs : List ℕ) : Type 0 where
  pieces : List Piece
  next : ℕ
  rest : List ℕ
  is : bs ≡ flat_map piece_text pieces ++ quote ∷ next ∷ rest
  stays : list_all (stays_quoted quote) pieces ≡ true

record QuotedPairRest (quote : ℕ) (bs : List ℕ) : Type 0 where
  byte : ℕ
  behind : List ℕ
  is : bs ≡ byte ∷ behind
  quoted : QuotedRest quote behind

with_quoted_pair : (quote : ℕ) (bs : List ℕ) → QuotedPairRest quote bs → QuotedRest quote (92 ∷ bs)
with_quoted_pair quote bs p = record {
  pieces = escaped p.byte ∷ p.quoted.pieces;
  next = p.quoted.next;
  rest = p.quoted.rest;
  is = ap (λ z. 92 ∷ z) (p.is ∙ ap (λ z. p.byte ∷ z) p.quoted.is);
  stays = p.quoted.stays;
}

-- behind a closing quote
quote_ends : (blocks quote line : ℕ) (bs : List ℕ) → Lasts blocks true (followed line bs (between line bs)) → QuotedRest quote (quote ∷ bs)
quote_ends blocks quote line [] e = absurd (e.early (record { line = line; kind = 2 }) refl refl)
quote_ends blocks quote line (b ∷ bs) e = record { pieces = []; next = b; rest = bs; is = refl; stays = refl }

with_quoted_byte : (quote b : ℕ) (bs : List ℕ) → (b == quote) ≡ false → (b == 92) ≡ false → QuotedRest quote bs → QuotedRest quote (b ∷ bs)
with_quoted_byte quote b bs h k r = record {
  pieces = itself b ∷ r.pieces;
  next = r.next;
  rest = r.rest;
  is = ap (λ z. b ∷ z) r.is;
  stays = rw (h, k) r.stays;
}

mutual
  quoted_rest : (blocks quote line : ℕ) (bs : List ℕ) → Lasts blocks true (quoted quote line bs).tokens → QuotedRest quote bs
  quoted_rest blocks quote line [] e = absurd (e.early (record { line = line; kind = 2 }) refl refl)
  quoted_rest blocks quote line (b ∷ bs) e = elim (tells (b == quote)) [
    | inl h ↦ subst (λ n. QuotedRest quote (n ∷ bs)) (sym (eqb-true b quote h)) (quote_ends blocks quote line bs (rw h at e))
    | inr h ↦ elim (tells (b == 92)) [
      | inl k ↦ subst (λ n. QuotedRest quote (n ∷ bs)) (sym (eqb-true b 92 k)) (with_quoted_pair quote bs (quoted_pair_rest blocks quote line bs (rw (h, k) at e)))
      | inr k ↦ with_quoted_byte quote b bs h k (quoted_rest blocks quote (below line b) bs (rw (h, k) at e))
    ]
  ]

  quoted_pair_rest : (blocks quote line : ℕ) (bs : List ℕ) → Lasts blocks true (quoted_pair quote line bs).tokens → QuotedPairRest quote bs
  quoted_pair_rest blocks quote line [] e = absurd (e.early (record { line = line; kind = 2 }) refl refl)
  quoted_pair_rest blocks quote line (b ∷ bs) e = record { byte = b; behind = bs; is = refl; quoted = quoted_rest blocks quote (below line b) bs e }

-- a byte that begins a word
pub record BeginsWord (b : ℕ) : Type 0 where
  pub blank : is_blank b ≡ false
  pub hash : (b == 35) ≡ false
  pub semicolon : (b == 59) ≡ false
  pub opening : (b == 123) ≡ false
  pub closing : (b == 125) ≡ false

-- a word, and the byte behind it
pub record WordRest (bs : List ℕ) : Type 0 where
  pub value : List ℕ
  pub text : List ℕ
  pub next : ℕ
  pub rest : List ℕ
  pub is : bs ≡ text ++ next ∷ rest
  pub word : WordText next value text

begins : (b : ℕ) → BeginsWord b → ends_plain false b ≡ false
unfolding ends_plain
begins b f = rw (f.blank, f.semicolon, f.opening) refl

-- the first piece begins with the first byte
pieces_begin : (b next : ℕ) (bs rest : List ℕ) (pieces : List Piece) → BeginsWord b → is_quote b ≡ false → b ∷ bs ≡ flat_map piece_text pieces ++ next ∷ rest → ends_before next false pieces ≡ true → begins_plain pieces ≡ true
pieces_begin b next bs rest [] f q is e =
    let same : b ≡ next = cc in
    let none : ends_plain false next ≡ false = subst (λ n. ends_plain false n ≡ false) same (begins b f) in
    absurd (cc)
pieces_begin b next bs rest (itself c ∷ pieces) f q is e =
    let same : b ≡ c = cc in
    subst (λ n. not (n == 35 || n == 125 || is_quote n) ≡ true) same (rw (f.hash, f.closing, q) refl)
pieces_begin b next bs rest (escaped c ∷ pieces) f q is e = refl

-- a quoted word in front of a byte that may not follow it
pub record Misplaced (bs : List ℕ) : Type 0 where
  pub quote : ℕ
  pub pieces : List Piece
  pub next : ℕ
  pub rest : List ℕ
  pub is : bs ≡ quote ∷ flat_map piece_text pieces ++ quote ∷ next ∷ rest
  pub quotes : is_quote quote ≡ true
  pub stays : list_all (stays_quoted quote) pieces ≡ true
  pub follows : may_follow next ≡ false

quoted_word : (b : ℕ) (bs : List ℕ) → is_quote b ≡ true → QuotedRest b bs → WordRest (b ∷ bs) ⊎ Misplaced (b ∷ bs)
quoted_word b bs q r = elim (tells (may_follow r.next)) [
  | inl h ↦
      let text = flat_map piece_text r.pieces in
      inl (record {
        value = flat_map piece_value r.pieces;
        text = b ∷ text ++ b ∷ [];
        next = r.next;
        rest = r.rest;
        is = ap (λ z. b ∷ z) (r.is ∙ sym (append_assoc text (b ∷ []) (r.next ∷ r.rest)));
        word = spelling.quoted b r.pieces q r.stays h;
      })
  | inr h ↦ inr (record { quote = b; pieces = r.pieces; next = r.next; rest = r.rest; is = ap (λ z. b ∷ z) r.is; quotes = q; stays = r.stays; follows = h })
]

plain_word : (b : ℕ) (bs : List ℕ) → BeginsWord b → is_quote b ≡ false → PlainRest false (b ∷ bs) → WordRest (b ∷ bs)
plain_word b bs f q r = record {
  value = flat_map piece_value r.pieces;
  text = flat_map piece_text r.pieces;
  next = r.next;
  rest = r.rest;
  is = r.is;
  word = spelling.plain r.pieces (pieces_begin b r.next bs r.rest r.pieces f q r.is r.ends) r.ends;
}

-- a word that the text's end doesn't cut off
pub word_rest : (blocks line b : ℕ) (pending : Bool) (bs : List ℕ) → BeginsWord b → Lasts blocks pending (between line (b ∷ bs)) → WordRest (b ∷ bs) ⊎ Misplaced (b ∷ bs)
word_rest blocks line b pending bs f e = elim (tells (is_quote b)) [
  | inl q ↦ let l = lasts_along (quote-read b line bs q) e in quoted_word b bs q (quoted_rest blocks b line bs (record { early = l.early }))
  | inr q ↦ let l = lasts_along (between-plain line b bs (begins b f) f.hash f.closing q) e in inl (plain_word b bs f q (plain_rest blocks false line (b ∷ bs) (record { early = l.early })))
]

-- a word has a byte
pub word_long : {next : ℕ} {value text : List ℕ} → WordText next value text → 0 < length text
word_long (spelling.plain [] b e) = absurd (cc)
word_long (spelling.plain (itself c ∷ pieces) b e) = omega arith
word_long (spelling.plain (escaped c ∷ pieces) b e) = omega arith
word_long (spelling.quoted quote pieces q s f) = omega arith

-- a comment that the text's end ends is its end
pub comment_end : (line : ℕ) (said : List ℕ) → line_feeds said ≡ 0 → between line (35 ∷ said) ≡ record { line = line; lexeme = end } ∷ []
comment_end line said n = between-hash line said ∙ last_comment said line n

-- a byte that may not follow a closing quote is a fault
pub misplaced_read : (blocks line : ℕ) (pending : Bool) (quote next : ℕ) (pieces : List Piece) (rest : List ℕ) → is_quote quote ≡ true → list_all (stays_quoted quote) pieces ≡ true → may_follow next ≡ false →
    first_fault blocks pending (between line (quote ∷ flat_map piece_text pieces ++ quote ∷ next ∷ rest)) ≡ Some (record { line = line + line_feeds (flat_map piece_text pieces); kind = 6 })
misplaced_read blocks line pending quote next pieces rest q s f =
    let behind : ℕ = line + line_feeds (flat_map piece_text pieces) in
    ap (first_fault blocks pending) (quote-read quote line (flat_map piece_text pieces ++ quote ∷ next ∷ rest) q ∙ ap (word_at line) (quoted-read quote pieces q s line (next ∷ rest)))
    ∙ ap (λ b. first_fault blocks true (if b then between behind (next ∷ rest) else record { line = behind; lexeme = misplaced } ∷ [])) f
