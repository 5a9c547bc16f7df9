-- What a text spells has a canonical text.
use Rattle.std.proofs.Common.{◌≡◌, ℕ, ◌+◌, ◌<◌, ◌≤◌, Bool, true, false, not, ◌&&◌, ◌||◌, List, [], ◌∷◌, ◌++◌, Option, None, Some, refl, subst, arith}
use Rattle.std.specs.Prelude.{◌==◌, if◌then◌else◌, nat_lt}
use Rattle.std.proofs.lemmas.Bool.{ltb-true}
use Rattle.directive_text.specs.declared.tree.Directive.{Directive}
use Rattle.directive_text.specs.Bytes.{is_blank, is_quote, may_follow, below}
use Rattle.directive_text.specs.Internals.Lexemes.{Token, Lexeme, word, semicolon, opening, closing, misplaced, end, Rest, followed, between, comment, plain, plain_pair, quoted, quoted_pair, tokens_of}
use Rattle.directive_text.specs.Internals.Tokens.{Fault, kind_at, blocks_after, is_word, first_fault}
use Rattle.directive_text.specs.Marks.{Mark}
use Rattle.directive_text.specs.Internals.Tokens.{lexeme_marks, token_marks}
use Rattle.directive_text.specs.Printing.{MarksFit, Fits}
use Rattle.directive_text.specs.Internals.Tokens.{Says}

-- the lines of tokens don't fall, from a line on
abbrev Rises : ℕ → List Token → Type 0
Rises line [] = Unit {0}
Rises line (t ∷ ts) = (line ≤ t.line) × Rises t.line ts

rises-pick : (line : ℕ) (b : Bool) (x y : List Token) → Rises line x → Rises line y → Rises line (if b then x else y)
rises-pick line true x y p q = p
rises-pick line false x y p q = q

rises-pick_rest : (line : ℕ) (b : Bool) (x y : Rest) → Rises line x.tokens → Rises line y.tokens → Rises line (if b then x else y).tokens
rises-pick_rest line true x y p q = p
rises-pick_rest line false x y p q = q

below-rises : (line b : ℕ) → line ≤ below line b
unfolding below
below-rises line b = elim (b == 10) as (λ v. line ≤ (if v then line + 1 else line)) [ true ↦ omega arith | false ↦ omega arith ]

-- from an earlier line they don't fall either
earlier : (low line : ℕ) (ts : List Token) → low ≤ line → Rises line ts → Rises low ts
earlier low line [] h r = tt
earlier low line (t ∷ ts) h r = (omega (arith, r.0), r.1)

followed-rises : (line : ℕ) (bs : List ℕ) (ts : List Token) → Rises line ts → Rises line (followed line bs ts)
followed-rises line [] ts r = r
followed-rises line (b ∷ bs) ts r = rises-pick line (may_follow b) ts _ r (omega arith, tt)

mutual
  between-rises : (line : ℕ) (bs : List ℕ) → Rises line (between line bs)
  between-rises line [] = (omega arith, tt)
  between-rises line (b ∷ bs) =
      let on : Rises line (between line bs) = between-rises line bs in
      let same : line ≤ line = omega arith in
      rises-pick line (is_blank b) _ _ (earlier line (below line b) _ (below-rises line b) (between-rises (below line b) bs))
      (rises-pick line (b == 35) _ _ (comment-rises line bs)
      (rises-pick line (b == 59) _ _ (same, on)
      (rises-pick line (b == 123) _ _ (same, on)
      (rises-pick line (b == 125) _ _ (same, on)
      (rises-pick line (is_quote b) _ _ (same, quoted-rises b line bs)
      (rises-pick line (b == 92) _ _ (same, plain_pair-rises line bs) (same, plain-rises (b == 36) line bs)))))))

  comment-rises : (line : ℕ) (bs : List ℕ) → Rises line (comment line bs)
  comment-rises line [] = (omega arith, tt)
  comment-rises line (b ∷ bs) =
      rises-pick line (b == 10) _ _ (earlier line (line + 1) _ (omega arith) (between-rises (line + 1) bs)) (comment-rises line bs)

  plain-rises : (dollar : Bool) (line : ℕ) (bs : List ℕ) → Rises line (plain dollar line bs).tokens
  plain-rises dollar line [] = (omega arith, tt)
  plain-rises dollar line (b ∷ bs) =
      let on : Rises line (between line bs) = between-rises line bs in
      let same : line ≤ line = omega arith in
      rises-pick_rest line (is_blank b) _ _ (earlier line (below line b) _ (below-rises line b) (between-rises (below line b) bs))
      (rises-pick_rest line (b == 59) _ _ (same, on)
      (rises-pick_rest line (b == 123 && not dollar) _ _ (same, on)
      (rises-pick_rest line (b == 92) _ _ (plain_pair-rises line bs) (plain-rises (b == 36 || b == 123) line bs))))

  plain_pair-rises : (line : ℕ) (bs : List ℕ) → Rises line (plain_pair line bs).tokens
  plain_pair-rises line [] = (omega arith, tt)
  plain_pair-rises line (b ∷ bs) = earlier line (below line b) _ (below-rises line b) (plain-rises false (below line b) bs)

  quoted-rises : (quote line : ℕ) (bs : List ℕ) → Rises line (quoted quote line bs).tokens
  quoted-rises quote line [] = (omega arith, tt)
  quoted-rises quote line (b ∷ bs) =
      rises-pick_rest line (b == quote) _ _ (followed-rises line bs _ (between-rises line bs))
      (rises-pick_rest line (b == 92) _ _ (quoted_pair-rises quote line bs)
      (earlier line (below line b) _ (below-rises line b) (quoted-rises quote (below line b) bs)))

  quoted_pair-rises : (quote line : ℕ) (bs : List ℕ) → Rises line (quoted_pair quote line bs).tokens
  quoted_pair-rises quote line [] = (omega arith, tt)
  quoted_pair-rises quote line (b ∷ bs) = earlier line (below line b) _ (below-rises line b) (quoted-rises quote (below line b) bs)

-- where nothing is wrong from a token on, nothing is wrong with it, nor behind it
pub no-fault : (blocks : ℕ) (pending : Bool) (t : Token) (ts : List Token) → first_fault blocks pending (t ∷ ts) ≡ None →
    (kind_at blocks pending t.lexeme ≡ None) × (first_fault (blocks_after blocks t.lexeme) (is_word t.lexeme) ts ≡ None)
no-fault blocks pending t ts e =
    let next : Option Fault = first_fault (blocks_after blocks t.lexeme) (is_word t.lexeme) ts in
    let P : Option ℕ → Type 0 = λ k. (elim k as (λ _. Option Fault) [ Some kind ↦ Some (record { line = t.line; kind = kind }) | None ↦ next ] ≡ None) → (k ≡ None) × (next ≡ None) in
    (elim (kind_at blocks pending t.lexeme) as P [ Some kind ↦ λ h. absurd (cc) | None ↦ λ h. (refl, h) ]) e

semicolon-kind : (blocks : ℕ) (pending : Bool) → kind_at blocks pending semicolon ≡ None → pending ≡ true
semicolon-kind blocks true e = refl
semicolon-kind blocks false e = absurd (cc)

few_blocks : (b : Bool) → let none : Option ℕ = None in (if b then none else Some 7) ≡ none → b ≡ true
few_blocks true e = refl
few_blocks false e = absurd (cc)

pub opening-kind : (blocks : ℕ) (pending : Bool) → kind_at blocks pending opening ≡ None → (pending ≡ true) × (blocks < 16)
opening-kind blocks true e = (refl, ltb-true blocks 16 (few_blocks (nat_lt blocks 16) e))
opening-kind blocks false e = absurd (cc)

-- the marks of a token that is no fault fit, if those behind it do
token-fits : (x : Lexeme) (n line blocks : ℕ) (pending : Bool) (ms : List Mark) → line ≤ n → kind_at blocks pending x ≡ None →
    ((low : ℕ) → low ≤ n → MarksFit low (blocks_after blocks x) (is_word x) ms) → MarksFit line blocks pending (lexeme_marks pending n x ++ ms)
token-fits (word w) n line blocks true ms h k rest = rest line h
token-fits (word w) n line blocks false ms h k rest = (h, rest n (omega arith))
token-fits semicolon n line blocks pending ms h k rest = (semicolon-kind blocks pending k, rest line h)
token-fits opening n line blocks pending ms h k rest =
    let o = opening-kind blocks pending k in (o.0, o.1, rest line h)
token-fits closing n line blocks pending ms h k rest = rest line h
token-fits misplaced n line blocks pending ms h k rest = absurd (cc)
token-fits end n line blocks true ms h k rest = absurd (cc)
token-fits end n line blocks false ms h k rest = rest line h

marks-fit : (ts : List Token) (blocks : ℕ) (pending : Bool) (line : ℕ) → Rises line ts → first_fault blocks pending ts ≡ None → MarksFit line blocks pending (token_marks pending ts)
marks-fit [] blocks pending line r e = tt
marks-fit (t ∷ ts) blocks pending line r e =
    let n = no-fault blocks pending t ts e in
    token-fits t.lexeme t.line line blocks pending (token_marks (is_word t.lexeme) ts) r.0 n.0
    (λ low h. marks-fit ts (blocks_after blocks t.lexeme) (is_word t.lexeme) low (earlier low t.line ts h r.1) n.1)

-- what a text spells has a canonical text
pub spelled-fits : (text : List ℕ) (ds : List Directive) → Says text ds → Fits ds
spelled-fits text ds s = subst (λ ms. MarksFit 1 0 false ms) s.marks (marks-fit (tokens_of text) 0 false 1 (between-rises 1 text) s.sound)
