-- Where a text ends too early, the fault is on its last line.
use Rattle.std.proofs.Common.{◌≡◌, ℕ, ◌+◌, Bool, true, false, not, ◌&&◌, ◌||◌, List, [], ◌∷◌, Option, None, Some, refl, sym, ◌∙◌, ap, subst, arith, add-zero}
use Rattle.std.specs.Prelude.{◌==◌, if◌then◌else◌, nat_lt}
use Rattle.std.proofs.lemmas.Bool.{eqb-true}
use Rattle.std.proofs.lemmas.List.Sums.{sum_by-cons}
use Rattle.directive_text.specs.Internals.Lexemes.{Token, Lexeme, word, semicolon, opening, closing, misplaced, end, Rest, followed, between, comment, plain, plain_pair, quoted, quoted_pair}
use Rattle.directive_text.specs.Bytes.{is_blank, is_quote, may_follow, below}
use Rattle.directive_text.specs.Internals.Tokens.{Fault, kind_at, blocks_after, is_word, first_fault}
use Rattle.directive_text.specs.Spelling.{line_feeds}
use Rattle.directive_text.specs.Internals.ScanSteps.{is_end}
use Rattle.directive_text.proofs.TextPlaces.{or_false, quote_ends_no_line}

-- what follows a byte stands on the line below it
pub feeds-below : (line b : ℕ) (bs : List ℕ) → below line b + line_feeds bs ≡ line + line_feeds (b ∷ bs)
unfolding below
feeds-below line b bs =
    rw sum_by-cons
    (elim (b == 10) as (λ v. (if v then line + 1 else line) + line_feeds bs ≡ line + ((if v then 1 else 0) + line_feeds bs)) [ true ↦ omega arith | false ↦ omega arith ])

-- on the same line, where the byte isn't LF
pub feeds-same : (line b : ℕ) (bs : List ℕ) → below line b ≡ line → line + line_feeds bs ≡ line + line_feeds (b ∷ bs)
feeds-same line b bs e = ap (λ l. l + line_feeds bs) (sym e) ∙ feeds-below line b bs

pub blank_ends : (line b : ℕ) → is_blank b ≡ false → below line b ≡ line
unfolding is_blank below
blank_ends line b e = rw ((or_false (b == 32 || b == 9 || b == 13) (b == 10) e).1) refl

pub other_ends_no_line : (line b : ℕ) → (b == 10) ≡ false → below line b ≡ line
unfolding below
other_ends_no_line line b e = rw e refl

pub feed_ends : (line b : ℕ) → (b == 10) ≡ true → below line b ≡ line + 1
unfolding below
feed_ends line b e = rw e refl

pub backslash_ends_no_line : (line b : ℕ) → (b == 92) ≡ true → below line b ≡ line
unfolding below
backslash_ends_no_line line b e = subst (λ n. below line n ≡ line) (sym (eqb-true b 92 e)) refl

-- a fault at the end of these tokens is on this line
record EndsOn (n : ℕ) (ts : List Token) : Type 0 where
  line : (blocks : ℕ) (pending : Bool) (fault : Fault) → first_fault blocks pending ts ≡ Some fault → fault.kind ≡ 2 → fault.line ≡ n

-- no other lexeme has the end's kind of fault
unlike : (kind : ℕ) → (kind ≡ 2 → ⊥) → Some kind ≡ Some 2 → ⊥
unlike kind f e = let i : kind ≡ 2 = cc in f i

or_none : (b : Bool) (kind : ℕ) → (kind ≡ 2 → ⊥) → let none : Option ℕ = None in (if b then none else Some kind) ≡ Some 2 → ⊥
or_none true kind f e = cc
or_none false kind f e = unlike kind f e

or_some : (b : Bool) (kind : ℕ) → (kind ≡ 2 → ⊥) → let none : Option ℕ = None in (if b then Some kind else none) ≡ Some 2 → ⊥
or_some true kind f e = unlike kind f e
or_some false kind f e = cc

pub kind-end : (x : Lexeme) (blocks : ℕ) (pending : Bool) → is_end x ≡ false → kind_at blocks pending x ≡ Some 2 → ⊥
kind-end (word w) blocks pending other e = cc
kind-end semicolon blocks pending other e = or_none pending 3 (λ h. omega arith) e
kind-end opening blocks true other e = or_none (nat_lt blocks 16) 7 (λ h. omega arith) e
kind-end opening blocks false other e = unlike 4 (λ h. omega arith) e
kind-end closing blocks pending other e = or_some (pending || blocks == 0) 5 (λ h. omega arith) e
kind-end misplaced blocks pending other e = unlike 6 (λ h. omega arith) e
kind-end end blocks pending other e = cc

-- a fault here is of another kind, so it is behind
behind : (n line : ℕ) (k : Option ℕ) (x : Option Fault) (fault : Fault) → (k ≡ Some 2 → ⊥) → (x ≡ Some fault → fault.line ≡ n) → fault.kind ≡ 2 →
    let here : Option ℕ → Option Fault → Option Fault = λ o next. elim o as (λ _. Option Fault) [ Some kind ↦ Some (record { line = line; kind = kind }) | None ↦ next ] in
    here k x ≡ Some fault → fault.line ≡ n
behind n line None x fault other on two e = on e
behind n line (Some kind) x fault other on two e =
    let same : kind ≡ fault.kind = cc in
    absurd (other (ap (λ k. Some k) (same ∙ two)))

in_front : (n : ℕ) (t : Token) (ts : List Token) → is_end t.lexeme ≡ false → EndsOn n ts → EndsOn n (t ∷ ts)
in_front n t ts other s = record {
  line = λ blocks pending fault e two. behind n t.line (kind_at blocks pending t.lexeme) _ fault (kind-end t.lexeme blocks pending other) (λ h. s.line (blocks_after blocks t.lexeme) (is_word t.lexeme) fault h two) two e;
}

no_token : (n : ℕ) → EndsOn n []
no_token n = record { line = λ blocks pending fault e two. absurd (cc) }

end_line : (n : ℕ) (b : Bool) (fault : Fault) → let none : Option ℕ = None in
    elim (if b then Some 2 else none) as (λ _. Option Fault) [ Some kind ↦ Some (record { line = n; kind = kind }) | None ↦ None ] ≡ Some fault → n ≡ fault.line
end_line n true fault e = cc
end_line n false fault e = absurd (cc)

at_end : (n line : ℕ) → line ≡ n → EndsOn n (record { line = line; lexeme = end } ∷ [])
at_end n line is = record { line = λ blocks pending fault e two. sym (end_line line (pending || nat_lt 0 blocks) fault e) ∙ is }

pick : (n : ℕ) (b : Bool) (x y : List Token) → (b ≡ true → EndsOn n x) → (b ≡ false → EndsOn n y) → EndsOn n (if b then x else y)
pick n true x y p q = p refl
pick n false x y p q = q refl

pick_rest : (n : ℕ) (b : Bool) (x y : Rest) → (b ≡ true → EndsOn n x.tokens) → (b ≡ false → EndsOn n y.tokens) → EndsOn n (if b then x else y).tokens
pick_rest n true x y p q = p refl
pick_rest n false x y p q = q refl

on_line : {n m : ℕ} {ts : List Token} → m ≡ n → EndsOn m ts → EndsOn n ts
on_line {n} {m} {ts} e s = subst (λ k. EndsOn k ts) e s

followed-ends : (line : ℕ) (bs : List ℕ) → EndsOn (line + line_feeds bs) (between line bs) → EndsOn (line + line_feeds bs) (followed line bs (between line bs))
followed-ends line [] s = s
followed-ends line (b ∷ bs) s = pick _ (may_follow b) _ _ (λ h. s) (λ h. in_front _ _ _ refl (no_token _))

mutual
  between-ends : (line : ℕ) (bs : List ℕ) → EndsOn (line + line_feeds bs) (between line bs)
  between-ends line [] = at_end _ line (sym (add-zero line))
  between-ends line (b ∷ bs) =
      pick _ (is_blank b) _ _ (λ h. on_line (feeds-below line b bs) (between-ends (below line b) bs)) (λ h. on_line (feeds-same line b bs (blank_ends line b h))
      (pick _ (b == 35) _ _ (λ _. comment-ends line bs) (λ _.
      pick _ (b == 59) _ _ (λ _. in_front _ _ _ refl (between-ends line bs)) (λ _.
      pick _ (b == 123) _ _ (λ _. in_front _ _ _ refl (between-ends line bs)) (λ _.
      pick _ (b == 125) _ _ (λ _. in_front _ _ _ refl (between-ends line bs)) (λ _.
      pick _ (is_quote b) _ _ (λ q. in_front _ _ _ refl (quoted-ends b line bs q)) (λ _.
      pick _ (b == 92) _ _ (λ _. in_front _ _ _ refl (plain_pair-ends line bs)) (λ _. in_front _ _ _ refl (plain-ends (b == 36) line bs)))))))))

  comment-ends : (line : ℕ) (bs : List ℕ) → EndsOn (line + line_feeds bs) (comment line bs)
  comment-ends line [] = at_end _ line (sym (add-zero line))
  comment-ends line (b ∷ bs) =
      pick _ (b == 10) _ _ (λ h. on_line (ap (λ l. l + line_feeds bs) (sym (feed_ends line b h)) ∙ feeds-below line b bs) (between-ends (line + 1) bs))
      (λ h. on_line (feeds-same line b bs (other_ends_no_line line b h)) (comment-ends line bs))

  plain-ends : (dollar : Bool) (line : ℕ) (bs : List ℕ) → EndsOn (line + line_feeds bs) (plain dollar line bs).tokens
  plain-ends dollar line [] = at_end _ line (sym (add-zero line))
  plain-ends dollar line (b ∷ bs) =
      pick_rest _ (is_blank b) _ _ (λ h. on_line (feeds-below line b bs) (between-ends (below line b) bs)) (λ h. on_line (feeds-same line b bs (blank_ends line b h))
      (pick_rest _ (b == 59) _ _ (λ _. in_front _ _ _ refl (between-ends line bs)) (λ _.
      pick_rest _ (b == 123 && not dollar) _ _ (λ _. in_front _ _ _ refl (between-ends line bs)) (λ _.
      pick_rest _ (b == 92) _ _ (λ _. plain_pair-ends line bs) (λ _. plain-ends (b == 36 || b == 123) line bs)))))

  plain_pair-ends : (line : ℕ) (bs : List ℕ) → EndsOn (line + line_feeds bs) (plain_pair line bs).tokens
  plain_pair-ends line [] = at_end _ line (sym (add-zero line))
  plain_pair-ends line (b ∷ bs) = on_line (feeds-below line b bs) (plain-ends false (below line b) bs)

  quoted-ends : (quote line : ℕ) (bs : List ℕ) → is_quote quote ≡ true → EndsOn (line + line_feeds bs) (quoted quote line bs).tokens
  quoted-ends quote line [] q = at_end _ line (sym (add-zero line))
  quoted-ends quote line (b ∷ bs) q =
      pick_rest _ (b == quote) _ _
      (λ h. on_line (feeds-same line b bs (quote_ends_no_line line b (subst (λ n. is_quote n ≡ true) (sym (eqb-true b quote h)) q))) (followed-ends line bs (between-ends line bs)))
      (λ _. pick_rest _ (b == 92) _ _ (λ h. on_line (feeds-same line b bs (backslash_ends_no_line line b h)) (quoted_pair-ends quote line bs q))
      (λ _. on_line (feeds-below line b bs) (quoted-ends quote (below line b) bs q)))

  quoted_pair-ends : (quote line : ℕ) (bs : List ℕ) → is_quote quote ≡ true → EndsOn (line + line_feeds bs) (quoted_pair quote line bs).tokens
  quoted_pair-ends quote line [] q = at_end _ line (sym (add-zero line))
  quoted_pair-ends quote line (b ∷ bs) q = on_line (feeds-below line b bs) (quoted-ends quote (below line b) bs q)

pub last-line : (text : List ℕ) (fault : Fault) → first_fault 0 false (between 1 text) ≡ Some fault → fault.kind ≡ 2 → fault.line ≡ 1 + line_feeds text
last-line text fault e two = (between-ends 1 text).line 0 false fault e two
