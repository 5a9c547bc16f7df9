-- A fault before the end of a text stays, whatever follows.
use Rattle.std.proofs.Common.{◌≡◌, ◌≢◌, ℕ, ◌+◌, Bool, true, false, not, ◌&&◌, ◌||◌, List, [], ◌∷◌, ◌++◌, Option, None, Some, sym}
use Rattle.std.specs.Prelude.{◌==◌, if◌then◌else◌, nat_lt}
use Rattle.directive_text.specs.Internals.Lexemes.{Token, word, end, Rest, followed, between, comment, plain, plain_pair, quoted, quoted_pair}
use Rattle.directive_text.specs.Bytes.{is_blank, is_quote, may_follow, below}
use Rattle.directive_text.specs.Internals.Tokens.{Fault, kind_at, blocks_after, is_word, first_fault}

-- these tokens' first fault, if it isn't the end of the text, is those tokens' too
record Stays (ts us : List Token) : Type 0 where
  fault : (blocks : ℕ) (pending : Bool) (fault : Fault) → first_fault blocks pending ts ≡ Some fault → fault.kind ≢ 2 → first_fault blocks pending us ≡ Some fault

-- what a lexeme's kind of fault leaves to the tokens behind it
told : (n : ℕ) (k : Option ℕ) (x y : Option Fault) (fault : Fault) → ((x ≡ Some fault) → y ≡ Some fault) →
    let here : Option ℕ → Option Fault → Option Fault = λ o next. elim o as (λ _. Option Fault) [ Some kind ↦ Some (record { line = n; kind = kind }) | None ↦ next ] in
    here k x ≡ Some fault → here k y ≡ Some fault
told n None x y fault on e = on e
told n (Some kind) x y fault on e = e

-- one token more in front
in_front : (t : Token) (ts us : List Token) → Stays ts us → Stays (t ∷ ts) (t ∷ us)
in_front t ts us s = record {
  fault = λ blocks pending fault e f. told t.line (kind_at blocks pending t.lexeme) _ _ fault (λ h. s.fault (blocks_after blocks t.lexeme) (is_word t.lexeme) fault h f) e;
}

-- a word in front, whose value may go on
word_in_front : (line : ℕ) (v w : List ℕ) (ts us : List Token) → Stays ts us → Stays (record { line = line; lexeme = word v } ∷ ts) (record { line = line; lexeme = word w } ∷ us)
word_in_front line v w ts us s = record { fault = λ blocks pending fault e f. s.fault blocks true fault e f }

-- the end of the text is a fault of kind 2, or none
pub end_kind : (line : ℕ) (b : Bool) (fault : Fault) → let none : Option ℕ = None in
    elim (if b then Some 2 else none) as (λ _. Option Fault) [ Some kind ↦ Some (record { line = line; kind = kind }) | None ↦ None ] ≡ Some fault → 2 ≡ fault.kind
end_kind line true fault e = cc
end_kind line false fault e = absurd (cc)

at_end : (line : ℕ) (us : List Token) → Stays (record { line = line; lexeme = end } ∷ []) us
at_end line us = record { fault = λ blocks pending fault e f. absurd (f (sym (end_kind line (pending || nat_lt 0 blocks) fault e))) }

same : (ts : List Token) → Stays ts ts
same ts = record { fault = λ blocks pending fault e f. e }

pick : (b : Bool) (x y u v : List Token) → Stays x u → Stays y v → Stays (if b then x else y) (if b then u else v)
pick true x y u v p q = p
pick false x y u v p q = q

pick_rest : (b : Bool) (x y u v : Rest) → Stays x.tokens u.tokens → Stays y.tokens v.tokens → Stays (if b then x else y).tokens (if b then u else v).tokens
pick_rest true x y u v p q = p
pick_rest false x y u v p q = q

module _ (more : List ℕ) where
  followed-stays : (line : ℕ) (bs : List ℕ) → Stays (between line bs) (between line (bs ++ more)) → Stays (followed line bs (between line bs)) (followed line (bs ++ more) (between line (bs ++ more)))
  followed-stays line [] s = at_end line _
  followed-stays line (b ∷ bs) s = pick (may_follow b) _ _ _ _ s (same _)

  mutual
    between-stays : (line : ℕ) (bs : List ℕ) → Stays (between line bs) (between line (bs ++ more))
    between-stays line [] = at_end line _
    between-stays line (b ∷ bs) =
        let on : Stays (between line bs) (between line (bs ++ more)) = between-stays line bs in
        pick (is_blank b) _ _ _ _ (between-stays (below line b) bs)
        (pick (b == 35) _ _ _ _ (comment-stays line bs)
        (pick (b == 59) _ _ _ _ (in_front _ _ _ on)
        (pick (b == 123) _ _ _ _ (in_front _ _ _ on)
        (pick (b == 125) _ _ _ _ (in_front _ _ _ on)
        (pick (is_quote b) _ _ _ _ (word_in_front line _ _ _ _ (quoted-stays b line bs))
        (pick (b == 92) _ _ _ _ (word_in_front line _ _ _ _ (plain_pair-stays line bs)) (word_in_front line _ _ _ _ (plain-stays (b == 36) line bs))))))))

    comment-stays : (line : ℕ) (bs : List ℕ) → Stays (comment line bs) (comment line (bs ++ more))
    comment-stays line [] = at_end line _
    comment-stays line (b ∷ bs) = pick (b == 10) _ _ _ _ (between-stays (line + 1) bs) (comment-stays line bs)

    plain-stays : (dollar : Bool) (line : ℕ) (bs : List ℕ) → Stays (plain dollar line bs).tokens (plain dollar line (bs ++ more)).tokens
    plain-stays dollar line [] = at_end line _
    plain-stays dollar line (b ∷ bs) =
        let on : Stays (between line bs) (between line (bs ++ more)) = between-stays line bs in
        pick_rest (is_blank b) _ _ _ _ (between-stays (below line b) bs)
        (pick_rest (b == 59) _ _ _ _ (in_front _ _ _ on)
        (pick_rest (b == 123 && not dollar) _ _ _ _ (in_front _ _ _ on)
        (pick_rest (b == 92) _ _ _ _ (plain_pair-stays line bs) (plain-stays (b == 36 || b == 123) line bs))))

    plain_pair-stays : (line : ℕ) (bs : List ℕ) → Stays (plain_pair line bs).tokens (plain_pair line (bs ++ more)).tokens
    plain_pair-stays line [] = at_end line _
    plain_pair-stays line (b ∷ bs) = plain-stays false (below line b) bs

    quoted-stays : (quote line : ℕ) (bs : List ℕ) → Stays (quoted quote line bs).tokens (quoted quote line (bs ++ more)).tokens
    quoted-stays quote line [] = at_end line _
    quoted-stays quote line (b ∷ bs) =
        pick_rest (b == quote) _ _ _ _ (followed-stays line bs (between-stays line bs))
        (pick_rest (b == 92) _ _ _ _ (quoted_pair-stays quote line bs) (quoted-stays quote (below line b) bs))

    quoted_pair-stays : (quote line : ℕ) (bs : List ℕ) → Stays (quoted_pair quote line bs).tokens (quoted_pair quote line (bs ++ more)).tokens
    quoted_pair-stays quote line [] = at_end line _
    quoted_pair-stays quote line (b ∷ bs) = quoted-stays quote (below line b) bs

pub faults-stay : (text more : List ℕ) (fault : Fault) → first_fault 0 false (between 1 text) ≡ Some fault → fault.kind ≢ 2 → first_fault 0 false (between 1 (text ++ more)) ≡ Some fault
faults-stay text more fault e f = (between-stays more 1 text).fault 0 false fault e f
