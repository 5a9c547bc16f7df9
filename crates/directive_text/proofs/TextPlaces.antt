-- What a place of a text says, byte by byte.
use Rattle.std.proofs.Common.{◌≡◌, ◌≢◌, ℕ, ◌+◌, ◌<◌, ◌≤◌, Bool, true, false, not, ◌&&◌, ◌||◌, List, [], ◌∷◌, ◌++◌, length, length-drop, drop, get_or, zero, suc, append-nil, add-zero, add-one, eq-eqb, refl, sym, ◌∙◌, ap, subst, inl, inr, append_assoc, arith}
use Rattle.std.specs.Prelude.{◌==◌, ◌⊎◌, if◌then◌else◌}
use Rattle.std.proofs.lemmas.List.{get_or-drop}
use Rattle.std.proofs.lemmas.Bool.{ne_eqb, eqb-true}
use Rattle.directive_text.specs.Bytes.{is_blank, is_quote, below, ends_plain}
use Rattle.directive_text.specs.Internals.ScanSteps.{Passes}
use Rattle.directive_text.specs.Internals.Lexemes.{Token, word, semicolon, opening, closing, Rest, kept, ends, word_at, followed, between, comment, plain, plain_pair, quoted, quoted_pair}

-- bytes in front of bytes in front
pub kept_kept : (a b : List ℕ) (r : Rest) → kept a (kept b r) ≡ kept (a ++ b) r
kept_kept a b r = ap (λ v. record { value = v; tokens = r.tokens }) (sym (append_assoc a b r.value))

pub or_true : (a b : Bool) → (a || b) ≡ true → (a ≡ true) ⊎ (b ≡ true)
or_true true b e = inl refl
or_true false b e = inr e

pub and_true : (a b : Bool) → (a && b) ≡ true → (a ≡ true) × (b ≡ true)
and_true true b e = (refl, e)
and_true false b e = absurd (cc)

pub or_false : (a b : Bool) → (a || b) ≡ false → (a ≡ false) × (b ≡ false)
or_false true b e = absurd (cc)
or_false false b e = (refl, e)

pub not_true : (a : Bool) → not a ≡ true → a ≡ false
not_true true e = absurd (cc)
not_true false e = refl

pub and_true_false : (a : Bool) → (a && true) ≡ false → a ≡ false
and_true_false true e = e
and_true_false false e = refl

pub or_false_right : (a : Bool) → (a || false) ≡ a
or_false_right true = refl
or_false_right false = refl

-- a choice of two rests of a word
pub pick : (line : ℕ) (t : Bool) (x y : Rest) → (if t then word_at line x else word_at line y) ≡ word_at line (if t then x else y)
pick line true x y = refl
pick line false x y = refl

-- the four bytes of white space
pub blank_is : (b : ℕ) → is_blank b ≡ true → ((b ≡ 32) ⊎ (b ≡ 9)) ⊎ ((b ≡ 13) ⊎ (b ≡ 10))
unfolding is_blank
blank_is b e =
    elim (or_true (b == 32 || b == 9 || b == 13) (b == 10) e) [
      | inl h ↦ elim (or_true (b == 32 || b == 9) (b == 13) h) [
        | inl k ↦ elim (or_true (b == 32) (b == 9) k) [ inl l ↦ inl (inl (eqb-true b 32 l)) | inr l ↦ inl (inr (eqb-true b 9 l)) ]
        | inr k ↦ inr (inl (eqb-true b 13 k))
      ]
      | inr h ↦ inr (inr (eqb-true b 10 h))
    ]

-- a byte inside a plain word ends no line
pub same_line : (dollar : Bool) (line b : ℕ) → ends_plain dollar b ≡ false → below line b ≡ line
unfolding ends_plain is_blank below
same_line dollar line b e =
    let h = or_false (is_blank b || b == 59) (b == 123 && not dollar) e in
    let k = or_false (is_blank b) (b == 59) h.0 in
    rw ((or_false (b == 32 || b == 9 || b == 13) (b == 10) k.0).1) refl

-- a byte that ends a plain word means what it means between words
pub plain-end : (dollar : Bool) (line b : ℕ) (bs : List ℕ) → ends_plain dollar b ≡ true → plain dollar line (b ∷ bs) ≡ ends (between line (b ∷ bs))
unfolding ends_plain is_blank below
plain-end dollar line b bs e =
    let P : ℕ → Type 0 = λ n. plain dollar line (n ∷ bs) ≡ ends (between line (n ∷ bs)) in
    elim (or_true (is_blank b || b == 59) (b == 123 && not dollar) e) [
      | inl either ↦ elim (or_true (is_blank b) (b == 59) either) [
        | inl blank ↦ elim (blank_is b blank) [
          | inl h ↦ elim h [ inl k ↦ subst P (sym k) refl | inr k ↦ subst P (sym k) refl ]
          | inr h ↦ elim h [ inl k ↦ subst P (sym k) refl | inr k ↦ subst P (sym k) refl ]
        ]
        | inr h ↦ subst P (sym (eqb-true b 59 h)) refl
      ]
      | inr both ↦
          let h = and_true (b == 123) (not dollar) both in
          subst P (sym (eqb-true b 123 h.0))
          (subst (λ d. plain d line (123 ∷ bs) ≡ ends (between line (123 ∷ bs))) (sym (not_true dollar h.1)) refl)
    ]

-- any other byte but a backslash belongs to the word
pub plain-byte : (dollar : Bool) (line b : ℕ) (bs : List ℕ) → ends_plain dollar b ≡ false → (b == 92) ≡ false → plain dollar line (b ∷ bs) ≡ kept (b ∷ []) (plain (b == 36 || b == 123) line bs)
unfolding ends_plain
plain-byte dollar line b bs e f =
    let h = or_false (is_blank b || b == 59) (b == 123 && not dollar) e in
    let k = or_false (is_blank b) (b == 59) h.0 in
    rw (k.0, k.1, h.1, f) refl

-- a backslash begins a pair
pub plain-backslash : (dollar : Bool) (line : ℕ) (bs : List ℕ) → plain dollar line (92 ∷ bs) ≡ plain_pair line bs
unfolding is_blank
plain-backslash dollar line bs = refl

-- where nothing else is begun, a plain word is
pub between-plain : (line b : ℕ) (bs : List ℕ) → ends_plain false b ≡ false → (b == 35) ≡ false → (b == 125) ≡ false → is_quote b ≡ false → between line (b ∷ bs) ≡ word_at line (plain false line (b ∷ bs))
unfolding ends_plain
between-plain line b bs e f g h =
    let i = or_false (is_blank b || b == 59) (b == 123 && true) e in
    let j = or_false (is_blank b) (b == 59) i.0 in
    let k = and_true_false (b == 123) i.1 in
    rw (j.0, f, j.1, k, g, h) (pick line (b == 92) (plain_pair line bs) (kept (b ∷ []) (plain (b == 36) line bs))
    ∙ ap (λ d. word_at line (if b == 92 then plain_pair line bs else kept (b ∷ []) (plain d line bs))) (sym (or_false_right (b == 36))))

-- the LF of a comment ends it
pub comment_to : (line n : ℕ) (bs : List ℕ) → ((k : ℕ) → k < n → get_or bs k 0 ≡ 10 → ⊥) → comment line bs ≡ comment line (drop n bs)
comment_to line zero bs none = refl
comment_to line (suc n) [] none = refl
comment_to line (suc n) (b ∷ bs) none =
    rw (ne_eqb b 10 (none 0 (omega arith))) (comment_to line n bs (λ k h. none (suc k) (omega arith)))

pub comment_end : (line : ℕ) (bs : List ℕ) → (0 < length bs → get_or bs 0 0 ≡ 10) → comment line bs ≡ between line bs
unfolding is_blank below
comment_end line [] e = refl
comment_end line (b ∷ bs) e = subst (λ n. comment line (n ∷ bs) ≡ between line (n ∷ bs)) (sym (e (omega arith))) refl

pub comment_passed : (line n : ℕ) (bs : List ℕ) → ((k : ℕ) → k < n → get_or bs k 0 ≡ 10 → ⊥) → n ≤ length bs → (n < length bs → get_or bs n 0 ≡ 10) → comment line bs ≡ between line (drop n bs)
comment_passed line n bs none within end =
    comment_to line n bs none ∙ comment_end line (drop n bs) (λ h. get_or-drop n bs 0 0 ∙ ap (λ k. get_or bs k 0) (add-zero n) ∙ end (omega (arith, h, length-drop n bs)))

-- `#` begins a comment
pub between-hash : (line : ℕ) (bs : List ℕ) → between line (35 ∷ bs) ≡ comment line bs
unfolding is_blank
between-hash line bs = refl

-- white space says nothing
pub between-blank : (line b : ℕ) (bs : List ℕ) → is_blank b ≡ true → between line (b ∷ bs) ≡ between (below line b) bs
between-blank line b bs e = rw e refl

-- the bytes of a plain word
pub pass-backslash : {line b line_after : ℕ} {left left_after : List ℕ} → (dollar : Bool) → Passes line left b line_after left_after → b ≡ 92 → plain dollar line left ≡ plain_pair line_after left_after
unfolding is_blank below
pass-backslash {line} {b} {line_after} {left} {left_after} dollar p e =
    rw (p.bytes, p.lines, e) refl

pub pass-plain : {line b line_after : ℕ} {left left_after : List ℕ} → (dollar : Bool) → Passes line left b line_after left_after → ends_plain dollar b ≡ false → b ≢ 92 → plain dollar line left ≡ kept (b ∷ []) (plain (b == 36 || b == 123) line_after left_after)
pass-plain {line} {b} {line_after} {left} {left_after} dollar p e f =
    let s : line_after ≡ line = p.lines ∙ same_line dollar line b e in
    rw (p.bytes, s) (plain-byte dollar line b left_after e (ne_eqb b 92 f))

pub plain-end-at : (dollar : Bool) (line b : ℕ) (left rest : List ℕ) → left ≡ b ∷ rest → ends_plain dollar b ≡ true → plain dollar line left ≡ ends (between line left)
plain-end-at dollar line b left rest is e = rw is (plain-end dollar line b rest e)

-- the bytes of a quoted word
pub quote_ends_no_line : (line b : ℕ) → is_quote b ≡ true → below line b ≡ line
unfolding is_quote below
quote_ends_no_line line b e =
    elim (or_true (b == 34) (b == 39) e) [
      | inl h ↦ subst (λ n. below line n ≡ line) (sym (eqb-true b 34 h)) refl
      | inr h ↦ subst (λ n. below line n ≡ line) (sym (eqb-true b 39 h)) refl
    ]

pub pass-quote : {line b line_after : ℕ} {left left_after : List ℕ} → (quote : ℕ) → Passes line left b line_after left_after → is_quote quote ≡ true → b ≡ quote → quoted quote line left ≡ ends (followed line_after left_after (between line_after left_after))
pass-quote {line} {b} {line_after} {left} {left_after} quote p q e =
    let s : line_after ≡ line = p.lines ∙ quote_ends_no_line line b (subst (λ n. is_quote n ≡ true) (sym e) q) in
    let t : (b == quote) ≡ true = eq-eqb b quote e in
    rw (p.bytes, s, t) refl

pub pass-quoted_backslash : {line b line_after : ℕ} {left left_after : List ℕ} → (quote : ℕ) → Passes line left b line_after left_after → b ≢ quote → b ≡ 92 → quoted quote line left ≡ quoted_pair quote line_after left_after
unfolding below
pass-quoted_backslash {line} {b} {line_after} {left} {left_after} quote p f e =
    let s : line_after ≡ line = rw (p.lines, e) refl in
    let t : (b == 92) ≡ true = eq-eqb b 92 e in
    rw (p.bytes, s, ne_eqb b quote f, t) refl

-- white space and comments
pub pass-hash : {line b line_after : ℕ} {left left_after : List ℕ} → Passes line left b line_after left_after → b ≡ 35 → between line left ≡ comment line_after left_after
unfolding is_blank below
pass-hash {line} {b} {line_after} {left} {left_after} p e = rw (p.bytes, p.lines, e) refl

-- one byte fewer is left
pub length-next : {line b line_after : ℕ} {left left_after : List ℕ} → Passes line left b line_after left_after → length left ≡ length left_after + 1
length-next p = rw p.bytes (sym (add-one (length _)))

-- an empty rest of a word
pub kept-ends : (value : List ℕ) (tokens : List Token) → kept value (ends tokens) ≡ record { value = value; tokens = tokens }
kept-ends value tokens = ap (λ v. record { value = v; tokens = tokens }) (append-nil value)

-- a plain word, once it is read
pub word-plain : (line b : ℕ) (left rest value : List ℕ) (tokens : List Token) → left ≡ b ∷ rest → ends_plain false b ≡ false → (b ≢ 35) × (b ≢ 125) × (is_quote b ≡ false) → plain false line left ≡ kept value (ends tokens) → between line left ≡ record { line = line; lexeme = word value } ∷ tokens
word-plain line b left rest value tokens is inside begins read =
    rw is (between-plain line b rest inside (ne_eqb b 35 begins.0) (ne_eqb b 125 begins.1) begins.2)
    ∙ ap (word_at line) (ap (plain false line) (sym is) ∙ read ∙ kept-ends value tokens)

-- a quoted word, once it is read
pub between-quote : {line b line_after : ℕ} {left left_after : List ℕ} → Passes line left b line_after left_after → is_quote b ≡ true → between line left ≡ word_at line (quoted b line_after left_after)
unfolding is_quote is_blank below
between-quote {line} {b} {line_after} {left} {left_after} p e =
    rw (p.bytes, p.lines) (elim (or_true (b == 34) (b == 39) e) [
      | inl h ↦ subst (λ n. between line (n ∷ left_after) ≡ word_at line (quoted n (below line n) left_after)) (sym (eqb-true b 34 h)) refl
      | inr h ↦ subst (λ n. between line (n ∷ left_after) ≡ word_at line (quoted n (below line n) left_after)) (sym (eqb-true b 39 h)) refl
    ])

pub word-quoted : {line b line_after : ℕ} {left left_after : List ℕ} → (value : List ℕ) (tokens : List Token) → Passes line left b line_after left_after → is_quote b ≡ true → quoted b line_after left_after ≡ kept value (ends tokens) → between line left ≡ record { line = line; lexeme = word value } ∷ tokens
word-quoted {line} value tokens p e read = between-quote p e ∙ ap (word_at line) (read ∙ kept-ends value tokens)

-- the lexemes of one byte
pub mark-semicolon : {line b line_after : ℕ} {left left_after : List ℕ} → Passes line left b line_after left_after → b ≡ 59 → between line left ≡ record { line = line; lexeme = semicolon } ∷ between line_after left_after
unfolding is_blank below
mark-semicolon p e = rw (p.bytes, p.lines, e) refl

pub mark-opening : {line b line_after : ℕ} {left left_after : List ℕ} → Passes line left b line_after left_after → b ≡ 123 → between line left ≡ record { line = line; lexeme = opening } ∷ between line_after left_after
unfolding is_blank below
mark-opening p e = rw (p.bytes, p.lines, e) refl

pub mark-closing : {line b line_after : ℕ} {left left_after : List ℕ} → Passes line left b line_after left_after → b ≡ 125 → between line left ≡ record { line = line; lexeme = closing } ∷ between line_after left_after
unfolding is_blank below
mark-closing p e = rw (p.bytes, p.lines, e) refl

-- a byte that is none of those belongs to a plain word
pub inside-plain : (b : ℕ) → is_blank b ≡ false → b ≢ 59 → b ≢ 123 → ends_plain false b ≡ false
unfolding ends_plain
inside-plain b e f g = rw (e, ne_eqb b 59 f, ne_eqb b 123 g) refl

-- a test is true or false
pub tells : (b : Bool) → (b ≡ true) ⊎ (b ≡ false)
tells true = inl refl
tells false = inr refl
