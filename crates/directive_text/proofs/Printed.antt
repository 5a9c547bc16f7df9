-- What is printed reads back.
use Rattle.std.proofs.Common.{◌≡◌, ◌≢◌, ℕ, zero, suc, ◌+◌, ◌-◌, ◌<◌, ◌≤◌, Bool, true, false, ◌||◌, List, [], ◌∷◌, ◌++◌, Option, None, Some, map, replicate, refl, sym, ◌∙◌, ap, subst, inl, inr, append_assoc, append-nil, add-zero, arith}
use Rattle.std.specs.Prelude.{◌==◌}
use Rattle.std.specs.List.{list_all, flat_map}
use Rattle.std.proofs.lemmas.Bool.{ne_eqb, eqb-true, lt-ltb}
use Rattle.directive_text.specs.declared.tree.Directive.{Directive}
use Rattle.directive_text.specs.declared.tree.Directive.TheViews.{roll-Directive}
use Rattle.directive_text.specs.declared.tree.Directive.TheFolds.{ind-Directive, map-Directive}
use Rattle.directive_text.specs.Bytes.{is_blank, is_quote, may_follow, below, unescaped, ends_plain}
use Rattle.directive_text.specs.Internals.Lexemes.{Token, word, semicolon, opening, closing, kept, ends, word_at, followed, between, plain, quoted}
use Rattle.directive_text.specs.Internals.Tokens.{Fault, kind_at, blocks_after, is_word, first_fault}
use Rattle.directive_text.specs.Marks.{Mark, begins, has, ended, opened, closed, directive_marks, marks_of}
use Rattle.directive_text.specs.Internals.Tokens.{token_marks}
use Rattle.directive_text.specs.Printing.{is_plain, is_plain_word, in_quotes, word_text, marks_text, printed, MarksFit, Fits}
use Rattle.directive_text.specs.Internals.Tokens.{Says}
use Rattle.directive_text.proofs.TextPlaces.{or_false, and_true, not_true, tells, plain-byte, between-plain}
use Rattle.directive_text.proofs.Trees.{marks-ended, marks-block}

-- what a byte of a plain word isn't
record PlainByte (b : ℕ) : Type 0 where
  ends : ends_plain false b ≡ false
  quote : is_quote b ≡ false
  hash : (b == 35) ≡ false
  dollar : (b == 36) ≡ false
  backslash : (b == 92) ≡ false
  opening : (b == 123) ≡ false
  closing : (b == 125) ≡ false

plain_byte : (b : ℕ) → is_plain b ≡ true → PlainByte b
unfolding ends_plain
plain_byte b e =
    let a = or_false (is_blank b || is_quote b || b == 35 || b == 36 || b == 59 || b == 92 || b == 123) (b == 125) (not_true _ e) in
    let c = or_false (is_blank b || is_quote b || b == 35 || b == 36 || b == 59 || b == 92) (b == 123) a.0 in
    let d = or_false (is_blank b || is_quote b || b == 35 || b == 36 || b == 59) (b == 92) c.0 in
    let f = or_false (is_blank b || is_quote b || b == 35 || b == 36) (b == 59) d.0 in
    let g = or_false (is_blank b || is_quote b || b == 35) (b == 36) f.0 in
    let h = or_false (is_blank b || is_quote b) (b == 35) g.0 in
    let i = or_false (is_blank b) (is_quote b) h.0 in
    record {
      ends = rw (i.0, f.1, c.1) refl;
      quote = i.1;
      hash = h.1;
      dollar = g.1;
      backslash = d.1;
      opening = c.1;
      closing = a.1;
    }

-- the bytes of a plain word, up to the space behind it
plain-run : (bs : List ℕ) (line : ℕ) (x : List ℕ) → list_all is_plain bs ≡ true → plain false line (bs ++ 32 ∷ x) ≡ kept bs (ends (between line x))
unfolding is_blank below
plain-run [] line x e = refl
plain-run (b ∷ bs) line x e =
    let h = and_true (is_plain b) (list_all is_plain bs) e in
    let p = plain_byte b h.0 in
    plain-byte false line b (bs ++ 32 ∷ x) p.ends p.backslash
    ∙ ap (λ d. kept (b ∷ []) (plain d line (bs ++ 32 ∷ x))) (rw (p.dollar, p.opening) refl)
    ∙ ap (kept (b ∷ [])) (plain-run bs line x h.1)

-- a byte in quotes
quoted-one : (b line : ℕ) (y : List ℕ) → quoted 34 line (in_quotes b ++ y) ≡ kept (b ∷ []) (quoted 34 line y)
unfolding unescaped below
quoted-one b line y =
    let P : ℕ → Type 0 = λ n. quoted 34 line (in_quotes n ++ y) ≡ kept (n ∷ []) (quoted 34 line y) in
    elim (tells (b == 34)) [
      | inl q ↦ subst P (sym (eqb-true b 34 q)) refl
      | inr q ↦ elim (tells (b == 92)) [
        | inl r ↦ subst P (sym (eqb-true b 92 r)) refl
        | inr r ↦ elim (tells (b == 10)) [
          | inl s ↦ subst P (sym (eqb-true b 10 s)) refl
          | inr s ↦ rw (q, r, s, q, r, s) refl
        ]
      ]
    ]

-- the bytes of a quoted word, up to the closing quote
quoted-run : (bs : List ℕ) (line : ℕ) (x : List ℕ) → quoted 34 line (flat_map in_quotes bs ++ 34 ∷ x) ≡ kept bs (ends (followed line x (between line x)))
quoted-run [] line x = refl
quoted-run (b ∷ bs) line x =
    ap (quoted 34 line) (append_assoc (in_quotes b) (flat_map in_quotes bs) (34 ∷ x))
    ∙ quoted-one b line (flat_map in_quotes bs ++ 34 ∷ x)
    ∙ ap (kept (b ∷ [])) (quoted-run bs line x)

-- a space behind a word says nothing
followed-space : (line : ℕ) (y : List ℕ) → followed line (32 ∷ y) (between line (32 ∷ y)) ≡ between line y
unfolding may_follow is_blank below
followed-space line y = refl

between-double : (line : ℕ) (z : List ℕ) → between line (34 ∷ z) ≡ word_at line (quoted 34 line z)
unfolding is_blank is_quote
between-double line z = refl

-- a printed word is read
word-plain_text : (w : List ℕ) (line : ℕ) (y : List ℕ) → is_plain_word w ≡ true → between line (w ++ 32 ∷ y) ≡ record { line = line; lexeme = word w } ∷ between line y
word-plain_text [] line y e = absurd (cc)
word-plain_text (b ∷ bs) line y e =
    let h = and_true (is_plain b) (list_all is_plain bs) e in
    let p = plain_byte b h.0 in
    between-plain line b (bs ++ 32 ∷ y) p.ends p.hash p.closing p.quote
    ∙ ap (word_at line) (plain-run (b ∷ bs) line y e)
    ∙ ap (λ v. record { line = line; lexeme = word v } ∷ between line y) (append-nil (b ∷ bs))

word-quoted_text : (w : List ℕ) (line : ℕ) (y : List ℕ) → between line ((34 ∷ flat_map in_quotes w ++ 34 ∷ []) ++ 32 ∷ y) ≡ record { line = line; lexeme = word w } ∷ between line y
word-quoted_text w line y =
    ap (λ z. between line (34 ∷ z)) (append_assoc (flat_map in_quotes w) (34 ∷ []) (32 ∷ y))
    ∙ between-double line (flat_map in_quotes w ++ 34 ∷ 32 ∷ y)
    ∙ ap (word_at line) (quoted-run w line (32 ∷ y))
    ∙ ap (λ v. record { line = line; lexeme = word v } ∷ followed line (32 ∷ y) (between line (32 ∷ y))) (append-nil w)
    ∙ ap (λ ts. record { line = line; lexeme = word w } ∷ ts) (followed-space line y)

word-read : (w : List ℕ) (line : ℕ) (y : List ℕ) → between line (word_text w ++ 32 ∷ y) ≡ record { line = line; lexeme = word w } ∷ between line y
word-read w line y =
    elim (tells (is_plain_word w)) [
      | inl h ↦ rw h (word-plain_text w line y h)
      | inr h ↦ rw h (word-quoted_text w line y)
    ]

-- LFs lead down to a line
lines-read : (k line : ℕ) (x : List ℕ) → between line (replicate k 10 ++ x) ≡ between (line + k) x
unfolding is_blank below
lines-read zero line x = rw add-zero refl
lines-read (suc k) line x = lines-read k (line + 1) x ∙ ap (λ l. between l x) (omega arith)

lines-down : (line n : ℕ) (x : List ℕ) → line ≤ n → between line (replicate (n - line) 10 ++ x) ≡ between n x
lines-down line n x h = lines-read (n - line) line x ∙ ap (λ l. between l x) (omega arith)

-- words are read
words-marks : (ws : List (List ℕ)) (line : ℕ) (ms : List Mark) → token_marks true (between line (marks_text line (map has ws ++ ms))) ≡ map has ws ++ token_marks true (between line (marks_text line ms))
words-marks [] line ms = refl
words-marks (w ∷ ws) line ms =
    ap (token_marks true) (word-read w line (marks_text line (map has ws ++ ms)))
    ∙ ap (λ r. has w ∷ r) (words-marks ws line ms)

words-faults : (ws : List (List ℕ)) (blocks line : ℕ) (ms : List Mark) → first_fault blocks true (between line (marks_text line (map has ws ++ ms))) ≡ first_fault blocks true (between line (marks_text line ms))
words-faults [] blocks line ms = refl
words-faults (w ∷ ws) blocks line ms =
    ap (first_fault blocks true) (word-read w line (marks_text line (map has ws ++ ms)))
    ∙ words-faults ws blocks line ms

words-fit : (ws : List (List ℕ)) (blocks line : ℕ) (ms : List Mark) → MarksFit line blocks true (map has ws ++ ms) → MarksFit line blocks true ms
words-fit [] blocks line ms f = f
words-fit (w ∷ ws) blocks line ms f = words-fit ws blocks line ms f

-- the begin of a directive, up to what ends it
head-marks : (w : List ℕ) (ws : List (List ℕ)) (line n : ℕ) (ms : List Mark) → line ≤ n →
    token_marks false (between line (marks_text line (begins n ∷ has w ∷ map has ws ++ ms))) ≡ begins n ∷ has w ∷ map has ws ++ token_marks true (between n (marks_text n ms))
head-marks w ws line n ms h =
    ap (token_marks false) (lines-down line n (marks_text n (has w ∷ map has ws ++ ms)) h ∙ word-read w n (marks_text n (map has ws ++ ms)))
    ∙ ap (λ r. begins n ∷ has w ∷ r) (words-marks ws n ms)

head-faults : (w : List ℕ) (ws : List (List ℕ)) (blocks line n : ℕ) (ms : List Mark) → line ≤ n →
    first_fault blocks false (between line (marks_text line (begins n ∷ has w ∷ map has ws ++ ms))) ≡ first_fault blocks true (between n (marks_text n ms))
head-faults w ws blocks line n ms h =
    ap (first_fault blocks false) (lines-down line n (marks_text n (has w ∷ map has ws ++ ms)) h ∙ word-read w n (marks_text n (map has ws ++ ms)))
    ∙ words-faults ws blocks n ms

-- From a line on, the text of marks reads as these marks, up to the line at which others follow.
record ReadsOn (blocks line : ℕ) (front ms : List Mark) : Type 0 where
  after : ℕ
  fit : MarksFit after blocks false ms
  marks : token_marks false (between line (marks_text line (front ++ ms))) ≡ front ++ token_marks false (between after (marks_text after ms))
  faults : first_fault blocks false (between line (marks_text line (front ++ ms))) ≡ first_fault blocks false (between after (marks_text after ms))

abbrev IsRead : Directive → Type 0
IsRead d = (blocks line : ℕ) (ms : List Mark) → MarksFit line blocks false (directive_marks d ++ ms) → ReadsOn blocks line (directive_marks d) ms

read-all : (ds : List ((d : Directive) × IsRead d)) (blocks line : ℕ) (ms : List Mark) → MarksFit line blocks false (marks_of (map (λ e. e.0) ds) ++ ms) → ReadsOn blocks line (marks_of (map (λ e. e.0) ds)) ms
read-all [] blocks line ms f = record { after = line; fit = f; marks = refl; faults = refl }
read-all (d ∷ ds) blocks line ms f =
    let D : List Mark = directive_marks d.0 in
    let R : List Mark = marks_of (map (λ e. e.0) ds) in
    let a : (D ++ R) ++ ms ≡ D ++ (R ++ ms) = append_assoc D R ms in
    let one = d.1 blocks line (R ++ ms) (subst (λ k. MarksFit line blocks false k) a f) in
    let rest = read-all ds blocks one.after ms one.fit in
    record {
      after = rest.after;
      fit = rest.fit;
      marks =
          ap (λ k. token_marks false (between line (marks_text line k))) a ∙ one.marks ∙ ap (λ k. D ++ k) rest.marks
          ∙ sym (append_assoc D R (token_marks false (between rest.after (marks_text rest.after ms))));
      faults = ap (λ k. first_fault blocks false (between line (marks_text line k))) a ∙ one.faults ∙ rest.faults;
    }

-- the bytes that end a directive or a block
pub semicolon-read : (line : ℕ) (y : List ℕ) → between line (59 ∷ y) ≡ record { line = line; lexeme = semicolon } ∷ between line y
unfolding is_blank
semicolon-read line y = refl

pub opening-read : (line : ℕ) (y : List ℕ) → between line (123 ∷ y) ≡ record { line = line; lexeme = opening } ∷ between line y
unfolding is_blank
opening-read line y = refl

pub closing-read : (line : ℕ) (y : List ℕ) → between line (125 ∷ y) ≡ record { line = line; lexeme = closing } ∷ between line y
unfolding is_blank
closing-read line y = refl

-- a token that is no fault is passed over
passed-fault : (blocks : ℕ) (pending : Bool) (t : Token) (ts : List Token) → kind_at blocks pending t.lexeme ≡ None → first_fault blocks pending (t ∷ ts) ≡ first_fault (blocks_after blocks t.lexeme) (is_word t.lexeme) ts
passed-fault blocks pending t ts e =
    let next : Option Fault = first_fault (blocks_after blocks t.lexeme) (is_word t.lexeme) ts in
    subst (λ (k : Option ℕ). elim k as (λ _. Option Fault) [ Some kind ↦ Some (record { line = t.line; kind = kind }) | None ↦ next ] ≡ next) (sym e) refl

pub opening-fault : (blocks line : ℕ) (ts : List Token) → blocks < 16 → first_fault blocks true (record { line = line; lexeme = opening } ∷ ts) ≡ first_fault (blocks + 1) false ts
opening-fault blocks line ts h = passed-fault blocks true (record { line = line; lexeme = opening }) ts (rw (lt-ltb blocks 16 h) refl)

one_less : (blocks : ℕ) → blocks + 1 - 1 ≡ blocks
one_less blocks = omega arith

some_block : (blocks : ℕ) → blocks + 1 ≢ 0
some_block blocks e = omega arith

pub closing-fault : (blocks line : ℕ) (ts : List Token) → first_fault (blocks + 1) false (record { line = line; lexeme = closing } ∷ ts) ≡ first_fault blocks false ts
closing-fault blocks line ts =
    passed-fault (blocks + 1) false (record { line = line; lexeme = closing }) ts (rw (ne_eqb (blocks + 1) 0 (some_block blocks)) refl)
    ∙ ap (λ b. first_fault b false ts) (one_less blocks)

-- a directive that `;` ends
read-ended : (words : List (List ℕ)) (n : ℕ) (blocks line : ℕ) (ms : List Mark) → MarksFit line blocks false ((begins n ∷ map has words ++ ended ∷ []) ++ ms) → ReadsOn blocks line (begins n ∷ map has words ++ ended ∷ []) ms
read-ended [] n blocks line ms f = absurd (cc (f.1.0))
read-ended (w ∷ ws) n blocks line ms f =
    let H : List Mark = begins n ∷ has w ∷ map has ws in
    let a : (H ++ ended ∷ []) ++ ms ≡ H ++ (ended ∷ ms) = append_assoc H (ended ∷ []) ms in
    let g = subst (λ k. MarksFit line blocks false k) a f in
    record {
      after = n;
      fit = (words-fit ws blocks n (ended ∷ ms) g.1).1;
      marks =
          ap (λ k. token_marks false (between line (marks_text line k))) a
          ∙ head-marks w ws line n (ended ∷ ms) g.0
          ∙ ap (λ ts. H ++ token_marks true ts) (semicolon-read n (marks_text n ms))
          ∙ sym (append_assoc H (ended ∷ []) (token_marks false (between n (marks_text n ms))));
      faults =
          ap (λ k. first_fault blocks false (between line (marks_text line k))) a
          ∙ head-faults w ws blocks line n (ended ∷ ms) g.0
          ∙ ap (first_fault blocks true) (semicolon-read n (marks_text n ms));
    }

-- a directive with a block
regroup : (H I ms : List Mark) → (H ++ (opened ∷ I ++ closed ∷ [])) ++ ms ≡ H ++ (opened ∷ (I ++ (closed ∷ ms)))
regroup H I ms = append_assoc H (opened ∷ I ++ closed ∷ []) ms ∙ ap (λ k. H ++ (opened ∷ k)) (append_assoc I (closed ∷ []) ms)

read-block : (words : List (List ℕ)) (n : ℕ) (es : List ((d : Directive) × IsRead d)) (blocks line : ℕ) (ms : List Mark) →
    MarksFit line blocks false ((begins n ∷ map has words ++ (opened ∷ marks_of (map (λ e. e.0) es) ++ closed ∷ [])) ++ ms) → ReadsOn blocks line (begins n ∷ map has words ++ (opened ∷ marks_of (map (λ e. e.0) es) ++ closed ∷ [])) ms
read-block [] n es blocks line ms f = absurd (cc (f.1.0))
read-block (w ∷ ws) n es blocks line ms f =
    let H : List Mark = begins n ∷ has w ∷ map has ws in
    let I : List Mark = marks_of (map (λ e. e.0) es) in
    let g = subst (λ k. MarksFit line blocks false k) (regroup H I ms) f in
    let h = words-fit ws blocks n (opened ∷ (I ++ (closed ∷ ms))) g.1 in
    let inner = read-all es (blocks + 1) n (closed ∷ ms) h.2 in
    let T : List Mark = token_marks false (between inner.after (marks_text inner.after ms)) in
    record {
      after = inner.after;
      fit = subst (λ k. MarksFit inner.after k false ms) (one_less blocks) inner.fit;
      marks =
          ap (λ k. token_marks false (between line (marks_text line k))) (regroup H I ms)
          ∙ head-marks w ws line n (opened ∷ (I ++ (closed ∷ ms))) g.0
          ∙ ap (λ ts. H ++ token_marks true ts) (opening-read n (marks_text n (I ++ (closed ∷ ms))))
          ∙ ap (λ k. H ++ (opened ∷ k)) (inner.marks ∙ ap (λ ts. I ++ token_marks false ts) (closing-read inner.after (marks_text inner.after ms)))
          ∙ sym (regroup H I T);
      faults =
          ap (λ k. first_fault blocks false (between line (marks_text line k))) (regroup H I ms)
          ∙ head-faults w ws blocks line n (opened ∷ (I ++ (closed ∷ ms))) g.0
          ∙ ap (first_fault blocks true) (opening-read n (marks_text n (I ++ (closed ∷ ms))))
          ∙ opening-fault blocks n (between n (marks_text n (I ++ (closed ∷ ms)))) h.1
          ∙ inner.faults
          ∙ ap (first_fault (blocks + 1) false) (closing-read inner.after (marks_text inner.after ms))
          ∙ closing-fault blocks inner.after (between inner.after (marks_text inner.after ms));
    }

-- each directive
abbrev MarksRead : List Mark → Type 0
MarksRead D = (blocks line : ℕ) (ms : List Mark) → MarksFit line blocks false (D ++ ms) → ReadsOn blocks line D ms

is_read : (d : Directive) → IsRead d
is_read = ind-Directive IsRead (λ x y is. subst (λ z. IsRead (roll-Directive z)) is
    (elim y.block as (λ b. IsRead (roll-Directive (map-Directive ((d : Directive) × IsRead d) Directive (λ e. e.0) (record { words = y.words; line = y.line; block = b })))) [
      | None ↦ subst MarksRead (sym (marks-ended y.words y.line)) (read-ended y.words y.line)
      | Some es ↦ subst MarksRead (sym (marks-block y.words y.line (map (λ e. e.0) es))) (read-block y.words y.line es)
    ]))

with_reading : (ds : List Directive) → (es : List ((d : Directive) × IsRead d)) × (map (λ e. e.0) es ≡ ds)
with_reading [] = ([], refl)
with_reading (d ∷ ds) = let p = with_reading ds in ((d, is_read d) ∷ p.0, ap (λ r. d ∷ r) p.1)

-- the canonical text of a tree spells it
pub printed-spells : (ds : List Directive) → Fits ds → Says (printed ds) ds
printed-spells ds f =
    let p = with_reading ds in
    let a : marks_of (map (λ e. e.0) p.0) ++ [] ≡ marks_of ds = append-nil _ ∙ ap marks_of p.1 in
    let r = read-all p.0 0 1 [] (subst (λ k. MarksFit 1 0 false k) (sym a) f) in
    record {
      sound = subst (λ k. first_fault 0 false (between 1 (marks_text 1 k)) ≡ None) a r.faults;
      marks = subst (λ k. token_marks false (between 1 (marks_text 1 k)) ≡ k) a r.marks;
    }
