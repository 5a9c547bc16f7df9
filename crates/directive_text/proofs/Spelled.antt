-- Each spelling of a tree reads as that tree.
use Rattle.std.proofs.Common.{◌≡◌, ◌≢◌, ℕ, ◌+◌, ◌<◌, Bool, true, false, not, ◌||◌, List, [], ◌∷◌, ◌++◌, map, refl, sym, ◌∙◌, ap, subst, inl, inr, append_assoc, append-nil, add-zero, add_assoc, eq-eqb, arith}
use Rattle.std.specs.Prelude.{◌==◌, if◌then◌else◌}
use Rattle.std.specs.List.{list_all, flat_map}
use Rattle.std.proofs.lemmas.Bool.{eqb-true}
use Rattle.std.proofs.lemmas.List.Sums.{sum_by-cons, sum_by-append}
use Rattle.directive_text.specs.declared.tree.Directive.{Directive}
use Rattle.directive_text.specs.Bytes.{is_blank, is_quote, may_follow, below, unescaped, ends_plain}
use Rattle.directive_text.specs.Internals.Lexemes.{word, end, kept, ends, word_at, followed, between, comment, plain, quoted}
use Rattle.directive_text.specs.Internals.Tokens.{first_fault}
use Rattle.directive_text.specs.Marks.{Mark, begins, has, ended, opened, closed, directive_marks, marks_of}
use Rattle.directive_text.specs.Internals.Tokens.{token_marks}
use Rattle.directive_text.specs.Internals.Tokens.{Says}
use Rattle.directive_text.specs.Spelling.{line_feeds, Piece, itself, escaped, piece_text, piece_value, stays_quoted, ends_before, begins_plain, WordText, GapText, nothing, blank, first, WordsText, no_word, one_word, DirectiveText, simple, block, DirectivesText, no_directive, one_directive, Spells, whole, in_comment}
use Rattle.directive_text.specs.Spelling as spelling
use Rattle.directive_text.proofs.TextPlaces.{kept_kept, or_true, or_false, and_true, not_true, same_line, plain-end, plain-byte, plain-backslash, between-plain, between-hash, between-blank, between-quote, quote_ends_no_line}
use Rattle.directive_text.proofs.LastLine.{feeds-below, feeds-same, feed_ends, other_ends_no_line, backslash_ends_no_line}
use Rattle.directive_text.proofs.Printed.{semicolon-read, opening-read, closing-read, opening-fault, closing-fault}
use Rattle.directive_text.proofs.Trees.{marks-ended, marks-block}

-- LFs of two texts
pub feeds-append : (line : ℕ) (a b : List ℕ) → line + line_feeds a + line_feeds b ≡ line + line_feeds (a ++ b)
feeds-append line a b = add_assoc line (line_feeds a) (line_feeds b) ∙ ap (λ n. line + n) (sym (sum_by-append _ a b))

-- a text without LF
no_feed : (b : ℕ) (bs : List ℕ) → line_feeds (b ∷ bs) ≡ 0 → ((b == 10) ≡ false) × (line_feeds bs ≡ 0)
no_feed b bs e =
    let P : Bool → Type 0 = λ v. (if v then 1 else 0) + line_feeds bs ≡ 0 → (v ≡ false) × (line_feeds bs ≡ 0) in
    (elim (b == 10) as P [ true ↦ λ h. absurd (omega arith) | false ↦ λ h. (refl, omega arith) ]) (sym (sum_by-cons _ b bs) ∙ e)

-- a comment says nothing up to its LF
comment-read : (said rest : List ℕ) (line : ℕ) → line_feeds said ≡ 0 → comment line (said ++ 10 ∷ rest) ≡ between (line + 1) rest
comment-read [] rest line e = refl
comment-read (b ∷ bs) rest line e = let h = no_feed b bs e in rw h.0 (comment-read bs rest line h.1)

comment-feeds : (said rest : List ℕ) (line : ℕ) → line_feeds said ≡ 0 → line + 1 + line_feeds rest ≡ line + line_feeds (35 ∷ said ++ 10 ∷ rest)
comment-feeds said rest line h =
    ap (λ l. l + line_feeds rest) (sym (feed_ends line 10 refl)) ∙ feeds-below line 10 rest
    ∙ ap (λ l. l + line_feeds (10 ∷ rest)) (sym (ap (λ k. line + k) h ∙ add-zero line)) ∙ feeds-append line said (10 ∷ rest)
    ∙ feeds-same line 35 (said ++ 10 ∷ rest) (other_ends_no_line line 35 refl)

-- a gap says nothing
pub gap-read : {gap : List ℕ} → GapText gap → (line : ℕ) (more : List ℕ) → between line (gap ++ more) ≡ between (line + line_feeds gap) more
gap-read nothing line more = ap (λ l. between l more) (sym (add-zero line))
gap-read (blank b rest h g) line more =
    between-blank line b (rest ++ more) h ∙ gap-read g (below line b) more ∙ ap (λ l. between l more) (feeds-below line b rest)
gap-read (spelling.comment said rest h g) line more =
    between-hash line ((said ++ 10 ∷ rest) ++ more)
    ∙ ap (comment line) (append_assoc said (10 ∷ rest) more)
    ∙ comment-read said (rest ++ more) line h
    ∙ gap-read g (line + 1) more
    ∙ ap (λ l. between l more) (comment-feeds said rest line h)

-- the pieces of a plain word, up to the byte that ends it
plain-read : (next : ℕ) (pieces : List Piece) (dollar : Bool) → ends_before next dollar pieces ≡ true → (line : ℕ) (more : List ℕ) →
    plain dollar line (flat_map piece_text pieces ++ next ∷ more) ≡ kept (flat_map piece_value pieces) (ends (between (line + line_feeds (flat_map piece_text pieces)) (next ∷ more)))
plain-read next [] dollar h line more = plain-end dollar line next more h ∙ ap (λ l. ends (between l (next ∷ more))) (sym (add-zero line))
plain-read next (itself b ∷ pieces) dollar h line more =
    let k = and_true (not (ends_plain dollar b || b == 92)) _ h in
    let l = or_false (ends_plain dollar b) (b == 92) (not_true _ k.0) in
    plain-byte dollar line b (flat_map piece_text pieces ++ next ∷ more) l.0 l.1
    ∙ ap (kept (b ∷ [])) (plain-read next pieces (b == 36 || b == 123) k.1 line more)
    ∙ ap (λ n. kept (b ∷ flat_map piece_value pieces) (ends (between n (next ∷ more)))) (feeds-same line b (flat_map piece_text pieces) (same_line dollar line b l.0))
plain-read next (escaped b ∷ pieces) dollar h line more =
    plain-backslash dollar line (b ∷ flat_map piece_text pieces ++ next ∷ more)
    ∙ ap (kept (unescaped b)) (plain-read next pieces false h (below line b) more)
    ∙ kept_kept (unescaped b) (flat_map piece_value pieces) _
    ∙ ap (λ n. kept (unescaped b ++ flat_map piece_value pieces) (ends (between n (next ∷ more))))
    (feeds-below line b (flat_map piece_text pieces) ∙ feeds-same line 92 (b ∷ flat_map piece_text pieces) (backslash_ends_no_line line 92 refl))

-- the pieces of a quoted word, up to the same quote
no_backslash : (quote : ℕ) → is_quote quote ≡ true → (92 == quote) ≡ false
unfolding is_quote
no_backslash quote q = elim (or_true (quote == 34) (quote == 39) q) [
  | inl h ↦ subst (λ n. (92 == n) ≡ false) (sym (eqb-true quote 34 h)) refl
  | inr h ↦ subst (λ n. (92 == n) ≡ false) (sym (eqb-true quote 39 h)) refl
]

pub quoted-read : (quote : ℕ) (pieces : List Piece) → is_quote quote ≡ true → list_all (stays_quoted quote) pieces ≡ true → (line : ℕ) (more : List ℕ) →
    quoted quote line (flat_map piece_text pieces ++ quote ∷ more)
    ≡ kept (flat_map piece_value pieces) (ends (let n = line + line_feeds (flat_map piece_text pieces) in followed n more (between n more)))
quoted-read quote [] q h line more =
    rw (eq-eqb quote quote refl) (ap (λ l. ends (followed l more (between l more))) (sym (add-zero line)))
quoted-read quote (itself b ∷ pieces) q h line more =
    let k = and_true (not (b == quote || b == 92)) _ h in
    let l = or_false (b == quote) (b == 92) (not_true _ k.0) in
    rw (l.0, l.1)
    (ap (kept (b ∷ [])) (quoted-read quote pieces q k.1 (below line b) more)
    ∙ ap (λ n. kept (b ∷ flat_map piece_value pieces) (ends (followed n more (between n more)))) (feeds-below line b (flat_map piece_text pieces)))
quoted-read quote (escaped b ∷ pieces) q h line more =
    rw (no_backslash quote q)
    (ap (kept (unescaped b)) (quoted-read quote pieces q h (below line b) more)
    ∙ kept_kept (unescaped b) (flat_map piece_value pieces) _
    ∙ ap (λ n. kept (unescaped b ++ flat_map piece_value pieces) (ends (followed n more (between n more))))
    (feeds-below line b (flat_map piece_text pieces) ∙ feeds-same line 92 (b ∷ flat_map piece_text pieces) (backslash_ends_no_line line 92 refl)))

-- a word is read
between-backslash : (line : ℕ) (bs : List ℕ) → between line (92 ∷ bs) ≡ word_at line (plain false line (92 ∷ bs))
unfolding ends_plain is_blank is_quote
between-backslash line bs = between-plain line 92 bs refl refl refl refl

begins-read : (next : ℕ) (pieces : List Piece) → begins_plain pieces ≡ true → ends_before next false pieces ≡ true → (line : ℕ) (more : List ℕ) →
    between line (flat_map piece_text pieces ++ more) ≡ word_at line (plain false line (flat_map piece_text pieces ++ more))
begins-read next [] h e line more = absurd (cc)
begins-read next (itself b ∷ pieces) h e line more =
    let k = and_true (not (ends_plain false b || b == 92)) _ e in
    let l = or_false (ends_plain false b) (b == 92) (not_true _ k.0) in
    let m = or_false (b == 35 || b == 125) (is_quote b) (not_true _ h) in
    let n = or_false (b == 35) (b == 125) m.0 in
    between-plain line b (flat_map piece_text pieces ++ more) l.0 n.0 n.1 m.1
begins-read next (escaped b ∷ pieces) h e line more = between-backslash line (b ∷ flat_map piece_text pieces ++ more)

pub quote-read : (quote line : ℕ) (z : List ℕ) → is_quote quote ≡ true → between line (quote ∷ z) ≡ word_at line (quoted quote line z)
quote-read quote line z q =
    between-quote {left_after = z} (record { bytes = refl; lines = refl }) q ∙ ap (λ l. word_at line (quoted quote l z)) (quote_ends_no_line line quote q)

-- the line behind a quoted word
quoted-feeds : (quote line : ℕ) (text : List ℕ) → is_quote quote ≡ true → line + line_feeds text ≡ line + line_feeds (quote ∷ text ++ quote ∷ [])
quoted-feeds quote line text q =
    let behind = line + line_feeds text in
    sym (add-zero behind) ∙ feeds-same behind quote [] (quote_ends_no_line behind quote q) ∙ feeds-append line text (quote ∷ [])
    ∙ feeds-same line quote (text ++ quote ∷ []) (quote_ends_no_line line quote q)

followed-read : (next line : ℕ) (more : List ℕ) → may_follow next ≡ true → followed line (next ∷ more) (between line (next ∷ more)) ≡ between line (next ∷ more)
followed-read next line more h = rw h refl

pub word-read : {next : ℕ} {value text : List ℕ} → WordText next value text → (line : ℕ) (more : List ℕ) →
    between line (text ++ next ∷ more) ≡ record { line = line; lexeme = word value } ∷ between (line + line_feeds text) (next ∷ more)
word-read {next} (spelling.plain pieces b e) line more =
    begins-read next pieces b e line (next ∷ more)
    ∙ ap (word_at line) (plain-read next pieces false e line more)
    ∙ ap (λ v. record { line = line; lexeme = word v } ∷ between (line + line_feeds (flat_map piece_text pieces)) (next ∷ more)) (append-nil (flat_map piece_value pieces))
word-read {next} (spelling.quoted quote pieces q s f) line more =
    let text = flat_map piece_text pieces in
    let behind = line + line_feeds text in
    ap (λ z. between line (quote ∷ z)) (append_assoc text (quote ∷ []) (next ∷ more))
    ∙ quote-read quote line (text ++ quote ∷ next ∷ more) q
    ∙ ap (word_at line) (quoted-read quote pieces q s line (next ∷ more))
    ∙ ap (λ v. record { line = line; lexeme = word v } ∷ followed behind (next ∷ more) (between behind (next ∷ more))) (append-nil (flat_map piece_value pieces))
    ∙ ap (λ ts. record { line = line; lexeme = word (flat_map piece_value pieces) } ∷ ts) (followed-read next behind more f ∙ ap (λ l. between l (next ∷ more)) (quoted-feeds quote line text q))

-- In front of more, a text has these marks and no fault: from some open blocks to others, and from words that are pending, or not, to others.
pub record Goes (blocks : ℕ) (pending : Bool) (line : ℕ) (text : List ℕ) (ms : List Mark) (blocks_behind : ℕ) (pending_behind : Bool) (more : List ℕ) : Type 0 where
  pub marks : token_marks pending (between line (text ++ more)) ≡ ms ++ token_marks pending_behind (between (line + line_feeds text) more)
  pub faults : first_fault blocks pending (between line (text ++ more)) ≡ first_fault blocks_behind pending_behind (between (line + line_feeds text) more)

-- one text after the other
joined : {b b' b'' line : ℕ} {p p' p'' : Bool} {t t' more : List ℕ} {ms ms' : List Mark} →
    Goes b p line t ms b' p' (t' ++ more) → Goes b' p' (line + line_feeds t) t' ms' b'' p'' more → Goes b p line (t ++ t') (ms ++ ms') b'' p'' more
joined {b} {b'} {b''} {line} {p} {p'} {p''} {t} {t'} {more} {ms} {ms'} x y =
    let lines = feeds-append line t t' in
    record {
      marks =
          ap (λ z. token_marks p (between line z)) (append_assoc t t' more) ∙ x.marks
          ∙ ap (λ k. ms ++ k) (y.marks ∙ ap (λ l. ms' ++ token_marks p'' (between l more)) lines)
          ∙ sym (append_assoc ms ms' (token_marks p'' (between (line + line_feeds (t ++ t')) more)));
      faults =
          ap (λ z. first_fault b p (between line z)) (append_assoc t t' more) ∙ x.faults ∙ y.faults
          ∙ ap (λ l. first_fault b'' p'' (between l more)) lines;
    }

-- on an equal line
at_line : {b b' line line' : ℕ} {p p' : Bool} {t more : List ℕ} {ms : List Mark} → line ≡ line' → Goes b p line t ms b' p' more → Goes b p line' t ms b' p' more
at_line {b} {b'} {line} {line'} {p} {p'} {t} {more} {ms} e x = subst (λ l. Goes b p l t ms b' p' more) e x

-- with equal marks
with_marks : {b b' line : ℕ} {p p' : Bool} {t more : List ℕ} {ms ms' : List Mark} → ms ≡ ms' → Goes b p line t ms b' p' more → Goes b p line t ms' b' p' more
with_marks {b} {b'} {line} {p} {p'} {t} {more} {ms} {ms'} e x = subst (λ k. Goes b p line t k b' p' more) e x

-- in front of an equal text
before : {b b' line : ℕ} {p p' : Bool} {t more more' : List ℕ} {ms : List Mark} → more ≡ more' → Goes b p line t ms b' p' more → Goes b p line t ms b' p' more'
before {b} {b'} {line} {p} {p'} {t} {more} {more'} {ms} e x = subst (λ k. Goes b p line t ms b' p' k) e x

gap-goes : {gap : List ℕ} → GapText gap → (b line : ℕ) (p : Bool) (more : List ℕ) → Goes b p line gap [] b p more
gap-goes g b line p more = record {
  marks = ap (token_marks p) (gap-read g line more);
  faults = ap (first_fault b p) (gap-read g line more);
}

first_word-goes : {next : ℕ} {value text : List ℕ} → WordText next value text → (b line : ℕ) (more : List ℕ) → Goes b false line text (begins line ∷ has value ∷ []) b true (next ∷ more)
first_word-goes w b line more = record {
  marks = ap (token_marks false) (word-read w line more);
  faults = ap (first_fault b false) (word-read w line more);
}

word-goes : {next : ℕ} {value text : List ℕ} → WordText next value text → (b line : ℕ) (more : List ℕ) → Goes b true line text (has value ∷ []) b true (next ∷ more)
word-goes w b line more = record {
  marks = ap (token_marks true) (word-read w line more);
  faults = ap (first_fault b true) (word-read w line more);
}

-- what a text in front of a byte begins with
pub tail_of : List ℕ → ℕ → List ℕ → List ℕ
tail_of [] next more = more
tail_of (b ∷ bs) next more = bs ++ next ∷ more

begins_with : (bs : List ℕ) (next : ℕ) (more : List ℕ) → first bs next ∷ tail_of bs next more ≡ bs ++ next ∷ more
unfolding tail_of
begins_with [] next more = refl
begins_with (b ∷ bs) next more = refl

pub ahead_of : (gap rest : List ℕ) (next : ℕ) (more : List ℕ) → first (gap ++ rest) next ∷ tail_of (gap ++ rest) next more ≡ gap ++ (rest ++ next ∷ more)
ahead_of gap rest next more = begins_with (gap ++ rest) next more ∙ append_assoc gap rest (next ∷ more)

words-goes : {next : ℕ} {words : List (List ℕ)} {text : List ℕ} → WordsText next words text → (b line : ℕ) (more : List ℕ) → Goes b true line text (map has words) b true (next ∷ more)
words-goes {next} no_word b line more = record {
  marks = ap (λ l. token_marks true (between l (next ∷ more))) (sym (add-zero line));
  faults = ap (λ l. first_fault b true (between l (next ∷ more))) (sym (add-zero line));
}
words-goes {next} (one_word value words text gap rest w g ws) b line more =
    joined (joined (before (ahead_of gap rest next more) (word-goes w b line (tail_of (gap ++ rest) next more))) (gap-goes g b (line + line_feeds text) true (rest ++ next ∷ more)))
    (words-goes ws b (line + line_feeds (text ++ gap)) more)

pub head-goes : {next : ℕ} {words : List (List ℕ)} {text : List ℕ} → words ≢ [] → WordsText next words text → (b line : ℕ) (more : List ℕ) → Goes b false line text (begins line ∷ map has words) b true (next ∷ more)
head-goes {next} some no_word b line more = absurd (some refl)
head-goes {next} some (one_word value words text gap rest w g ws) b line more =
    joined (joined (before (ahead_of gap rest next more) (first_word-goes w b line (tail_of (gap ++ rest) next more))) (gap-goes g b (line + line_feeds text) true (rest ++ next ∷ more)))
    (words-goes ws b (line + line_feeds (text ++ gap)) more)

-- one byte that isn't LF leaves the line
byte_line : (line b : ℕ) → below line b ≡ line → line ≡ line + line_feeds (b ∷ [])
byte_line line b e = sym (add-zero line) ∙ feeds-same line b [] e

semicolon-goes : (b line : ℕ) (more : List ℕ) → Goes b true line (59 ∷ []) (ended ∷ []) b false more
semicolon-goes b line more =
    let l = byte_line line 59 (other_ends_no_line line 59 refl) in
    record {
      marks = ap (token_marks true) (semicolon-read line more) ∙ ap (λ n. ended ∷ token_marks false (between n more)) l;
      faults = ap (first_fault b true) (semicolon-read line more) ∙ ap (λ n. first_fault b false (between n more)) l;
    }

opening-goes : (b line : ℕ) (more : List ℕ) → b < 16 → Goes b true line (123 ∷ []) (opened ∷ []) (b + 1) false more
opening-goes b line more few =
    let l = byte_line line 123 (other_ends_no_line line 123 refl) in
    record {
      marks = ap (token_marks true) (opening-read line more) ∙ ap (λ n. opened ∷ token_marks false (between n more)) l;
      faults =
          ap (first_fault b true) (opening-read line more) ∙ opening-fault b line (between line more) few
          ∙ ap (λ n. first_fault (b + 1) false (between n more)) l;
    }

closing-goes : (b line : ℕ) (more : List ℕ) → Goes (b + 1) false line (125 ∷ []) (closed ∷ []) b false more
closing-goes b line more =
    let l = byte_line line 125 (other_ends_no_line line 125 refl) in
    record {
      marks = ap (token_marks false) (closing-read line more) ∙ ap (λ n. closed ∷ token_marks false (between n more)) l;
      faults =
          ap (first_fault (b + 1) false) (closing-read line more) ∙ closing-fault b line (between line more)
          ∙ ap (λ n. first_fault b false (between n more)) l;
    }

mutual
  pub directive-goes : {b line : ℕ} {d : Directive} {text : List ℕ} → DirectiveText b line d text → (more : List ℕ) → Goes b false line text (directive_marks d) b false more
  directive-goes (simple b line words text some ws) more =
      with_marks (sym (marks-ended words line))
      (joined (head-goes some ws b line more) (semicolon-goes b (line + line_feeds text) more))
  directive-goes (block b line words text ds inner some ws few is) more =
      let behind = line + line_feeds text in
      let l = byte_line behind 123 (other_ends_no_line behind 123 refl) in
      with_marks (append_assoc (begins line ∷ map has words) (opened ∷ marks_of ds) (closed ∷ []) ∙ sym (marks-block words line ds))
      (joined
      (joined (head-goes some ws b line (inner ++ 125 ∷ more))
      (joined (opening-goes b behind (inner ++ 125 ∷ more) few) (at_line l (directives-goes is (125 ∷ more)))))
      (closing-goes b (line + line_feeds (text ++ 123 ∷ inner)) more))

  pub directives-goes : {b line : ℕ} {ds : List Directive} {text : List ℕ} → DirectivesText b line ds text → (more : List ℕ) → Goes b false line text (marks_of ds) b false more
  directives-goes (no_directive b line gap g) more = gap-goes g b line false more
  directives-goes (one_directive b line d ds gap text rest g one ds_text) more =
      joined (joined (gap-goes g b line false (text ++ (rest ++ more))) (directive-goes one (rest ++ more))) (directives-goes ds_text more)

-- a comment without LF is the last
pub last_comment : (said : List ℕ) (line : ℕ) → line_feeds said ≡ 0 → comment line said ≡ record { line = line; lexeme = end } ∷ []
last_comment [] line e = refl
last_comment (b ∷ bs) line e = let h = no_feed b bs e in rw h.0 (last_comment bs line h.1)

pub spells-says : (text : List ℕ) (ds : List Directive) → Spells text ds → Says text ds
spells-says _ ds (whole text _ is) =
    let g = directives-goes is [] in
    record {
      sound = ap (λ t. first_fault 0 false (between 1 t)) (sym (append-nil text)) ∙ g.faults;
      marks = ap (λ t. token_marks false (between 1 t)) (sym (append-nil text)) ∙ g.marks ∙ append-nil (marks_of ds);
    }
spells-says _ ds (in_comment text said _ is e) =
    let g = directives-goes is (35 ∷ said) in
    let c = between-hash (1 + line_feeds text) said ∙ last_comment said (1 + line_feeds text) e in
    record {
      sound = g.faults ∙ ap (first_fault 0 false) c;
      marks = g.marks ∙ ap (λ ts. marks_of ds ++ token_marks false ts) c ∙ append-nil (marks_of ds);
    }
