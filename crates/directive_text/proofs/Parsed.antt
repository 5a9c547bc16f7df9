-- A text without a fault spells a tree.
use Rattle.std.proofs.Common.{◌≡◌, ◌≢◌, ℕ, zero, suc, ◌+◌, ◌<◌, ◌≤◌, Bool, true, false, List, [], ◌∷◌, ◌++◌, length, Option, None, Some, refl, sym, ◌∙◌, ap, subst, inl, inr, append_assoc, append-nil, length-append, arith}
use Rattle.std.specs.Prelude.{◌==◌, ◌⊎◌, if◌then◌else◌, nat_lt}
use Rattle.std.proofs.lemmas.Bool.{eqb-true, lt-ltb}
use Rattle.directive_text.specs.declared.tree.Directive.{Directive}
use Rattle.directive_text.specs.Internals.Lexemes.{Token, end, Rest, word_at, followed, between, plain, plain_pair, quoted, quoted_pair}
use Rattle.directive_text.specs.Internals.Lexemes as lexemes
use Rattle.directive_text.specs.Internals.Tokens.{Fault, first_fault}
use Rattle.directive_text.specs.Spelling.{line_feeds, WordText, GapText, first, WordsText, no_word, one_word, DirectiveText, simple, block, DirectivesText, no_directive, one_directive, Spells, whole, in_comment}
use Rattle.directive_text.proofs.TextPlaces.{tells}
use Rattle.directive_text.proofs.Spelled.{feeds-append, word-read, gap-read, tail_of, ahead_of, head-goes, directives-goes, directive-goes}
use Rattle.directive_text.proofs.Printed.{semicolon-read, opening-read, closing-read}
use Rattle.directive_text.proofs.Fitting.{no-fault, opening-kind}
use Rattle.directive_text.proofs.Split.{Behind, at_end, at_comment, at_byte, skip, BeginsWord, WordRest, word_rest, word_long, comment_end, misplaced_read}

-- words up to the byte that ends them, `;` or `{`
pub record WordsRest (bs : List ℕ) : Type 0 where
  words : List (List ℕ)
  text : List ℕ
  next : ℕ
  rest : List ℕ
  is : bs ≡ text ++ next ∷ rest
  spelled : WordsText next words text
  some : words ≢ []
  stops : (next ≡ 59) ⊎ (next ≡ 123)

-- a word in front of the end of its directive's words, or of more words
pub extended : (bs : List ℕ) (w : WordRest bs) (gap : List ℕ) (words : List (List ℕ)) (text : List ℕ) (next : ℕ) (rest : List ℕ) →
    GapText gap → WordsText next words text → w.next ∷ w.rest ≡ gap ++ (text ++ next ∷ rest) → (next ≡ 59) ⊎ (next ≡ 123) → WordsRest bs
extended bs w gap words text next rest g ws is stop =
    let ahead : w.next ∷ w.rest ≡ first (gap ++ text) next ∷ tail_of (gap ++ text) next rest = is ∙ sym (ahead_of gap text next rest) in
    let same : w.next ≡ first (gap ++ text) next = cc in
    record {
      words = w.value ∷ words;
      text = w.text ++ gap ++ text;
      next = next;
      rest = rest;
      is = w.is ∙ ap (λ z. w.text ++ z) is ∙ sym (append_assoc w.text gap (text ++ next ∷ rest)) ∙ sym (append_assoc (w.text ++ gap) text (next ∷ rest));
      spelled = one_word w.value words w.text gap text (subst (λ n. WordText n w.value w.text) same w.word) g ws;
      some = λ h. cc;
      stops = stop;
    }

-- behind a word and its gap its directive's words end, or one more begins
after_word : (fuel blocks line : ℕ) (bs : List ℕ) (w : WordRest bs) (gap rest : List ℕ) → GapText gap → w.next ∷ w.rest ≡ gap ++ rest → length rest ≤ fuel → Behind rest →
    first_fault blocks true (between line rest) ≡ None →
    ((c : ℕ) (cs : List ℕ) → length (c ∷ cs) ≤ fuel → BeginsWord c → first_fault blocks true (between line (c ∷ cs)) ≡ None → WordsRest (c ∷ cs)) → WordsRest bs
after_word fuel blocks line bs w gap _ g is len at_end e again = absurd (cc)
after_word fuel blocks line bs w gap _ g is len (at_comment said n) e again =
    let h = subst (λ (ts : List Token). first_fault blocks true ts ≡ None) (comment_end line said n) e in
    absurd (cc)
after_word fuel blocks line bs w gap _ g is len (at_byte c cs dark hash) e again = elim (tells (c == 59)) [
  | inl k ↦ extended bs w gap [] [] 59 cs g no_word (is ∙ ap (λ n. gap ++ n ∷ cs) (eqb-true c 59 k)) (inl refl)
  | inr semicolon ↦ elim (tells (c == 123)) [
    | inl k ↦ extended bs w gap [] [] 123 cs g no_word (is ∙ ap (λ n. gap ++ n ∷ cs) (eqb-true c 123 k)) (inr refl)
    | inr opening ↦ elim (tells (c == 125)) [
      | inl k ↦
          let read = ap (λ n. between line (n ∷ cs)) (eqb-true c 125 k) ∙ closing-read line cs in
          let h = subst (λ (ts : List Token). first_fault blocks true ts ≡ None) read e in
          absurd (cc)
      | inr closing ↦
          let r = again c cs len (record { blank = dark; hash = hash; semicolon = semicolon; opening = opening; closing = closing }) e in
          extended bs w gap r.words r.text r.next r.rest g r.spelled (is ∙ ap (λ z. gap ++ z) r.is) r.stops
    ]
  ]
]

-- where no fault is, a word's byte behind it may follow
sound_word : (blocks line b : ℕ) (pending : Bool) (bs : List ℕ) → BeginsWord b → first_fault blocks pending (between line (b ∷ bs)) ≡ None → WordRest (b ∷ bs)
sound_word blocks line b pending bs f e = elim (word_rest blocks line b pending bs f (record { early = λ fault h two. cc })) [
  | inl w ↦ w
  | inr m ↦
      let fault = ap (λ z. first_fault blocks pending (between line z)) m.is ∙ misplaced_read blocks line pending m.quote m.next m.pieces m.rest m.quotes m.stays m.follows in
      absurd (cc)
]

words_rest : (fuel blocks line : ℕ) (pending : Bool) (b : ℕ) (bs : List ℕ) → length (b ∷ bs) ≤ fuel → BeginsWord b → first_fault blocks pending (between line (b ∷ bs)) ≡ None → WordsRest (b ∷ bs)
words_rest zero blocks line pending b bs len f e = absurd (omega arith)
words_rest (suc fuel) blocks line pending b bs len f e =
    let w = sound_word blocks line b pending bs f e in
    let s = skip (w.next ∷ w.rest) in
    let behind = line + line_feeds w.text in
    let read = ap (between line) w.is ∙ word-read w.word line w.rest in
    let next : first_fault blocks true (between behind (w.next ∷ w.rest)) ≡ None = subst (λ (ts : List Token). first_fault blocks pending ts ≡ None) read e in
    let skipped = ap (between behind) s.is ∙ gap-read s.text behind s.rest in
    let fewer : length s.rest ≤ fuel =
    omega (arith, len, ap length w.is, length-append w.text (w.next ∷ w.rest), ap length s.is, length-append s.gap s.rest, word_long w.word) in
    after_word fuel blocks (behind + line_feeds s.gap) (b ∷ bs) w s.gap s.rest s.text s.is fewer s.behind
    (subst (λ (ts : List Token). first_fault blocks true ts ≡ None) skipped next)
    (λ c cs len f e. words_rest fuel blocks (behind + line_feeds s.gap) true c cs len f e)

-- directives up to the text's end, a comment that it ends, or the end of the block
pub data Parsed (blocks line : ℕ) (bs : List ℕ) : Type 0 where
  to_end : (directives : List Directive) → blocks ≡ 0 → DirectivesText blocks line directives bs → Parsed blocks line bs
  to_comment : (directives : List Directive) (text said : List ℕ) → blocks ≡ 0 → bs ≡ text ++ 35 ∷ said → line_feeds said ≡ 0 → DirectivesText blocks line directives text → Parsed blocks line bs
  to_brace : (directives : List Directive) (text rest : List ℕ) → bs ≡ text ++ 125 ∷ rest → DirectivesText blocks line directives text → Parsed blocks line bs

-- one directive more in front
prepended : (blocks line : ℕ) (d : Directive) (gap text rest : List ℕ) → GapText gap → DirectiveText blocks (line + line_feeds gap) d text → Parsed blocks (line + line_feeds (gap ++ text)) rest → Parsed blocks line (gap ++ text ++ rest)
prepended blocks line d gap text rest g one (to_end ds z is) = to_end (d ∷ ds) z (one_directive blocks line d ds gap text rest g one is)
prepended blocks line d gap text rest g one (to_comment ds inner said z is n some) =
    to_comment (d ∷ ds) (gap ++ text ++ inner) said z (ap (λ r. gap ++ text ++ r) is ∙ sym (append_assoc (gap ++ text) inner (35 ∷ said))) n (one_directive blocks line d ds gap text inner g one some)
prepended blocks line d gap text rest g one (to_brace ds inner more is some) =
    to_brace (d ∷ ds) (gap ++ text ++ inner) more (ap (λ r. gap ++ text ++ r) is ∙ sym (append_assoc (gap ++ text) inner (125 ∷ more))) (one_directive blocks line d ds gap text inner g one some)

-- what is parsed in fewer bytes than these
abbrev pub Parses : ℕ → Type 0
Parses fuel = (blocks line : ℕ) (bs : List ℕ) → length bs < fuel → first_fault blocks false (between line bs) ≡ None → Parsed blocks line bs

words_long : {next : ℕ} {words : List (List ℕ)} {text : List ℕ} → words ≢ [] → WordsText next words text → 0 < length text
words_long some no_word = absurd (some refl)
words_long some (one_word value words text gap rest w g ws) = omega (arith, word_long w, length-append (text ++ gap) rest, length-append text gap)

directive_long : {blocks line : ℕ} {d : Directive} {text : List ℕ} → DirectiveText blocks line d text → 0 < length text
directive_long (simple blocks line words text some ws) = omega (arith, length-append text (59 ∷ []))
directive_long (block blocks line words text ds inner some ws few is) = omega (arith, length-append (text ++ 123 ∷ inner) (125 ∷ []))

-- behind a directive the parse goes on
follow : (fuel blocks line : ℕ) (d : Directive) (gap text rest bs : List ℕ) → GapText gap → DirectiveText blocks (line + line_feeds gap) d text → bs ≡ text ++ rest → length bs ≤ fuel →
    first_fault blocks false (between (line + line_feeds gap) bs) ≡ None → Parses fuel → Parsed blocks line (gap ++ bs)
follow fuel blocks line d gap text rest bs g one is len e again =
    let at : ℕ = line + line_feeds gap in
    let goes = directive-goes one rest in
    let on : first_fault blocks false (between (at + line_feeds text) rest) ≡ None = sym goes.faults ∙ ap (λ z. first_fault blocks false (between at z)) (sym is) ∙ e in
    let there : first_fault blocks false (between (line + line_feeds (gap ++ text)) rest) ≡ None = ap (λ l. first_fault blocks false (between l rest)) (sym (feeds-append line gap text)) ∙ on in
    let fewer : length rest < fuel = omega (arith, len, ap length is, length-append text rest, directive_long one) in
    subst (Parsed blocks line) (append_assoc gap text rest ∙ ap (λ z. gap ++ z) (sym is)) (prepended blocks line d gap text rest g one (again blocks (line + line_feeds (gap ++ text)) rest fewer there))

-- a directive that `;` ends
semicolon_parse : (fuel blocks line : ℕ) (gap bs : List ℕ) → GapText gap → (r : WordsRest bs) → r.next ≡ 59 → length bs ≤ fuel → first_fault blocks false (between (line + line_feeds gap) bs) ≡ None → Parses fuel → Parsed blocks line (gap ++ bs)
semicolon_parse fuel blocks line gap bs g r at len e again =
    let ws : WordsText 59 r.words r.text = subst (λ n. WordsText n r.words r.text) at r.spelled in
    follow fuel blocks line _ gap (r.text ++ 59 ∷ []) r.rest bs g (simple blocks (line + line_feeds gap) r.words r.text r.some ws)
    (r.is ∙ ap (λ n. r.text ++ n ∷ r.rest) at ∙ sym (append_assoc r.text (59 ∷ []) r.rest)) len e again

-- a directive whose block is parsed
pub block_parse : (fuel blocks line : ℕ) (gap bs : List ℕ) → GapText gap → (r : WordsRest bs) → r.next ≡ 123 → length bs ≤ fuel → first_fault blocks false (between (line + line_feeds gap) bs) ≡ None → Parses fuel →
    blocks < 16 → Parsed (blocks + 1) (line + line_feeds gap + line_feeds r.text) r.rest → Parsed blocks line (gap ++ bs)
block_parse fuel blocks line gap bs g r at len e again few (to_end ds z is) = absurd (omega arith)
block_parse fuel blocks line gap bs g r at len e again few (to_comment ds text said z is n some) = absurd (omega arith)
block_parse fuel blocks line gap bs g r at len e again few (to_brace ds inner rest is some) =
    let ws : WordsText 123 r.words r.text = subst (λ n. WordsText n r.words r.text) at r.spelled in
    let all : bs ≡ (r.text ++ 123 ∷ inner ++ 125 ∷ []) ++ rest =
    r.is ∙ ap (λ n. r.text ++ n ∷ r.rest) at ∙ ap (λ z. r.text ++ 123 ∷ z) is
    ∙ sym (append_assoc r.text (123 ∷ inner) (125 ∷ rest)) ∙ sym (append_assoc (r.text ++ 123 ∷ inner) (125 ∷ []) rest) in
    follow fuel blocks line _ gap (r.text ++ 123 ∷ inner ++ 125 ∷ []) rest bs g (block blocks (line + line_feeds gap) r.words r.text ds inner r.some ws few some) all len e again

-- a directive, up to its `;` or its block
directive_parse : (fuel blocks line : ℕ) (gap bs : List ℕ) → GapText gap → (r : WordsRest bs) → length bs ≤ fuel → first_fault blocks false (between (line + line_feeds gap) bs) ≡ None → Parses fuel → Parsed blocks line (gap ++ bs)
directive_parse fuel blocks line gap bs g r len e again = elim r.stops [
  | inl at ↦ semicolon_parse fuel blocks line gap bs g r at len e again
  | inr at ↦
      let here : ℕ = line + line_feeds gap in
      let behind : ℕ = here + line_feeds r.text in
      let ws : WordsText 123 r.words r.text = subst (λ n. WordsText n r.words r.text) at r.spelled in
      let is : bs ≡ r.text ++ 123 ∷ r.rest = r.is ∙ ap (λ n. r.text ++ n ∷ r.rest) at in
      let opens : first_fault blocks true (record { line = behind; lexeme = lexemes.opening } ∷ between behind r.rest) ≡ None =
      ap (first_fault blocks true) (sym (opening-read behind r.rest)) ∙ sym (head-goes r.some ws blocks here r.rest).faults ∙ ap (λ z. first_fault blocks false (between here z)) (sym is) ∙ e in
      let inside = no-fault blocks true (record { line = behind; lexeme = lexemes.opening }) (between behind r.rest) opens in
      let fewer : length r.rest < fuel = omega (arith, len, ap length is, length-append r.text (123 ∷ r.rest), words_long r.some ws) in
      block_parse fuel blocks line gap bs g r at len e again (opening-kind blocks true inside.0).1 (again (blocks + 1) behind r.rest fewer inside.1)
]

-- behind a gap
no_open : (line : ℕ) (b : Bool) → let none : Option ℕ = None in
    elim (if b then Some 2 else none) as (λ _. Option Fault) [ Some kind ↦ Some (record { line = line; kind = kind }) | None ↦ None ] ≡ None → b ≡ false
no_open line true e = absurd (cc)
no_open line false e = refl

no_block : (blocks line : ℕ) → first_fault blocks false (record { line = line; lexeme = end } ∷ []) ≡ None → blocks ≡ 0
no_block zero line e = refl
no_block (suc blocks) line e =
    let open_blocks = lt-ltb 0 (suc blocks) (omega arith) in
    let none : nat_lt 0 (suc blocks) ≡ false = no_open line (nat_lt 0 (suc blocks)) e in
    absurd (cc)

gap_parse : (fuel blocks line : ℕ) (gap rest : List ℕ) → GapText gap → Behind rest → length rest ≤ fuel → first_fault blocks false (between (line + line_feeds gap) rest) ≡ None → Parses fuel → Parsed blocks line (gap ++ rest)
gap_parse fuel blocks line gap _ g at_end len e again =
    to_end [] (no_block blocks (line + line_feeds gap) e) (subst (DirectivesText blocks line []) (sym (append-nil gap)) (no_directive blocks line gap g))
gap_parse fuel blocks line gap _ g (at_comment said n) len e again =
    let here : ℕ = line + line_feeds gap in
    let h = subst (λ (ts : List Token). first_fault blocks false ts ≡ None) (comment_end here said n) e in
    to_comment [] gap said (no_block blocks here h) refl n (no_directive blocks line gap g)
gap_parse fuel blocks line gap _ g (at_byte c cs dark hash) len e again =
    let here : ℕ = line + line_feeds gap in
    elim (tells (c == 125)) [
      | inl k ↦ to_brace [] gap cs (ap (λ n. gap ++ n ∷ cs) (eqb-true c 125 k)) (no_directive blocks line gap g)
      | inr closing ↦ elim (tells (c == 59)) [
        | inl k ↦
            let read = ap (λ n. between here (n ∷ cs)) (eqb-true c 59 k) ∙ semicolon-read here cs in
            let h = subst (λ (ts : List Token). first_fault blocks false ts ≡ None) read e in
            absurd (cc)
        | inr semicolon ↦ elim (tells (c == 123)) [
          | inl k ↦
              let read = ap (λ n. between here (n ∷ cs)) (eqb-true c 123 k) ∙ opening-read here cs in
              let h = subst (λ (ts : List Token). first_fault blocks false ts ≡ None) read e in
              absurd (cc)
          | inr opening ↦
              let begins : BeginsWord c = record { blank = dark; hash = hash; semicolon = semicolon; opening = opening; closing = closing } in
              directive_parse fuel blocks line gap (c ∷ cs) g (words_rest (length (c ∷ cs)) blocks here false c cs (omega arith) begins e) len e again
        ]
      ]
    ]

parse : (fuel : ℕ) → Parses fuel
parse zero blocks line bs len e = absurd (omega arith)
parse (suc fuel) blocks line bs len e =
    let s = skip bs in
    let read = ap (between line) s.is ∙ gap-read s.text line s.rest in
    let fewer : length s.rest ≤ fuel = omega (arith, len, ap length s.is, length-append s.gap s.rest) in
    subst (Parsed blocks line) (sym s.is)
    (gap_parse fuel blocks line s.gap s.rest s.text s.behind fewer (subst (λ (ts : List Token). first_fault blocks false ts ≡ None) read e) (parse fuel))

-- no block is open at the text's end
whole_parse : (text : List ℕ) → first_fault 0 false (between 1 text) ≡ None → Parsed 0 1 text → (ds : List Directive) × Spells text ds
whole_parse text e (to_end ds z is) = (ds, whole text ds is)
whole_parse text e (to_comment ds front said z is n some) = (ds, subst (λ t. Spells t ds) (sym is) (in_comment front said ds some n))
whole_parse text e (to_brace ds front rest is some) =
    let here : ℕ = 1 + line_feeds front in
    let h : first_fault 0 false (record { line = here; lexeme = lexemes.closing } ∷ between here rest) ≡ None =
    ap (first_fault 0 false) (sym (closing-read here rest)) ∙ sym (directives-goes some (125 ∷ rest)).faults ∙ ap (λ z. first_fault 0 false (between 1 z)) (sym is) ∙ e in
    absurd (cc)

pub sound-spelled : (text : List ℕ) → first_fault 0 false (between 1 text) ≡ None → (ds : List Directive) × Spells text ds
sound-spelled text e = whole_parse text e (parse (suc (length text)) 0 1 text (omega arith) e)
