-- The first fault of a text is that of its tokens.
use Rattle.std.proofs.Common.{◌≡◌, ◌≢◌, ℕ, zero, suc, ◌+◌, ◌<◌, ◌≤◌, Bool, true, false, ◌||◌, List, [], ◌∷◌, ◌++◌, length, Option, None, Some, refl, sym, ◌∙◌, ap, subst, inl, inr, add-one, length-append, arith}
use Rattle.std.specs.Prelude.{◌==◌, nat_lt}
use Rattle.std.proofs.Math.Nat.{eq-or-lt_of_le}
use Rattle.std.proofs.lemmas.Bool.{eqb-true, ltb-true, lt-ltb}
use Rattle.directive_text.specs.declared.tree.Directive.{Directive}
use Rattle.directive_text.specs.Internals.Lexemes.{end, between}
use Rattle.directive_text.specs.Internals.Tokens.{Fault, first_fault, fault_of}
use Rattle.directive_text.specs.Spelling.{line_feeds, Spells}
use Rattle.directive_text.specs.Faults.{Reaches, HasFault, begin, too_short, ends_nothing, opens_nothing, closes_words, closes_nothing, follows_quote, opens_too_many}
use Rattle.directive_text.specs.Faults as faults
use Rattle.directive_text.proofs.TextPlaces.{tells}
use Rattle.directive_text.proofs.LastLine.{last-line}
use Rattle.directive_text.proofs.Staying.{end_kind, faults-stay}
use Rattle.directive_text.proofs.Printed.{semicolon-read, opening-read, closing-read, opening-fault, closing-fault}
use Rattle.directive_text.proofs.Spelled.{gap-read, word-read, spells-says}
use Rattle.directive_text.proofs.Split.{Behind, at_end, at_comment, at_byte, skip, BeginsWord, word_rest, word_long, comment_end, misplaced_read}
use Rattle.directive_text.proofs.Parsed.{sound-spelled}

-- what is read up to a place has no fault
reached : {text : List ℕ} {b : ℕ} {p : Bool} {line : ℕ} {left : List ℕ} → Reaches text b p line left → fault_of text ≡ first_fault b p (between line left)
reached begin = refl
reached (faults.gap b line p gap left r g) = reached r ∙ ap (first_fault b p) (gap-read g line left)
reached (faults.word b line next p value word left r w) = reached r ∙ ap (first_fault b p) (word-read w line left)
reached (faults.semicolon b line left r) = reached r ∙ ap (first_fault b true) (semicolon-read line left)
reached (faults.opening b line left r few) = reached r ∙ ap (first_fault b true) (opening-read line left) ∙ opening-fault b line (between line left) few
reached (faults.closing b line left r) = reached r ∙ ap (first_fault (b + 1) false) (closing-read line left) ∙ closing-fault b line (between line left)

-- what spells nothing, but would with more behind it, ends too early
short-fault : (text more : List ℕ) (ds : List Directive) → Spells (text ++ more) ds → ((others : List Directive) → ¬ Spells text others) → (o : Option Fault) → fault_of text ≡ o → o ≡ Some (record { line = 1 + line_feeds text; kind = 2 })
short-fault text more ds s none None e = let t = sound-spelled text e in absurd (none t.0 t.1)
short-fault text more ds s none (Some f) e = elim (tells (f.kind == 2)) [
  | inl h ↦
      let kind = eqb-true f.kind 2 h in
      let line = last-line text f e kind in
      ap (λ n. Some (record { line = n; kind = f.kind })) line ∙ ap (λ n. Some (record { line = 1 + line_feeds text; kind = n })) kind
  | inr h ↦
      let other : f.kind ≢ 2 = λ k. cc in
      let stays = faults-stay text more f e other in
      let sound = (spells-says (text ++ more) ds s).sound in
      absurd (cc)
]

-- a fault is that of the tokens
pub fault-tokens : {text : List ℕ} {line kind : ℕ} → HasFault text line kind → fault_of text ≡ Some (record { line = line; kind = kind })
fault-tokens {text} (too_short more ds s none) = short-fault text more ds s none (fault_of text) refl
fault-tokens (ends_nothing b line left r) = reached r ∙ ap (first_fault b false) (semicolon-read line left)
fault-tokens (opens_nothing b line left r) = reached r ∙ ap (first_fault b false) (opening-read line left)
fault-tokens (closes_words b line left r) = reached r ∙ ap (first_fault b true) (closing-read line left)
fault-tokens (closes_nothing line left r) = reached r ∙ ap (first_fault 0 false) (closing-read line left)
fault-tokens (follows_quote b line quote next p pieces left q s f r) = reached r ∙ misplaced_read b line p quote next pieces left q s f
fault-tokens (opens_too_many line left r) = reached r ∙ ap (first_fault 16 true) (opening-read line left)

-- no more than 16 blocks are open
few_open : {text : List ℕ} {b : ℕ} {p : Bool} {line : ℕ} {left : List ℕ} → Reaches text b p line left → b ≤ 16
few_open begin = omega arith
few_open (faults.gap b line p gap left r g) = few_open r
few_open (faults.word b line next p value word left r w) = few_open r
few_open (faults.semicolon b line left r) = few_open r
few_open (faults.opening b line left r few) = omega arith
few_open (faults.closing b line left r) = let h = few_open r in omega arith

not_fewer : (b : ℕ) → b ≤ 16 → nat_lt b 16 ≡ false → b ≡ 16
not_fewer b most none = elim (eq-or-lt_of_le most) [
  | inl same ↦ same
  | inr less ↦ let some = lt-ltb b 16 less in absurd (cc)
]

-- the fault of equal tokens
same_fault : {text : List ℕ} {f g : Fault} → Some f ≡ Some g → HasFault text f.line f.kind → HasFault text g.line g.kind
same_fault {text} {f} {g} e h = let i : f ≡ g = cc in subst (λ (x : Fault). HasFault text x.line x.kind) i h

-- the end of the text is no other fault
not_at_end : (b : ℕ) (p : Bool) (line : ℕ) (f : Fault) → f.kind ≢ 2 → first_fault b p (record { line = line; lexeme = end } ∷ []) ≡ Some f → ⊥
not_at_end b p line f other e = other (sym (end_kind line (p || nat_lt 0 b) f e))

-- what is found in fewer bytes than these
abbrev Finds : List ℕ → Fault → ℕ → Type 0
Finds text f fuel = (b : ℕ) (p : Bool) (line : ℕ) (left : List ℕ) → Reaches text b p line left → length left < fuel → first_fault b p (between line left) ≡ Some f → HasFault text f.line f.kind

module _ (text : List ℕ) (f : Fault) (other : f.kind ≢ 2) where
  at_semicolon : (fuel b : ℕ) (p : Bool) (line : ℕ) (left : List ℕ) → Reaches text b p line (59 ∷ left) → length left < fuel → first_fault b p (between line (59 ∷ left)) ≡ Some f → Finds text f fuel → HasFault text f.line f.kind
  at_semicolon fuel b true line left r len e again = again b false line left (faults.semicolon b line left r) len (sym (ap (first_fault b true) (semicolon-read line left)) ∙ e)
  at_semicolon fuel b false line left r len e again = same_fault (sym (ap (first_fault b false) (semicolon-read line left)) ∙ e) (ends_nothing b line left r)

  at_opening : (fuel b : ℕ) (p : Bool) (line : ℕ) (left : List ℕ) → Reaches text b p line (123 ∷ left) → length left < fuel → first_fault b p (between line (123 ∷ left)) ≡ Some f → Finds text f fuel → HasFault text f.line f.kind
  at_opening fuel b false line left r len e again = same_fault (sym (ap (first_fault b false) (opening-read line left)) ∙ e) (opens_nothing b line left r)
  at_opening fuel b true line left r len e again = elim (tells (nat_lt b 16)) [
    | inl h ↦
        let few = ltb-true b 16 h in
        again (b + 1) false line left (faults.opening b line left r few) len (sym (ap (first_fault b true) (opening-read line left) ∙ opening-fault b line (between line left) few) ∙ e)
    | inr h ↦
        let most : b ≡ 16 = not_fewer b (few_open r) h in
        let r' : Reaches text 16 true line (123 ∷ left) = subst (λ n. Reaches text n true line (123 ∷ left)) most r in
        let e' : first_fault 16 true (between line (123 ∷ left)) ≡ Some f = subst (λ n. first_fault n true (between line (123 ∷ left)) ≡ Some f) most e in
        same_fault (sym (ap (first_fault 16 true) (opening-read line left)) ∙ e') (opens_too_many line left r')
  ]

  at_closing : (fuel b : ℕ) (p : Bool) (line : ℕ) (left : List ℕ) → Reaches text b p line (125 ∷ left) → length left < fuel → first_fault b p (between line (125 ∷ left)) ≡ Some f → Finds text f fuel → HasFault text f.line f.kind
  at_closing fuel b true line left r len e again = same_fault (sym (ap (first_fault b true) (closing-read line left)) ∙ e) (closes_words b line left r)
  at_closing fuel zero false line left r len e again = same_fault (sym (ap (first_fault 0 false) (closing-read line left)) ∙ e) (closes_nothing line left r)
  at_closing fuel (suc b) false line left r len e again =
      let r' : Reaches text (b + 1) false line (125 ∷ left) = rw add-one r in
      let e' : first_fault (b + 1) false (between line (125 ∷ left)) ≡ Some f = rw add-one e in
      again b false line left (faults.closing b line left r') len (sym (ap (first_fault (b + 1) false) (closing-read line left) ∙ closing-fault b line (between line left)) ∙ e')

  at_word : (fuel b : ℕ) (p : Bool) (line c : ℕ) (cs : List ℕ) → BeginsWord c → Reaches text b p line (c ∷ cs) → length cs < fuel → first_fault b p (between line (c ∷ cs)) ≡ Some f → Finds text f fuel → HasFault text f.line f.kind
  at_word fuel b p line c cs begins r len e again =
      elim (word_rest b line c p cs begins (record { early = λ fault h two. other (cc) })) [
        | inl w ↦
            let r' = faults.word b line w.next p w.value w.text w.rest (subst (Reaches text b p line) w.is r) w.word in
            let read = ap (λ z. first_fault b p (between line z)) w.is ∙ ap (first_fault b p) (word-read w.word line w.rest) in
            let fewer : length (w.next ∷ w.rest) < fuel = omega (arith, len, ap length w.is, length-append w.text (w.next ∷ w.rest), word_long w.word) in
            again b true (line + line_feeds w.text) (w.next ∷ w.rest) r' fewer (sym read ∙ e)
        | inr m ↦
            let r' = subst (Reaches text b p line) m.is r in
            let read = ap (λ z. first_fault b p (between line z)) m.is ∙ misplaced_read b line p m.quote m.next m.pieces m.rest m.quotes m.stays m.follows in
            same_fault (sym read ∙ e) (follows_quote b line m.quote m.next p m.pieces m.rest m.quotes m.stays m.follows r')
      ]

  at_place : (fuel b : ℕ) (p : Bool) (line : ℕ) (left : List ℕ) → Behind left → Reaches text b p line left → length left ≤ fuel → first_fault b p (between line left) ≡ Some f → Finds text f fuel → HasFault text f.line f.kind
  at_place fuel b p line _ at_end r len e again = absurd (not_at_end b p line f other e)
  at_place fuel b p line _ (at_comment said n) r len e again = absurd (not_at_end b p line f other (sym (ap (first_fault b p) (comment_end line said n)) ∙ e))
  at_place fuel b p line _ (at_byte c cs dark hash) r len e again =
      let fewer : length cs < fuel = omega arith in
      elim (tells (c == 59)) [
        | inl k ↦
            let is = eqb-true c 59 k in
            at_semicolon fuel b p line cs (subst (λ n. Reaches text b p line (n ∷ cs)) is r) fewer (subst (λ n. first_fault b p (between line (n ∷ cs)) ≡ Some f) is e) again
        | inr semicolon ↦ elim (tells (c == 123)) [
          | inl k ↦
              let is = eqb-true c 123 k in
              at_opening fuel b p line cs (subst (λ n. Reaches text b p line (n ∷ cs)) is r) fewer (subst (λ n. first_fault b p (between line (n ∷ cs)) ≡ Some f) is e) again
          | inr opening ↦ elim (tells (c == 125)) [
            | inl k ↦
                let is = eqb-true c 125 k in
                at_closing fuel b p line cs (subst (λ n. Reaches text b p line (n ∷ cs)) is r) fewer (subst (λ n. first_fault b p (between line (n ∷ cs)) ≡ Some f) is e) again
            | inr closing ↦
                at_word fuel b p line c cs (record { blank = dark; hash = hash; semicolon = semicolon; opening = opening; closing = closing }) r fewer e again
          ]
        ]
      ]

  find : (fuel : ℕ) → Finds text f fuel
  find zero b p line left r len e = absurd (omega arith)
  find (suc fuel) b p line left r len e =
      let s = skip left in
      let r' = faults.gap b line p s.gap s.rest (subst (Reaches text b p line) s.is r) s.text in
      let read = ap (λ z. first_fault b p (between line z)) s.is ∙ ap (first_fault b p) (gap-read s.text line s.rest) in
      let fewer : length s.rest ≤ fuel = omega (arith, len, ap length s.is, length-append s.gap s.rest) in
      at_place fuel b p (line + line_feeds s.gap) s.rest s.behind r' fewer (sym read ∙ e) (find fuel)

-- the tokens' fault is the text's, unless it is its end
pub tokens-other : (text : List ℕ) (f : Fault) → f.kind ≢ 2 → fault_of text ≡ Some f → HasFault text f.line f.kind
tokens-other text f other e = find text f other (suc (length text)) 0 false 1 text begin (omega arith) e
