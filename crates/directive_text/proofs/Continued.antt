-- A text that ends too early can be continued to one without a fault.
use Rattle.std.proofs.Common.{◌≡◌, ℕ, zero, suc, ◌+◌, Bool, true, false, not, ◌&&◌, ◌||◌, List, [], ◌∷◌, ◌++◌, Option, None, Some, refl, sym, ◌∙◌, ap, subst, eq-eqb, add-one, arith}
use Rattle.std.specs.Prelude.{◌==◌, if◌then◌else◌}
use Rattle.directive_text.specs.Internals.Lexemes.{Token, Rest, followed, between, comment, plain, plain_pair, quoted, quoted_pair}
use Rattle.directive_text.specs.Bytes.{is_blank, is_quote, may_follow, below}
use Rattle.directive_text.specs.Internals.Tokens.{Fault, kind_at, blocks_after, is_word, first_fault, fault_of}
use Rattle.directive_text.specs.Internals.ScanSteps.{is_end}
use Rattle.directive_text.proofs.LastLine.{kind-end}
use Rattle.directive_text.proofs.Printed.{closing-read, closing-fault, semicolon-read}

-- these tokens' fault, if they have one, is the end of the text
record Short (blocks : ℕ) (pending : Bool) (ts : List Token) : Type 0 where
  kind : (fault : Fault) → first_fault blocks pending ts ≡ Some fault → fault.kind ≡ 2

-- some text makes these tokens sound
record Continues (blocks : ℕ) (pending : Bool) (ts : List ℕ → List Token) : Type 0 where
  more : List ℕ
  sound : first_fault blocks pending (ts more) ≡ None

-- blocks are closed
closers : (blocks line : ℕ) → Continues blocks false (between line)
closers zero line = record { more = []; sound = refl }
closers (suc blocks) line =
    let c = closers blocks line in
    let open_blocks : blocks + 1 ≡ suc blocks = add-one blocks in
    record {
      more = 125 ∷ c.more;
      sound =
          subst (λ n. first_fault n false (between line (125 ∷ c.more)) ≡ None) open_blocks
          (ap (first_fault (blocks + 1) false) (closing-read line c.more) ∙ closing-fault blocks line (between line c.more) ∙ c.sound);
    }

-- a directive is ended, and blocks are closed
enders : (blocks line : ℕ) (pending : Bool) → Continues blocks pending (between line)
enders blocks line false = closers blocks line
enders blocks line true =
    let c = closers blocks line in
    record { more = 59 ∷ c.more; sound = ap (first_fault blocks true) (semicolon-read line c.more) ∙ c.sound }

-- with bytes in front
along : {blocks blocks' : ℕ} {pending pending' : Bool} (ts us : List ℕ → List Token) (front : List ℕ) → ((more : List ℕ) → first_fault blocks pending (ts (front ++ more)) ≡ first_fault blocks' pending' (us more)) → Continues blocks' pending' us → Continues blocks pending ts
along {blocks} {blocks'} {pending} {pending'} ts us front e c = record { more = front ++ c.more; sound = e c.more ∙ c.sound }

pick : (blocks : ℕ) (pending : Bool) (b : Bool) (u v : List Token) (x y : List ℕ → List Token) → Short blocks pending (if b then u else v) → (Short blocks pending u → Continues blocks pending x) → (Short blocks pending v → Continues blocks pending y) → Continues blocks pending (λ m. if b then x m else y m)
pick blocks pending true u v x y s p q = let c = p s in record { more = c.more; sound = c.sound }
pick blocks pending false u v x y s p q = let c = q s in record { more = c.more; sound = c.sound }

pick_rest : (blocks : ℕ) (pending : Bool) (b : Bool) (u v : Rest) (x y : List ℕ → Rest) → Short blocks pending (if b then u else v).tokens → (Short blocks pending u.tokens → Continues blocks pending (λ m. (x m).tokens)) → (Short blocks pending v.tokens → Continues blocks pending (λ m. (y m).tokens)) → Continues blocks pending (λ m. (if b then x m else y m).tokens)
pick_rest blocks pending true u v x y s p q = let c = p s in record { more = c.more; sound = c.sound }
pick_rest blocks pending false u v x y s p q = let c = q s in record { more = c.more; sound = c.sound }

-- a token in front that is no fault but the end of the text
behind : (blocks : ℕ) (pending : Bool) (line : ℕ) (k : Option ℕ) (u : Option Fault) → (k ≡ Some 2 → ⊥) →
    let here : Option ℕ → Option Fault → Option Fault = λ o next. elim o as (λ _. Option Fault) [ Some kind ↦ Some (record { line = line; kind = kind }) | None ↦ next ] in
    ((fault : Fault) → here k u ≡ Some fault → fault.kind ≡ 2) → k ≡ None
behind blocks pending line None u other s = refl
behind blocks pending line (Some kind) u other s = absurd (other (ap (λ k. Some k) (s (record { line = line; kind = kind }) refl)))

passes : (blocks : ℕ) (pending : Bool) (t : Token) (ts : List Token) → kind_at blocks pending t.lexeme ≡ None → first_fault blocks pending (t ∷ ts) ≡ first_fault (blocks_after blocks t.lexeme) (is_word t.lexeme) ts
passes blocks pending t ts e =
    let next : Option Fault = first_fault (blocks_after blocks t.lexeme) (is_word t.lexeme) ts in
    subst (λ (k : Option ℕ). elim k as (λ _. Option Fault) [ Some kind ↦ Some (record { line = t.line; kind = kind }) | None ↦ next ] ≡ next) (sym e) refl

in_front : (blocks : ℕ) (pending : Bool) (t : Token) (u : List Token) (x : List ℕ → List Token) → is_end t.lexeme ≡ false → Short blocks pending (t ∷ u) →
    ((b : ℕ) (p : Bool) → Short b p u → Continues b p x) → Continues blocks pending (λ m. t ∷ x m)
in_front blocks pending t u x other s on =
    let none = behind blocks pending t.line (kind_at blocks pending t.lexeme) _ (kind-end t.lexeme blocks pending other) s.kind in
    let c = on (blocks_after blocks t.lexeme) (is_word t.lexeme) (record { kind = λ fault e. s.kind fault (passes blocks pending t u none ∙ e) }) in
    record { more = c.more; sound = passes blocks pending t (x c.more) none ∙ c.sound }

-- a space ends a word
space_ends : (dollar : Bool) (line : ℕ) (more : List ℕ) → (plain dollar line (32 ∷ more)).tokens ≡ between line more
unfolding is_blank below
space_ends dollar line more = refl

space_follows : (line : ℕ) (more : List ℕ) → followed line (32 ∷ more) (between line (32 ∷ more)) ≡ between line more
unfolding may_follow is_blank below
space_follows line more = refl

plain-ends : (blocks : ℕ) (dollar : Bool) (line : ℕ) → Continues blocks true (λ m. (plain dollar line m).tokens)
plain-ends blocks dollar line = along (λ m. (plain dollar line m).tokens) (between line) (32 ∷ []) (λ m. ap (first_fault blocks true) (space_ends dollar line m)) (enders blocks line true)

followed-ends : (blocks line : ℕ) → Continues blocks true (λ m. followed line m (between line m))
followed-ends blocks line = along (λ m. followed line m (between line m)) (between line) (32 ∷ []) (λ m. ap (first_fault blocks true) (space_follows line m)) (enders blocks line true)

quote_closes : (quote line : ℕ) (more : List ℕ) → (quoted quote line (quote ∷ more)).tokens ≡ followed line more (between line more)
quote_closes quote line more = rw (eq-eqb quote quote refl) refl

quoted-ends : (blocks quote line : ℕ) → Continues blocks true (λ m. (quoted quote line m).tokens)
quoted-ends blocks quote line = along (λ m. (quoted quote line m).tokens) (λ m. followed line m (between line m)) (quote ∷ []) (λ m. ap (first_fault blocks true) (quote_closes quote line m)) (followed-ends blocks line)

followed-continues : (blocks line : ℕ) (bs : List ℕ) → Short blocks true (followed line bs (between line bs)) → (Short blocks true (between line bs) → Continues blocks true (λ m. between line (bs ++ m))) → Continues blocks true (λ m. followed line (bs ++ m) (between line (bs ++ m)))
followed-continues blocks line [] s on = let c = followed-ends blocks line in record { more = c.more; sound = c.sound }
followed-continues blocks line (b ∷ bs) s on = pick blocks true (may_follow b) _ _ (λ m. between line (b ∷ bs ++ m)) _ s on (λ h. let six = h.kind _ refl in absurd (omega arith))

mutual
  between-continues : (blocks : ℕ) (pending : Bool) (line : ℕ) (bs : List ℕ) → Short blocks pending (between line bs) → Continues blocks pending (λ m. between line (bs ++ m))
  between-continues blocks pending line [] s = let c = enders blocks line pending in record { more = c.more; sound = c.sound }
  between-continues blocks pending line (b ∷ bs) s =
      pick blocks pending (is_blank b) _ _ (λ m. between (below line b) (bs ++ m)) _ s (λ h. between-continues blocks pending (below line b) bs h) (λ h.
      pick blocks pending (b == 35) _ _ (λ m. comment line (bs ++ m)) _ h (λ h. comment-continues blocks pending line bs h) (λ h.
      pick blocks pending (b == 59) _ _ _ _ h (λ h. in_front blocks pending _ _ (λ m. between line (bs ++ m)) refl h (λ b p h. between-continues b p line bs h)) (λ h.
      pick blocks pending (b == 123) _ _ _ _ h (λ h. in_front blocks pending _ _ (λ m. between line (bs ++ m)) refl h (λ b p h. between-continues b p line bs h)) (λ h.
      pick blocks pending (b == 125) _ _ _ _ h (λ h. in_front blocks pending _ _ (λ m. between line (bs ++ m)) refl h (λ b p h. between-continues b p line bs h)) (λ h.
      pick blocks pending (is_quote b) _ _ _ _ h (λ h. let c = quoted-continues blocks b line bs (record { kind = h.kind }) in record { more = c.more; sound = c.sound }) (λ h.
      pick blocks pending (b == 92) _ _ _ _ h (λ h. let c = plain_pair-continues blocks line bs (record { kind = h.kind }) in record { more = c.more; sound = c.sound })
      (λ h. let c = plain-continues blocks (b == 36) line bs (record { kind = h.kind }) in record { more = c.more; sound = c.sound })))))))

  comment-continues : (blocks : ℕ) (pending : Bool) (line : ℕ) (bs : List ℕ) → Short blocks pending (comment line bs) → Continues blocks pending (λ m. comment line (bs ++ m))
  comment-continues blocks pending line [] s = along (λ m. comment line m) (between (line + 1)) (10 ∷ []) (λ m. refl) (enders blocks (line + 1) pending)
  comment-continues blocks pending line (b ∷ bs) s =
      pick blocks pending (b == 10) _ _ (λ m. between (line + 1) (bs ++ m)) (λ m. comment line (bs ++ m)) s (λ h. between-continues blocks pending (line + 1) bs h) (λ h. comment-continues blocks pending line bs h)

  plain-continues : (blocks : ℕ) (dollar : Bool) (line : ℕ) (bs : List ℕ) → Short blocks true (plain dollar line bs).tokens → Continues blocks true (λ m. (plain dollar line (bs ++ m)).tokens)
  plain-continues blocks dollar line [] s = let c = plain-ends blocks dollar line in record { more = c.more; sound = c.sound }
  plain-continues blocks dollar line (b ∷ bs) s =
      pick_rest blocks true (is_blank b) _ _ _ _ s (λ h. let c = between-continues blocks true (below line b) bs h in record { more = c.more; sound = c.sound }) (λ h.
      pick_rest blocks true (b == 59) _ _ _ _ h (λ h. in_front blocks true _ _ (λ m. between line (bs ++ m)) refl h (λ b p h. between-continues b p line bs h)) (λ h.
      pick_rest blocks true (b == 123 && not dollar) _ _ _ _ h (λ h. in_front blocks true _ _ (λ m. between line (bs ++ m)) refl h (λ b p h. between-continues b p line bs h)) (λ h.
      pick_rest blocks true (b == 92) _ _ _ _ h (λ h. let c = plain_pair-continues blocks line bs (record { kind = h.kind }) in record { more = c.more; sound = c.sound })
      (λ h. let c = plain-continues blocks (b == 36 || b == 123) line bs (record { kind = h.kind }) in record { more = c.more; sound = c.sound }))))

  plain_pair-continues : (blocks line : ℕ) (bs : List ℕ) → Short blocks true (plain_pair line bs).tokens → Continues blocks true (λ m. (plain_pair line (bs ++ m)).tokens)
  plain_pair-continues blocks line [] s = along (λ m. (plain_pair line m).tokens) (λ m. (plain false (below line 97) m).tokens) (97 ∷ []) (λ m. refl) (plain-ends blocks false (below line 97))
  plain_pair-continues blocks line (b ∷ bs) s = let c = plain-continues blocks false (below line b) bs (record { kind = s.kind }) in record { more = c.more; sound = c.sound }

  quoted-continues : (blocks quote line : ℕ) (bs : List ℕ) → Short blocks true (quoted quote line bs).tokens → Continues blocks true (λ m. (quoted quote line (bs ++ m)).tokens)
  quoted-continues blocks quote line [] s = let c = quoted-ends blocks quote line in record { more = c.more; sound = c.sound }
  quoted-continues blocks quote line (b ∷ bs) s =
      pick_rest blocks true (b == quote) _ _ _ _ s (λ h. let c = followed-continues blocks line bs h (λ h. between-continues blocks true line bs h) in record { more = c.more; sound = c.sound }) (λ h.
      pick_rest blocks true (b == 92) _ _ _ _ h (λ h. let c = quoted_pair-continues blocks quote line bs (record { kind = h.kind }) in record { more = c.more; sound = c.sound })
      (λ h. let c = quoted-continues blocks quote (below line b) bs (record { kind = h.kind }) in record { more = c.more; sound = c.sound }))

  quoted_pair-continues : (blocks quote line : ℕ) (bs : List ℕ) → Short blocks true (quoted_pair quote line bs).tokens → Continues blocks true (λ m. (quoted_pair quote line (bs ++ m)).tokens)
  quoted_pair-continues blocks quote line [] s = along (λ m. (quoted_pair quote line m).tokens) (λ m. (quoted quote (below line 97) m).tokens) (97 ∷ []) (λ m. refl) (quoted-ends blocks quote (below line 97))
  quoted_pair-continues blocks quote line (b ∷ bs) s = let c = quoted-continues blocks quote (below line b) bs (record { kind = s.kind }) in record { more = c.more; sound = c.sound }

-- a text that ends too early can go on
pub continued : (text : List ℕ) (f : Fault) → fault_of text ≡ Some f → f.kind ≡ 2 → (more : List ℕ) × (fault_of (text ++ more) ≡ None)
continued text f e two =
    let c = between-continues 0 false 1 text (record { kind = λ fault h. let same : f ≡ fault = cc in ap (λ (x : Fault). x.kind) (sym same) ∙ two }) in
    (c.more, c.sound)
