-- The directives of a block that pass a test: each is in its limits, they differ two by two, and they are few.
use Rattle.std.proofs.Common.{◌≡◌, ℕ, ◌<◌, ◌≤◌, Bool, true, false, cond, List, [], ◌∷◌, ◌++◌, length, append_assoc, append-nil, refl, sym, ◌∙◌, ap, subst, arith}
use Rattle.std.specs.List.{All, AllPairs, filter}
use Rattle.std.proofs.lemmas.List.{length_push}
use Rattle.std.proofs.lemmas.List.Elements.{All-nil, All-push, filter-append}
use Rattle.std.proofs.lemmas.List.Quantifiers.{all_pairs_push}
use Rattle.directive_text.specs.declared.tree.Directive.{Directive}
use Rattle.config_rules.specs.InOrder.{Place, Scope}
use Rattle.config_rules.proofs.Around.{Each}

-- directives that are each in their limits, differ two by two, and are at most so many
pub record Chosen (Q : Directive → Type 0) (differ : Directive → Directive → Type 0) (most : ℕ) (ds : List Directive) : Type 0 where
  pub each : All Q ds
  pub apart : AllPairs differ ds
  pub count : length ds ≤ most

-- one more, behind these
pub record OneMore (Q : Directive → Type 0) (differ : Directive → Directive → Type 0) (most : ℕ) (before : List Directive) (d : Directive) : Type 0 where
  pub itself : Q d
  pub apart : All (λ b. differ b d) before
  pub room : length before < most

chosen_none : (Q : Directive → Type 0) (differ : Directive → Directive → Type 0) (most : ℕ) → Chosen Q differ most []
chosen_none Q differ most = record { each = All-nil Q; apart = λ i j d below within. absurd (omega arith); count = omega arith }

chosen_more : (Q : Directive → Type 0) (differ : Directive → Directive → Type 0) (most : ℕ) (before : List Directive) (d : Directive) →
    Chosen Q differ most before → OneMore Q differ most before d → Chosen Q differ most (before ++ d ∷ [])
chosen_more Q differ most before d c m = record {
  each = All-push Q before d c.each m.itself;
  apart = all_pairs_push differ before d c.apart m.apart;
  count = omega (arith, m.room, length_push before d);
}

-- what is chosen of one directive more
filter_push : (test : Directive → Bool) (before : List Directive) (d : Directive) (b : Bool) → test d ≡ b → filter test (before ++ d ∷ []) ≡ filter test before ++ cond b (d ∷ []) []
filter_push test before d b is = filter-append test before (d ∷ []) ∙ ap (λ t. filter test before ++ cond t (d ∷ []) []) is

chosen_step : (Q : Directive → Type 0) (differ : Directive → Directive → Type 0) (most : ℕ) (test : Directive → Bool) (before : List Directive) (d : Directive) (b : Bool) → test d ≡ b →
    (test d ≡ true → OneMore Q differ most (filter test before) d) → Chosen Q differ most (filter test before) → Chosen Q differ most (filter test (before ++ d ∷ []))
chosen_step Q differ most test before d true is more c =
    subst (Chosen Q differ most) (sym (filter_push test before d true is)) (chosen_more Q differ most (filter test before) d c (more is))
chosen_step Q differ most test before d false is more c =
    subst (Chosen Q differ most) (sym (filter_push test before d false is ∙ append-nil (filter test before))) c

chosen_from : (P : Place → Type 0) (Q : Directive → Type 0) (differ : Directive → Directive → Type 0) (most : ℕ) (test : Directive → Bool) (scope : Scope) →
    ((before : List Directive) (d : Directive) → P (record { scope = scope; before = before; directive = d }) → test d ≡ true → All Q (filter test before) → OneMore Q differ most (filter test before) d) →
    (before ds : List Directive) → Each P scope before ds → Chosen Q differ most (filter test before) → Chosen Q differ most (filter test (before ++ ds))
chosen_from P Q differ most test scope more before [] each c = subst (λ ds. Chosen Q differ most (filter test ds)) (sym (append-nil before)) c
chosen_from P Q differ most test scope more before (d ∷ ds) each c =
    subst (λ xs. Chosen Q differ most (filter test xs)) (append_assoc before (d ∷ []) ds)
    (chosen_from P Q differ most test scope more (before ++ d ∷ []) ds each.1
    (chosen_step Q differ most test before d (test d) refl (λ passes. more before d each.0 passes c.each) c))

-- of a block each directive of which has such a place
pub chosen : (P : Place → Type 0) (Q : Directive → Type 0) (differ : Directive → Directive → Type 0) (most : ℕ) (test : Directive → Bool) (scope : Scope) →
    ((before : List Directive) (d : Directive) → P (record { scope = scope; before = before; directive = d }) → test d ≡ true → All Q (filter test before) → OneMore Q differ most (filter test before) d) →
    (ds : List Directive) → Each P scope [] ds → Chosen Q differ most (filter test ds)
chosen P Q differ most test scope more ds each = chosen_from P Q differ most test scope more [] ds each (chosen_none Q differ most)
