-- Whoever gives back only its own, what was given back weighs no more than what was given.
use Rattle.std.proofs.Common.{◌≡◌, ℕ, ◌+◌, ◌≤◌, ◌⊎◌, Bool, true, false, cond, List, [], ◌∷◌, ◌++◌, sym, refl, ap, ◌∙◌, subst, append_assoc, ⊎_elim, arith}
use Rattle.std.specs.Prelude.{◌==◌, ◌&&◌, not, sum_by}
use Rattle.std.proofs.lemmas.List.Sums.{sum_by-append, sum_by-cons}
use Rattle.std.proofs.lemmas.List.{append-nil}
use Rattle.std.proofs.lemmas.Bool.Decides.{nat_tests}
use Rattle.zone_object.specs.declared.object.Entry.{Entry}
use Rattle.zone_object.specs.History.{own, IsPermitted}
use Rattle.zone_object.specs.Fair.{weight_by, IsFair, GivesBackOwn, FairLaw, HeldLaw}

module _ {X St C R : Type 0} where
  -- a caller's own entries are the entries of that caller
  weight_own : (weight : Entry X St C R → ℕ) (log : List (Entry X St C R)) (who : ℕ) → sum_by weight (own log who) ≡ weight_by (λ c. c == who) weight log
  weight_own weight [] who = refl
  weight_own weight (e ∷ es) who =
      let i = weight_own weight es who in
      let f : (b : Bool) → (e.caller == who) ≡ b → sum_by weight (cond b (e ∷ own es who) (own es who)) ≡ cond b (weight e) 0 + weight_by (λ c. c == who) weight es = elim [
        | true ↦ λ t. sum_by-cons weight e (own es who) ∙ ap (λ n. weight e + n) i
        | false ↦ λ t. omega (arith, i)
      ] in
      f (e.caller == who) refl ∙ sym (sum_by-cons (λ (e : Entry X St C R). cond (e.caller == who) (weight e) 0) e es)

  -- of callers, one that is among them and the others
  weight_split : (callers : ℕ → Bool) (who : ℕ) (weight : Entry X St C R → ℕ) (log : List (Entry X St C R)) → callers who ≡ true → weight_by callers weight log ≡ weight_by (λ c. c == who) weight log + weight_by (λ c. callers c && not (c == who)) weight log
  weight_split callers who weight [] is = refl
  weight_split callers who weight (e ∷ es) is =
      let i = weight_split callers who weight es is in
      let a = sum_by-cons (λ (e : Entry X St C R). cond (callers e.caller) (weight e) 0) e es in
      let b = sum_by-cons (λ (e : Entry X St C R). cond (e.caller == who) (weight e) 0) e es in
      let c = sum_by-cons (λ (e : Entry X St C R). cond (callers e.caller && not (e.caller == who)) (weight e) 0) e es in
      let f : (t : Bool) → (e.caller == who) ≡ t → cond (callers e.caller) (weight e) 0 ≡ cond t (weight e) 0 + cond (callers e.caller && not t) (weight e) 0 = elim [
        | true ↦ λ t. let same : e.caller ≡ who = grind (arith, nat_tests) in let q : callers e.caller ≡ true = ap callers same ∙ is in rw q (omega arith)
        | false ↦ λ t. both (callers e.caller) (weight e)
      ] in
      let g = f (e.caller == who) refl in
      omega (arith, a, b, c, g, i)
    where
      both : (t : Bool) (n : ℕ) → cond t n 0 ≡ 0 + cond (t && true) n 0
      both true n = omega arith
      both false n = omega arith

  weight_snoc : (callers : ℕ → Bool) (weight : Entry X St C R → ℕ) (log : List (Entry X St C R)) (e : Entry X St C R) → weight_by callers weight (log ++ e ∷ []) ≡ weight_by callers weight log + cond (callers e.caller) (weight e) 0
  weight_snoc callers weight log e = omega (arith, sum_by-append (λ (e : Entry X St C R). cond (callers e.caller) (weight e) 0) log (e ∷ []))

  pub sum-snoc : (weight : Entry X St C R → ℕ) (log : List (Entry X St C R)) (e : Entry X St C R) → sum_by weight (log ++ e ∷ []) ≡ sum_by weight log + weight e
  sum-snoc weight log e = omega (arith, sum_by-append weight log (e ∷ []))

  fair-nil : (given back : Entry X St C R → ℕ) → IsFair given back []
  fair-nil given back callers = omega arith

  -- an entry whose caller gives back only its own
  fair-snoc : (given back : Entry X St C R → ℕ) (log : List (Entry X St C R)) (e : Entry X St C R) → IsFair given back log
      → (back e ≡ 0) ⊎ (sum_by back (own log e.caller) + back e ≤ sum_by given (own log e.caller)) → IsFair given back (log ++ e ∷ [])
  fair-snoc given back log e fair may callers =
      let a = weight_snoc callers given log e in
      let b = weight_snoc callers back log e in
      let f : (t : Bool) → callers e.caller ≡ t → weight_by callers back log + cond t (back e) 0 ≤ weight_by callers given log + cond t (given e) 0 = elim [
        | true ↦ λ is. ⊎_elim (λ (none : back e ≡ 0). let i = fair callers in omega arith)
            (λ (lt : sum_by back (own log e.caller) + back e ≤ sum_by given (own log e.caller)).
            let i = fair (λ c. callers c && not (c == e.caller)) in
            omega (arith, weight_split callers e.caller back log is, weight_split callers e.caller given log is, weight_own back log e.caller, weight_own given log e.caller)) may
        | false ↦ λ is. let i = fair callers in omega arith
      ] in
      let g = f (callers e.caller) refl in
      omega (arith, a, b, g)

  module _ (permits : List (Entry X St C R) → C → Type 0) where
    fair-along : (given back : Entry X St C R → ℕ) → GivesBackOwn permits given back → (before log : List (Entry X St C R)) → IsFair given back before → IsPermitted permits before log → IsFair given back (before ++ log)
    fair-along given back own_is before [] fair h = subst (λ l. IsFair given back l) (sym (append-nil before)) fair
    fair-along given back own_is before (e ∷ es) fair h =
        subst (λ l. IsFair given back l) (append_assoc before (e ∷ []) es)
        (fair-along given back own_is (before ++ e ∷ []) es (fair-snoc given back before e fair (own_is (own before e.caller) e h.0)) h.1)

    pub fair-law : FairLaw permits
    fair-law given back own_is log h = fair-along given back own_is [] log (fair-nil given back) h

    pub held-law : HeldLaw permits
    held-law given back own_is log h who =
        let fair = fair-law given back own_is log h (λ c. true && not (c == who)) in
        omega (arith, fair, weight_split (λ c. true) who back log refl, weight_split (λ c. true) who given log refl, weight_own back log who, weight_own given log who)
