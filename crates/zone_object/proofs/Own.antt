-- A caller's own entries in histories that are joined.
use Rattle.std.proofs.Common.{◌≡◌, ◌≢◌, ℕ, true, false, List, [], ◌∷◌, ◌++◌, ap, refl, ◌∙◌, arith}
use Rattle.std.specs.Prelude.{◌==◌}
use Rattle.std.proofs.lemmas.List.{append-nil}
use Rattle.std.proofs.lemmas.List.Elements.{filter-append}
use Rattle.std.proofs.lemmas.Bool.Decides.{nat_tests}
use Rattle.zone_object.specs.declared.object.Entry.{Entry}
use Rattle.zone_object.specs.History.{own, is_of}

module _ {X St C R : Type 0} where
  pub own-append : (before after : List (Entry X St C R)) (who : ℕ) → own (before ++ after) who ≡ own before who ++ own after who
  own-append before after who = filter-append (is_of who) before after

  pub own-one : (e : Entry X St C R) (who : ℕ) → e.caller ≡ who → own (e ∷ []) who ≡ e ∷ []
  own-one e who is = let t : (e.caller == who) ≡ true = grind (arith, nat_tests) in rw t refl

  pub own-other : (e : Entry X St C R) (who : ℕ) → e.caller ≢ who → own (e ∷ []) who ≡ []
  own-other e who differs = let t : (e.caller == who) ≡ false = grind (arith, nat_tests) in rw t refl

  -- one entry more, of this caller or of another
  pub own-snoc_mine : (log : List (Entry X St C R)) (e : Entry X St C R) (who : ℕ) → e.caller ≡ who → own (log ++ e ∷ []) who ≡ own log who ++ e ∷ []
  own-snoc_mine log e who is = own-append log (e ∷ []) who ∙ ap (λ l. own log who ++ l) (own-one e who is)

  pub own-snoc_other : (log : List (Entry X St C R)) (e : Entry X St C R) (who : ℕ) → e.caller ≢ who → own (log ++ e ∷ []) who ≡ own log who
  own-snoc_other log e who differs = own-append log (e ∷ []) who ∙ ap (λ l. own log who ++ l) (own-other e who differs) ∙ append-nil (own log who)
