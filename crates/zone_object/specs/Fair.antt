-- What callers were given and gave back.
use Rattle.std.specs.Prelude.{◌≡◌, ℕ, ◌+◌, ◌≤◌, ◌⊎◌, Bool, cond, List, [], sum_by}
use Rattle.zone_object.specs.declared.object.Entry.{Entry}
use Rattle.zone_object.specs.History.{own, IsPermitted}

module _ {X St C R : Type 0} where
  -- the weight of the entries of these callers
  abbrev pub weight_by : (ℕ → Bool) → (Entry X St C R → ℕ) → List (Entry X St C R) → ℕ
  weight_by callers weight log = sum_by (λ e. cond (callers e.caller) (weight e) 0) log

  -- whichever callers are taken together, what they gave back weighs no more than what they were given
  abbrev pub IsFair : (Entry X St C R → ℕ) → (Entry X St C R → ℕ) → List (Entry X St C R) → Type 0
  IsFair given back log = (callers : ℕ → Bool) → weight_by callers back log ≤ weight_by callers given log

  -- who gives something back was given it and has not given it back yet
  abbrev pub GivesBackOwn : (List (Entry X St C R) → C → Type 0) → (Entry X St C R → ℕ) → (Entry X St C R → ℕ) → Type 0
  GivesBackOwn permits given back = (mine : List (Entry X St C R)) (e : Entry X St C R) → permits mine e.call → (back e ≡ 0) ⊎ (sum_by back mine + back e ≤ sum_by given mine)

  -- where callers give back only their own, each permitted history is fair
  abbrev pub FairLaw : (List (Entry X St C R) → C → Type 0) → Type 0
  FairLaw permits = (given back : Entry X St C R → ℕ) → GivesBackOwn permits given back → (log : List (Entry X St C R)) → IsPermitted permits [] log → IsFair given back log

  -- and then what one caller still has is no more than what all have
  abbrev pub HeldLaw : (List (Entry X St C R) → C → Type 0) → Type 0
  HeldLaw permits = (given back : Entry X St C R → ℕ) → GivesBackOwn permits given back → (log : List (Entry X St C R)) → IsPermitted permits [] log → (who : ℕ) → sum_by given (own log who) + sum_by back log ≤ sum_by given log + sum_by back (own log who)
