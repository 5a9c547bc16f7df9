-- What calls carry along a history: an invariant by which an author of a zone proves its law.
use Rattle.std.specs.Prelude.{ℕ, ◌+◌, ◌<◌, ◌^◌, List, [], ◌∷◌, ◌++◌, length}
use Rattle.zone_object.specs.declared.object.Entry.{Entry}
use Rattle.zone_object.specs.History.{own, entry, IsPermitted}

module _ {X St C R : Type 0} where
  -- this caller may make this call after these entries
  pub record MayFollow (permits : List (Entry X St C R) → C → Type 0) (log : List (Entry X St C R)) (who : ℕ) (call : C) : Type 0 where
    pub short : length log + 1 < 2 ^ 32
    pub permitted : IsPermitted permits [] log
    pub may : permits (own log who) call

  -- `Holds start log s`: what holds at the state s that the calls of `log` lead to from a quiet start
  -- it holds at the start, makes each call ready that may follow, and holds again after that call
  pub record Carries (is_quiet : St → Type 0) (reply_of : St → C → R) (state_after : St → C → St) (permits : List (Entry X St C R) → C → Type 0) (ready : St → C → Type 0) (Holds : St → List (Entry X St C R) → St → Type 0) : Type 0 where
    pub begins : (start : St) → is_quiet start → Holds start [] start
    pub readies : (start : St) (log : List (Entry X St C R)) (s : St) (who : ℕ) (call : C) → Holds start log s → MayFollow permits log who call → ready s call
    pub goes_on : (start : St) (log : List (Entry X St C R)) (s : St) (who : ℕ) (call : C) → Holds start log s → MayFollow permits log who call → ready s call → Holds start (log ++ entry who call (reply_of s call) ∷ []) (state_after s call)
