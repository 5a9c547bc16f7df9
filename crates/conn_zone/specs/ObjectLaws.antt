-- The laws of a connection zone as an object.
use Rattle.std.proofs.Common.{◌≡◌, ℕ, ◌+◌, ◌<◌, ◌≤◌, ◌⊎◌, List, [], ◌∷◌, ◌++◌, refl, sym, ap, subst, ◌∙◌, inl, inr, arith}
use Rattle.std.specs.Prelude.{sum_by}
use Rattle.std.specs.List.{All}
use Rattle.std.proofs.lemmas.Bool.{cases_eq}
use Rattle.std.proofs.lemmas.List.Elements.{All-nil, All-weaker}
use Rattle.zone_object.specs.History.{entry, run, IsReady, IsHistory}
use Rattle.zone_object.specs.Fair.{GivesBackOwn}
use Rattle.zone_object.specs.Carried.{MayFollow, Carries}
use Rattle.zone_object.proofs.Fair.{sum-snoc, held-law}
use Rattle.zone_object.proofs.Carried.{carried-ready, carried-holds}
use Rattle.slab_model.proofs.LiveLemmas.{once_here, once_there}
use Rattle.conn_zone.specs.declared.state.ConnEntry.{ConnEntry}
use Rattle.conn_zone.specs.declared.state.ConnState.{ConnState}
use Rattle.conn_zone.specs.declared.calls.ConnCall.{ConnCall}
use Rattle.conn_zone.specs.declared.calls.ConnCall.TheVariants.{Open, Close}
use Rattle.conn_zone.specs.Object.{Made, IsOpened, answer_of, zone_after, IsCount, once_at, given, back, back_by, count_at, Permits, Ready, CanAnswer}
use Rattle.conn_zone.specs.Holding.{IsEntry, Holds}
use Rattle.conn_zone.specs.Proving.Fresh.{opened_whole, opened_empty, opened_same}
use Rattle.conn_zone.specs.Proving.CallEffects.{moves, answers}

module _ {X : Type 0} where
  -- an entry that closes was permitted by its caller's own entries
  gives_back_own : (at : ℕ) → GivesBackOwn {X = X} Permits (given at) (back at)
  gives_back_own at mine e may = go e.call refl may where
    go : (call : ConnCall) → e.call ≡ call → Permits mine call → (back at e ≡ 0) ⊎ (sum_by (back at) mine + back at e ≤ sum_by (given at) mine)
    go (Open key limit) is h = inl (ap (back_by at) is)
    go (Close to) is h = elim (cases_eq at to) [
      | inl same ↦
          let one : back at e ≡ 1 = ap (back_by at) is ∙ ap (λ (n : ℕ). once_at n to) same ∙ once_here to in
          let less : sum_by (back at) mine < sum_by (given at) mine = subst (λ (n : ℕ). sum_by (back n) mine < sum_by (given n) mine) (sym same) h in
          inr (omega (arith, one, less))
      | inr ne ↦ inl (ap (back_by at) is ∙ once_there at to ne)
    ]

  begins : (s : ConnState) → IsOpened s → Holds {X = X} s [] s
  begins s opened = record {
    whole = opened_whole s opened;
    entries = subst (λ (t : List ConnEntry). All IsEntry t) (sym (opened_empty s opened)) (All-nil IsEntry);
    held = λ at. let none : count_at at s.table ≡ 0 = ap (λ (t : List ConnEntry). count_at at t) (opened_empty s opened) in omega (arith, none);
  }

  readies : (start : ConnState) (log : List (Made X)) (s : ConnState) (who : ℕ) (call : ConnCall) → Holds start log s → MayFollow Permits log who call → Ready s call
  readies start log s who (Open key limit) h m = record { counts = All-weaker IsEntry (λ (e : ConnEntry). IsCount e.count) (λ e is. is.count) s.table h.entries; asked = m.may }
  readies start log s who (Close at) h m =
      let fair = held-law Permits (given at) (back at) (gives_back_own at) log m.permitted who in
      let may = m.may in
      let held = h.held at in
      record { counts = All-weaker IsEntry (λ (e : ConnEntry). IsCount e.count) (λ e is. is.count) s.table h.entries; asked = omega (arith, fair, may, held) }

  goes_on : (start : ConnState) (log : List (Made X)) (s : ConnState) (who : ℕ) (call : ConnCall) → Holds start log s → MayFollow Permits log who call → Ready s call → Holds start (log ++ entry who call (answer_of s call) ∷ []) (zone_after s call)
  goes_on start log s who call h m ready = let step = moves s call h.whole h.entries ready in record {
    whole = step.whole;
    entries = step.entries;
    held = λ at.
        let e : Made X = entry who call (answer_of s call) in
        let held = h.held at in
        let count = step.count at in
        omega (arith, sum-snoc (back at) log e, sum-snoc (given at) log e, held, count);
  }

  carries : Carries {X = X} IsOpened answer_of zone_after Permits Ready Holds
  carries = record { begins = begins; readies = readies; goes_on = goes_on }

  -- in each history each call is ready
  pub ready-law : (start : ConnState) (log : List (Made X)) → IsHistory IsOpened answer_of zone_after Permits start log → IsReady zone_after Ready start log
  ready-law = carried-ready IsOpened answer_of zone_after Permits Ready Holds carries

  -- and the zone is whole, with the connections that were given and not yet given back
  pub holds-law : (start : ConnState) (log : List (Made X)) → IsHistory IsOpened answer_of zone_after Permits start log → Holds start log (run zone_after start log)
  holds-law = carried-holds IsOpened answer_of zone_after Permits Ready Holds carries

-- what a ready call is answered
pub answer-law : (s : ConnState) (call : ConnCall) → Ready s call → CanAnswer s call (answer_of s call)
answer-law = answers

-- the name and the size of a zone say how it begins
pub start-law : (s t : ConnState) → IsOpened s → IsOpened t → s.name ≡ t.name → s.slab.shape ≡ t.slab.shape → s ≡ t
start-law = opened_same
