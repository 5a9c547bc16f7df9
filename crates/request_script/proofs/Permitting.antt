-- Turns whose calls are permitted.
use Rattle.std.proofs.Common.{◌≡◌, ℕ, ◌<◌, ◌≤◌, Bool, true, false, ◌||◌, nat_eq, nat_lt, if◌then◌else◌, List, [], ◌∷◌, ◌++◌, Option, refl, sym, ap, subst, append_assoc, arith}
use Rattle.std.proofs.lemmas.List.{append-nil}
use Rattle.std.proofs.lemmas.Bool.Decides.{nat_tests}
use Rattle.request_script.specs.declared.active.Active.{Active}
use Rattle.request_script.specs.declared.call.ZoneCall.{ZoneCall}
use Rattle.request_script.specs.declared.call.ZoneReply.{ZoneReply}
use Rattle.request_script.specs.Turn.{Turn, Exchange, Leads}
use Rattle.request_script.specs.Turn.Turn.{asks, decides}
use Rattle.request_script.specs.Permitted.{MayAsk}
use Rattle.request_script.proofs.Held.{with_one}

module _ (Ends : List Exchange → Option Active → Type 0) where
  -- after these exchanges each call of a turn is permitted, whatever it is answered, and it ends well
  abbrev pub Runs : List Exchange → Turn → Type 0
  Runs past (decides decision active) = Ends past active
  Runs past (asks call next) = MayAsk past call × ((reply : ZoneReply) → Runs (with_one past call reply) (next reply))

  pub runs-leads : (turn : Turn) (past since : List Exchange) (end : Turn) → Runs past turn → Leads turn since end → Runs (past ++ since) end
  runs-leads turn past [] end runs leads = subst (λ t. Runs (past ++ []) t) leads (subst (λ l. Runs l turn) (sym (append-nil past)) runs)
  runs-leads (decides decision active) past (e ∷ es) end runs leads = absurd leads
  runs-leads (asks call next) past (e ∷ es) end runs leads =
      let made : Exchange = record { call = call; reply = e.reply } in
      let same : past ++ made ∷ es ≡ past ++ e ∷ es = ap (λ (c : ZoneCall). past ++ record { call = c; reply = e.reply } ∷ es) (sym leads.0) in
      subst (λ l. Runs l end) same (subst (λ l. Runs l end) (append_assoc past (made ∷ []) es) (runs-leads (next e.reply) (past ++ made ∷ []) es end (runs.1 e.reply) leads.1))

  pub if-runs : (b : Bool) (past : List Exchange) (first second : Turn) → Runs past first → (b ≡ false → Runs past second) → Runs past (if b then first else second)
  if-runs true past first second h k = h
  if-runs false past first second h k = k refl

-- a key that isn't skipped has a byte, and no more than the most
pub unskipped : (most n : ℕ) → (nat_eq n 0 || nat_lt most n) ≡ false → (0 < n) × (n ≤ most)
unskipped most n is = (grind (arith, nat_tests), grind (arith, nat_tests))
