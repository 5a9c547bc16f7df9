-- What calls carry along holds after each history, and makes its calls ready.
use Rattle.std.proofs.Common.{◌<◌, ◌^◌, List, [], ◌∷◌, ◌++◌, length, sym, subst, append_assoc, arith, length-append}
use Rattle.std.proofs.lemmas.List.{append-nil}
use Rattle.zone_object.specs.declared.object.Entry.{Entry}
use Rattle.zone_object.specs.History.{entry, own, run, IsLegal, IsPermitted, IsReady, IsHistory}
use Rattle.zone_object.specs.Carried.{MayFollow, Carries}
use Rattle.zone_object.proofs.Histories.{permitted-snoc}

module _ {X St C R : Type 0} (is_quiet : St → Type 0) (reply_of : St → C → R) (state_after : St → C → St) (permits : List (Entry X St C R) → C → Type 0) (ready : St → C → Type 0) (Holds : St → List (Entry X St C R) → St → Type 0)
    (carries : Carries is_quiet reply_of state_after permits ready Holds) where
  may-first : (before log : List (Entry X St C R)) (e : Entry X St C R) → length (before ++ e ∷ log) < 2 ^ 32 → IsPermitted permits [] before → permits (own before e.caller) e.call → MayFollow permits before e.caller e.call
  may-first before log e short h may = record { short = omega (arith, length-append before (e ∷ log)); permitted = h; may = may }

  module _ (start : St) where
    along : (before log : List (Entry X St C R)) (s : St) → Holds start before s → length (before ++ log) < 2 ^ 32 → IsPermitted permits [] before → IsLegal reply_of state_after s log → IsPermitted permits before log
        → IsReady state_after ready s log × Holds start (before ++ log) (run state_after s log)
    along before [] s h short done legal may = (tt, subst (λ l. Holds start l s) (sym (append-nil before)) h)
    along before (e ∷ es) s h short done legal may =
        let next = may-first before es e short done may.0 in
        let is_ready = carries.readies start before s e.caller e.call h next in
        let after = subst (λ r. Holds start (before ++ entry e.caller e.call r ∷ []) (state_after s e.call)) (sym legal.0) (carries.goes_on start before s e.caller e.call h next is_ready) in
        let joined = append_assoc before (e ∷ []) es in
        let more = along (before ++ e ∷ []) es (state_after s e.call) after (subst (λ l. length l < 2 ^ 32) (sym joined) short) (permitted-snoc permits before e done may.0) legal.1 may.1 in
        ((is_ready, more.0), subst (λ l. Holds start l (run state_after (state_after s e.call) es)) joined more.1)

    after-history : (log : List (Entry X St C R)) → IsHistory is_quiet reply_of state_after permits start log → IsReady state_after ready start log × Holds start log (run state_after start log)
    after-history log h = along [] log start (carries.begins start h.begun) h.formed.0 tt h.legal h.formed.1

  -- the law of a zone: `each_is_ready`
  pub carried-ready : (start : St) (log : List (Entry X St C R)) → IsHistory is_quiet reply_of state_after permits start log → IsReady state_after ready start log
  carried-ready start log h = (after-history start log h).0

  -- what holds after a history
  pub carried-holds : (start : St) (log : List (Entry X St C R)) → IsHistory is_quiet reply_of state_after permits start log → Holds start log (run state_after start log)
  carried-holds start log h = (after-history start log h).1
