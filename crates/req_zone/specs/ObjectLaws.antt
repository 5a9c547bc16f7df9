-- The laws of a request zone as an object.
use Rattle.std.proofs.Common.{ℕ, ◌≡◌, ◌+◌, ◌^◌, ◌<◌, ◌≤◌, ◌⊎◌, Bool, true, false, cond, eqb, List, [], ◌∷◌, ◌++◌, length, refl, sym, ap, subst, inl, inr, arith, length-append}
use Rattle.std.specs.Prelude.{sum_by}
use Rattle.std.specs.List.{All}
use Rattle.std.proofs.lemmas.Bool.{eqb-true}
use Rattle.std.proofs.lemmas.List.Elements.{All-nil, All-weaker}
use Rattle.zone_object.specs.declared.object.Entry.{Entry}
use Rattle.zone_object.specs.History.{entry, own, run, IsReady, IsHistory}
use Rattle.zone_object.specs.Fair.{GivesBackOwn}
use Rattle.zone_object.specs.Carried.{MayFollow, Carries}
use Rattle.zone_object.proofs.Fair.{sum-snoc, held-law}
use Rattle.zone_object.proofs.Carried.{carried-ready, carried-holds}
use Rattle.req_zone.specs.declared.state.ReqEntry.{ReqEntry}
use Rattle.req_zone.specs.declared.state.ReqState.{ReqState}
use Rattle.req_zone.specs.declared.calls.ReqCall.{ReqCall}
use Rattle.req_zone.specs.declared.calls.ReqCall.TheVariants.{Check, Account, Release}
use Rattle.req_zone.specs.declared.calls.ReqReply.{ReqReply}
use Rattle.req_zone.specs.Object.{IsOpened, answer_of, zone_after, HoldsEntry, Permits, Ready, IsReadyAt, HasRoom, given, back, back_by, once_at, holds_at}
use Rattle.req_zone.specs.Holding.{IsWhole, IsWithin, Holds}
use Rattle.req_zone.specs.Proving.Fresh.{opened_whole}
use Rattle.req_zone.specs.Proving.CallEffects.{call_becomes}

-- the numbers of so few calls leave room
room_left : (n : ℕ) → n + 1 < 2 ^ 32 → (e : ReqEntry) → IsWithin n e → HasRoom e
room_left n short e w = let x = w.excess in let c = w.count in record { excess = omega (arith, x, short); last = w.last; count = omega (arith, c, short) }

module _ {X : Type 0} where
  -- a hold that comes back is one that the caller has
  once_or_none : (at block : ℕ) (mine : List (Entry X ReqState ReqCall ReqReply)) → HoldsEntry mine block → (once_at at block ≡ 0) ⊎ (sum_by (back at) mine + once_at at block ≤ sum_by (given at) mine)
  once_or_none at block mine may = go (eqb block at) refl where
    go : (b : Bool) → eqb block at ≡ b → (◌≡◌ {A = ℕ} (cond b 1 0) 0) ⊎ (sum_by (back at) mine + cond b 1 0 ≤ sum_by (given at) mine)
    go true is =
        let here : block ≡ at = eqb-true block at is in
        let there : HoldsEntry mine at = subst (HoldsEntry mine) here may in
        inr (omega (arith, there))
    go false is = inl refl

  pub gives_back_own : (at : ℕ) → GivesBackOwn (Permits {X = X}) (given at) (back at)
  gives_back_own at mine e may = go e.call refl may
    where
      go : (call : ReqCall) → e.call ≡ call → Permits mine call → (back at e ≡ 0) ⊎ (sum_by (back at) mine + back at e ≤ sum_by (given at) mine)
      go (Check key now burst last) is h = inl (ap (back_by at) is)
      go (Account block now) is h = subst (λ n. (n ≡ 0) ⊎ (sum_by (back at) mine + n ≤ sum_by (given at) mine)) (sym (ap (back_by at) is)) (once_or_none at block mine h.1)
      go (Release block) is h = subst (λ n. (n ≡ 0) ⊎ (sum_by (back at) mine + n ≤ sum_by (given at) mine)) (sym (ap (back_by at) is)) (once_or_none at block mine h)

  opened_holds : (s : ReqState) (t : ReqState) → s ≡ t → t.table ≡ [] → IsWhole t → Holds {X = X} s [] s
  opened_holds s t is none whole = subst (λ (z : ReqState). Holds {X = X} z [] z) (sym is) (record {
    whole = whole;
    within = subst (λ (es : List ReqEntry). All (IsWithin 0) es) (sym none) (All-nil (IsWithin 0));
    held = λ at. let zero_held : holds_at at t.table ≡ 0 = ap (λ (es : List ReqEntry). holds_at at es) none in omega (arith, zero_held);
  })

  begins : (s : ReqState) → IsOpened s → Holds {X = X} s [] s
  begins s o = opened_holds s _ o.1.fresh refl (opened_whole s.rate s.name o.0 o.1.name o.1.limits)

  -- a caller that may give a hold back finds the entry held
  held_there : (start : ReqState) (log : List (Entry X ReqState ReqCall ReqReply)) (s : ReqState) (who : ℕ) (call : ReqCall) (at : ℕ) → Holds start log s → MayFollow Permits log who call → HoldsEntry (own log who) at → 0 < holds_at at s.table
  held_there start log s who call at h m may =
      let held = held-law Permits (given at) (back at) (gives_back_own at) log m.permitted who in
      let count = h.held at in
      omega (arith, held, may, count)

  asked_there : (start : ReqState) (log : List (Entry X ReqState ReqCall ReqReply)) (s : ReqState) (who : ℕ) (call : ReqCall) → Holds start log s → MayFollow Permits log who call → IsReadyAt s.table call
  asked_there start log s who (Check key now burst last) h m = m.may
  asked_there start log s who (Account at now) h m = (m.may.0, held_there start log s who (Account at now) at h m m.may.1)
  asked_there start log s who (Release at) h m = held_there start log s who (Release at) at h m m.may

  readies : (start : ReqState) (log : List (Entry X ReqState ReqCall ReqReply)) (s : ReqState) (who : ℕ) (call : ReqCall) → Holds start log s → MayFollow Permits log who call → Ready s call
  readies start log s who call h m = record {
    room = All-weaker (IsWithin (length log)) HasRoom (room_left (length log) m.short) s.table h.within;
    asked = asked_there start log s who call h m;
  }

  goes_on : (start : ReqState) (log : List (Entry X ReqState ReqCall ReqReply)) (s : ReqState) (who : ℕ) (call : ReqCall) → Holds start log s → MayFollow Permits log who call → Ready s call → Holds start (log ++ entry who call (answer_of s call) ∷ []) (zone_after s call)
  goes_on start log s who call h m r =
      let e : Entry X ReqState ReqCall ReqReply = entry who call (answer_of s call) in
      let b = call_becomes s call h.whole r.asked in
      let longer : length log + 1 ≡ length (log ++ e ∷ []) = omega (arith, length-append log (e ∷ [])) in
      record {
        whole = b.whole;
        within = subst (λ n. All (IsWithin n) (zone_after s call).table) longer (b.within (length log) h.within);
        held = λ at. let x = b.held at in let y = h.held at in omega (arith, x, y, sum-snoc (back at) log e, sum-snoc (given at) log e);
      }

  carries : Carries IsOpened answer_of zone_after (Permits {X = X}) Ready Holds
  carries = record { begins = begins; readies = readies; goes_on = goes_on }

  -- in a history each call is ready at its place
  pub ready-law : (start : ReqState) (log : List (Entry X ReqState ReqCall ReqReply)) → IsHistory IsOpened answer_of zone_after Permits start log → IsReady zone_after Ready start log
  ready-law = carried-ready IsOpened answer_of zone_after Permits Ready Holds carries

  -- and after it the zone is whole
  pub holds-law : (start : ReqState) (log : List (Entry X ReqState ReqCall ReqReply)) → IsHistory IsOpened answer_of zone_after Permits start log → Holds start log (run zone_after start log)
  holds-law = carried-holds IsOpened answer_of zone_after Permits Ready Holds carries
