-- The laws of a row of counters.
use Rattle.std.proofs.Common.{◌≡◌, ◌≢◌, ℕ, ◌+◌, ◌-◌, ◌<◌, ◌≤◌, ◌⊎◌, Bool, true, false, List, [], ◌∷◌, ◌++◌, length, refl, sym, ap, ◌∙◌, subst, inl, inr, arith, length-append, length-set, get_or-set_other}
use Rattle.std.specs.Prelude.{nat_eq, nat_lt, sum_by, slice_index, if◌then◌else◌}
use Rattle.std.proofs.lemmas.List.{get_or_past}
use Rattle.std.proofs.lemmas.Grind.{get_or-set_at}
use Rattle.zone_counters.specs.declared.Counters.{Counters}
use Rattle.zone_counters.specs.declared.CounterState.{CounterState}
use Rattle.zone_counters.specs.declared.CounterCall.{CounterCall}
use Rattle.zone_counters.specs.declared.CounterCall.TheVariants.{Raise, Lower}
use Rattle.zone_counters.specs.declared.CounterReply.{CounterReply}
use Rattle.zone_counters.specs.declared.CounterReply.TheVariants.{Raised, NoCounter, Lowered}
use Rattle.zone_object.specs.History.{entry, IsReady, IsHistory}
use Rattle.zone_object.specs.Fair.{GivesBackOwn}
use Rattle.zone_object.specs.Carried.{MayFollow, Carries}
use Rattle.zone_counters.specs.Counting.{Made, Lays, AreZero, count_at, with_count, reply_of, state_after, given, given_by, back, back_by, Permits, Ready, CanAnswer, Holds}
use Rattle.zone_object.proofs.Fair.{sum-snoc, held-law}
use Rattle.zone_object.proofs.Carried.{carried-ready}

one_or_none : (b : Bool) → (if b then 1 else 0) ≤ 1
one_or_none true = omega arith
one_or_none false = omega arith

-- an entry that lowers this counter was permitted by its caller's own entries
gives_back_own : (at : ℕ) → GivesBackOwn Permits (given at) (back at)
gives_back_own at mine e may = go e.call refl may
  where
    go : (call : CounterCall) → e.call ≡ call → Permits mine call → (back at e ≡ 0) ⊎ (sum_by (back at) mine + back at e ≤ sum_by (given at) mine)
    go (Raise to) is h = inl (ap (back_by at) is)
    go (Lower to) is h = elim (nat_eq to at) as (λ b. nat_eq to at ≡ b → (back at e ≡ 0) ⊎ (sum_by (back at) mine + back at e ≤ sum_by (given at) mine)) [
      | true ↦ λ same. let one : back at e ≡ 1 = ap (back_by at) is ∙ ap (λ b. if b then 1 else 0) same in inr (let lt : sum_by (back at) mine < sum_by (given at) mine = subst (λ n. sum_by (back n) mine < sum_by (given n) mine) (grind arith) h in omega (arith, one, lt))
      | false ↦ λ other. inl (ap (back_by at) is ∙ ap (λ b. if b then 1 else 0) other)
    ] refl

begins : (s : CounterState) → AreZero s → Holds s [] s
begins s none = record { places = refl; count = λ at. let z = none at in omega (arith, z); few = λ at. let z = none at in omega (arith, z) }

readies : (start : CounterState) (log : List Made) (s : CounterState) (who : ℕ) (call : CounterCall) → Holds start log s → MayFollow Permits log who call → Ready s call
readies start log s who (Raise at) h m = let few = h.few at in omega (arith, few, m.short)
readies start log s who (Lower at) h m =
    let held = held-law Permits (given at) (back at) (gives_back_own at) log m.permitted who in
    let may = m.may in
    let count = h.count at in
    omega (arith, held, may, count)

-- what a counter says where it, or another one, has just been set
count-set : (s : CounterState) (to at count : ℕ) → to < length s.counts → count_at (with_count s to count) at ≡ (if nat_eq to at then count else count_at s at)
count-set s to at count within = elim (nat_eq to at) as (λ b. nat_eq to at ≡ b → count_at (with_count s to count) at ≡ (if b then count else count_at s at)) [
  | true ↦ λ same. let here : at ≡ to = grind arith in get_or-set_at s.counts to at count 0 here within
  | false ↦ λ other. let there : at ≢ to = grind arith in get_or-set_other s.counts to at count 0 there
] refl

-- a counter that says something is there
is_there : (counts : List ℕ) (at : ℕ) → 0 < slice_index counts at → at < length counts
is_there counts at some = elim (nat_lt at (length counts)) as (λ b. nat_lt at (length counts) ≡ b → at < length counts) [
  | true ↦ λ is. grind arith
  | false ↦ λ is. let past : length counts ≤ at = grind arith in absurd (omega (arith, get_or_past counts at 0 past, some))
] refl

-- a counter moves by what the call gives and takes back there
record Moves (at : ℕ) (s : CounterState) (call : CounterCall) (after : CounterState) (reply : CounterReply) : Type 0 where
  count : count_at after at + back_by at call ≡ count_at s at + given_by at call reply
  few : count_at after at ≤ count_at s at + 1
  places : length after.counts ≡ length s.counts

moves : (at : ℕ) (s : CounterState) (call : CounterCall) → Ready s call → Moves at s call (state_after s call) (reply_of s call)
moves at s (Raise to) r = elim (nat_lt to (length s.counts)) as (λ b. nat_lt to (length s.counts) ≡ b → Moves at s (Raise to) (if b then with_count s to (count_at s to + 1) else s) (if b then Raised (count_at s to + 1) else NoCounter)) [
  | true ↦ λ within. raised (count-set s to at (count_at s to + 1) (grind arith))
  | false ↦ λ past. record { count = refl; few = omega arith; places = refl }
] refl
  where
    raised : count_at (with_count s to (count_at s to + 1)) at ≡ (if nat_eq to at then count_at s to + 1 else count_at s at) → Moves at s (Raise to) (with_count s to (count_at s to + 1)) (Raised (count_at s to + 1))
    raised is = record { count = grind arith; few = grind arith; places = length-set s.counts to _ }
moves at s (Lower to) r = lowered (count-set s to at (count_at s to - 1) (is_there s.counts to r))
  where
    lowered : count_at (with_count s to (count_at s to - 1)) at ≡ (if nat_eq to at then count_at s to - 1 else count_at s at) → Moves at s (Lower to) (with_count s to (count_at s to - 1)) (Lowered (count_at s to - 1))
    lowered is = record { count = grind arith; few = grind arith; places = length-set s.counts to _ }

-- one entry more
goes_on : (start : CounterState) (log : List Made) (s : CounterState) (who : ℕ) (call : CounterCall) → Holds start log s → MayFollow Permits log who call → Ready s call → Holds start (log ++ entry who call (reply_of s call) ∷ []) (state_after s call)
goes_on start log s who call h m r = record {
  places = (moves 0 s call r).places ∙ h.places;
  count = λ at.
      let e : Made = entry who call (reply_of s call) in
      let step = moves at s call r in
      let count = h.count at in
      omega (arith, sum-snoc (back at) log e, sum-snoc (given at) log e, step.count, count);
  few = λ at.
      let e : Made = entry who call (reply_of s call) in
      let step = moves at s call r in
      let few = h.few at in
      omega (arith, length-append log (e ∷ []), step.few, few);
}

carries : Carries AreZero reply_of state_after Permits Ready Holds
carries = record { begins = begins; readies = readies; goes_on = goes_on }

pub ready-law : (start : CounterState) (log : List Made) → IsHistory AreZero reply_of state_after Permits start log → IsReady state_after Ready start log
ready-law = carried-ready AreZero reply_of state_after Permits Ready Holds carries

pub answer-law : (s : CounterState) (call : CounterCall) → Ready s call → CanAnswer s call (reply_of s call)
answer-law s (Raise at) r = elim (nat_lt at (length s.counts)) as (λ b. nat_lt at (length s.counts) ≡ b → CanAnswer s (Raise at) (if b then Raised (count_at s at + 1) else NoCounter)) [
  | true ↦ λ is. omega (arith, r)
  | false ↦ λ is. grind arith
] refl
answer-law s (Lower at) r = tt

pub start-law : (object : Counters) (s t : CounterState) → Lays object s → Lays object t → AreZero s → AreZero t → s ≡ t
start-law object s t a b p q i = record { counts = (sym a ∙ b) i }
