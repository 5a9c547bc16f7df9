-- The laws of an upstream's zone.
use Rattle.std.proofs.Common.{◌≡◌, ℕ, zero, suc, ◌+◌, ◌<◌, ◌≤◌, ◌^◌, ◌⊎◌, Bool, true, false, cond, List, [], ◌∷◌, ◌++◌, length, map, Option, Some, None, refl, sym, ap, ◌∙◌, subst, inl, inr, arith, length-append}
use Rattle.std.specs.Prelude.{◌&&◌, nat_eq, sum_by, pos}
use Rattle.std.specs.List.{All}
use Rattle.std.proofs.lemmas.List.Elements.{All-weaker}
use Rattle.peer_zone.specs.declared.calls.PeerCall.{PeerCall}
use Rattle.peer_zone.specs.declared.calls.PeerCall.TheVariants.{Choose, Free}
use Rattle.peer_zone.specs.declared.calls.PeerReply.TheVariants.{Freed}
use Rattle.peer_zone.specs.declared.state.PeerRecord.{PeerRecord}
use Rattle.peer_zone.specs.declared.state.PeerState.{PeerState}
use Rattle.zone_object.specs.History.{entry, run, IsReady, IsHistory}
use Rattle.zone_object.specs.Fair.{GivesBackOwn}
use Rattle.zone_object.specs.Carried.{MayFollow, Carries}
use Rattle.zone_object.proofs.Fair.{sum-snoc, held-law}
use Rattle.zone_object.proofs.Carried.{carried-ready, carried-holds}
use Rattle.peer_zone.specs.Records.{peer_at, fresh_record, servers_of}
use Rattle.peer_zone.specs.Choice.{change_at, freed}
use Rattle.peer_zone.specs.Object.{Made, is_single, list_of, with_list, available, choice_of, reply_for, answer_of, zone_after, once_for, given, back, back_by, Permits, conns_at, HasRoom, IsReadyAt, Ready, CanAnswer}
use Rattle.peer_zone.specs.Opening.{IsSpec, IsOpened, spec_of, opened_zone}
use Rattle.peer_zone.specs.Holding.{current_sum, IsWithin, Holds}
use Rattle.peer_zone.specs.Proving.Kept.{IsChoice, choose-is, conns-less, conns-freed, servers-freed, All-freed, All-still}
use Rattle.peer_zone.specs.Proving.Sums.{sum-law}
use Rattle.peer_zone.specs.Proving.Blocks.{opened-whole}
use Rattle.peer_zone.specs.Proving.Lists.{sum-fresh, whole-with, All-fresh, conns-fresh, HasRoom-within, primary_few, backup_few, spec-with, slab-with, blocks-with, Both, both-with, choose-moves, free-moves, few_of, within_of}
use Rattle.peer_zone.specs.Proving.Chosen.{chosen-takes}

-- the sum of a list's currents stays
abbrev Balances : PeerState → PeerState → Type 0
Balances s after = (l : ℕ) → l < 2 → current_sum (list_of after l) ≡ current_sum (list_of s l)

module _ {X : Type 0} where
  -- ---- a caller that frees a server was given it

  gives_back_own : (list index : ℕ) → GivesBackOwn {X = X} Permits (given list index) (back list index)
  gives_back_own list index mine e may = go e.call refl may where
    here : (to at : ℕ) (b c : Bool) → nat_eq to list ≡ b → nat_eq at index ≡ c → sum_by (back to at) mine < sum_by (given to at) mine → (cond {A = ℕ} (b && c) 1 0 ≡ 0) ⊎ (sum_by (back list index) mine + cond {A = ℕ} (b && c) 1 0 ≤ sum_by (given list index) mine)
    here to at false c is_list is_index holds = inl refl
    here to at true false is_list is_index holds = inl refl
    here to at true true is_list is_index holds =
        let l : to ≡ list = grind arith in
        let i : at ≡ index = grind arith in
        let h = subst (λ n. sum_by (back n index) mine < sum_by (given n index) mine) l (subst (λ n. sum_by (back to n) mine < sum_by (given to n) mine) i holds) in
        inr (omega (arith, h))

    go : (call : PeerCall) → e.call ≡ call → Permits mine call → (back list index e ≡ 0) ⊎ (sum_by (back list index) mine + back list index e ≤ sum_by (given list index) mine)
    go (Choose to tried now) is h = inl (ap (back_by list index) is)
    go (Free to at failed now) is h =
        let e_is : back list index e ≡ once_for list index to at = ap (back_by list index) is in
        subst (λ n. (n ≡ 0) ⊎ (sum_by (back list index) mine + n ≤ sum_by (given list index) mine)) (sym e_is) (here to at (nat_eq to list) (nat_eq at index) refl refl h.2)

  -- ---- the start

  begins : (s : PeerState) → IsOpened s → Holds {X = X} s [] s
  begins s o = record {
    spec = o.spec;
    same = refl;
    slab = refl;
    blocks = refl;
    whole = opened-whole s o;
    primary = subst (λ (ps : List PeerRecord). All (IsWithin 0) ps) (sym primary_is) (All-fresh (servers_of s.primary) o.spec.primary);
    backup = subst (λ (ps : List PeerRecord). All (IsWithin 0) ps) (sym backup_is) (All-fresh (servers_of s.backup) o.spec.backup);
    balanced = λ list _. sums (nat_eq list 0);
    held = λ list index _. let none = go (nat_eq list 0) index in omega (arith, none);
  } where
    primary_is : s.primary ≡ map fresh_record (servers_of s.primary)
    primary_is = ap (λ (t : PeerState). t.primary) o.fresh

    backup_is : s.backup ≡ map fresh_record (servers_of s.backup)
    backup_is = ap (λ (t : PeerState). t.backup) o.fresh

    sums : (b : Bool) → current_sum (cond b s.primary s.backup) ≡ pos 0
    sums true = ap (λ (ps : List PeerRecord). current_sum ps) primary_is ∙ sum-fresh (servers_of s.primary)
    sums false = ap (λ (ps : List PeerRecord). current_sum ps) backup_is ∙ sum-fresh (servers_of s.backup)

    go : (b : Bool) (index : ℕ) → conns_at (cond b s.primary s.backup) index ≡ 0
    go true index = ap (λ (ps : List PeerRecord). conns_at ps index) primary_is ∙ conns-fresh (servers_of s.primary) index
    go false index = ap (λ (ps : List PeerRecord). conns_at ps index) backup_is ∙ conns-fresh (servers_of s.backup) index

  -- ---- each call is ready

  asks : (start : PeerState) (log : List (Made X)) (s : PeerState) (who : ℕ) (call : PeerCall) → Holds start log s → MayFollow Permits log who call → IsReadyAt s call
  asks start log s who (Choose list tried now) h m = m.may
  asks start log s who (Free list index failed now) h m =
      let may = m.may in
      let held = held-law Permits (given list index) (back list index) (gives_back_own list index) log m.permitted who in
      let conns = h.held list index may.0 in
      (may.0, may.1, omega (arith, held, may.2, conns))

  readies : (start : PeerState) (log : List (Made X)) (s : PeerState) (who : ℕ) (call : PeerCall) → Holds start log s → MayFollow Permits log who call → Ready s call
  readies start log s who call h m = record {
    primary = All-weaker (IsWithin (length log)) HasRoom (HasRoom-within (length log) few) s.primary h.primary;
    backup = All-weaker (IsWithin (length log)) HasRoom (HasRoom-within (length log) few) s.backup h.backup;
    primary_few = primary_few s h.spec;
    backup_few = backup_few s h.spec;
    asked = asks start log s who call h m;
  } where
    few : length log < 2 ^ 32
    few = let short = m.short in omega (arith, short)

  -- ---- one call more

  -- how the connections of a list move: by what the call gives and takes back there
  abbrev Moves : PeerState → PeerState → Made X → Type 0
  Moves s after e = (l index : ℕ) → l < 2 → conns_at (list_of after l) index + back l index e ≡ conns_at (list_of s l) index + given l index e

  changed : (start : PeerState) (log : List (Made X)) (s : PeerState) (e : Made X) (list : ℕ) (peers : List PeerRecord) → Holds start log s → All (IsWithin (length log + 1)) peers → servers_of peers ≡ servers_of (list_of s list) → Moves s (with_list s list peers) e → Balances s (with_list s list peers) → Holds start (log ++ e ∷ []) (with_list s list peers)
  changed start log s e list peers h new same moves balances = record {
    spec = subst IsSpec (sym (spec-with s list peers same)) h.spec;
    same = spec-with s list peers same ∙ h.same;
    slab = slab-with s list peers ∙ h.slab;
    blocks = blocks-with s list peers ∙ h.blocks;
    whole = whole-with s list peers same h.whole;
    primary = subst (λ n. All (IsWithin n) (with_list s list peers).primary) (sym longer) both.primary;
    backup = subst (λ n. All (IsWithin n) (with_list s list peers).backup) (sym longer) both.backup;
    balanced = λ l l_is. balances l l_is ∙ h.balanced l l_is;
    held = λ l index l_is. let step = moves l index l_is in let held = h.held l index l_is in omega (arith, sum-snoc (back l index) log e, sum-snoc (given l index) log e, step, held);
  } where
    longer : length (log ++ e ∷ []) ≡ length log + 1
    longer = length-append log (e ∷ [])

    both : Both (length log + 1) (with_list s list peers)
    both = both-with (length log + 1) s list peers (record { primary = All-still (length log) s.primary h.primary; backup = All-still (length log) s.backup h.backup }) new

  goes_on : (start : PeerState) (log : List (Made X)) (s : PeerState) (who : ℕ) (call : PeerCall) → Holds start log s → MayFollow Permits log who call → Ready s call → Holds start (log ++ entry who call (answer_of s call) ∷ []) (zone_after s call)
  goes_on start log s who (Choose list tried now) h m r =
      let choice = choice_of s list tried now in
      let is : IsChoice (length log) (list_of s list) choice = choose-is (length log) now (is_single s) s.method (available s tried now) (list_of s list) r.asked.1 (few_of s list h.spec) (within_of (length log) s list h.primary h.backup) in
      changed start log s (entry who (Choose list tried now) (reply_for choice.chosen)) list choice.peers h is.within is.servers (choose-moves s list tried now choice.peers choice.chosen r.asked.0 is.conns) (λ l l_is. sum-law s (Choose list tried now) l l_is r.asked.0)
  goes_on start log s who (Free list index failed now) h m r =
      let peers = change_at index (freed (is_single s) failed now) (list_of s list) in
      changed start log s (entry who (Free list index failed now) Freed) list peers h
      (All-freed (length log) now index (is_single s) failed (list_of s list) r.asked.1 (within_of (length log) s list h.primary h.backup))
      (servers-freed now index (is_single s) failed (list_of s list))
      (free-moves s list index failed now peers r.asked.0 (conns-less (freed (is_single s) failed now) (conns-freed now (is_single s) failed) index (list_of s list) r.asked.2)) (λ l l_is. sum-law s (Free list index failed now) l l_is r.asked.0)

  carries : Carries {X = X} IsOpened answer_of zone_after Permits Ready Holds
  carries = record { begins = begins; readies = readies; goes_on = goes_on }

  -- in a legal and well-formed history each call is ready at its place
  pub ready-law : (start : PeerState) (log : List (Made X)) → IsHistory IsOpened answer_of zone_after Permits start log → IsReady zone_after Ready start log
  ready-law = carried-ready IsOpened answer_of zone_after Permits Ready Holds carries

  -- and after it what calls carry along holds
  pub holds-law : (start : PeerState) (log : List (Made X)) → IsHistory IsOpened answer_of zone_after Permits start log → Holds start log (run zone_after start log)
  holds-law = carried-holds IsOpened answer_of zone_after Permits Ready Holds carries

-- ---- what a call can be answered

there-below : (ps : List PeerRecord) (index : ℕ) (p : PeerRecord) → peer_at ps index ≡ Some p → index < length ps
there-below [] index p there = absurd (cc)
there-below (q ∷ qs) zero p there = omega arith
there-below (q ∷ qs) (suc index) p there = let h = there-below qs index p there in omega (arith, h)

pub answer-law : (s : PeerState) (call : PeerCall) → Ready s call → CanAnswer s call (answer_of s call)
answer-law s (Choose list tried now) r = go (choice_of s list tried now).chosen refl where
  go : (chosen : Option ℕ) → (choice_of s list tried now).chosen ≡ chosen → CanAnswer s (Choose list tried now) (reply_for chosen)
  go None is = tt
  go (Some index) is = let h = chosen-takes (is_single s) s.method (available s tried now) now (list_of s list) index is in there-below (list_of s list) index h.peer h.there
answer-law s (Free list index failed now) r = tt

-- ---- where a history begins

-- what a zone was opened with decides where its history begins
pub start-law : (s t : PeerState) → IsOpened s → IsOpened t → spec_of s ≡ spec_of t → s ≡ t
start-law s t a b same = a.fresh ∙ ap opened_zone same ∙ sym b.fresh
