-- The two lists of a zone: as they begin, with room for one call more, and with one of them changed.
use Rattle.std.proofs.Common.{◌≡◌, ℕ, zero, suc, ◌+◌, ◌*◌, ◌<◌, ◌≤◌, ◌^◌, Bool, true, false, cond, List, [], ◌∷◌, length, map, Option, Some, None, refl, sym, ap, ◌∙◌, subst, arith}
use Rattle.std.specs.Prelude.{nat_eq, pos, neg_ℤ, ◌≤ℤ◌, ℤ, ◌+ℤ◌}
use Rattle.std.specs.List.{All}
use Rattle.std.proofs.lemmas.Int.{ints}
use Rattle.std.proofs.lemmas.List.{length-map}
use Rattle.std.proofs.lemmas.List.Elements.{All-cons, All-head, All-tail, All-nil}
use Rattle.slab_model.specs.State.{Slab}
use Rattle.peer_zone.specs.declared.calls.Server.{Server}
use Rattle.peer_zone.specs.declared.calls.PeerSpec.{PeerSpec}
use Rattle.peer_zone.specs.declared.calls.PeerCall.TheVariants.{Choose, Free}
use Rattle.peer_zone.specs.declared.state.PeerRecord.{PeerRecord}
use Rattle.peer_zone.specs.declared.state.PeerState.{PeerState}
use Rattle.peer_zone.specs.Records.{fresh_record, servers_of}
use Rattle.peer_zone.specs.Object.{list_of, with_list, reply_for, given_by, back_by, conns_at, IsServer, HasRoom}
use Rattle.peer_zone.specs.Opening.{IsSpec, requests_of, spec_of}
use Rattle.peer_zone.specs.Holding.{current_sum, AreWhole, IsWhole, IsWithin, greatest_move}
use Rattle.peer_zone.specs.Proving.Kept.{chosen_at, once, plus_none}

-- ---- a fresh list

IsWithin-fresh : (server : Server) → IsServer server → IsWithin 0 (fresh_record server)
IsWithin-fresh server h = record { server = h; effective = omega arith; low = omega (arith, ints); high = omega (arith, ints); conns = omega arith; fails = omega arith; checked = omega arith; accessed = omega arith }

pub All-fresh : (servers : List Server) → All IsServer servers → All (IsWithin 0) (map fresh_record servers)
All-fresh [] h = All-nil (IsWithin 0)
All-fresh (server ∷ servers) h = All-cons (IsWithin 0) (fresh_record server) (map fresh_record servers) (IsWithin-fresh server (All-head IsServer server servers h)) (All-fresh servers (All-tail IsServer server servers h))

pub conns-fresh : (servers : List Server) (index : ℕ) → conns_at (map fresh_record servers) index ≡ 0
conns-fresh [] index = refl
conns-fresh (server ∷ servers) zero = refl
conns-fresh (server ∷ servers) (suc index) = conns-fresh servers index

sum_none : (z : ℤ) → z ≡ pos 0 → (pos 0 +ℤ z) ≡ pos 0
sum_none z none = omega (arith, ints, none)

pub sum-fresh : (servers : List Server) → current_sum (map fresh_record servers) ≡ pos 0
sum-fresh [] = refl
sum-fresh (server ∷ servers) = sum_none (current_sum (map fresh_record servers)) (sum-fresh servers)

-- ---- room for one call more

low_room : (a : ℤ) (n : ℕ) → neg_ℤ (pos (greatest_move * n)) ≤ℤ a → n < 2 ^ 32 → neg_ℤ (pos (2 ^ 55)) ≤ℤ a
low_room a n h few = omega (arith, ints, h, few)

high_room : (a : ℤ) (n : ℕ) → a ≤ℤ pos (greatest_move * n) → n < 2 ^ 32 → a ≤ℤ pos (2 ^ 55)
high_room a n h few = omega (arith, ints, h, few)

pub HasRoom-within : (n : ℕ) → n < 2 ^ 32 → (p : PeerRecord) → IsWithin n p → HasRoom p
HasRoom-within n few p h = record { server = h.server; effective = h.effective; low = low_room p.current n h.low few; high = high_room p.current n h.high few; conns = let c = h.conns in omega (arith, c, few); fails = let c = h.fails in omega (arith, c, few); checked = h.checked; accessed = h.accessed }

pub primary_few : (s : PeerState) → IsSpec (spec_of s) → length s.primary ≤ 64
primary_few s h = let few = h.primary_few in subst (λ n. n ≤ 64) (length-map s.primary (λ (p : PeerRecord). p.server)) few

pub backup_few : (s : PeerState) → IsSpec (spec_of s) → length s.backup ≤ 64
backup_few s h = let few = h.backup_few in subst (λ n. n ≤ 64) (length-map s.backup (λ (p : PeerRecord). p.server)) few

-- ---- a zone with another list

-- with another list of the same servers the zone is opened with the same
pub spec-with : (s : PeerState) (list : ℕ) (peers : List PeerRecord) → servers_of peers ≡ servers_of (list_of s list) → spec_of (with_list s list peers) ≡ spec_of s
spec-with s list peers same = go (nat_eq list 0) same where
  go : (b : Bool) → servers_of peers ≡ servers_of (cond b s.primary s.backup) → spec_of (cond b (record s { primary = peers }) (record s { backup = peers })) ≡ spec_of s
  go true is = ap (λ (servers : List Server). record (spec_of s) { primary = servers }) is
  go false is = ap (λ (servers : List Server). record (spec_of s) { backup = servers }) is

pub slab-with : (s : PeerState) (list : ℕ) (peers : List PeerRecord) → (with_list s list peers).slab ≡ s.slab
slab-with s list peers = go (nat_eq list 0) where
  go : (b : Bool) → (cond b (record s { primary = peers }) (record s { backup = peers })).slab ≡ s.slab
  go true = refl
  go false = refl

pub blocks-with : (s : PeerState) (list : ℕ) (peers : List PeerRecord) → (with_list s list peers).blocks ≡ s.blocks
blocks-with s list peers = go (nat_eq list 0) where
  go : (b : Bool) → (cond b (record s { primary = peers }) (record s { backup = peers })).blocks ≡ s.blocks
  go true = refl
  go false = refl

pub whole-with : (s : PeerState) (list : ℕ) (peers : List PeerRecord) → servers_of peers ≡ servers_of (list_of s list) → IsWhole s → IsWhole (with_list s list peers)
whole-with s list peers same h =
    subst (λ (slab : Slab). AreWhole slab (requests_of (spec_of (with_list s list peers))) (with_list s list peers).blocks) (sym (slab-with s list peers))
    (subst (λ (blocks : List ℕ). AreWhole s.slab (requests_of (spec_of (with_list s list peers))) blocks) (sym (blocks-with s list peers))
    (subst (λ (spec : PeerSpec). AreWhole s.slab (requests_of spec) s.blocks) (sym (spec-with s list peers same)) h))

-- both lists once one of them is another
pub record Both (n : ℕ) (s : PeerState) : Type 0 where
  pub primary : All (IsWithin n) s.primary
  pub backup : All (IsWithin n) s.backup

pub both-with : (n : ℕ) (s : PeerState) (list : ℕ) (peers : List PeerRecord) → Both n s → All (IsWithin n) peers → Both n (with_list s list peers)
both-with n s list peers h new = go (nat_eq list 0) where
  go : (b : Bool) → Both n (cond b (record s { primary = peers }) (record s { backup = peers }))
  go true = record { primary = new; backup = h.backup }
  go false = record { primary = h.primary; backup = new }

-- a choice moves the connections of the chosen server
pub choose-moves : (s : PeerState) (list tried now : ℕ) (peers : List PeerRecord) (chosen : Option ℕ) → list < 2 → ((index : ℕ) → conns_at peers index ≡ conns_at (list_of s list) index + chosen_at chosen index) → (l index : ℕ) → l < 2 → conns_at (list_of (with_list s list peers) l) index + 0 ≡ conns_at (list_of s l) index + given_by l index (Choose list tried now) (reply_for chosen)
choose-moves s zero tried now peers None known h zero index l_is = sym (plus_none _) ∙ h index
choose-moves s zero tried now peers (Some at) known h zero index l_is = sym (plus_none _) ∙ h index
choose-moves s zero tried now peers None known h (suc zero) index l_is = refl
choose-moves s zero tried now peers (Some at) known h (suc zero) index l_is = refl
choose-moves s (suc zero) tried now peers None known h zero index l_is = refl
choose-moves s (suc zero) tried now peers (Some at) known h zero index l_is = refl
choose-moves s (suc zero) tried now peers None known h (suc zero) index l_is = sym (plus_none _) ∙ h index
choose-moves s (suc zero) tried now peers (Some at) known h (suc zero) index l_is = sym (plus_none _) ∙ h index
choose-moves s (suc (suc list)) tried now peers chosen known h l index l_is = absurd (omega (arith, known))
choose-moves s list tried now peers chosen known h (suc (suc l)) index l_is = absurd (omega (arith, l_is))

-- the end of a request moves those of its server
pub free-moves : (s : PeerState) (list at : ℕ) (failed : Bool) (now : ℕ) (peers : List PeerRecord) → list < 2 → ((index : ℕ) → conns_at peers index + once at index ≡ conns_at (list_of s list) index) → (l index : ℕ) → l < 2 → conns_at (list_of (with_list s list peers) l) index + back_by l index (Free list at failed now) ≡ conns_at (list_of s l) index + 0
free-moves s zero at failed now peers known h zero index l_is = h index ∙ plus_none _
free-moves s zero at failed now peers known h (suc zero) index l_is = refl
free-moves s (suc zero) at failed now peers known h zero index l_is = refl
free-moves s (suc zero) at failed now peers known h (suc zero) index l_is = h index ∙ plus_none _
free-moves s (suc (suc list)) at failed now peers known h l index l_is = absurd (omega (arith, known))
free-moves s list at failed now peers known h (suc (suc l)) index l_is = absurd (omega (arith, l_is))

pub few_of : (s : PeerState) (list : ℕ) → IsSpec (spec_of s) → length (list_of s list) ≤ 64
few_of s list h = go (nat_eq list 0) where
  go : (b : Bool) → length (cond b s.primary s.backup) ≤ 64
  go true = primary_few s h
  go false = backup_few s h

pub within_of : (n : ℕ) (s : PeerState) (list : ℕ) → All (IsWithin n) s.primary → All (IsWithin n) s.backup → All (IsWithin n) (list_of s list)
within_of n s list p b = go (nat_eq list 0) where
  go : (c : Bool) → All (IsWithin n) (cond c s.primary s.backup)
  go true = p
  go false = b
