-- One record of a list becomes another, and what follows a round.
use Rattle.std.proofs.Common.{ℕ, zero, suc, ◌≡◌, ◌+◌, ◌<◌, ◌≤◌, ◌∙◌, sym, ap, subst, refl, Bool, true, false, cond, List, [], ◌∷◌, length, get_or, Option, Some, None, arith}
use Rattle.std.specs.Prelude.{nat_lt}
use Rattle.std.specs.List.{All}
use Rattle.std.proofs.lemmas.Int.{ints}
use Rattle.std.proofs.lemmas.List.Elements.{All-head, All-tail}
use Rattle.zone_region.specs.Words.{Words, word_at}
use Rattle.zone_region.specs.Members.{In}
use Rattle.peer_zone.specs.declared.state.PeerRecord.{PeerRecord}
use Rattle.peer_zone.specs.declared.numbers.PeerNumbers.{PeerNumbers}
use Rattle.peer_zone.specs.declared.takers.Least.{Least}
use Rattle.peer_zone.specs.declared.takers.Nearest.{Nearest}
use Rattle.peer_zone.specs.declared.takers.Takers.{Takers}
use Rattle.peer_zone.specs.declared.rounds.Raised.{Raised}
use Rattle.peer_zone.specs.Object.{HasRoom}
use Rattle.peer_zone.specs.Records.{peer_at, is_available}
use Rattle.peer_zone.specs.Choice.{Part, Found, change_at, taken, taken_alone, freed, settled, raised, raised_in, total_in, best_in, by_round, least_in, tied, count_in, among_least, by_least, by_single}
use Rattle.peer_zone.specs.Numbers.{numbers_of, as_record, found_of, tied_to, part_of, IsLeast, IsNearest}
use Rattle.peer_zone.specs.Words.{HoldsNumbers, LaysRecords, first_of}
use Rattle.peer_zone.specs.CallSteps.{SetsNumbers, ChangesBlocks, IsChain, RaisesAll, HasPeer, IsTakeable, ChangesRecord, Chooses}
use Rattle.peer_zone.specs.Proving.Found.{best-found}
use Rattle.peer_zone.specs.Proving.Kept.{found_there, there-raised, least-there}
use Rattle.peer_zone.proofs.RecordLemmas.{record-room, record-held, laid-change, peer-below, length-laid, In-index}
use Rattle.peer_zone.proofs.RoundLemmas.{visit-peer, visit-part}

-- ---- one record

pub change-does : (m n : Words) (f : PeerRecord → PeerRecord) → ((q : PeerRecord) → (f q).server ≡ q.server) → ((q : PeerRecord) → numbers_of (f (as_record (numbers_of q))) ≡ numbers_of (f q)) → (first index at : ℕ) (peer after : PeerNumbers) → ((x : PeerNumbers) → HoldsNumbers m at x → peer ≡ x) → after ≡ numbers_of (f (as_record peer)) → SetsNumbers m n at after → ((ps : List PeerRecord) (ats : List ℕ) → LaysRecords m ps ats → first ≡ first_of ats → index < length ps → at ≡ get_or ats index 0) → (ps : List PeerRecord) (ats : List ℕ) (p : PeerRecord) → HasPeer m first index ps ats p → ChangesRecord m n index f ps ats
change-does m n f server same first index at peer after value is s block ps ats p h =
    let low = peer-below ps index p h.there in
    let at_is : at ≡ get_or ats index 0 = block ps ats h.laid h.first_is low in
    let peer_is : peer ≡ numbers_of p = value (numbers_of p) (subst (λ (x : ℕ). HoldsNumbers m x (numbers_of p)) (sym at_is) (record-held m ps ats index p h.laid h.there)) in
    let after_is : after ≡ numbers_of (f p) = is ∙ ap (λ x. numbers_of (f (as_record x))) peer_is ∙ same p in
    let set : SetsNumbers m n (get_or ats index 0) (numbers_of (f p)) = subst (λ (x : PeerNumbers). SetsNumbers m n (get_or ats index 0) x) after_is (subst (λ (x : ℕ). SetsNumbers m n x after) at_is s) in
    record {
      laid = laid-change m n f ps ats index p server h.laid h.there set;
      changes = record { lengths = set.lengths; others = λ z out. set.others z (λ e. out (subst (λ (x : ℕ). In x ats) (sym e) (In-index ats index (omega (arith, low, length-laid m ps ats h.laid))))) };
    }

-- the block of the record, and its numbers
pub peer-room : (m : Words) (first index at : ℕ) (ps : List PeerRecord) (ats : List ℕ) (p : PeerRecord) → ((ps : List PeerRecord) (ats : List ℕ) → LaysRecords m ps ats → first ≡ first_of ats → index < length ps → at ≡ get_or ats index 0) → HasPeer m first index ps ats p → 13 ≤ length (m at)
peer-room m first index at ps ats p block h =
    let low = peer-below ps index p h.there in
    subst (λ (x : ℕ). 13 ≤ length (m x)) (sym (block ps ats h.laid h.first_is low)) (record-room m ps ats index h.laid low)

pub peer-is : (m : Words) (first index at : ℕ) (peer : PeerNumbers) (ps : List PeerRecord) (ats : List ℕ) (p : PeerRecord) → ((ps : List PeerRecord) (ats : List ℕ) → LaysRecords m ps ats → first ≡ first_of ats → index < length ps → at ≡ get_or ats index 0) → ((x : PeerNumbers) → HoldsNumbers m at x → peer ≡ x) → HasPeer m first index ps ats p → peer ≡ numbers_of p
peer-is m first index at peer ps ats p block value h =
    let at_is : at ≡ get_or ats index 0 = block ps ats h.laid h.first_is (peer-below ps index p h.there) in
    value (numbers_of p) (subst (λ (x : ℕ). HoldsNumbers m x (numbers_of p)) (sym at_is) (record-held m ps ats index p h.laid h.there))

pub server-freed : (single failed : Bool) (now : ℕ) (q : PeerRecord) → (freed single failed now q).server ≡ q.server
server-freed true failed now q = refl
server-freed false true now q = refl
server-freed false false now q = refl

pub same-freed : (single failed : Bool) (now : ℕ) (q : PeerRecord) → numbers_of (freed single failed now (as_record (numbers_of q))) ≡ numbers_of (freed single failed now q)
same-freed true failed now q = refl
same-freed false true now q = refl
same-freed false false now q = refl

-- ---- the records after a round

-- a record that has room can take a request, also after a round
pub takeable : (p : PeerRecord) → HasRoom p → IsTakeable p
takeable p r = let l = r.low in let c = r.conns in record { low = omega (arith, ints, l); conns = c }

takeable-raised : (p : PeerRecord) → HasRoom p → IsTakeable (raised p)
takeable-raised p r = let l = r.low in let c = r.conns in record { low = omega (arith, ints, l); conns = c }

pub raised-takeable : (part : Part) (from : ℕ) (ps : List PeerRecord) (k : ℕ) (q : PeerRecord) → All HasRoom ps → peer_at (raised_in part from ps) k ≡ Some q → IsTakeable q
raised-takeable part from [] k q room e = cc
raised-takeable part from (p ∷ ps) zero q room e = go (part from p) e where
  go : (b : Bool) → Some (cond b (raised p) p) ≡ Some q → IsTakeable q
  go true h = let same : raised p ≡ q = cc in subst IsTakeable same (takeable-raised p (All-head HasRoom p ps room))
  go false h = let same : p ≡ q = cc in subst IsTakeable same (takeable p (All-head HasRoom p ps room))
raised-takeable part from (p ∷ ps) (suc k) q room e = raised-takeable part (from + 1) ps k q (All-tail HasRoom p ps room) e

pub room-at : (ps : List PeerRecord) (k : ℕ) (q : PeerRecord) → All HasRoom ps → peer_at ps k ≡ Some q → HasRoom q
room-at [] k q room e = cc
room-at (p ∷ ps) zero q room e = let same : p ≡ q = cc in subst HasRoom same (All-head HasRoom p ps room)
room-at (p ∷ ps) (suc k) q room e = room-at ps k q (All-tail HasRoom p ps room) e

-- ---- what follows a round

pub nearest-none : (best : Option Found) → IsNearest None best → best ≡ None
nearest-none None h = refl
nearest-none (Some f) h = absurd h

pub nearest-some : (n : Nearest) (best : Option Found) → IsNearest (Some n) best → (f : Found) × (best ≡ Some f) × (n.index ≡ f.index)
nearest-some n None h = absurd h
nearest-some n (Some f) h = (f, refl, h.0)

pub least-none_found : (best : Option Found) → IsLeast None best → best ≡ None
least-none_found None h = refl
least-none_found (Some f) h = absurd h

pub least-some : (l : Least) (best : Option Found) → IsLeast (Some l) best → (f : Found) × (best ≡ Some f) × (l.index ≡ f.index) × (l.peer ≡ numbers_of f.peer)
least-some l None h = absurd h
least-some l (Some f) h = (f, refl, h.0, h.1)

-- the nearest server is one of the raised ones
pub nearest-there : (m k : Words) (part : Part) (first servers : ℕ) (r : Raised) (n : Nearest) → r.nearest ≡ Some n → (ps : List PeerRecord) (ats : List ℕ) → IsChain m first servers ps ats → RaisesAll m k part 0 ps ats r → (q : PeerRecord) × HasPeer k first n.index (raised_in part 0 ps) ats q × IsTakeable q
nearest-there m k part first servers r n some ps ats c a =
    let s = nearest-some n (best_in part 0 ps) (subst (λ (x : Option Nearest). IsNearest x (best_in part 0 ps)) some a.nearest_is) in
    let t = found_there part ps s.0 (best-found part 0 ps s.0 s.1) in
    let u = there-raised part 0 ps s.0.index t.0 t.1 in
    let there : peer_at (raised_in part 0 ps) n.index ≡ Some u.0 = ap (λ i. peer_at (raised_in part 0 ps) i) s.2 ∙ u.1 in
    (u.0, record { laid = a.laid; first_is = c.first_is; there = there }, raised-takeable part 0 ps n.index u.0 c.room there)

pub round-none : (m k : Words) (part : Part) (now : ℕ) (r : Raised) → r.nearest ≡ None → (ps : List PeerRecord) (ats : List ℕ) → RaisesAll m k part 0 ps ats r → Chooses m k ats (by_round part now ps) None
round-none m k part now r none ps ats a =
    let e = nearest-none (best_in part 0 ps) (subst (λ (x : Option Nearest). IsNearest x (best_in part 0 ps)) none a.nearest_is) in
    subst (λ (x : Option Found). Chooses m k ats (settled (total_in part 0 ps) now x (raised_in part 0 ps)) None) (sym e) (record { laid = a.laid; chosen_is = refl; changes = a.changes })

pub changes-twice : (m k n : Words) (ats : List ℕ) → ChangesBlocks m k ats → ChangesBlocks k n ats → ChangesBlocks m n ats
changes-twice m k n ats a b = record { lengths = λ z. b.lengths z ∙ a.lengths z; others = λ z out. b.others z out ∙ a.others z out }

pub round-some : (m k n : Words) (part : Part) (now first servers : ℕ) (r : Raised) (near : Nearest) → r.nearest ≡ Some near → ((qs : List PeerRecord) (bs : List ℕ) (q : PeerRecord) → HasPeer k first near.index qs bs q → ChangesRecord k n near.index (taken r.total now) qs bs) → (ps : List PeerRecord) (ats : List ℕ) → IsChain m first servers ps ats → RaisesAll m k part 0 ps ats r → Chooses m n ats (by_round part now ps) (Some near.index)
round-some m k n part now first servers r near some taking ps ats c a =
    let s = nearest-some near (best_in part 0 ps) (subst (λ (x : Option Nearest). IsNearest x (best_in part 0 ps)) some a.nearest_is) in
    let there = nearest-there m k part first servers r near some ps ats c a in
    let d = taking (raised_in part 0 ps) ats there.0 there.1 in
    subst (λ (x : Option Found). Chooses m n ats (settled (total_in part 0 ps) now x (raised_in part 0 ps)) (Some near.index)) (sym s.1) (record {
      laid = subst (λ (i : ℕ). LaysRecords n (change_at i (taken (total_in part 0 ps) now) (raised_in part 0 ps)) ats) s.2 (subst (λ (t : ℕ). LaysRecords n (change_at near.index (taken t now) (raised_in part 0 ps)) ats) a.total_is d.laid);
      chosen_is = ap (λ i. Some i) s.2;
      changes = changes-twice m k n ats a.changes d.changes;
    })

-- ---- least connections

-- those that take part with the least busy one are tied with it
pub part-tied : (takers : Takers) (least : Least) (f : Found) → takers.least ≡ None → least.index ≡ f.index → least.peer ≡ numbers_of f.peer → tied_to (is_available takers.single takers.tried takers.moment) (Some least) ≡ tied (part_of takers) f
part-tied takers least f none index peer =
    let part = is_available takers.single takers.tried takers.moment in
    let same : tied part (found_of least) ≡ tied part f = ap (λ (i : ℕ). tied part (record { index = i; peer = as_record least.peer })) index ∙ ap (λ (x : PeerNumbers). tied part (record { index = f.index; peer = as_record x })) peer in
    same ∙ ap (λ (o : Option Least). tied (tied_to part o) f) (sym none)

pub least-nobody : (m : Words) (part : Part) (now first servers : ℕ) (result : Option Least) → result ≡ None → (ps : List PeerRecord) (ats : List ℕ) → IsChain m first servers ps ats → IsLeast result (least_in part 0 None ps) → Chooses m m ats (by_least part now ps) None
least-nobody m part now first servers result none ps ats c is =
    let e = least-none_found (least_in part 0 None ps) (subst (λ (x : Option Least). IsLeast x (least_in part 0 None ps)) none is) in
    subst (λ (x : Option Found). Chooses m m ats (among_least part now ps x) None) (sym e) (record { laid = c.laid; chosen_is = refl; changes = record { lengths = λ z. refl; others = λ z out. refl } })

pub least-peer : (m : Words) (part : Part) (first servers : ℕ) (l : Least) (ps : List PeerRecord) (ats : List ℕ) → IsChain m first servers ps ats → IsLeast (Some l) (least_in part 0 None ps) → (q : PeerRecord) × HasPeer m first l.index ps ats q × IsTakeable q
least-peer m part first servers l ps ats c is =
    let s = least-some l (least_in part 0 None ps) is in
    let t = found_there part ps s.0 (least-there part ps s.0 s.1) in
    let there : peer_at ps l.index ≡ Some t.0 = ap (λ i. peer_at ps i) s.2 ∙ t.1 in
    (t.0, record { laid = c.laid; first_is = c.first_is; there = there }, takeable t.0 (room-at ps l.index t.0 c.room there))

-- several are as busy
pub least-several : (m n : Words) (takers : Takers) (now count : ℕ) (l : Least) (result : Option ℕ) → takers.least ≡ None → 1 < count → (ps : List PeerRecord) (ats : List ℕ) → IsLeast (Some l) (least_in (part_of takers) 0 None ps) → count ≡ count_in (tied_to (is_available takers.single takers.tried takers.moment) (Some l)) 0 ps → Chooses m n ats (by_round (tied_to (is_available takers.single takers.tried takers.moment) (Some l)) now ps) result → Chooses m n ats (by_least (part_of takers) now ps) result
least-several m n takers now count l result none several ps ats is counted d =
    let s = least-some l (least_in (part_of takers) 0 None ps) is in
    let part = part-tied takers l s.0 none s.2 s.3 in
    let more : nat_lt 1 (count_in (tied (part_of takers) s.0) 0 ps) ≡ true = let e : count ≡ count_in (tied (part_of takers) s.0) 0 ps = counted ∙ ap (λ (x : Part). count_in x 0 ps) part in let h : 1 < count_in (tied (part_of takers) s.0) 0 ps = omega (arith, e, several) in grind arith in
    let by : Chooses m n ats (by_round (tied (part_of takers) s.0) now ps) result = subst (λ (x : Part). Chooses m n ats (by_round x now ps) result) part d in
    subst (λ (x : Option Found). Chooses m n ats (among_least (part_of takers) now ps x) result) (sym s.1)
    (subst (λ (b : Bool). Chooses m n ats (cond b (by_round (tied (part_of takers) s.0) now ps) (settled 0 now (Some s.0) ps)) result) (sym more) by)

-- it alone is
pub least-alone : (m n : Words) (takers : Takers) (now count first servers : ℕ) (l : Least) → takers.least ≡ None → count ≤ 1 → ((qs : List PeerRecord) (bs : List ℕ) (q : PeerRecord) → HasPeer m first l.index qs bs q → ChangesRecord m n l.index (taken 0 now) qs bs) → (ps : List PeerRecord) (ats : List ℕ) → IsChain m first servers ps ats → IsLeast (Some l) (least_in (part_of takers) 0 None ps) → count ≡ count_in (tied_to (is_available takers.single takers.tried takers.moment) (Some l)) 0 ps → Chooses m n ats (by_least (part_of takers) now ps) (Some l.index)
least-alone m n takers now count first servers l none few taking ps ats c is counted =
    let s = least-some l (least_in (part_of takers) 0 None ps) is in
    let part = part-tied takers l s.0 none s.2 s.3 in
    let there = least-peer m (part_of takers) first servers l ps ats c is in
    let d = taking ps ats there.0 there.1 in
    let alone : nat_lt 1 (count_in (tied (part_of takers) s.0) 0 ps) ≡ false = let e : count ≡ count_in (tied (part_of takers) s.0) 0 ps = counted ∙ ap (λ (x : Part). count_in x 0 ps) part in let h : count_in (tied (part_of takers) s.0) 0 ps ≤ 1 = omega (arith, e, few) in grind arith in
    subst (λ (x : Option Found). Chooses m n ats (among_least (part_of takers) now ps x) (Some l.index)) (sym s.1)
    (subst (λ (b : Bool). Chooses m n ats (cond b (by_round (tied (part_of takers) s.0) now ps) (settled 0 now (Some s.0) ps)) (Some l.index)) (sym alone) (record {
      laid = subst (λ (i : ℕ). LaysRecords n (change_at i (taken 0 now) ps) ats) s.2 d.laid;
      chosen_is = ap (λ i. Some i) s.2;
      changes = d.changes;
    }))

-- ---- a single server

pub single-none : (m : Words) (part : Part) (first servers : ℕ) → servers ≡ 0 → (ps : List PeerRecord) (ats : List ℕ) → IsChain m first servers ps ats → Chooses m m ats (by_single part ps) None
single-none m part first servers none [] ats c = record { laid = c.laid; chosen_is = refl; changes = record { lengths = λ z. refl; others = λ z out. refl } }
single-none m part first servers none (p ∷ ps) ats c = absurd (omega (arith, c.servers_are))

pub single-out : (m : Words) (takers : Takers) (first servers : ℕ) (peer : PeerNumbers) → 0 < servers → ((x : PeerNumbers) → HoldsNumbers m first x → peer ≡ x) → false ≡ part_of takers 0 (as_record peer) → (ps : List PeerRecord) (ats : List ℕ) → IsChain m first servers ps ats → Chooses m m ats (by_single (part_of takers) ps) None
single-out m takers first servers peer some value e [] ats c = absurd (omega (arith, c.servers_are))
single-out m takers first servers peer some value e (p ∷ ps) [] c = absurd c.laid
single-out m takers first servers peer some value e (p ∷ ps) (at ∷ ats) c =
    let is = visit-peer m first servers (word_at m first 0) peer p ps at ats (record { next_is = refl; value = value }) c in
    subst (λ (b : Bool). Chooses m m (at ∷ ats) (cond b (record { chosen = Some 0; peers = taken_alone p ∷ ps }) (record { chosen = None; peers = p ∷ ps })) None) (visit-part takers 0 false peer p is e) (record { laid = c.laid; chosen_is = refl; changes = record { lengths = λ z. refl; others = λ z out. refl } })

pub single-in : (m n : Words) (takers : Takers) (first servers : ℕ) (peer after : PeerNumbers) → 0 < servers → ((x : PeerNumbers) → HoldsNumbers m first x → peer ≡ x) → true ≡ part_of takers 0 (as_record peer) → after ≡ numbers_of (taken_alone (as_record peer)) → SetsNumbers m n first after → (ps : List PeerRecord) (ats : List ℕ) → IsChain m first servers ps ats → Chooses m n ats (by_single (part_of takers) ps) (Some 0)
single-in m n takers first servers peer after some value e after_is s [] ats c = absurd (omega (arith, c.servers_are))
single-in m n takers first servers peer after some value e after_is s (p ∷ ps) [] c = absurd c.laid
single-in m n takers first servers peer after some value e after_is s (p ∷ ps) (at ∷ ats) c =
    let is = visit-peer m first servers (word_at m first 0) peer p ps at ats (record { next_is = refl; value = value }) c in
    let d = change-does m n taken_alone (λ q. refl) (λ q. refl) first 0 first peer after value after_is s (λ qs bs laid f low. f ∙ first-of bs) (p ∷ ps) (at ∷ ats) p (record { laid = c.laid; first_is = c.first_is; there = refl }) in
    subst (λ (b : Bool). Chooses m n (at ∷ ats) (cond b (record { chosen = Some 0; peers = taken_alone p ∷ ps }) (record { chosen = None; peers = p ∷ ps })) (Some 0)) (visit-part takers 0 true peer p is e) (record { laid = d.laid; chosen_is = refl; changes = d.changes }) where
      first-of : (bs : List ℕ) → first_of bs ≡ get_or bs 0 0
      first-of [] = refl
      first-of (b ∷ bs) = refl
