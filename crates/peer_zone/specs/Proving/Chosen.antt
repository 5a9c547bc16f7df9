-- Whom a choice of any kind chooses.
use Rattle.std.proofs.Common.{ℕ, ◌≡◌, ◌≤◌, Bool, true, false, cond, List, [], ◌∷◌, length, Option, Some, None, refl, ap, subst, arith}
use Rattle.std.specs.Prelude.{◌*◌, nat_lt, nat_le, nat_eq}
use Rattle.peer_zone.specs.declared.calls.Method.{Method}
use Rattle.peer_zone.specs.declared.calls.Method.TheVariants.{Round, Least}
use Rattle.peer_zone.specs.declared.state.PeerRecord.{PeerRecord}
use Rattle.peer_zone.specs.Records.{peer_at}
use Rattle.peer_zone.specs.Choice.{Part, Found, Choice, settled, raised_in, total_in, best_in, by_round, least_in, tied, count_in, among_least, taken_alone, by_single, choose}
use Rattle.peer_zone.specs.Proving.Found.{IsFound, IsNobody, some_same, both-first, best-found, best-none, nobody-best, nobody-raised, least-none, nobody-least, nobody_head, nobody_more, found_somebody}
use Rattle.peer_zone.specs.Proving.Kept.{least-there}

-- the record of this index takes part
pub record TakesPart (part : Part) (ps : List PeerRecord) (index : ℕ) : Type 0 where
  pub peer : PeerRecord
  pub there : peer_at ps index ≡ Some peer
  pub passes : part index peer ≡ true

found-takes : (part : Part) (ps : List PeerRecord) (f : Found) → IsFound part 0 ps f → TakesPart part ps f.index
found-takes part ps f h = record { peer = f.peer; there = let e : h.place ≡ f.index = let i = h.index in omega (arith, i) in subst (λ n. peer_at ps n ≡ Some f.peer) e h.there; passes = h.passes }

-- ---- whom each kind chooses

settled-chosen : (total now : ℕ) (best : Option Found) (ps : List PeerRecord) (index : ℕ) → (settled total now best ps).chosen ≡ Some index → (f : Found) × (best ≡ Some f) × (f.index ≡ index)
settled-chosen total now None ps index is = absurd (cc)
settled-chosen total now (Some best) ps index is = (best, refl, some_same best.index index is)

pub round-chosen : (part : Part) (now : ℕ) (ps : List PeerRecord) (index : ℕ) → (by_round part now ps).chosen ≡ Some index → (f : Found) × (best_in part 0 ps ≡ Some f) × (f.index ≡ index)
round-chosen part now ps index is = settled-chosen (total_in part 0 ps) now (best_in part 0 ps) (raised_in part 0 ps) index is

pub round-takes : (part : Part) (now : ℕ) (ps : List PeerRecord) (index : ℕ) → (by_round part now ps).chosen ≡ Some index → TakesPart part ps index
round-takes part now ps index is = let f = round-chosen part now ps index is in subst (λ n. TakesPart part ps n) f.2 (found-takes part ps f.0 (best-found part 0 ps f.0 f.1))

-- who is tied with the least busy one takes part
tied-takes : (part : Part) (ps : List PeerRecord) (f : Found) (index : ℕ) → TakesPart (tied part f) ps index → TakesPart part ps index
tied-takes part ps f index h = record { peer = h.peer; there = h.there; passes = both-first (part index h.peer) _ h.passes }

least-takes : (part : Part) (now : ℕ) (ps : List PeerRecord) (index : ℕ) (least : Option Found) → least_in part 0 None ps ≡ least → (among_least part now ps least).chosen ≡ Some index → TakesPart part ps index
least-takes part now ps index None none is = absurd (cc)
least-takes part now ps index (Some f) some is = go (nat_lt 1 (count_in (tied part f) 0 ps)) is where
  go : (b : Bool) → (cond b (by_round (tied part f) now ps) (settled 0 now (Some f) ps)).chosen ≡ Some index → TakesPart part ps index
  go true h = tied-takes part ps f index (round-takes (tied part f) now ps index h)
  go false h = subst (λ n. TakesPart part ps n) (some_same f.index index h) (found-takes part ps f (least-there part ps f some))

single-takes : (part : Part) (ps : List PeerRecord) (index : ℕ) → (by_single part ps).chosen ≡ Some index → TakesPart part ps index
single-takes part [] index is = absurd (cc)
single-takes part (p ∷ ps) index is = go (part 0 p) refl is where
  go : (b : Bool) → part 0 p ≡ b → (cond {A = Choice} b (record { chosen = Some 0; peers = taken_alone p ∷ ps }) (record { chosen = None; peers = p ∷ ps })).chosen ≡ Some index → TakesPart part (p ∷ ps) index
  go true passes h = subst (λ n. TakesPart part (p ∷ ps) n) (some_same 0 index h) (record { peer = p; there = refl; passes = passes })
  go false fails h = absurd (cc)

-- who is chosen takes part
pub chosen-takes : (single : Bool) (method : Method) (part : Part) (now : ℕ) (ps : List PeerRecord) (index : ℕ) → (choose single method part now ps).chosen ≡ Some index → TakesPart part ps index
chosen-takes true method part now ps index is = single-takes part ps index is
chosen-takes false Round part now ps index is = round-takes part now ps index is
chosen-takes false Least part now ps index is = least-takes part now ps index (least_in part 0 None ps) refl is

-- ---- nobody is chosen

settled-none : (total now : ℕ) (best : Option Found) (ps : List PeerRecord) → (settled total now best ps).chosen ≡ None → best ≡ None
settled-none total now None ps is = refl
settled-none total now (Some best) ps is = absurd (cc)

round-none : (part : Part) (now : ℕ) (ps : List PeerRecord) → (by_round part now ps).chosen ≡ None → IsNobody part 0 ps
round-none part now ps is = best-none part 0 ps (settled-none (total_in part 0 ps) now (best_in part 0 ps) (raised_in part 0 ps) is)

same_twice : (n : ℕ) → nat_le n n ≡ true
same_twice n = grind arith

equal_twice : (n : ℕ) → nat_eq n n ≡ true
equal_twice n = grind arith

-- the least busy one is tied with itself
self-tied : (part : Part) (ps : List PeerRecord) (f : Found) → IsFound part 0 ps f → IsFound (tied part f) 0 ps f
self-tied part ps f h = record { place = h.place; index = h.index; there = h.there; passes = rw h.passes (rw (same_twice f.index) (equal_twice (f.peer.conns * f.peer.server.weight))) }

least-nobody : (part : Part) (now : ℕ) (ps : List PeerRecord) (least : Option Found) → least_in part 0 None ps ≡ least → (among_least part now ps least).chosen ≡ None → IsNobody part 0 ps
least-nobody part now ps None none is = least-none part 0 ps none
least-nobody part now ps (Some f) some is = absurd (go (nat_lt 1 (count_in (tied part f) 0 ps)) is) where
  go : (b : Bool) → (cond b (by_round (tied part f) now ps) (settled 0 now (Some f) ps)).chosen ≡ None → ⊥
  go true h = found_somebody (tied part f) 0 ps f (self-tied part ps f (least-there part ps f some)) (round-none (tied part f) now ps h)
  go false h = absurd (cc)

single-nobody : (part : Part) (ps : List PeerRecord) → length ps ≤ 1 → (by_single part ps).chosen ≡ None → IsNobody part 0 ps
single-nobody part [] few is = λ place q there. absurd (cc)
single-nobody part (p ∷ q ∷ ps) few is = absurd (omega (arith, few))
single-nobody part (p ∷ []) few is = go (part 0 p) refl is where
  go : (b : Bool) → part 0 p ≡ b → (cond {A = Choice} b (record { chosen = Some 0; peers = taken_alone p ∷ [] }) (record { chosen = None; peers = p ∷ [] })).chosen ≡ None → IsNobody part 0 (p ∷ [])
  go true passes h = absurd (cc)
  go false fails h = nobody_more part 0 p [] fails (λ place q there. absurd (cc))

-- nobody takes part where nobody is chosen; a single server is alone in its list
pub none-nobody : (single : Bool) (method : Method) (part : Part) (now : ℕ) (ps : List PeerRecord) → (single ≡ true → length ps ≤ 1) → (choose single method part now ps).chosen ≡ None → IsNobody part 0 ps
none-nobody true method part now ps alone is = single-nobody part ps (alone refl) is
none-nobody false Round part now ps alone is = round-none part now ps is
none-nobody false Least part now ps alone is = least-nobody part now ps (least_in part 0 None ps) refl is

-- and where nobody takes part, nothing is changed
abbrev pub unchanged : List PeerRecord → Choice
unchanged ps = record { chosen = None; peers = ps }

nobody-round : (part : Part) (now : ℕ) (ps : List PeerRecord) → IsNobody part 0 ps → by_round part now ps ≡ unchanged ps
nobody-round part now ps h = rw (nobody-best part 0 ps h) (ap (λ (qs : List PeerRecord). unchanged qs) (nobody-raised part 0 ps h))

nobody-single : (part : Part) (ps : List PeerRecord) → IsNobody part 0 ps → by_single part ps ≡ unchanged ps
nobody-single part [] h = refl
nobody-single part (p ∷ ps) h = rw (nobody_head part 0 p ps h) refl

pub nobody-unchanged : (single : Bool) (method : Method) (part : Part) (now : ℕ) (ps : List PeerRecord) → IsNobody part 0 ps → choose single method part now ps ≡ unchanged ps
nobody-unchanged true method part now ps h = nobody-single part ps h
nobody-unchanged false Round part now ps h = nobody-round part now ps h
nobody-unchanged false Least part now ps h = ap (λ (least : Option Found). among_least part now ps least) (nobody-least part 0 ps h)
