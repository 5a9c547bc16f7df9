-- What a choice and the end of a request keep and change of the records.
use Rattle.std.proofs.Common.{ℕ, zero, suc, ◌≡◌, ◌≢◌, ◌+◌, ◌-◌, ◌*◌, ◌^◌, ◌<◌, ◌≤◌, ◌⊎◌, inl, inr, Bool, true, false, cond, List, [], ◌∷◌, length, Option, Some, None, refl, sym, ap, subst, ◌∙◌, arith}
use Rattle.std.specs.Prelude.{nat_eq, nat_lt, ℤ, pos, neg_ℤ, ◌≤ℤ◌, ◌+ℤ◌, ◌-ℤ◌}
use Rattle.std.specs.List.{All}
use Rattle.std.proofs.lemmas.Int.{ints}
use Rattle.std.proofs.lemmas.Bool.Decides.{nat_tests}
use Rattle.std.proofs.lemmas.List.Elements.{All-cons, All-head, All-tail, All-nil, All-weaker}
use Rattle.peer_zone.specs.declared.calls.Server.{Server}
use Rattle.peer_zone.specs.declared.calls.Method.{Method}
use Rattle.peer_zone.specs.declared.calls.Method.TheVariants.{Round, Least}
use Rattle.peer_zone.specs.declared.state.PeerRecord.{PeerRecord}
use Rattle.peer_zone.specs.Records.{peer_at, servers_of}
use Rattle.peer_zone.specs.Choice.{Part, Found, Choice, change_at, taken, settled, raised, raised_in, total_in, best_in, by_round, least_in, tied, count_in, among_least, by_least, taken_alone, by_single, choose, let_go, blamed, trusted, freed}
use Rattle.peer_zone.specs.Object.{IsServer, IsMoment, conns_at}
use Rattle.peer_zone.specs.Holding.{IsWithin, greatest_move}
use Rattle.peer_zone.specs.Proving.Found.{IsFound, some_same, best-found, least-found}

-- ---- one record becomes another

-- the record of this index is another, and its server the same
pub servers-change : (f : PeerRecord → PeerRecord) → ((p : PeerRecord) → (f p).server ≡ p.server) → (index : ℕ) (ps : List PeerRecord) → servers_of (change_at index f ps) ≡ servers_of ps
servers-change f same index [] = refl
servers-change f same zero (p ∷ ps) = ap (λ (s : Server). s ∷ servers_of ps) (same p)
servers-change f same (suc index) (p ∷ ps) = ap (λ (ss : List Server). p.server ∷ ss) (servers-change f same index ps)

All-change : (P Q : PeerRecord → Type 0) (f : PeerRecord → PeerRecord) → ((p : PeerRecord) → P p → Q p) → ((p : PeerRecord) → P p → Q (f p)) → (index : ℕ) (ps : List PeerRecord) → All P ps → All Q (change_at index f ps)
All-change P Q f other this index [] h = All-nil Q
All-change P Q f other this zero (p ∷ ps) h = All-cons Q (f p) ps (this p (All-head P p ps h)) (All-weaker P Q other ps (All-tail P p ps h))
All-change P Q f other this (suc index) (p ∷ ps) h = All-cons Q p (change_at index f ps) (other p (All-head P p ps h)) (All-change P Q f other this index ps (All-tail P p ps h))

-- once if two indexes are one
abbrev pub once : ℕ → ℕ → ℕ
once at index = cond (nat_eq at index) 1 0

once_other : (index : ℕ) → once 0 (suc index) ≡ 0
once_other index = let e : nat_eq 0 (suc index) ≡ false = grind (arith, nat_tests) in rw e refl

once_before : (at : ℕ) → once (suc at) 0 ≡ 0
once_before at = let e : nat_eq (suc at) 0 ≡ false = grind (arith, nat_tests) in rw e refl

once_next : (at index : ℕ) → once (suc at) (suc index) ≡ once at index
once_next at index = ap (λ (b : Bool). cond {A = ℕ} b 1 0) (go (nat_eq at index) refl) where
  go : (b : Bool) → nat_eq at index ≡ b → nat_eq (suc at) (suc index) ≡ b
  go true is = let same : at ≡ index = grind (arith, nat_tests) in grind (arith, nat_tests)
  go false is = let other : at ≢ index = grind (arith, nat_tests) in grind (arith, nat_tests)

pub plus_none : (n : ℕ) → n ≡ n + 0
plus_none n = omega arith

-- one connection more on a record that is there
conns-more : (f : PeerRecord → PeerRecord) → ((p : PeerRecord) → (f p).conns ≡ p.conns + 1) → (at : ℕ) (ps : List PeerRecord) (p : PeerRecord) → peer_at ps at ≡ Some p → (index : ℕ) → conns_at (change_at at f ps) index ≡ conns_at ps index + once at index
conns-more f more at [] p there index = absurd (cc)
conns-more f more zero (q ∷ qs) p there zero = more q
conns-more f more zero (q ∷ qs) p there (suc index) = plus_none (conns_at qs index) ∙ ap (λ n. conns_at qs index + n) (sym (once_other index))
conns-more f more (suc at) (q ∷ qs) p there zero = let e = once_before at in omega (arith, e)
conns-more f more (suc at) (q ∷ qs) p there (suc index) = conns-more f more at qs p there index ∙ ap (λ n. conns_at qs index + n) (sym (once_next at index))

-- one connection less on a record that has one
pub conns-less : (f : PeerRecord → PeerRecord) → ((p : PeerRecord) → (f p).conns ≡ p.conns - 1) → (at : ℕ) (ps : List PeerRecord) → 0 < conns_at ps at → (index : ℕ) → conns_at (change_at at f ps) index + once at index ≡ conns_at ps index
conns-less f less at [] some index = absurd (omega (arith, some))
conns-less f less zero (q ∷ qs) some zero = let e = less q in omega (arith, e, some)
conns-less f less zero (q ∷ qs) some (suc index) = ap (λ n. conns_at qs index + n) (once_other index) ∙ sym (plus_none (conns_at qs index))
conns-less f less (suc at) (q ∷ qs) some zero = let e = once_before at in omega (arith, e)
conns-less f less (suc at) (q ∷ qs) some (suc index) = ap (λ n. conns_at (change_at at f qs) index + n) (once_next at index) ∙ conns-less f less at qs some index

-- ---- a round

raised_one : Bool → PeerRecord → PeerRecord
raised_one b p = cond b (raised p) p

pub servers-raised : (part : Part) (from : ℕ) (ps : List PeerRecord) → servers_of (raised_in part from ps) ≡ servers_of ps
servers-raised part from [] = refl
servers-raised part from (p ∷ ps) = go (part from p) (servers-raised part (from + 1) ps) where
  go : (b : Bool) → servers_of (raised_in part (from + 1) ps) ≡ servers_of ps → servers_of (cond b (raised p) p ∷ raised_in part (from + 1) ps) ≡ servers_of (p ∷ ps)
  go true i = ap (λ (ss : List Server). p.server ∷ ss) i
  go false i = ap (λ (ss : List Server). p.server ∷ ss) i

conns-raised : (part : Part) (from : ℕ) (ps : List PeerRecord) (index : ℕ) → conns_at (raised_in part from ps) index ≡ conns_at ps index
conns-raised part from [] index = refl
conns-raised part from (p ∷ ps) zero = go (part from p) where
  go : (b : Bool) → (cond b (raised p) p).conns ≡ p.conns
  go true = refl
  go false = refl
conns-raised part from (p ∷ ps) (suc index) = conns-raised part (from + 1) ps index

-- a record that is there still is
pub there-raised : (part : Part) (from : ℕ) (ps : List PeerRecord) (at : ℕ) (p : PeerRecord) → peer_at ps at ≡ Some p → (q : PeerRecord) × (peer_at (raised_in part from ps) at ≡ Some q)
there-raised part from [] at p there = absurd (cc)
there-raised part from (p ∷ ps) zero q there = (cond (part from p) (raised p) p, refl)
there-raised part from (p ∷ ps) (suc at) q there = there-raised part (from + 1) ps at q there

-- the numbers of a record in the middle of a call: its current may still fall by a call's move
record IsRaised (calls : ℕ) (p : PeerRecord) : Type 0 where
  server : IsServer p.server
  effective : p.effective ≤ p.server.weight
  low : neg_ℤ (pos (greatest_move * calls)) ≤ℤ p.current
  high : p.current ≤ℤ pos (greatest_move * (calls + 1))
  conns : p.conns ≤ calls
  fails : p.fails ≤ calls
  checked : IsMoment p.checked
  accessed : IsMoment p.accessed

up_to : (a : ℤ) (n k : ℕ) → a ≤ℤ pos (greatest_move * n) → k < 2 ^ 16 → (a +ℤ pos k) ≤ℤ pos (greatest_move * (n + 1))
up_to a n k h small = omega (arith, ints, h, small)

from_more : (a : ℤ) (n k : ℕ) → neg_ℤ (pos (greatest_move * n)) ≤ℤ a → neg_ℤ (pos (greatest_move * n)) ≤ℤ (a +ℤ pos k)
from_more a n k h = omega (arith, ints, h)

from_less : (a : ℤ) (n k : ℕ) → neg_ℤ (pos (greatest_move * n)) ≤ℤ a → k ≤ greatest_move → neg_ℤ (pos (greatest_move * (n + 1))) ≤ℤ (a -ℤ pos k)
from_less a n k h small = omega (arith, ints, h, small)

up_to_less : (a : ℤ) (n k : ℕ) → a ≤ℤ pos (greatest_move * (n + 1)) → (a -ℤ pos k) ≤ℤ pos (greatest_move * (n + 1))
up_to_less a n k h = omega (arith, ints, h)

up_one : (a : ℤ) (n : ℕ) → a ≤ℤ pos (greatest_move * n) → a ≤ℤ pos (greatest_move * (n + 1))
up_one a n h = omega (arith, ints, h)

down_one : (a : ℤ) (n : ℕ) → neg_ℤ (pos (greatest_move * n)) ≤ℤ a → neg_ℤ (pos (greatest_move * (n + 1))) ≤ℤ a
down_one a n h = omega (arith, ints, h)

IsRaised-still : (n : ℕ) (p : PeerRecord) → IsWithin n p → IsRaised n p
IsRaised-still n p h = record { server = h.server; effective = h.effective; low = h.low; high = up_one p.current n h.high; conns = h.conns; fails = h.fails; checked = h.checked; accessed = h.accessed }

effective-raised : (p : PeerRecord) → p.effective ≤ p.server.weight → (raised p).effective ≤ p.server.weight
effective-raised p h = go (nat_lt p.effective p.server.weight) refl where
  go : (b : Bool) → nat_lt p.effective p.server.weight ≡ b → cond b (p.effective + 1) p.effective ≤ p.server.weight
  go true is = grind arith
  go false is = h

IsRaised-raised : (n : ℕ) (p : PeerRecord) → IsWithin n p → IsRaised n (raised p)
IsRaised-raised n p h = record {
  server = h.server;
  effective = effective-raised p h.effective;
  low = from_more p.current n p.effective h.low;
  high = up_to p.current n p.effective h.high (let w = h.server.weight.1 in let e = h.effective in omega (arith, w, e));
  conns = h.conns;
  fails = h.fails;
  checked = h.checked;
  accessed = h.accessed;
}

All-raised : (n : ℕ) (part : Part) (from : ℕ) (ps : List PeerRecord) → All (IsWithin n) ps → All (IsRaised n) (raised_in part from ps)
All-raised n part from [] h = All-nil (IsRaised n)
All-raised n part from (p ∷ ps) h = go (part from p) (All-raised n part (from + 1) ps (All-tail (IsWithin n) p ps h)) where
  go : (b : Bool) → All (IsRaised n) (raised_in part (from + 1) ps) → All (IsRaised n) (cond b (raised p) p ∷ raised_in part (from + 1) ps)
  go true rest = All-cons (IsRaised n) (raised p) (raised_in part (from + 1) ps) (IsRaised-raised n p (All-head (IsWithin n) p ps h)) rest
  go false rest = All-cons (IsRaised n) p (raised_in part (from + 1) ps) (IsRaised-still n p (All-head (IsWithin n) p ps h)) rest

total-few : (n : ℕ) (part : Part) (from : ℕ) (ps : List PeerRecord) → All (IsWithin n) ps → total_in part from ps ≤ 65535 * length ps
total-few n part from [] h = omega arith
total-few n part from (p ∷ ps) h = go (part from p) (total-few n part (from + 1) ps (All-tail (IsWithin n) p ps h)) (All-head (IsWithin n) p ps h) where
  go : (b : Bool) → total_in part (from + 1) ps ≤ 65535 * length ps → IsWithin n p → cond b p.effective 0 + total_in part (from + 1) ps ≤ 65535 * length (p ∷ ps)
  go true rest w = let a = w.effective in let b = w.server.weight.1 in omega (arith, a, b, rest)
  go false rest w = omega (arith, rest)

-- ---- what follows a choice

IsWithin-left : (n : ℕ) (p : PeerRecord) → IsRaised n p → IsWithin (n + 1) p
IsWithin-left n p h = record { server = h.server; effective = h.effective; low = down_one p.current n h.low; high = h.high; conns = let c = h.conns in omega (arith, c); fails = let c = h.fails in omega (arith, c); checked = h.checked; accessed = h.accessed }

checked-taken : (total now : ℕ) (p : PeerRecord) → IsMoment now → IsMoment p.checked → IsMoment (taken total now p).checked
checked-taken total now p is h = go (nat_lt p.server.fail_timeout (now - p.checked)) where
  go : (b : Bool) → cond b now p.checked < 2 ^ 42
  go true = is
  go false = h

IsWithin-taken : (n total now : ℕ) → total ≤ greatest_move → IsMoment now → (p : PeerRecord) → IsRaised n p → IsWithin (n + 1) (taken total now p)
IsWithin-taken n total now few is p h = record {
  server = h.server;
  effective = h.effective;
  low = from_less p.current n total h.low few;
  high = up_to_less p.current n total h.high;
  conns = let c = h.conns in omega (arith, c);
  fails = let c = h.fails in omega (arith, c);
  checked = checked-taken total now p is h.checked;
  accessed = h.accessed;
}

All-settled : (n total now : ℕ) → total ≤ greatest_move → IsMoment now → (best : Option Found) (ps : List PeerRecord) → All (IsRaised n) ps → All (IsWithin (n + 1)) (settled total now best ps).peers
All-settled n total now few is None ps h = All-weaker (IsRaised n) (IsWithin (n + 1)) (IsWithin-left n) ps h
All-settled n total now few is (Some best) ps h = All-change (IsRaised n) (IsWithin (n + 1)) (taken total now) (IsWithin-left n) (IsWithin-taken n total now few is) best.index ps h

pub servers-settled : (total now : ℕ) (best : Option Found) (ps : List PeerRecord) → servers_of (settled total now best ps).peers ≡ servers_of ps
servers-settled total now None ps = refl
servers-settled total now (Some best) ps = servers-change (taken total now) (λ p. refl) best.index ps

-- how often a choice chose the server of this index
abbrev pub chosen_at : Option ℕ → ℕ → ℕ
chosen_at None index = 0
chosen_at (Some at) index = once at index

-- the best is there
abbrev pub IsThere : List PeerRecord → Option Found → Type 0
IsThere ps best = (f : Found) → best ≡ Some f → (p : PeerRecord) × (peer_at ps f.index ≡ Some p)

conns-settled : (total now : ℕ) (best : Option Found) (ps : List PeerRecord) → IsThere ps best → (index : ℕ) → conns_at (settled total now best ps).peers index ≡ conns_at ps index + chosen_at (settled total now best ps).chosen index
conns-settled total now None ps there index = omega arith
conns-settled total now (Some best) ps there index = let at = there best refl in conns-more (taken total now) (λ p. refl) best.index ps at.0 at.1 index

-- ---- a choice of each kind

-- what a choice keeps and changes
pub record IsChoice (n : ℕ) (ps : List PeerRecord) (c : Choice) : Type 0 where
  pub within : All (IsWithin (n + 1)) c.peers
  pub servers : servers_of c.peers ≡ servers_of ps
  pub conns : (index : ℕ) → conns_at c.peers index ≡ conns_at ps index + chosen_at c.chosen index

pub found_there : (part : Part) (ps : List PeerRecord) (f : Found) → IsFound part 0 ps f → (p : PeerRecord) × (peer_at ps f.index ≡ Some p)
found_there part ps f h = (f.peer, let e : h.place ≡ f.index = let i = h.index in omega (arith, i) in subst (λ n. peer_at ps n ≡ Some f.peer) e h.there)

few-total : (n : ℕ) (part : Part) (ps : List PeerRecord) → length ps ≤ 64 → All (IsWithin n) ps → total_in part 0 ps ≤ greatest_move
few-total n part ps few h = let t = total-few n part 0 ps h in omega (arith, t, few)

by_round-is : (n now : ℕ) (part : Part) (ps : List PeerRecord) → IsMoment now → length ps ≤ 64 → All (IsWithin n) ps → IsChoice n ps (by_round part now ps)
by_round-is n now part ps is few h = record {
  within = All-settled n (total_in part 0 ps) now (few-total n part ps few h) is (best_in part 0 ps) (raised_in part 0 ps) (All-raised n part 0 ps h);
  servers = servers-settled (total_in part 0 ps) now (best_in part 0 ps) (raised_in part 0 ps) ∙ servers-raised part 0 ps;
  conns = λ index. conns-settled (total_in part 0 ps) now (best_in part 0 ps) (raised_in part 0 ps) there index ∙ ap (λ m. m + chosen_at (by_round part now ps).chosen index) (conns-raised part 0 ps index);
} where
  there : IsThere (raised_in part 0 ps) (best_in part 0 ps)
  there f best = let at = found_there part ps f (best-found part 0 ps f best) in there-raised part 0 ps f.index at.0 at.1

unchanged-is : (n : ℕ) (ps : List PeerRecord) → All (IsWithin n) ps → IsChoice n ps (record { chosen = None; peers = ps })
unchanged-is n ps h = record { within = All-weaker (IsRaised n) (IsWithin (n + 1)) (IsWithin-left n) ps (All-weaker (IsWithin n) (IsRaised n) (IsRaised-still n) ps h); servers = refl; conns = λ index. omega arith }

alone-is : (n now : ℕ) (part : Part) (ps : List PeerRecord) (f : Found) → IsFound part 0 ps f → IsMoment now → All (IsWithin n) ps → IsChoice n ps (settled 0 now (Some f) ps)
alone-is n now part ps f found is h = record {
  within = All-settled n 0 now (omega arith) is (Some f) ps (All-weaker (IsWithin n) (IsRaised n) (IsRaised-still n) ps h);
  servers = servers-settled 0 now (Some f) ps;
  conns = λ index. conns-settled 0 now (Some f) ps (λ g same. subst (λ (g : Found). (p : PeerRecord) × (peer_at ps g.index ≡ Some p)) (some_same f g same) (found_there part ps f found)) index;
}

-- the least busy of a list is one of it
pub least-there : (part : Part) (ps : List PeerRecord) (f : Found) → least_in part 0 None ps ≡ Some f → IsFound part 0 ps f
least-there part ps f is = go (least-found part 0 None ps f is) where
  go : (None ≡ Some f) ⊎ IsFound part 0 ps f → IsFound part 0 ps f
  go (inl none) = absurd (cc)
  go (inr found) = found

by_least-is : (n now : ℕ) (part : Part) (ps : List PeerRecord) → IsMoment now → length ps ≤ 64 → All (IsWithin n) ps → IsChoice n ps (by_least part now ps)
by_least-is n now part ps is few h = go (least_in part 0 None ps) refl where
  tie : (f : Found) → IsFound part 0 ps f → (b : Bool) → IsChoice n ps (cond b (by_round (tied part f) now ps) (settled 0 now (Some f) ps))
  tie f found true = by_round-is n now (tied part f) ps is few h
  tie f found false = alone-is n now part ps f found is h

  go : (least : Option Found) → least_in part 0 None ps ≡ least → IsChoice n ps (among_least part now ps least)
  go None none = unchanged-is n ps h
  go (Some f) some = tie f (least-there part ps f some) (nat_lt 1 (count_in (tied part f) 0 ps))

IsWithin-alone : (n : ℕ) (p : PeerRecord) → IsWithin n p → IsWithin (n + 1) (taken_alone p)
IsWithin-alone n p h = record { server = h.server; effective = h.effective; low = down_one p.current n h.low; high = up_one p.current n h.high; conns = let c = h.conns in omega (arith, c); fails = let c = h.fails in omega (arith, c); checked = h.checked; accessed = h.accessed }

by_single-is : (n : ℕ) (part : Part) (ps : List PeerRecord) → All (IsWithin n) ps → IsChoice n ps (by_single part ps)
by_single-is n part [] h = unchanged-is n [] h
by_single-is n part (p ∷ ps) h = go (part 0 p) where
  still : (q : PeerRecord) → IsWithin n q → IsWithin (n + 1) q
  still q w = IsWithin-left n q (IsRaised-still n q w)

  go : (b : Bool) → IsChoice n (p ∷ ps) (cond b (record { chosen = Some 0; peers = taken_alone p ∷ ps }) (record { chosen = None; peers = p ∷ ps }))
  go true = record {
    within = All-change (IsWithin n) (IsWithin (n + 1)) taken_alone still (IsWithin-alone n) 0 (p ∷ ps) h;
    servers = refl;
    conns = λ index. conns-more taken_alone (λ q. refl) 0 (p ∷ ps) p refl index;
  }
  go false = unchanged-is n (p ∷ ps) h

pub choose-is : (n now : ℕ) (single : Bool) (method : Method) (part : Part) (ps : List PeerRecord) → IsMoment now → length ps ≤ 64 → All (IsWithin n) ps → IsChoice n ps (choose single method part now ps)
choose-is n now true method part ps is few h = by_single-is n part ps h
choose-is n now false Round part ps is few h = by_round-is n now part ps is few h
choose-is n now false Least part ps is few h = by_least-is n now part ps is few h

-- ---- the end of a request

IsWithin-let_go : (n : ℕ) (p : PeerRecord) → IsWithin n p → IsWithin (n + 1) (let_go p)
IsWithin-let_go n p h = record { server = h.server; effective = h.effective; low = down_one p.current n h.low; high = up_one p.current n h.high; conns = let c = h.conns in omega (arith, c); fails = let c = h.fails in omega (arith, c); checked = h.checked; accessed = h.accessed }

IsWithin-blamed : (n now : ℕ) (p : PeerRecord) → IsMoment now → IsWithin n p → IsWithin (n + 1) (let_go (blamed now p))
IsWithin-blamed n now p is h = record { server = h.server; effective = let e = h.effective in omega (arith, e); low = down_one p.current n h.low; high = up_one p.current n h.high; conns = let c = h.conns in omega (arith, c); fails = let c = h.fails in omega (arith, c); checked = is; accessed = is }

fails-trusted : (n : ℕ) (p : PeerRecord) → p.fails ≤ n → (trusted p).fails ≤ n
fails-trusted n p h = go (nat_lt p.accessed p.checked) where
  go : (b : Bool) → cond b 0 p.fails ≤ n
  go true = omega arith
  go false = h

IsWithin-trusted : (n : ℕ) (p : PeerRecord) → IsWithin n p → IsWithin (n + 1) (let_go (trusted p))
IsWithin-trusted n p h = record { server = h.server; effective = h.effective; low = down_one p.current n h.low; high = up_one p.current n h.high; conns = let c = h.conns in omega (arith, c); fails = let c = fails-trusted n p h.fails in omega (arith, c); checked = h.checked; accessed = h.accessed }

IsWithin-freed : (n now : ℕ) (single failed : Bool) → IsMoment now → (p : PeerRecord) → IsWithin n p → IsWithin (n + 1) (freed single failed now p)
IsWithin-freed n now true failed is p h = IsWithin-let_go n p h
IsWithin-freed n now false true is p h = IsWithin-blamed n now p is h
IsWithin-freed n now false false is p h = IsWithin-trusted n p h

pub All-still : (n : ℕ) (ps : List PeerRecord) → All (IsWithin n) ps → All (IsWithin (n + 1)) ps
All-still n ps h = All-weaker (IsWithin n) (IsWithin (n + 1)) (λ p w. IsWithin-left n p (IsRaised-still n p w)) ps h

pub All-freed : (n now index : ℕ) (single failed : Bool) (ps : List PeerRecord) → IsMoment now → All (IsWithin n) ps → All (IsWithin (n + 1)) (change_at index (freed single failed now) ps)
All-freed n now index single failed ps is h = All-change (IsWithin n) (IsWithin (n + 1)) (freed single failed now) (λ p w. IsWithin-left n p (IsRaised-still n p w)) (IsWithin-freed n now single failed is) index ps h

server-freed : (now : ℕ) (single failed : Bool) (p : PeerRecord) → (freed single failed now p).server ≡ p.server
server-freed now true failed p = refl
server-freed now false true p = refl
server-freed now false false p = refl

pub conns-freed : (now : ℕ) (single failed : Bool) (p : PeerRecord) → (freed single failed now p).conns ≡ p.conns - 1
conns-freed now true failed p = refl
conns-freed now false true p = refl
conns-freed now false false p = refl

pub servers-freed : (now index : ℕ) (single failed : Bool) (ps : List PeerRecord) → servers_of (change_at index (freed single failed now) ps) ≡ servers_of ps
servers-freed now index single failed ps = servers-change (freed single failed now) (server-freed now single failed) index ps
