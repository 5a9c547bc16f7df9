-- Which server of a list takes a request, and what the choice and the request's end change.
use Rattle.std.specs.Prelude.{ℕ, zero, suc, ◌+◌, ◌-◌, ◌*◌, ◌/◌, Bool, true, false, ◌&&◌, nat_eq, nat_lt, nat_le, pos, ◌+ℤ◌, ◌-ℤ◌, int_lt, List, [], ◌∷◌, Option, Some, None, if◌then◌else◌}
use Rattle.peer_zone.specs.declared.calls.Method.{Method}
use Rattle.peer_zone.specs.declared.calls.Method.TheVariants.{Round, Least}
use Rattle.peer_zone.specs.declared.state.PeerRecord.{PeerRecord}

-- who takes part in a choice, by index and record
abbrev pub Part : Type 0
Part = ℕ → PeerRecord → Bool

-- a record with its index in the list
pub record Found : Type 0 where
  pub index : ℕ
  pub peer : PeerRecord

-- whom a choice chose, and the records afterwards
pub record Choice : Type 0 where
  pub chosen : Option ℕ
  pub peers : List PeerRecord

-- the record of this index becomes another
abbrev pub change_at : ℕ → (PeerRecord → PeerRecord) → List PeerRecord → List PeerRecord
change_at index change [] = []
change_at zero change (p ∷ ps) = change p ∷ ps
change_at (suc index) change (p ∷ ps) = p ∷ change_at index change ps

-- the record once it is chosen: it falls back by the round's total, and its timeout begins again where it was over
abbrev pub taken : ℕ → ℕ → PeerRecord → PeerRecord
taken total now p = record p { current = p.current -ℤ pos total; checked = (if nat_lt p.server.fail_timeout (now - p.checked) then now else p.checked); conns = p.conns + 1 }

-- what follows a choice
abbrev pub settled : ℕ → ℕ → Option Found → List PeerRecord → Choice
settled total now None peers = record { chosen = None; peers = peers }
settled total now (Some best) peers = record { chosen = Some best.index; peers = change_at best.index (taken total now) peers }

-- ---- one round, by weight

-- the record after a round: nearer to its turn by its effective weight, which then grows by 1 where it is below the weight
abbrev pub raised : PeerRecord → PeerRecord
raised p = record p { current = p.current +ℤ pos p.effective; effective = (if nat_lt p.effective p.server.weight then p.effective + 1 else p.effective) }

-- all that take part are raised
abbrev pub raised_in : Part → ℕ → List PeerRecord → List PeerRecord
raised_in part index [] = []
raised_in part index (p ∷ ps) = (if part index p then raised p else p) ∷ raised_in part (index + 1) ps

-- the round's total: the effective weights of all that take part
abbrev pub total_in : Part → ℕ → List PeerRecord → ℕ
total_in part index [] = 0
total_in part index (p ∷ ps) = (if part index p then p.effective else 0) + total_in part (index + 1) ps

-- of an earlier record and the best of the later ones, the one that is nearer to its turn; the earlier one on a tie
abbrev pub nearer : Found → Option Found → Option Found
nearer earlier None = Some earlier
nearer earlier (Some later) = if int_lt (raised earlier.peer).current (raised later.peer).current then Some later else Some earlier

-- the best of a round: of all that take part, the first of the greatest current
abbrev pub best_in : Part → ℕ → List PeerRecord → Option Found
best_in part index [] = None
best_in part index (p ∷ ps) = if part index p then nearer (record { index = index; peer = p }) (best_in part (index + 1) ps) else best_in part (index + 1) ps

-- a choice by one round
abbrev pub by_round : Part → ℕ → List PeerRecord → Choice
by_round part now peers = settled (total_in part 0 peers) now (best_in part 0 peers) (raised_in part 0 peers)

-- ---- least connections

-- fewer connections to its weight
abbrev pub is_less_busy : PeerRecord → PeerRecord → Bool
is_less_busy p q = nat_lt (p.conns * q.server.weight) (q.conns * p.server.weight)

-- as many connections to its weight
abbrev pub is_as_busy : PeerRecord → PeerRecord → Bool
is_as_busy p q = nat_eq (p.conns * q.server.weight) (q.conns * p.server.weight)

-- a record takes the place of the least busy one before it
abbrev pub replaces : PeerRecord → Option Found → Bool
replaces p None = true
replaces p (Some best) = is_less_busy p best.peer

-- the least busy record that takes part, found in order
abbrev pub least_in : Part → ℕ → Option Found → List PeerRecord → Option Found
least_in part index best [] = best
least_in part index best (p ∷ ps) = least_in part (index + 1) (if part index p && replaces p best then Some (record { index = index; peer = p }) else best) ps

-- from the least busy one on, those that take part and are as busy
abbrev pub tied : Part → Found → Part
tied part least index p = part index p && (nat_le least.index index && is_as_busy p least.peer)

-- how many take part
abbrev pub count_in : Part → ℕ → List PeerRecord → ℕ
count_in part index [] = 0
count_in part index (p ∷ ps) = (if part index p then 1 else 0) + count_in part (index + 1) ps

-- the least busy one is chosen, or where others are as busy, one of them by a round
abbrev pub among_least : Part → ℕ → List PeerRecord → Option Found → Choice
among_least part now peers None = record { chosen = None; peers = peers }
among_least part now peers (Some least) = if nat_lt 1 (count_in (tied part least) 0 peers) then by_round (tied part least) now peers else settled 0 now (Some least) peers

-- a choice by least connections
abbrev pub by_least : Part → ℕ → List PeerRecord → Choice
by_least part now peers = among_least part now peers (least_in part 0 None peers)

-- ---- a choice

-- the record of a single server that is chosen
abbrev pub taken_alone : PeerRecord → PeerRecord
taken_alone p = record p { conns = p.conns + 1 }

-- the only server, where it takes part
abbrev pub by_single : Part → List PeerRecord → Choice
by_single part [] = record { chosen = None; peers = [] }
by_single part (p ∷ ps) = if part 0 p then record { chosen = Some 0; peers = taken_alone p ∷ ps } else record { chosen = None; peers = p ∷ ps }

-- a choice in an upstream that has a single server or more, by its method
abbrev pub choose : Bool → Method → Part → ℕ → List PeerRecord → Choice
choose true method part now peers = by_single part peers
choose false Round part now peers = by_round part now peers
choose false Least part now peers = by_least part now peers

-- ---- the end of a request

-- one connection less
abbrev pub let_go : PeerRecord → PeerRecord
let_go p = record p { conns = p.conns - 1 }

-- what a failure takes from the effective weight
abbrev pub failure_cost : PeerRecord → ℕ
failure_cost p = if nat_lt 0 p.server.max_fails then p.server.weight / p.server.max_fails else 0

-- the server failed
abbrev pub blamed : ℕ → PeerRecord → PeerRecord
blamed now p = record p { fails = p.fails + 1; accessed = now; checked = now; effective = p.effective - failure_cost p }

-- the server did well: where it was chosen again after its timeout, its failures are forgotten
abbrev pub trusted : PeerRecord → PeerRecord
trusted p = record p { fails = (if nat_lt p.accessed p.checked then 0 else p.fails) }

-- the record once a request is done with it, for a single server or one of more
abbrev pub freed : Bool → Bool → ℕ → PeerRecord → PeerRecord
freed true failed now p = let_go p
freed false true now p = let_go (blamed now p)
freed false false now p = let_go (trusted p)
