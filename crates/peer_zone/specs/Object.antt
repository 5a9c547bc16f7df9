-- The upstream's zone as an object: what its calls answer and change, what it permits, what a call needs and costs.
use Rattle.std.specs.Prelude.{ℕ, zero, suc, ◌+◌, ◌*◌, ◌^◌, ◌<◌, ◌≤◌, Bool, ◌&&◌, nat_eq, pos, neg_ℤ, ◌≤ℤ◌, List, [], ◌∷◌, length, sum_by, Option, Some, None, if◌then◌else◌}
use Rattle.std.specs.List.{All}
use Rattle.zone_object.specs.declared.object.Entry.{Entry}
use Rattle.peer_zone.specs.declared.calls.Server.{Server}
use Rattle.peer_zone.specs.declared.calls.PeerCall.{PeerCall}
use Rattle.peer_zone.specs.declared.calls.PeerCall.TheVariants.{Choose, Free}
use Rattle.peer_zone.specs.declared.calls.PeerReply.{PeerReply}
use Rattle.peer_zone.specs.declared.calls.PeerReply.TheVariants.{Peer, NoPeer, Freed}
use Rattle.peer_zone.specs.declared.state.PeerRecord.{PeerRecord}
use Rattle.peer_zone.specs.declared.state.PeerState.{PeerState}
use Rattle.peer_zone.specs.Records.{is_available}
use Rattle.peer_zone.specs.Choice.{Part, Choice, change_at, choose, freed}

-- ---- the steps

-- the upstream has exactly one server and no backup
abbrev pub is_single : PeerState → Bool
is_single s = nat_eq (length s.primary) 1 && nat_eq (length s.backup) 0

-- the records of list 0, the primary servers, or of list 1, the backup servers
abbrev pub list_of : PeerState → ℕ → List PeerRecord
list_of s list = if nat_eq list 0 then s.primary else s.backup

-- the state with these records in list `list`
abbrev pub with_list : PeerState → ℕ → List PeerRecord → PeerState
with_list s list peers = if nat_eq list 0 then record s { primary = peers } else record s { backup = peers }

-- the servers that are available to a request that has tried these
abbrev pub available : PeerState → ℕ → ℕ → Part
available s tried now = is_available (is_single s) tried now

-- the choice in this list
abbrev pub choice_of : PeerState → ℕ → ℕ → ℕ → Choice
choice_of s list tried now = choose (is_single s) s.method (available s tried now) now (list_of s list)

-- the reply of a choice
abbrev pub reply_for : Option ℕ → PeerReply
reply_for None = NoPeer
reply_for (Some index) = Peer index

-- what a call is answered
abbrev pub answer_of : PeerState → PeerCall → PeerReply
answer_of s (Choose list tried now) = reply_for (choice_of s list tried now).chosen
answer_of s (Free list index failed now) = Freed

-- the zone after a call
abbrev pub zone_after : PeerState → PeerCall → PeerState
zone_after s (Choose list tried now) = with_list s list (choice_of s list tried now).peers
zone_after s (Free list index failed now) = with_list s list (change_at index (freed (is_single s) failed now) (list_of s list))

-- ---- what a caller may ask

-- a moment lies below 2^42
abbrev pub IsMoment : ℕ → Type 0
IsMoment moment = moment < 2 ^ 42

-- once if the server is this one
abbrev pub once_for : ℕ → ℕ → ℕ → ℕ → ℕ
once_for list index to at = if nat_eq to list && nat_eq at index then 1 else 0

-- how often a reply gives the server of this list and index
abbrev pub given_by : ℕ → ℕ → PeerCall → PeerReply → ℕ
given_by list index (Choose to tried now) (Peer at) = once_for list index to at
given_by list index (Choose to tried now) NoPeer = 0
given_by list index (Choose to tried now) Freed = 0
given_by list index (Free to at failed now) reply = 0

-- how often a call gives it back
abbrev pub back_by : ℕ → ℕ → PeerCall → ℕ
back_by list index (Choose to tried now) = 0
back_by list index (Free to at failed now) = once_for list index to at

-- an entry of a history of the zone
abbrev pub Made : Type 0 → Type 0
Made X = Entry X PeerState PeerCall PeerReply

module _ {X : Type 0} where
  abbrev pub given : ℕ → ℕ → Made X → ℕ
  given list index e = given_by list index e.call e.reply

  abbrev pub back : ℕ → ℕ → Made X → ℕ
  back list index e = back_by list index e.call

  -- the caller was given this server more often than it freed it
  abbrev pub HoldsPeer : List (Made X) → ℕ → ℕ → Type 0
  HoldsPeer mine list index = sum_by (back list index) mine < sum_by (given list index) mine

  -- one of the two lists, and a moment; and a server is freed by a caller that has it
  abbrev pub Permits : List (Made X) → PeerCall → Type 0
  Permits mine (Choose list tried now) = (list < 2) × IsMoment now
  Permits mine (Free list index failed now) = (list < 2) × IsMoment now × HoldsPeer mine list index

-- ---- what a call needs, what it can answer and what it costs

-- the connections of the server of this index, 0 where there is none
abbrev pub conns_at : List PeerRecord → ℕ → ℕ
conns_at [] index = 0
conns_at (p ∷ ps) zero = p.conns
conns_at (p ∷ ps) (suc index) = conns_at ps index

-- the numbers of a server are in the ranges of its directive
pub record IsServer (server : Server) : Type 0 where
  pub address : (0 < length server.address) × (length server.address < 256)
  pub weight : (0 < server.weight) × (server.weight < 2 ^ 16)
  pub max_conns : server.max_conns ≤ 1000000000
  pub max_fails : server.max_fails ≤ 1000000000
  pub fail_timeout : server.fail_timeout ≤ 31536000

-- the numbers of a record leave room for one call more
pub record HasRoom (p : PeerRecord) : Type 0 where
  pub server : IsServer p.server
  pub effective : p.effective ≤ p.server.weight
  pub low : neg_ℤ (pos (2 ^ 55)) ≤ℤ p.current
  pub high : p.current ≤ℤ pos (2 ^ 55)
  pub conns : p.conns < 2 ^ 32
  pub fails : p.fails < 2 ^ 32
  pub checked : IsMoment p.checked
  pub accessed : IsMoment p.accessed

-- what the call itself needs: its ranges, and a server that has a connection
abbrev pub IsReadyAt : PeerState → PeerCall → Type 0
IsReadyAt s (Choose list tried now) = (list < 2) × IsMoment now
IsReadyAt s (Free list index failed now) = (list < 2) × IsMoment now × (0 < conns_at (list_of s list) index)

-- each list has room and at most 64 servers
pub record Ready (s : PeerState) (call : PeerCall) : Type 0 where
  pub primary : All HasRoom s.primary
  pub backup : All HasRoom s.backup
  pub primary_few : length s.primary ≤ 64
  pub backup_few : length s.backup ≤ 64
  pub asked : IsReadyAt s call

-- a choice is answered by a server of its list or by none, and the end of a request by its own reply
abbrev pub CanAnswer : PeerState → PeerCall → PeerReply → Type 0
CanAnswer s (Choose list tried now) (Peer index) = index < length (list_of s list)
CanAnswer s (Choose list tried now) NoPeer = Unit {0}
CanAnswer s (Choose list tried now) Freed = ⊥
CanAnswer s (Free list index failed now) (Peer at) = ⊥
CanAnswer s (Free list index failed now) NoPeer = ⊥
CanAnswer s (Free list index failed now) Freed = Unit {0}

-- the list that a call goes over
abbrev pub list_asked : PeerCall → ℕ
list_asked (Choose list tried now) = list
list_asked (Free list index failed now) = list

-- the steps that a call counts at most: a few for each server of its list
abbrev pub cost_of : PeerState → PeerCall → ℕ
cost_of s call = 40 * length (list_of s (list_asked call)) + 40
