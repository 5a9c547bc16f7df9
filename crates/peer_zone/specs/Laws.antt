-- What holds of every choice and of every opening.
use Rattle.std.specs.Prelude.{◌≡◌, ◌↔◌, ℕ, ◌<◌, true, false, ◌≤ℤ◌, ◌<ℤ◌, Some, None}
use Rattle.peer_zone.specs.declared.calls.Method.TheVariants.{Round, Least}
use Rattle.peer_zone.specs.declared.calls.PeerSpec.{PeerSpec}
use Rattle.peer_zone.specs.declared.calls.PeerCall.{PeerCall}
use Rattle.peer_zone.specs.declared.calls.PeerCall.TheVariants.{Choose}
use Rattle.peer_zone.specs.declared.calls.PeerReply.TheVariants.{Peer, NoPeer}
use Rattle.peer_zone.specs.declared.state.PeerRecord.{PeerRecord}
use Rattle.peer_zone.specs.declared.state.PeerState.{PeerState}
use Rattle.peer_zone.specs.Records.{peer_at}
use Rattle.peer_zone.specs.Choice.{raised, is_less_busy}
use Rattle.peer_zone.specs.Object.{is_single, list_of, list_asked, available, answer_of, zone_after, Ready, CanAnswer}
use Rattle.peer_zone.specs.Opening.{IsSpec, IsOpened, refused_server, grants_of, opened_zone, spec_of}
use Rattle.peer_zone.specs.Holding.{IsWhole, HasBlocks, current_sum}

-- the list has a server of this index with this record, and it is available
pub record IsAvailable (s : PeerState) (list tried now index : ℕ) (p : PeerRecord) : Type 0 where
  pub there : peer_at (list_of s list) index ≡ Some p
  pub passes : available s tried now index p ≡ true

-- no server is chosen exactly where none of the list is available
abbrev pub NoPeerLaw : Type 0
NoPeerLaw = (s : PeerState) (list tried now : ℕ) → (answer_of s (Choose list tried now) ≡ NoPeer) ↔ ((index : ℕ) (p : PeerRecord) → IsAvailable s list tried now index p → ⊥)

-- and then nothing changes
abbrev pub NoChangeLaw : Type 0
NoChangeLaw = (s : PeerState) (list tried now : ℕ) → answer_of s (Choose list tried now) ≡ NoPeer → zone_after s (Choose list tried now) ≡ s

-- a server that is chosen is available
abbrev pub ChosenLaw : Type 0
ChosenLaw = (s : PeerState) (list tried now index : ℕ) → answer_of s (Choose list tried now) ≡ Peer index → (p : PeerRecord) × IsAvailable s list tried now index p

-- once all are raised, no record is nearer to its turn than the one that a round chooses, and no earlier one is as near
pub record IsNearest (index : ℕ) (p : PeerRecord) (other : ℕ) (q : PeerRecord) : Type 0 where
  pub greatest : (raised q).current ≤ℤ (raised p).current
  pub first : other < index → (raised q).current <ℤ (raised p).current

-- no available server is nearer to its turn than the one that a round chooses
abbrev pub NearestLaw : Type 0
NearestLaw = (s : PeerState) (list tried now index : ℕ) (p : PeerRecord) → is_single s ≡ false → s.method ≡ Round → answer_of s (Choose list tried now) ≡ Peer index → peer_at (list_of s list) index ≡ Some p → (other : ℕ) (q : PeerRecord) → IsAvailable s list tried now other q → IsNearest index p other q

-- in a ready zone no available server is less busy for its weight than the one that least connections choose
abbrev pub LeastLaw : Type 0
LeastLaw = (s : PeerState) (list tried now index : ℕ) (p : PeerRecord) → Ready s (Choose list tried now) → is_single s ≡ false → s.method ≡ Least → answer_of s (Choose list tried now) ≡ Peer index → peer_at (list_of s list) index ≡ Some p → (other : ℕ) (q : PeerRecord) → IsAvailable s list tried now other q → is_less_busy q p ≡ false

-- what a round gives to all it takes from the one that it chooses: no call changes the sum of a list's currents
abbrev pub SumLaw : Type 0
SumLaw = (s : PeerState) (call : PeerCall) (list : ℕ) → list < 2 → list_asked call < 2 → current_sum (list_of (zone_after s call) list) ≡ current_sum (list_of s list)

-- where no server's record is refused, no block is: there is always room for the context, the name and the lists
abbrev pub RefusedLaw : Type 0
RefusedLaw = (spec : PeerSpec) → IsSpec spec → refused_server spec ≡ None → (grants_of spec).refused ≡ None

-- a zone that is opened with these was opened with these, and is where a history may begin
abbrev pub OpenedLaw : Type 0
OpenedLaw = (spec : PeerSpec) → IsSpec spec → (grants_of spec).refused ≡ None → (spec_of (opened_zone spec) ≡ spec) × IsOpened (opened_zone spec)

-- the blocks of a whole zone by what they hold
abbrev pub BlocksLaw : Type 0
BlocksLaw = (s : PeerState) → IsWhole s → HasBlocks s

-- what a ready call is answered is a reply that it can be given
abbrev pub AnswerLaw : Type 0
AnswerLaw = (s : PeerState) (call : PeerCall) → Ready s call → CanAnswer s call (answer_of s call)

-- what a zone was opened with decides where its history begins
abbrev pub StartLaw : Type 0
StartLaw = (s t : PeerState) → IsOpened s → IsOpened t → spec_of s ≡ spec_of t → s ≡ t
