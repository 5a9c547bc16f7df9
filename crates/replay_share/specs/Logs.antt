-- The histories of a configuration's zones, and what one caller asked in them.
use Rattle.std.specs.Prelude.{ℕ, ◌≡◌, ◌<◌, List, [], ◌∷◌, length, map, Option, Some, None, slice_get, IfSome}
use Rattle.std.specs.List.{All}
use Rattle.zone_object.specs.declared.object.Entry.{Entry}
use Rattle.zone_object.specs.History.{own, IsHistory}
use Rattle.req_zone.specs.declared.calls.ReqCall.{ReqCall}
use Rattle.req_zone.specs.declared.calls.ReqReply.{ReqReply}
use Rattle.req_zone.specs.declared.state.ReqState.{ReqState}
use Rattle.req_zone.specs.declared.words.ReqWords.{ReqWords}
use Rattle.req_zone.specs.Object as req
use Rattle.conn_zone.specs.declared.calls.ConnCall.{ConnCall}
use Rattle.conn_zone.specs.declared.calls.ConnReply.{ConnReply}
use Rattle.conn_zone.specs.declared.state.ConnState.{ConnState}
use Rattle.conn_zone.specs.Layout.{Zone}
use Rattle.conn_zone.specs.Object as conn
use Rattle.peer_zone.specs.declared.calls.PeerCall.{PeerCall}
use Rattle.peer_zone.specs.declared.calls.PeerReply.{PeerReply}
use Rattle.peer_zone.specs.declared.state.PeerState.{PeerState}
use Rattle.peer_zone.specs.declared.words.PeerWords.{PeerWords}
use Rattle.peer_zone.specs.Object as peer
use Rattle.peer_zone.specs.Opening as opening
use Rattle.zone_config.specs.declared.data.ZoneSpec.{ZoneSpec}
use Rattle.zone_config.specs.declared.data.ZoneSpec.TheVariants as zone
use Rattle.request_script.specs.Turn.{Exchange}
use Rattle.request_script.specs.Drive.{Made, req_part, conn_part, peer_part}
use Rattle.request_script.specs.ZoneSpecs.{peer_spec}
use Rattle.zone_config.specs.declared.data.ReqData.{ReqData}
use Rattle.zone_config.specs.declared.data.ConnData.{ConnData}
use Rattle.zone_config.specs.declared.data.PeerData.{PeerData}

-- ---- histories

-- an entry of a history of each kind of zone
abbrev pub ReqEntry : Type 0
ReqEntry = Entry ReqWords ReqState ReqCall ReqReply

-- an entry of a connection zone's journal
abbrev pub ConnEntry : Type 0
ConnEntry = Entry Zone ConnState ConnCall ConnReply

-- an entry of the journal of an upstream's zone
abbrev pub PeerEntry : Type 0
PeerEntry = Entry PeerWords PeerState PeerCall PeerReply

-- the history of a zone, oldest entry first
pub data ZoneLog : Type 0 where
  req_log : (log : List ReqEntry) → ZoneLog
  conn_log : (log : List ConnEntry) → ZoneLog
  peer_log : (log : List PeerEntry) → ZoneLog

-- ---- where they begin

-- a zone of each kind that was just opened with what a configuration says of it
abbrev pub req_opened : ReqData → ReqState
req_opened spec = req.opened_zone spec.rate spec.name spec.bytes

-- a connection zone's state when it is opened
abbrev pub conn_opened : ConnData → ConnState
conn_opened spec = conn.opened_zone spec.name spec.bytes

-- the state of an upstream's zone when it is opened
abbrev pub peer_opened : PeerData → PeerState
peer_opened spec = opening.opened_zone (peer_spec spec)

-- ---- legal histories

-- all entries are those of callers below n
abbrev pub HasCallersBelow : {X St C R : Type 0} → ℕ → List (Entry X St C R) → Type 0
HasCallersBelow {X} {St} {C} {R} n log = All (λ (e : Entry X St C R). e.caller < n) log

-- A legal and well-formed history of a zone that was opened as the configuration says, with callers below n alone.
abbrev pub IsLogOf : ℕ → ZoneSpec → ZoneLog → Type 0
IsLogOf n (zone.Req spec key) (req_log log) = IsHistory req.IsOpened req.answer_of req.zone_after req.Permits (req_opened spec) log × HasCallersBelow n log
IsLogOf n (zone.Conn spec key) (conn_log log) = IsHistory conn.IsOpened conn.answer_of conn.zone_after conn.Permits (conn_opened spec) log × HasCallersBelow n log
IsLogOf n (zone.Peer spec line) (peer_log log) = IsHistory opening.IsOpened peer.answer_of peer.zone_after peer.Permits (peer_opened spec) log × HasCallersBelow n log
IsLogOf n _ _ = ⊥

-- what stands for a zone, at its place among what stands for all zones
abbrev pub IsAt : {J : Type 0} → (ZoneSpec → J → Type 0) → Option ZoneSpec → Option J → Type 0
IsAt IsOf (Some spec) (Some j) = IsOf spec j
IsAt IsOf None None = Unit {0}
IsAt IsOf _ _ = ⊥

-- the histories of all zones, by the zones' numbers
abbrev pub AreLogsOf : ℕ → List ZoneSpec → List ZoneLog → Type 0
AreLogsOf n specs logs = (z : ℕ) → IsAt (IsLogOf n) (slice_get specs z) (slice_get logs z)

-- ---- one caller's calls

-- what was asked and answered by an entry
abbrev pub made_of : {X St C R : Type 0} → Entry X St C R → Made C R
made_of e = record { call = e.call; reply = e.reply }

-- of what was asked, the part that went to zone z is just this caller's part of that zone's history
abbrev pub HasPart : List Exchange → ℕ → ℕ → ZoneLog → Type 0
HasPart asked who z (req_log log) = map made_of (own log who) ≡ req_part z asked
HasPart asked who z (conn_log log) = map made_of (own log who) ≡ conn_part z asked
HasPart asked who z (peer_log log) = map made_of (own log who) ≡ peer_part z asked

-- and so it is with every zone
abbrev pub HasParts : List Exchange → ℕ → List ZoneLog → Type 0
HasParts asked who logs = (z : ℕ) → IfSome (slice_get logs z) (HasPart asked who z)
