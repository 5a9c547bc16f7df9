-- The zones that workers share, and a worker's passes to them.
use Rattle.std.specs.Prelude.{ℕ, ◌≡◌, ◌*◌, ◌≤◌, List, [], length, map, Some, slice_get, slice_index}
use Rattle.shared_zone.specs.Callers.{ZoneId, Caller}
use Rattle.zone_config.specs.declared.data.Config.{Config}
use Rattle.zone_config.specs.declared.data.ZoneSpec.{ZoneSpec}
use Rattle.zone_config.specs.declared.data.ZoneSpec.TheVariants as zone
use Rattle.replay_log.specs.declared.line.Line.{Line}
use Rattle.request_script.specs.declared.call.ZoneCall.{ZoneCall}
use Rattle.request_script.specs.Turn.{Exchange}
use Rattle.request_script.specs.Permitted.{zone_of}
use Rattle.replay_share.specs.Logs.{ZoneLog, IsAt, req_opened, conn_opened, peer_opened}
use Rattle.replay_share.specs.Logs.ZoneLog.{req_log, conn_log, peer_log}
use Rattle.replay_share.specs.Asked.{HasAsked, HasTaken, MayTake}
use Rattle.replay_share.specs.Replay.{lines_of}
use Rattle.replay_share.specs.Share.{HasReplayed}
use Rattle.replay_workers.specs.declared.passes.Shared.{Shared}
use Rattle.replay_workers.specs.declared.passes.Shared.TheVariants as shared
use Rattle.replay_workers.specs.declared.passes.ZonePass.{ZonePass}
use Rattle.replay_workers.specs.declared.passes.ZonePass.TheVariants.{Req, Conn, Peer}
use Rattle.replay_workers.specs.declared.passes.Row.{Row}
use Rattle.replay_workers.specs.declared.passes.Played.{Played}

-- which zone a shared zone is
abbrev pub id_of : Shared → ZoneId
id_of (shared.Req zone) = zone
id_of (shared.Conn zone) = zone
id_of (shared.Peer zone) = zone

-- it is of the kind that the configuration says
abbrev pub IsSharedOf : ZoneSpec → Shared → Type 0
IsSharedOf (zone.Req spec key) (shared.Req id) = Unit {0}
IsSharedOf (zone.Conn spec key) (shared.Conn id) = Unit {0}
IsSharedOf (zone.Peer spec line) (shared.Peer id) = Unit {0}
IsSharedOf _ _ = ⊥

-- where a worker stands: the zones, how many calls each worker may make to each of them, and its own number
pub record Place : Type 0 where
  pub zones : List Shared
  pub rooms : List ℕ
  pub who : ℕ

-- a pass of a worker to zone z, whose history began at this state
pub record IsCallerOf {St E : Type 0} (at : Place) (z : ℕ) (opened : St) (pass : Caller St E) : Type 0 where
  pub there : slice_get (map id_of at.zones) z ≡ Some pass.zone.id
  pub start : pass.zone.start ≡ Some opened
  pub rooms : pass.zone.rooms ≡ at.rooms
  pub number : pass.number ≡ at.who

-- a pass to zone z, which the configuration says so
abbrev pub IsPassOf : Place → ℕ → ZoneSpec → ZonePass → Type 0
IsPassOf at z (zone.Req spec key) (Req pass) = IsCallerOf at z (req_opened spec) pass
IsPassOf at z (zone.Conn spec key) (Conn pass) = IsCallerOf at z (conn_opened spec) pass
IsPassOf at z (zone.Peer spec line) (Peer pass) = IsCallerOf at z (peer_opened spec) pass
IsPassOf at z _ _ = ⊥

-- the history that a pass has seen
abbrev pub seen_by : ZonePass → ZoneLog
seen_by (Req pass) = req_log pass.seen
seen_by (Conn pass) = conn_log pass.seen
seen_by (Peer pass) = peer_log pass.seen

-- the worker asked this through its passes
abbrev pub AskedBy : Place → List ZonePass → List ZoneSpec → List Exchange → Type 0
AskedBy at passes specs asked = HasAsked (IsPassOf at) seen_by at.who passes specs asked

-- ---- a call

-- the pass to the zone of a call may make it
pub record MayCall (at : Place) (zone : Shared) (pass : ZonePass) (spec : ZoneSpec) (room : ℕ) (asked : List Exchange) (call : ZoneCall) : Type 0 where
  pub there : slice_get (map id_of at.zones) (zone_of call) ≡ Some (id_of zone)
  pub kind : IsSharedOf spec zone
  pub enough : room ≤ slice_index at.rooms at.who
  pub may : MayTake (IsPassOf at) seen_by at.who pass spec room asked call

-- it has made what was asked of its zone
abbrev pub HasCalled : Place → ZonePass → ZoneSpec → List Exchange → ZoneCall → Type 0
HasCalled at pass spec asked call = HasTaken (IsPassOf at) seen_by at.who pass spec asked call

-- ---- a worker

-- the zones that it calls, the rooms, its number and its passes
pub record Stand : Type 0 where
  pub place : Place
  pub passes : List ZonePass

-- A worker that stands where it began answers for these zones, and was asked this.
pub record IsAnswering (start now : Stand) (specs : List ZoneSpec) (room : ℕ) (asked : List Exchange) : Type 0 where
  pub place : now.place ≡ start.place
  pub kinds : (z : ℕ) → IsAt IsSharedOf (slice_get specs z) (slice_get start.place.zones z)
  pub enough : room ≤ slice_index start.place.rooms start.place.who
  pub has : AskedBy start.place now.passes specs asked

-- ---- all workers

-- what is replayed, by how many workers, in which zones and with how much room
pub record Task : Type 0 where
  pub config : Config
  pub lines : List Line
  pub workers : ℕ
  pub zones : List Shared
  pub rooms : List ℕ

-- where worker `who` stands in it
abbrev pub place_of : Task → ℕ → Place
place_of task who = record { zones = task.zones; rooms = task.rooms; who = who }

-- the zones are of the kinds that the configuration says
abbrev pub AreShared : Task → Type 0
AreShared task = (z : ℕ) → IsAt IsSharedOf (slice_get task.config.zones z) (slice_get task.zones z)

-- passes that have made no call yet, with room for all calls of the worker's lines
pub record IsFreshRow (task : Task) (row : Row) : Type 0 where
  pub passes : AskedBy (place_of task row.number) row.passes.items task.config.zones []
  pub enough : 3 * length (lines_of task.workers row.number task.lines) ≤ slice_index task.rooms row.number

-- the worker's lines were decided so by what its passes were answered
abbrev pub HasWorked : Task → Played → Type 0
HasWorked task played = HasReplayed (AskedBy (place_of task played.number) played.passes.items task.config.zones) task.config (lines_of task.workers played.number task.lines) played.decisions.items

-- the number of a worker
abbrev pub number_of_row : Row → ℕ
number_of_row row = row.number

-- the number of the worker that played
abbrev pub number_of_played : Played → ℕ
number_of_played played = played.number

-- and its passes
abbrev pub passes_of_row : Row → List ZonePass
passes_of_row row = row.passes.items

-- its passes of the zones
abbrev pub passes_of_played : Played → List ZonePass
passes_of_played played = played.passes.items
