-- The passes of all workers to a zone, from its opening to its end.
use Rattle.std.specs.Prelude.{ℕ, ◌≡◌, ◌<◌, ◌≤◌, ◌^◌, List, length, sum, Some, slice_get}
use Rattle.shared_zone.specs.Callers.{ZoneId, newcomer}
use Rattle.zone_object.specs.History.{own, HasRun}
use Rattle.req_zone.specs.Object as req
use Rattle.req_zone.specs.Lays as req_words
use Rattle.conn_zone.specs.Object as conn
use Rattle.conn_zone.specs.Layout as conn_words
use Rattle.peer_zone.specs.Object as peer
use Rattle.peer_zone.specs.Opening as opening
use Rattle.peer_zone.specs.Lays as peer_words
use Rattle.zone_key.specs.declared.expr.Expr.{Expr}
use Rattle.zone_config.specs.declared.data.ReqData.{ReqData}
use Rattle.zone_config.specs.declared.data.ConnData.{ConnData}
use Rattle.zone_config.specs.declared.data.PeerData.{PeerData}
use Rattle.zone_config.specs.declared.data.ZoneSpec.{ZoneSpec}
use Rattle.zone_config.specs.declared.data.ZoneSpec.TheVariants as zone
use Rattle.replay_share.specs.Logs.{ZoneLog, HasCallersBelow, req_opened, conn_opened, peer_opened}
use Rattle.replay_share.specs.Logs.ZoneLog.{req_log, conn_log, peer_log}
use Rattle.replay_workers.specs.declared.passes.Shared.{Shared}
use Rattle.replay_workers.specs.declared.passes.ZonePass.{ZonePass}
use Rattle.replay_workers.specs.declared.passes.ZonePass.TheVariants.{Req, Conn, Peer}
use Rattle.replay_workers.specs.declared.history.ZoneHistory.{ZoneHistory}
use Rattle.replay_workers.specs.declared.history.ZoneHistory.TheVariants as history
use Rattle.replay_workers.specs.Passes.{id_of, IsSharedOf, IsPassOf, seen_by}

-- ---- at the opening

-- the rooms of 1 to 16 workers
pub record AreRooms (rooms : List ℕ) : Type 0 where
  pub some : 0 < length rooms
  pub few : length rooms ≤ 16
  pub short : sum rooms < 2 ^ 32

-- the pass of worker k to a zone that has just been opened
abbrev pub IsNewPass : ZoneId → List ℕ → ℕ → ZoneSpec → ZonePass → Type 0
IsNewPass id rooms k (zone.Req spec key) (Req pass) = pass ≡ newcomer id (req_opened spec) rooms k
IsNewPass id rooms k (zone.Conn spec key) (Conn pass) = pass ≡ newcomer id (conn_opened spec) rooms k
IsNewPass id rooms k (zone.Peer spec line) (Peer pass) = pass ≡ newcomer id (peer_opened spec) rooms k
IsNewPass id rooms k _ _ = ⊥

-- a zone that has just been opened, with a pass for each worker
pub record IsOpenedZone (rooms : List ℕ) (spec : ZoneSpec) (zone : Shared) (column : List ZonePass) : Type 0 where
  pub kind : IsSharedOf spec zone
  pub count : length column ≡ length rooms
  pub each : (k : ℕ) (pass : ZonePass) → slice_get column k ≡ Some pass → IsNewPass (id_of zone) rooms k spec pass

-- and that of each kind of zone
abbrev pub IsOpenedReq : List ℕ → ReqData → Shared → List ZonePass → Type 0
IsOpenedReq rooms spec shared column = (key : Expr) → IsOpenedZone rooms (zone.Req spec key) shared column

-- the passes of a connection zone as it is opened
abbrev pub IsOpenedConn : List ℕ → ConnData → Shared → List ZonePass → Type 0
IsOpenedConn rooms spec shared column = (key : Expr) → IsOpenedZone rooms (zone.Conn spec key) shared column

-- the passes of an upstream's zone as it is opened
abbrev pub IsOpenedPeer : List ℕ → PeerData → Shared → List ZonePass → Type 0
IsOpenedPeer rooms spec shared column = (line : ℕ) → IsOpenedZone rooms (zone.Peer spec line) shared column

-- ---- at the end

-- a zone that has run a history from where the configuration opens it, with callers below n alone
abbrev pub IsRunOf : ℕ → ZoneSpec → ZoneHistory → Type 0
IsRunOf n (zone.Req spec key) (history.Req zone entries) = HasRun req.IsOpened req_words.Lays req.answer_of req.zone_after req.Permits (req_opened spec) zone entries.items × HasCallersBelow n entries.items
IsRunOf n (zone.Conn spec key) (history.Conn zone entries) = HasRun conn.IsOpened conn_words.Lays conn.answer_of conn.zone_after conn.Permits (conn_opened spec) zone entries.items × HasCallersBelow n entries.items
IsRunOf n (zone.Peer spec line) (history.Peer zone entries) = HasRun opening.IsOpened peer_words.Lays peer.answer_of peer.zone_after peer.Permits (peer_opened spec) zone entries.items × HasCallersBelow n entries.items
IsRunOf n _ _ = ⊥

-- the history alone
abbrev pub log_left : ZoneHistory → ZoneLog
log_left (history.Req zone entries) = req_log entries.items
log_left (history.Conn zone entries) = conn_log entries.items
log_left (history.Peer zone entries) = peer_log entries.items

-- of worker k the history has just the calls that its pass has made
abbrev pub HasOwn : ℕ → ZoneLog → ZoneLog → Type 0
HasOwn k (req_log log) (req_log seen) = own log k ≡ own seen k
HasOwn k (conn_log log) (conn_log seen) = own log k ≡ own seen k
HasOwn k (peer_log log) (peer_log seen) = own log k ≡ own seen k
HasOwn k _ _ = ⊥

-- the passes of all workers to zone z, whatever they have seen
pub record AreAt (zones : List Shared) (rooms : List ℕ) (z : ℕ) (spec : ZoneSpec) (column : List ZonePass) : Type 0 where
  pub count : length column ≡ length rooms
  pub each : (k : ℕ) (pass : ZonePass) → slice_get column k ≡ Some pass → IsPassOf (record { zones = zones; rooms = rooms; who = k }) z spec pass

-- the kind of a zone
abbrev pub IsReq : ZoneSpec → Type 0
IsReq (zone.Req spec key) = Unit {0}
IsReq _ = ⊥

-- a connection zone
abbrev pub IsConn : ZoneSpec → Type 0
IsConn (zone.Conn spec key) = Unit {0}
IsConn _ = ⊥

-- an upstream's zone
abbrev pub IsPeer : ZoneSpec → Type 0
IsPeer (zone.Peer spec line) = Unit {0}
IsPeer _ = ⊥

-- a shared zone that can be closed with these passes, which are all that it has
pub record CanClose (zones : List Shared) (rooms : List ℕ) (z : ℕ) (spec : ZoneSpec) (zone : Shared) (column : List ZonePass) : Type 0 where
  pub there : slice_get zones z ≡ Some zone
  pub kind : IsSharedOf spec zone
  pub some : 0 < length rooms
  pub column_is : AreAt zones rooms z spec column

-- what a zone leaves that has been closed
pub record IsClosed (rooms : List ℕ) (spec : ZoneSpec) (column : List ZonePass) (left : ZoneHistory) : Type 0 where
  pub ran : IsRunOf (length rooms) spec left
  pub each : (k : ℕ) (pass : ZonePass) → slice_get column k ≡ Some pass → HasOwn k (log_left left) (seen_by pass)
