-- Zones with the journals of their calls, as one caller has them.
use Rattle.std.specs.Prelude.{ℕ, ◌≡◌, List, Option}
use Rattle.zone_object.specs.History.{Recorded, HasRun}
use Rattle.req_zone.specs.declared.words.ReqWords.{ReqWords}
use Rattle.req_zone.specs.Object as req
use Rattle.req_zone.specs.Lays as req_words
use Rattle.conn_zone.specs.Object as conn
use Rattle.conn_zone.specs.Layout as conn_words
use Rattle.peer_zone.specs.declared.words.PeerWords.{PeerWords}
use Rattle.peer_zone.specs.Object as peer
use Rattle.peer_zone.specs.Opening as opening
use Rattle.peer_zone.specs.Lays as peer_words
use Rattle.zone_config.specs.declared.data.ReqData.{ReqData}
use Rattle.zone_config.specs.declared.data.ConnData.{ConnData}
use Rattle.zone_config.specs.declared.data.PeerData.{PeerData}
use Rattle.zone_config.specs.declared.data.ZoneSpec.{ZoneSpec}
use Rattle.zone_config.specs.declared.data.ZoneSpec.TheVariants as zone
use Rattle.request_script.specs.declared.call.ZoneCall.{ZoneCall}
use Rattle.request_script.specs.Turn.{Exchange}
use Rattle.replay_share.specs.declared.journal.ZoneJournal.{ZoneJournal}
use Rattle.replay_share.specs.declared.journal.ZoneJournal.TheVariants.{Req, Conn, Peer}
use Rattle.replay_share.specs.Logs.{ReqEntry, ConnEntry, PeerEntry, ZoneLog, IsAt, req_opened, conn_opened, peer_opened, HasCallersBelow}
use Rattle.replay_share.specs.Asked.{HasAsked, HasTaken, MayTake}
use Rattle.replay_share.specs.Logs.ZoneLog.{req_log, conn_log, peer_log}

-- ---- one zone

-- A journal with room for so many calls, all of them caller 0's, of a zone that was opened as the configuration says and has
-- run them.
pub record RunsReq (spec : ReqData) (room : ℕ) (journal : Recorded ReqWords ReqEntry) : Type 0 where
  pub room_is : journal.room ≡ room
  pub ran : HasRun req.IsOpened req_words.Lays req.answer_of req.zone_after req.Permits (req_opened spec) journal.object journal.log
  pub mine : HasCallersBelow 1 journal.log

-- the journal of a connection zone that has run so far
pub record RunsConn (spec : ConnData) (room : ℕ) (journal : Recorded conn_words.Zone ConnEntry) : Type 0 where
  pub room_is : journal.room ≡ room
  pub ran : HasRun conn.IsOpened conn_words.Lays conn.answer_of conn.zone_after conn.Permits (conn_opened spec) journal.object journal.log
  pub mine : HasCallersBelow 1 journal.log

-- the journal of an upstream's zone that has run so far
pub record RunsPeer (spec : PeerData) (room : ℕ) (journal : Recorded PeerWords PeerEntry) : Type 0 where
  pub room_is : journal.room ≡ room
  pub ran : HasRun opening.IsOpened peer_words.Lays peer.answer_of peer.zone_after peer.Permits (peer_opened spec) journal.object journal.log
  pub mine : HasCallersBelow 1 journal.log

-- the journal of a zone that the configuration says
abbrev pub IsJournalOf : ℕ → ZoneSpec → ZoneJournal → Type 0
IsJournalOf room (zone.Req spec key) (Req journal) = RunsReq spec room journal
IsJournalOf room (zone.Conn spec key) (Conn journal) = RunsConn spec room journal
IsJournalOf room (zone.Peer spec line) (Peer journal) = RunsPeer spec room journal
IsJournalOf room _ _ = ⊥

-- the history that a journal has
abbrev pub log_of : ZoneJournal → ZoneLog
log_of (Req journal) = req_log journal.log
log_of (Conn journal) = conn_log journal.log
log_of (Peer journal) = peer_log journal.log

-- ---- all zones

-- The zones with their journals, which have what caller 0 asked.
abbrev pub Serves : List ZoneJournal → List ZoneSpec → ℕ → List Exchange → Type 0
Serves journals zones room asked = HasAsked (λ (z : ℕ). IsJournalOf room) log_of 0 journals zones asked

-- ---- a call

-- the journal has what caller 0 asked of the zone that a call goes to
abbrev pub TakesAs : ZoneJournal → ZoneSpec → ℕ → List Exchange → ZoneCall → Type 0
TakesAs journal spec room asked call = HasTaken (λ (z : ℕ). IsJournalOf room) log_of 0 journal spec asked call

-- and the call may be made
abbrev pub CanTake : ZoneJournal → ZoneSpec → ℕ → List Exchange → ZoneCall → Type 0
CanTake journal spec room asked call = MayTake (λ (z : ℕ). IsJournalOf room) log_of 0 journal spec room asked call
