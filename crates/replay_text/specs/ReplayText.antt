-- The text of a replay: a line for each decision, and then each zone's history and how full the zone is after it.
use Rattle.std.specs.Prelude.{ℕ, ◌+◌, List, [], ◌∷◌, ◌++◌, length, codes}
use Rattle.std.specs.List.{flat_map}
use Rattle.slab_model.specs.State.{Slab, pages_in}
use Rattle.slab_model.specs.Counting.{free_pages}
use Rattle.zone_object.specs.History.{run}
use Rattle.req_zone.specs.declared.state.ReqState.{ReqState}
use Rattle.req_zone.specs.Object as req
use Rattle.conn_zone.specs.declared.state.ConnState.{ConnState}
use Rattle.conn_zone.specs.Object as conn
use Rattle.peer_zone.specs.declared.state.PeerState.{PeerState}
use Rattle.peer_zone.specs.Object as peer
use Rattle.zone_config.specs.declared.data.Config.{Config}
use Rattle.zone_config.specs.declared.data.ReqData.{ReqData}
use Rattle.zone_config.specs.declared.data.ConnData.{ConnData}
use Rattle.zone_config.specs.declared.data.PeerData.{PeerData}
use Rattle.zone_config.specs.declared.data.ZoneSpec.{ZoneSpec}
use Rattle.zone_config.specs.declared.data.ZoneSpec.TheVariants as zone
use Rattle.decision_text.specs.DecisionText.{decision_text}
use Rattle.decision_text.specs.HistoryText.{zone_head, entry_line, req_call_words, req_reply_words, conn_call_words, conn_reply_words, peer_call_words, peer_reply_words}
use Rattle.decision_text.specs.TailText.{tail_text}
use Rattle.replay_share.specs.Logs.{ReqEntry, ConnEntry, PeerEntry, ZoneLog, req_opened, conn_opened, peer_opened}
use Rattle.replay_share.specs.Logs.ZoneLog.{req_log, conn_log, peer_log}
use Rattle.replay_share.specs.Replay.{Decided}

-- ---- the decisions

-- the line of a decision
abbrev pub decided_line : Config → Decided → List ℕ
decided_line config d = decision_text config d.line d.decision

-- ---- the histories

-- the lines of entries, of which the first stands at this place of a history
abbrev pub lines_from : {E : Type 0} → (ℕ → E → List ℕ) → ℕ → List E → List ℕ
lines_from line place [] = []
lines_from line place (e ∷ es) = line place e ++ lines_from line (place + 1) es

-- the line of an entry at its place
abbrev pub req_line : ℕ → ReqEntry → List ℕ
req_line place e = entry_line place e.caller (req_call_words e.call) (req_reply_words e.reply)

-- an entry of a connection zone's history
abbrev pub conn_line : ℕ → ConnEntry → List ℕ
conn_line place e = entry_line place e.caller (conn_call_words e.call) (conn_reply_words e.reply)

-- an entry of the history of an upstream's zone
abbrev pub peer_line : ℕ → PeerEntry → List ℕ
peer_line place e = entry_line place e.caller (peer_call_words e.call) (peer_reply_words e.reply)

-- how full a zone is that has so many entries
abbrev pub tail_of : Slab → ℕ → List ℕ
tail_of slab entries = tail_text (pages_in slab) (free_pages slab) entries slab.stats

-- how full a request zone is
abbrev pub req_tail : ReqState → List ℕ
req_tail s = tail_of s.slab (length s.table)

-- how full a connection zone is
abbrev pub conn_tail : ConnState → List ℕ
conn_tail s = tail_of s.slab (length s.table)

-- the entries of an upstream's zone are the servers of both lists
abbrev pub peer_tail : PeerState → List ℕ
peer_tail s = tail_of s.slab (length s.primary + length s.backup)

-- a zone's history: the line that begins it, a line for each call, and how full the zone is after them
abbrev pub req_text : ReqData → List ReqEntry → List ℕ
req_text spec log = zone_head spec.name (codes " req ") (length log) ++ lines_from req_line 1 log ++ req_tail (run req.zone_after (req_opened spec) log)

-- the text of a connection zone's history
abbrev pub conn_text : ConnData → List ConnEntry → List ℕ
conn_text spec log = zone_head spec.name (codes " conn ") (length log) ++ lines_from conn_line 1 log ++ conn_tail (run conn.zone_after (conn_opened spec) log)

-- the text of the history of an upstream's zone
abbrev pub peer_text : PeerData → List PeerEntry → List ℕ
peer_text spec log = zone_head spec.name (codes " peer ") (length log) ++ lines_from peer_line 1 log ++ peer_tail (run peer.zone_after (peer_opened spec) log)

-- that of any zone
abbrev pub zone_text : ZoneSpec → ZoneLog → List ℕ
zone_text (zone.Req spec key) (req_log log) = req_text spec log
zone_text (zone.Conn spec key) (conn_log log) = conn_text spec log
zone_text (zone.Peer spec line) (peer_log log) = peer_text spec log
zone_text _ _ = []

-- those of all zones, in the order of the zones
abbrev pub zones_text : List ZoneSpec → List ZoneLog → List ℕ
zones_text (spec ∷ specs) (log ∷ logs) = zone_text spec log ++ zones_text specs logs
zones_text _ _ = []

-- ---- the whole

-- The text of a replay: the decisions in the order of their lines, and the histories in the order of the zones.
abbrev pub replay_text : Config → List Decided → List ZoneLog → List ℕ
replay_text config decided logs = flat_map (decided_line config) decided ++ zones_text config.zones logs
