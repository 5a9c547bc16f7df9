-- The summary of a replay of a made log.
use Rattle.std.specs.Prelude.{ℕ, ◌+◌, Bool, true, false, List, [], ◌∷◌, ◌++◌, length, count_by, codes}
use Rattle.slab_model.specs.Counting.{free_pages}
use Rattle.zone_object.specs.History.{run}
use Rattle.req_zone.specs.Object as req
use Rattle.conn_zone.specs.Object as conn
use Rattle.peer_zone.specs.Object as peer
use Rattle.zone_config.specs.declared.data.ConnData.{ConnData}
use Rattle.zone_config.specs.declared.data.PeerData.{PeerData}
use Rattle.zone_config.specs.declared.data.ReqData.{ReqData}
use Rattle.zone_config.specs.declared.data.ZoneSpec.{ZoneSpec}
use Rattle.zone_config.specs.declared.data.ZoneSpec.TheVariants as zone
use Rattle.request_script.specs.declared.decision.Decision.{Decision}
use Rattle.request_script.specs.declared.decision.Decision.TheVariants.{Started}
use Rattle.request_script.specs.declared.decision.Outcome.{Outcome}
use Rattle.request_script.specs.declared.decision.Outcome.TheVariants.{Pass, Limited, Gateway}
use Rattle.request_script.specs.declared.decision.ReqStatus.{ReqStatus}
use Rattle.request_script.specs.declared.decision.ReqStatus.TheVariants.{Delayed}
use Rattle.decision_text.specs.Coding.{coded}
use Rattle.decision_text.specs.HistoryText.{with_number}
use Rattle.replay_share.specs.Logs.{ReqEntry, ConnEntry, PeerEntry, ZoneLog, req_opened, conn_opened, peer_opened}
use Rattle.replay_share.specs.Logs.ZoneLog.{req_log, conn_log, peer_log}

-- ---- the decisions

-- an open that passes; that a limit refuses; for which there is no server
abbrev pub is_pass : Decision → Bool
is_pass (Started Pass req delay by excess conn peer) = true
is_pass _ = false

-- an open that a limit refuses
abbrev pub is_limited : Decision → Bool
is_limited (Started (Limited status) req delay by excess conn peer) = true
is_limited _ = false

-- an open for which there is no server
abbrev pub is_gateway : Decision → Bool
is_gateway (Started Gateway req delay by excess conn peer) = true
is_gateway _ = false

-- an open that a limit of requests delays, however it goes on
abbrev pub is_delayed : Decision → Bool
is_delayed (Started outcome Delayed delay by excess conn peer) = true
is_delayed _ = false

-- `made lines=L pass=A delayed=B limited=C gateway=D`
abbrev pub decisions_line : List Decision → List ℕ
decisions_line decisions =
    with_number (codes "made lines=") (length decisions) ++ with_number (codes " pass=") (count_by is_pass decisions) ++ with_number (codes " delayed=") (count_by is_delayed decisions)
    ++ with_number (codes " limited=") (count_by is_limited decisions) ++ with_number (codes " gateway=") (count_by is_gateway decisions) ++ codes "\n"

-- ---- the zones

-- `zone NAME KIND calls=N entries=E free=F`, with blanks around the kind
abbrev pub zone_line : List ℕ → List ℕ → ℕ → ℕ → ℕ → List ℕ
zone_line name kind calls entries free =
    codes "zone " ++ coded name ++ kind ++ with_number (codes "calls=") calls ++ with_number (codes " entries=") entries ++ with_number (codes " free=") free ++ codes "\n"

-- the line of a zone of each kind after its history
abbrev pub req_line : ReqData → List ReqEntry → List ℕ
req_line spec log =
    let s = run req.zone_after (req_opened spec) log in
    zone_line spec.name (codes " req ") (length log) (length s.table) (free_pages s.slab)

-- the line of a connection zone
abbrev pub conn_line : ConnData → List ConnEntry → List ℕ
conn_line spec log =
    let s = run conn.zone_after (conn_opened spec) log in
    zone_line spec.name (codes " conn ") (length log) (length s.table) (free_pages s.slab)

-- the line of an upstream's zone; its entries are the servers of both lists
abbrev pub peer_line : PeerData → List PeerEntry → List ℕ
peer_line spec log =
    let s = run peer.zone_after (peer_opened spec) log in
    zone_line spec.name (codes " peer ") (length log) (length s.primary + length s.backup) (free_pages s.slab)

-- the line of a zone of any kind
abbrev pub line_of : ZoneSpec → ZoneLog → List ℕ
line_of (zone.Req spec key) (req_log log) = req_line spec log
line_of (zone.Conn spec key) (conn_log log) = conn_line spec log
line_of (zone.Peer spec line) (peer_log log) = peer_line spec log
line_of _ _ = []

-- those of all zones, in the order of the zones
abbrev pub zone_lines : List ZoneSpec → List ZoneLog → List ℕ
zone_lines (spec ∷ specs) (log ∷ logs) = line_of spec log ++ zone_lines specs logs
zone_lines _ _ = []

-- The summary: a line of the decisions, and a line of each zone after its history.
abbrev pub summary_text : List ZoneSpec → List Decision → List ZoneLog → List ℕ
summary_text specs decisions logs = decisions_line decisions ++ zone_lines specs logs
