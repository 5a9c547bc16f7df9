-- A zone as its history leaves it.
use Rattle.std.specs.Prelude.{List}
use Rattle.zone_object.specs.History.{run}
use Rattle.req_zone.specs.declared.words.ReqWords.{ReqWords}
use Rattle.req_zone.specs.Object as req
use Rattle.req_zone.specs.Lays as req_words
use Rattle.conn_zone.specs.Object as conn
use Rattle.conn_zone.specs.Layout as conn_words
use Rattle.peer_zone.specs.declared.words.PeerWords.{PeerWords}
use Rattle.peer_zone.specs.Object as peer
use Rattle.peer_zone.specs.Lays as peer_words
use Rattle.zone_config.specs.declared.data.ReqData.{ReqData}
use Rattle.zone_config.specs.declared.data.ConnData.{ConnData}
use Rattle.zone_config.specs.declared.data.PeerData.{PeerData}
use Rattle.replay_share.specs.Logs.{ReqEntry, ConnEntry, PeerEntry, req_opened, conn_opened, peer_opened}

-- a zone of each kind that lays out its state after the calls of a history, from its opening on
abbrev pub IsReqAfter : ReqData → List ReqEntry → ReqWords → Type 0
IsReqAfter spec log zone = req_words.Lays zone (run req.zone_after (req_opened spec) log)

-- a connection zone after this history
abbrev pub IsConnAfter : ConnData → List ConnEntry → conn_words.Zone → Type 0
IsConnAfter spec log zone = conn_words.Lays zone (run conn.zone_after (conn_opened spec) log)

-- an upstream's zone after this history
abbrev pub IsPeerAfter : PeerData → List PeerEntry → PeerWords → Type 0
IsPeerAfter spec log zone = peer_words.Lays zone (run peer.zone_after (peer_opened spec) log)
