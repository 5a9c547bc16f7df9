-- Worked rows, which the definitions compute.
use Rattle.std.specs.Prelude.{ℕ, ◌≡◌, true, false, List, [], ◌∷◌, Option, Some, None, Bool, codes}
use Rattle.zone_key.specs.declared.expr.Expr.{Expr}
use Rattle.zone_key.specs.declared.expr.Part.TheVariants.{Binary}
use Rattle.zone_config.specs.declared.data.Config.{Config}
use Rattle.zone_config.specs.declared.data.ConnLimit.{ConnLimit}
use Rattle.zone_config.specs.declared.data.Level.{Level}
use Rattle.zone_config.specs.declared.data.MethodData.TheVariants.{Round}
use Rattle.zone_config.specs.declared.data.ReqLimit.{ReqLimit}
use Rattle.zone_config.specs.declared.data.ServerData.{ServerData}
use Rattle.zone_config.specs.declared.data.ZoneSpec.{ZoneSpec}
use Rattle.zone_config.specs.declared.data.ZoneSpec.TheVariants as zone
use Rattle.replay_log.specs.declared.line.Event.{Event}
use Rattle.replay_log.specs.declared.line.Event.TheVariants.{Start, Fail, Done}
use Rattle.req_zone.specs.declared.calls.ReqCall.TheVariants.{Check, Account, Release}
use Rattle.req_zone.specs.declared.calls.ReqReply.{ReqReply}
use Rattle.req_zone.specs.declared.calls.ReqReply.TheVariants as req
use Rattle.conn_zone.specs.declared.calls.ConnCall.TheVariants.{Open, Close}
use Rattle.conn_zone.specs.declared.calls.ConnReply.TheVariants.{Opened, AtLimit, Closed}
use Rattle.peer_zone.specs.declared.calls.PeerCall.TheVariants.{Choose, Free}
use Rattle.peer_zone.specs.declared.calls.PeerReply.TheVariants.{Peer, NoPeer, Freed}
use Rattle.request_script.specs.declared.active.Active.{Active}
use Rattle.request_script.specs.declared.call.ZoneCall.TheVariants as to
use Rattle.request_script.specs.declared.call.ZoneReply.TheVariants as from
use Rattle.request_script.specs.declared.decision.ConnStatus.TheVariants as conn
use Rattle.request_script.specs.declared.decision.Decision.TheVariants.{Started, Busy, NextPeer, Ended, IdleFail, IdleDone}
use Rattle.request_script.specs.declared.decision.Excess.TheVariants as excess
use Rattle.request_script.specs.declared.decision.Outcome.TheVariants.{Pass, Limited}
use Rattle.request_script.specs.declared.decision.ReqStatus.TheVariants as status
use Rattle.request_script.specs.Turn.{Turn, Exchange, Leads}
use Rattle.request_script.specs.Turn.Turn.{decides}
use Rattle.request_script.specs.RequestSteps.{turn_of}

-- ---- what is configured: each zone has the client's address as its key

-- keys are addresses
abbrev pub by_address : Expr
by_address = record { parts = Binary ∷ [] }

-- a request zone of one request a second
abbrev pub req_zone : List ℕ → ZoneSpec
req_zone name = zone.Req (record { name = name; bytes = 32768; page_shift = 12; rate = 1000 }) by_address

-- a server with nginx's defaults
abbrev pub server_at : List ℕ → ServerData
server_at address = record { address = address; weight = 1; max_conns = 0; max_fails = 1; fail_timeout = 10; down = false }

-- zones 0 and 1 for limits of requests, 2 for a limit of connections, and 3 of an upstream with a server and a backup
abbrev pub zones : List ZoneSpec
zones = req_zone (codes "ra")
    ∷ req_zone (codes "rb")
    ∷ zone.Conn (record { name = codes "c"; bytes = 32768; page_shift = 12 }) by_address
    ∷ zone.Peer (record { name = codes "back"; bytes = 32768; page_shift = 12; method = Round; primary = server_at (codes "a") ∷ []; backup = server_at (codes "b") ∷ [] }) 1
    ∷ []

-- a limit of requests with this burst
abbrev pub burst_of : ℕ → ℕ → ReqLimit
burst_of number burst = record { zone = number; burst = burst; allowed_never = false; delay = 0 }

-- a level with these limits and this upstream
abbrev pub level : List ReqLimit → Bool → List ConnLimit → Option ℕ → Level
level reqs dry conns peers = record { name = []; req = reqs; conn = conns; req_status = 503; conn_status = 503; req_dry = dry; conn_dry = false; peers = peers }

-- The server has no limit and no upstream. Location 0 has a limit with a burst of 5 requests and one without, location 1
-- one without in a dry run, location 2 a limit of one connection, and location 3 the upstream.
abbrev pub rows_config : Config
rows_config = record {
  zones = zones;
  upstreams = [];
  server = level [] false [] None;
  locations = level (burst_of 0 5000 ∷ burst_of 1 0 ∷ []) false [] None
      ∷ level (burst_of 0 0 ∷ []) true [] None
      ∷ level [] false (record { zone = 2; limit = 1 } ∷ []) None
      ∷ level [] false [] (Some 3)
      ∷ [];
  passed = 0;
}

-- ---- what happens

-- the address 10.0.0.1
abbrev pub client : List ℕ
client = 10 ∷ 0 ∷ 0 ∷ 1 ∷ []

-- an open at the server, or at a location
abbrev pub start : Option ℕ → Event
start location = Start location (record { address = client; pairs = [] })

-- the turn of an event at a moment
abbrev pub turn : Option Active → ℕ → Event → Turn
turn active moment event = turn_of rows_config active (record { number = 1; moment = moment; conn = 0; event = event })

-- an active request with neither connections nor a server
abbrev pub bare : Active
bare = record { opened = []; peer = None }

-- exchanges with the zones of limits, and with the upstream's
abbrev pub checks : ℕ → ℕ → ℕ → Bool → ReqReply → Exchange
checks number now burst last reply = record { call = to.Req number (Check client now burst last); reply = from.Req reply }

-- ---- the rows

-- a failure and an end on a connection without an active request: no call
abbrev pub IdleRow : Type 0
IdleRow = (turn None 500 Fail ≡ decides IdleFail None) × (turn None 500 Done ≡ decides IdleDone None)

-- an open on a connection with an active request, which stays: no call
abbrev pub BusyRow : Type 0
BusyRow = turn (Some bare) 500 (start (Some 0)) ≡ decides Busy (Some bare)

-- an open where there are no limits and no upstream passes: no call
abbrev pub FreeRow : Type 0
FreeRow = turn None 500 (start None) ≡ decides (Started Pass status.Unset 0 None excess.Unset conn.Unset None) (Some bare)

-- two limits that let a request go on: the first one's hold is accounted, and makes no delay
abbrev pub PassedRow : Type 0
PassedRow = Leads (turn None 1000000 (start (Some 0)))
    (checks 0 1000000 5000 false (req.Again 0 4224) ∷ checks 1 1000000 0 true (req.Pass 0) ∷ record { call = to.Req 0 (Account 4224 1000000); reply = from.Req (req.Accounted 0) } ∷ [])
    (decides (Started Pass status.Passed 0 None excess.Unset conn.Unset None) (Some bare))

-- the account tells an excess of one request, which is a delay of a second
abbrev pub DelayedRow : Type 0
DelayedRow = Leads (turn None 0 (start (Some 0)))
    (checks 0 0 5000 false (req.Again 0 4224) ∷ checks 1 0 0 true (req.Pass 0) ∷ record { call = to.Req 0 (Account 4224 0); reply = from.Req (req.Accounted 1000) } ∷ [])
    (decides (Started Pass status.Delayed 1000 (Some 0) (excess.Amount 1000) conn.Unset None) (Some bare))

-- the second limit refuses: the first one's hold is released, and the connection has no active request
abbrev pub RefusedRow : Type 0
RefusedRow = Leads (turn None 1000500 (start (Some 0)))
    (checks 0 1000500 5000 false (req.Again 500 4224) ∷ checks 1 1000500 0 true (req.Busy 500) ∷ record { call = to.Req 0 (Release 4224); reply = from.Req req.Released } ∷ [])
    (decides (Started (Limited 503) status.Rejected 0 (Some 1) (excess.Amount 500) conn.Unset None) None)

-- a limit refuses in a dry run, and the request goes on
abbrev pub DryRow : Type 0
DryRow = Leads (turn None 0 (start (Some 1)))
    (checks 0 0 0 true (req.Busy 1000) ∷ [])
    (decides (Started Pass status.RejectedDry 0 (Some 0) (excess.Amount 1000) conn.Unset None) (Some bare))

-- a request that a connection zone counts
abbrev pub counted : Active
counted = record { opened = record { zone = 2; at = 4160 } ∷ []; peer = None }

-- a limit of connections lets a request go on or refuses it; the end closes its connection
abbrev pub ConnRow : Type 0
ConnRow = Leads (turn None 0 (start (Some 2)))
    (record { call = to.Conn 2 (Open client 1); reply = from.Conn (Opened 4160 1) } ∷ [])
    (decides (Started Pass status.Unset 0 None excess.Unset conn.Passed None) (Some counted))
    × Leads (turn None 0 (start (Some 2)))
    (record { call = to.Conn 2 (Open client 1); reply = from.Conn (AtLimit 1) } ∷ [])
    (decides (Started (Limited 503) status.Unset 0 None excess.Unset (conn.Rejected 2) None) None)
    × Leads (turn (Some counted) 0 Done)
    (record { call = to.Conn 2 (Close 4160); reply = from.Conn (Closed 0) } ∷ [])
    (decides Ended None)

-- a request with the only server, or the only backup, of a list, and so many tries left
abbrev pub served : ℕ → ℕ → Active
served list tries = record { opened = []; peer = Some (record { zone = 3; list = list; index = 0; tried = 1; tries = tries }) }

-- A server takes a request at 11.9 s, and fails: it is given back, no other of its list is there, and the backup takes the
-- request. The end gives the backup back as good.
abbrev pub PeerRow : Type 0
PeerRow = Leads (turn None 11900 (start (Some 3)))
    (record { call = to.Peer 3 (Choose 0 0 11); reply = from.Peer (Peer 0) } ∷ [])
    (decides (Started Pass status.Unset 0 None excess.Unset conn.Unset (Some (record { zone = 3; list = 0; index = 0 }))) (Some (served 0 2)))
    × Leads (turn (Some (served 0 2)) 11900 Fail)
    (record { call = to.Peer 3 (Free 0 0 true 11); reply = from.Peer Freed }
    ∷ record { call = to.Peer 3 (Choose 0 1 11); reply = from.Peer NoPeer }
    ∷ record { call = to.Peer 3 (Choose 1 0 11); reply = from.Peer (Peer 0) }
    ∷ [])
    (decides (NextPeer (record { zone = 3; list = 1; index = 0 })) (Some (served 1 1)))
    × Leads (turn (Some (served 1 1)) 11900 Done)
    (record { call = to.Peer 3 (Free 1 0 false 11); reply = from.Peer Freed } ∷ [])
    (decides Ended None)
