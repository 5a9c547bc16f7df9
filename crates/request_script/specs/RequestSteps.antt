-- A request's steps: the turn of a line, by its event and by the active request of its connection.
use Rattle.std.specs.Prelude.{ℕ, Bool, true, false, nat_lt, List, [], reverse, Option, Some, None, if◌then◌else◌}
use Rattle.zone_key.specs.declared.vars.Vars.{Vars}
use Rattle.zone_config.specs.declared.data.Config.{Config}
use Rattle.zone_config.specs.declared.data.Level.{Level}
use Rattle.replay_log.specs.declared.line.Event.{Event}
use Rattle.replay_log.specs.declared.line.Event.TheVariants.{Start, Fail, Done}
use Rattle.replay_log.specs.declared.line.Line.{Line}
use Rattle.request_script.specs.declared.active.Active.{Active}
use Rattle.request_script.specs.declared.active.Opened.{Opened}
use Rattle.request_script.specs.declared.active.Taken.{Taken}
use Rattle.request_script.specs.declared.decision.ConnStatus.{ConnStatus}
use Rattle.request_script.specs.declared.decision.ConnStatus.TheVariants as conn
use Rattle.request_script.specs.declared.decision.Decision.{Decision}
use Rattle.request_script.specs.declared.decision.Decision.TheVariants.{Started, Busy, NextPeer, FailGateway, Ended, IdleFail, IdleDone}
use Rattle.request_script.specs.declared.decision.Outcome.{Outcome}
use Rattle.request_script.specs.declared.decision.Outcome.TheVariants.{Pass, Limited, Gateway}
use Rattle.request_script.specs.declared.decision.PeerAt.{PeerAt}
use Rattle.request_script.specs.declared.decision.ReqStatus.{ReqStatus}
use Rattle.request_script.specs.declared.decision.ReqStatus.TheVariants as req
use Rattle.request_script.specs.declared.said.ReqSaid.{ReqSaid}
use Rattle.request_script.specs.Turn.{Turn}
use Rattle.request_script.specs.Turn.Turn.{decides}
use Rattle.request_script.specs.Zones.{level_at, servers_up}
use Rattle.request_script.specs.ReqLimits.{req_walk}
use Rattle.request_script.specs.ConnLimits.{closes, conn_walk}
use Rattle.request_script.specs.Peers.{peer_of, chooses, frees, tries_left}

-- ---- an open

-- a limit of requests refuses it, outside a dry run
abbrev pub is_req_refusal : ReqStatus → Bool
is_req_refusal req.Rejected = true
is_req_refusal _ = false

-- a limit of connections refuses it, outside a dry run
abbrev pub is_conn_refusal : ConnStatus → Bool
is_conn_refusal (conn.Rejected zone) = true
is_conn_refusal _ = false

-- an open that ends so, after what the limits said
abbrev pub started : Outcome → ReqSaid → ConnStatus → Option PeerAt → Decision
started outcome said conns peer = Started outcome said.status said.delay said.by said.excess conns peer

module _ (config : Config) (now : ℕ) (vars : Vars) (level : Level) where
  -- The third step: where the level has an upstream zone, a server is chosen. Where there is none the connections are closed,
  -- the latest first.
  abbrev pub peer_step : ReqSaid → ConnStatus → List Opened → Turn
  peer_step said conns opened = elim level.peers [
    | None ↦ decides (started Pass said conns None) (Some (record { opened = opened; peer = None }))
    | Some zone ↦ chooses config now zone (servers_up config zone) 0 0
        (λ taken. decides (started Pass said conns (Some (peer_of taken))) (Some (record { opened = opened; peer = Some taken })))
        (closes (reverse opened) (decides (started Gateway said conns None) None))
  ]

  -- after the limits of connections
  abbrev pub after_conns : ReqSaid → ConnStatus → List Opened → Turn
  after_conns said conns opened =
      if is_conn_refusal conns then decides (started (Limited level.conn_status) said conns None) None
      else peer_step said conns opened

  -- The second step: the limits of connections, unless a limit of requests refused the request.
  abbrev pub after_reqs : ReqSaid → Turn
  after_reqs said =
      if is_req_refusal said.status then decides (started (Limited level.req_status) said conn.Unset None) None
      else conn_walk config vars level.conn_dry [] level.conn (after_conns said)

  -- The first step: the limits of requests.
  abbrev pub opens : Turn
  opens = req_walk config now vars level.req_dry [] level.req after_reqs

-- ---- a failure

module _ (config : Config) (now : ℕ) (active : Active) where
  -- the connections are closed, the latest first, and the request is over
  abbrev pub fails_whole : Turn
  fails_whole = closes (reverse active.opened) (decides FailGateway None)

  -- another server is chosen from the request's list on, if a try is left
  abbrev pub tries_next : Taken → Turn
  tries_next taken =
      if nat_lt 0 (tries_left config taken) then
      chooses config now taken.zone (tries_left config taken) taken.list taken.tried
      (λ next. decides (NextPeer (peer_of next)) (Some (record { opened = active.opened; peer = Some next })))
      fails_whole
      else fails_whole

  -- the server that failed is given back, and another is tried; a request without a server is over
  abbrev pub fails : Turn
  fails = elim active.peer [ None ↦ fails_whole | Some taken ↦ frees now taken true (tries_next taken) ]

  -- ---- an end

  -- the server is given back as good, and the connections are closed
  abbrev pub ends : Turn
  ends = elim active.peer [
    | None ↦ closes (reverse active.opened) (decides Ended None)
    | Some taken ↦ frees now taken false (closes (reverse active.opened) (decides Ended None))
  ]

-- ---- a line

-- the turn of an event on a connection without an active request
abbrev pub idle_turn : Config → ℕ → Event → Turn
idle_turn config now (Start location vars) = opens config now vars (level_at config location)
idle_turn config now Fail = decides IdleFail None
idle_turn config now Done = decides IdleDone None

-- and on one with an active request
abbrev pub active_turn : Config → ℕ → Active → Event → Turn
active_turn config now active (Start location vars) = decides Busy (Some active)
active_turn config now active Fail = fails config now active
active_turn config now active Done = ends config now active

-- the turn of a line
abbrev pub turn_of : Config → Option Active → Line → Turn
turn_of config None line = idle_turn config line.moment line.event
turn_of config (Some active) line = active_turn config line.moment active line.event
