-- How far a line is, and the rest of its turn.
use Rattle.std.specs.Prelude.{ℕ, ◌≤◌, ◌&&◌, nat_eq, List, [], drop, reverse, Option, Some, None, if◌then◌else◌}
use Rattle.zone_config.specs.declared.data.Config.{Config}
use Rattle.zone_config.specs.declared.data.Level.{Level}
use Rattle.req_zone.specs.Amount.{IsRate}
use Rattle.request_script.specs.declared.active.Active.{Active}
use Rattle.request_script.specs.declared.active.Opened.{Opened}
use Rattle.request_script.specs.declared.active.Taken.{Taken}
use Rattle.request_script.specs.declared.call.ZoneReply.{ZoneReply}
use Rattle.request_script.specs.declared.decision.Decision.{Decision}
use Rattle.request_script.specs.declared.decision.Decision.TheVariants.{NextPeer, FailGateway, Ended}
use Rattle.request_script.specs.declared.decision.Outcome.TheVariants.{Pass, Gateway}
use Rattle.request_script.specs.declared.decision.ConnStatus.{ConnStatus}
use Rattle.request_script.specs.declared.decision.PeerAt.{PeerAt}
use Rattle.request_script.specs.declared.progress.Asked.{Asked}
use Rattle.request_script.specs.declared.progress.Asked.TheVariants.{Check, Release, Account, Open, Close, Choose, Fail, Done}
use Rattle.request_script.specs.declared.progress.Behind.{Behind}
use Rattle.request_script.specs.declared.progress.Behind.TheVariants as behind
use Rattle.request_script.specs.declared.progress.Choice.{Choice}
use Rattle.request_script.specs.declared.progress.Left.{Left}
use Rattle.request_script.specs.declared.progress.Left.TheVariants.{Nothing, Request}
use Rattle.request_script.specs.declared.progress.Opening.{Opening}
use Rattle.request_script.specs.declared.progress.Progress.{Progress}
use Rattle.request_script.specs.declared.progress.Purpose.{Purpose}
use Rattle.request_script.specs.declared.progress.Purpose.TheVariants.{Begin, Next}
use Rattle.request_script.specs.declared.said.Hold.{Hold}
use Rattle.request_script.specs.declared.said.ReqSaid.{ReqSaid}
use Rattle.request_script.specs.declared.script.Next.TheVariants.{Ask, Told}
use Rattle.request_script.specs.declared.script.Next as word
use Rattle.request_script.specs.Turn.{Turn}
use Rattle.request_script.specs.Turn.Turn.{asks, decides}
use Rattle.request_script.specs.Zones.{level_at, rate_of, has_backups, servers_up}
use Rattle.request_script.specs.ReqLimits.{req_reply, accounted, delay_by, greater, releases, accounts, after_check, req_walk}
use Rattle.request_script.specs.ConnLimits.{conn_reply, opened_in, closes, conn_refused, after_open, conn_walk}
use Rattle.request_script.specs.Peers.{peer_of, chooses}
use Rattle.request_script.specs.RequestSteps.{started, after_conns, after_reqs, tries_next}

-- ---- a choice of a server, for an open of which the limits of requests said this

module _ (said : ReqSaid) where
  -- the decision where a server is found
  abbrev pub with_peer : Purpose → PeerAt → Decision
  with_peer (Begin conns) peer = started Pass said conns (Some peer)
  with_peer Next peer = NextPeer peer

  -- and where there is none
  abbrev pub without_peer : Purpose → Decision
  without_peer (Begin conns) = started Gateway said conns None
  without_peer Next = FailGateway

  -- the request has this server
  abbrev pub found : Purpose → List Opened → Taken → Turn
  found purpose opened taken = decides (with_peer purpose (peer_of taken)) (Some (record { opened = opened; peer = Some taken }))

  -- the request has no server: its connections are closed, the latest first
  abbrev pub not_found : Purpose → List Opened → Turn
  not_found purpose opened = closes (reverse opened) (decides (without_peer purpose) None)

-- the turn that is behind a call
abbrev pub behind_call : Turn → ZoneReply → Turn
behind_call (asks call next) reply = next reply
behind_call (decides decision active) reply = decides decision active

-- the active request that is left of one with these connections, if one is
abbrev pub left_of : List Opened → Left → Option Active
left_of opened Nothing = None
left_of opened (Request peer) = Some (record { opened = opened; peer = peer })

module _ (config : Config) where
  -- ---- an open

  -- its level
  abbrev pub level_of : Opening → Level
  level_of o = level_at config o.location

  -- what follows the limits of requests
  abbrev pub behind_reqs : Opening → ReqSaid → Turn
  behind_reqs o = after_reqs config o.moment o.vars (level_of o)

  -- what follows the limits of connections
  abbrev pub behind_conns : Opening → ReqSaid → ConnStatus → List Opened → Turn
  behind_conns o = after_conns config o.moment o.vars (level_of o)

  -- the limits of requests from this place of the list on
  abbrev pub reqs_from : Opening → List Hold → ℕ → Turn
  reqs_from o holds place = req_walk config o.moment o.vars (level_of o).req_dry holds (drop place (level_of o).req) (behind_reqs o)

  -- the limits of connections from this place of the list on
  abbrev pub conns_from : Opening → ReqSaid → List Opened → ℕ → Turn
  conns_from o said opened place = conn_walk config o.vars (level_of o).conn_dry opened (drop place (level_of o).conn) (behind_conns o said)

  -- what follows when connections are closed
  abbrev pub behind_closes : Opening → ReqSaid → Behind → Turn
  behind_closes o said (behind.Refused zone) = behind_conns o said (conn_refused (level_of o).conn_dry zone) []
  behind_closes o said (behind.NoServer purpose) = decides (without_peer said purpose) None
  behind_closes o said behind.Failed = decides FailGateway None
  behind_closes o said behind.Ended = decides Ended None

  -- a choice, from its list on, for a request with these connections
  abbrev pub choice_turn : ReqSaid → List Opened → Choice → Turn
  choice_turn said opened c = chooses config c.moment c.zone c.tries c.list c.tried (found said c.purpose opened) (not_found said c.purpose opened)

  -- what follows a list without a server: the choice in the backup list with nothing tried, where there are backups
  abbrev pub without_server : ReqSaid → List Opened → Choice → Turn
  without_server said opened c =
      if nat_eq c.list 0 && has_backups config c.zone then choice_turn said opened (record c { list = 1; tried = 0 })
      else not_found said c.purpose opened

  -- ---- a line

  -- what follows the reply to a call
  abbrev pub behind_asked : Progress → Asked → ZoneReply → Turn
  behind_asked p (Check limit place) = λ reply. after_check config p.opening.moment p.opening.vars (level_of p.opening).req_dry limit p.holds
      (λ more. reqs_from p.opening more place) (behind_reqs p.opening) (req_reply reply)
  behind_asked p Release = λ _. releases (reverse p.holds) (behind_reqs p.opening p.said)
  behind_asked p (Account hold greatest) = λ reply. accounts config p.opening.moment p.opening.vars (level_of p.opening).req_dry
      (greater greatest (delay_by config hold.zone hold.allowed (accounted (req_reply reply)))) (reverse p.holds) (behind_reqs p.opening)
  behind_asked p (Open limit place) = λ reply. after_open config p.opening.vars (level_of p.opening).conn_dry limit p.opened
      (λ more. conns_from p.opening p.said more place) (behind_conns p.opening p.said) (opened_in (conn_reply reply))
  behind_asked p (Close follows) = λ _. closes (reverse p.opened) (behind_closes p.opening p.said follows)
  behind_asked p (Choose choice) = behind_call (choice_turn p.said p.opened choice)
  behind_asked p (Fail taken now) = λ _. tries_next config now (record { opened = p.opened; peer = Some taken }) taken
  behind_asked p Done = λ _. closes (reverse p.opened) (decides Ended None)

  -- what follows the reply to the call that was asked last
  abbrev pub rest : Progress → ZoneReply → Turn
  rest p = behind_asked p p.asked

  -- the turn of which this is said first, from where a line is
  abbrev pub next_turn : Progress → word.Next → Turn
  next_turn p (Ask call) = asks call (rest p)
  next_turn p (Told decision) = decides decision (left_of p.opened p.left)

-- ---- what a script rests on

-- each zone's rate is one of a request zone
abbrev pub HasRates : Config → Type 0
HasRates config = (zone : ℕ) → IsRate (rate_of config zone)

-- an upstream has at most 128 servers
abbrev pub HasFewServers : Config → Type 0
HasFewServers config = (zone : ℕ) → servers_up config zone ≤ 128
