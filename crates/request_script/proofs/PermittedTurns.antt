-- The calls of the turn of a line are permitted.
use Rattle.std.proofs.Common.{ℕ, ◌<◌, ◌≤◌, true, false, nat_lt, List, [], ◌∷◌, ◌++◌, map, reverse, All, IfSome, Option, Some, None, arith}
use Rattle.zone_key.specs.declared.vars.Vars.{Vars}
use Rattle.zone_config.specs.declared.data.Config.{Config}
use Rattle.zone_config.specs.declared.data.Level.{Level}
use Rattle.zone_config.specs.declared.data.ReqLimit.{ReqLimit}
use Rattle.zone_config.specs.Conditions.{IsConfig, IsLevel, IsReqLimit}
use Rattle.replay_log.specs.declared.line.Event.{Event}
use Rattle.replay_log.specs.declared.line.Event.TheVariants.{Start, Fail, Done}
use Rattle.replay_log.specs.declared.line.Line.{Line}
use Rattle.req_zone.specs.Amount.{IsMoment}
use Rattle.request_script.specs.declared.active.Active.{Active}
use Rattle.request_script.specs.declared.active.Opened.{Opened}
use Rattle.request_script.specs.declared.active.Taken.{Taken}
use Rattle.request_script.specs.declared.decision.ConnStatus.{ConnStatus}
use Rattle.request_script.specs.declared.decision.Decision.TheVariants.{NextPeer, Ended}
use Rattle.request_script.specs.declared.decision.Outcome.TheVariants.{Pass, Gateway}
use Rattle.request_script.specs.declared.said.ReqSaid.{ReqSaid}
use Rattle.request_script.specs.Turn.{Turn, Exchange}
use Rattle.request_script.specs.Turn.Turn.{decides}
use Rattle.request_script.specs.Zones.{level_at, servers_up}
use Rattle.request_script.specs.ConnLimits.{closes}
use Rattle.request_script.specs.Peers.{chooses, peer_of, tries_left}
use Rattle.request_script.specs.RequestSteps.{active_turn, after_conns, after_reqs, fails_whole, idle_turn, is_conn_refusal, is_req_refusal, opens, started, tries_next, turn_of}
use Rattle.request_script.proofs.Held.{Thing, Has, has-rest}
use Rattle.request_script.proofs.Permitting.{if-runs}
use Rattle.request_script.proofs.PermittedLimits.{Goes, connection_of, server_of, has-turned, closes-run, reqs-run, conns-run, chooses-run, frees-run}
use Rattle.request_script.proofs.TurnParts.{level-is, step_at, fails_at, ends_at}

-- ---- what active requests hold

abbrev pub peer_things : Option Taken → List Thing
peer_things None = []
peer_things (Some taken) = server_of taken ∷ []

-- an active request has its server and its connections
abbrev pub things_of : Option Active → List Thing
things_of None = []
things_of (Some active) = peer_things active.peer ++ map connection_of active.opened

-- the server of an active request is in one of two lists
abbrev pub HasList : Option Taken → Type 0
HasList peer = IfSome peer (λ (taken : Taken). taken.list < 2)

abbrev pub IsServed : Option Active → Type 0
IsServed None = Unit {0}
IsServed (Some active) = HasList active.peer

-- a turn ends with what its request then has, beside what others have
abbrev pub Leaves : List Thing → List Exchange → Option Active → Type 0
Leaves rest past active = Has past (things_of active ++ rest) × IsServed active

-- what holds of each element holds of it by what follows
All-weaker : {X : Type 0} (P Q : X → Type 0) → ((x : X) → P x → Q x) → (xs : List X) → All P xs → All Q xs
All-weaker P Q follows xs each k d within = follows _ (each k d within)

module _ (config : Config) (rest : List Thing) where
  abbrev Ends : List Exchange → Option Active → Type 0
  Ends = Leaves rest

  module _ (now : ℕ) (early : IsMoment now) (vars : Vars) (level : Level) (is : IsLevel config.zones level) where
    step-run : (said : ReqSaid) (conns : ConnStatus) (opened : List Opened) (peers : Option ℕ) → Goes Ends (map connection_of opened ++ rest) (step_at config now peers said conns opened)
    step-run said conns opened None past has = (has, tt)
    step-run said conns opened (Some zone) past has =
        chooses-run Ends config now early (map connection_of opened ++ rest) zone (servers_up config zone) 0 0
        (λ taken. decides (started Pass said conns (Some (peer_of taken))) (Some (record { opened = opened; peer = Some taken })))
        (closes (reverse opened) (decides (started Gateway said conns None) None)) (omega arith)
        (λ taken two later have. (have, two))
        (λ later have. closes-run Ends (reverse opened) rest (decides (started Gateway said conns None) None) (λ last left. (left, tt)) later (has-turned connection_of opened rest later have))
        past has

    conns-step : (said : ReqSaid) (conns : ConnStatus) (opened : List Opened) → Goes Ends (map connection_of opened ++ rest) (after_conns config now vars level said conns opened)
    conns-step said conns opened past has =
        if-runs Ends (is_conn_refusal conns) past _ _ (has-rest past (map connection_of opened) rest has, tt) (λ _. step-run said conns opened level.peers past has)

    reqs-step : (said : ReqSaid) → Goes Ends rest (after_reqs config now vars level said)
    reqs-step said past has =
        if-runs Ends (is_req_refusal said.status) past _ _ (has, tt) (λ _.
        conns-run Ends config vars level.conn_dry rest (after_conns config now vars level said) (conns-step said) config.zones level.conn [] is.conn past has)

    opens-run : Goes Ends rest (opens config now vars level)
    opens-run past has =
        let small = All-weaker (IsReqLimit config.zones) (λ (limit : ReqLimit). limit.burst ≤ 1000000000) (λ limit own. own.burst) level.req is.req in
        reqs-run Ends config now early vars level.req_dry rest (after_reqs config now vars level) reqs-step level.req [] small past has

  module _ (now : ℕ) (early : IsMoment now) (active : Active) where
    whole-run : Goes Ends (map connection_of active.opened ++ rest) (fails_whole config now active)
    whole-run past has = closes-run Ends (reverse active.opened) rest _ (λ last left. (left, tt)) past (has-turned connection_of active.opened rest past has)

    next-run : (taken : Taken) → taken.list < 2 → Goes Ends (map connection_of active.opened ++ rest) (tries_next config now active taken)
    next-run taken two past has =
        let found : Taken → Turn = λ next. decides (NextPeer (peer_of next)) (Some (record { opened = active.opened; peer = Some next })) in
        if-runs Ends (nat_lt 0 (tries_left config taken)) past
        (chooses config now taken.zone (tries_left config taken) taken.list taken.tried found (fails_whole config now active)) (fails_whole config now active)
        (chooses-run Ends config now early (map connection_of active.opened ++ rest) taken.zone (tries_left config taken) taken.list taken.tried found (fails_whole config now active)
        two (λ next list later have. (have, list)) whole-run past has)
        (λ _. whole-run past has)

    fails-run : (peer : Option Taken) → HasList peer → Goes Ends ((peer_things peer ++ map connection_of active.opened) ++ rest) (fails_at config now active peer)
    fails-run None two past has = whole-run past has
    fails-run (Some taken) two past has = frees-run Ends config now early (map connection_of active.opened ++ rest) taken true (tries_next config now active taken) two (next-run taken two) past has

    shut-run : Goes Ends (map connection_of active.opened ++ rest) (closes (reverse active.opened) (decides Ended None))
    shut-run past has = closes-run Ends (reverse active.opened) rest (decides Ended None) (λ last left. (left, tt)) past (has-turned connection_of active.opened rest past has)

    ends-run : (peer : Option Taken) → HasList peer → Goes Ends ((peer_things peer ++ map connection_of active.opened) ++ rest) (ends_at now active peer)
    ends-run None two past has = shut-run past has
    ends-run (Some taken) two past has = frees-run Ends config now early (map connection_of active.opened ++ rest) taken false (closes (reverse active.opened) (decides Ended None)) two shut-run past has

  module _ (is : IsConfig config) where
    idle-run : (now : ℕ) → IsMoment now → (event : Event) → Goes Ends rest (idle_turn config now event)
    idle-run now early (Start location vars) past has = opens-run now early vars (level_at config location) (level-is config is location) past has
    idle-run now early Fail past has = (has, tt)
    idle-run now early Done past has = (has, tt)

    active-run : (now : ℕ) → IsMoment now → (active : Active) (event : Event) → IsServed (Some active) → Goes Ends (things_of (Some active) ++ rest) (active_turn config now active event)
    active-run now early active (Start location vars) two past has = (has, two)
    active-run now early active Fail two past has = fails-run now early active active.peer two past has
    active-run now early active Done two past has = ends-run now early active active.peer two past has

    pub turn-run : (active : Option Active) (line : Line) → IsMoment line.moment → IsServed active → Goes Ends (things_of active ++ rest) (turn_of config active line)
    turn-run None line early two past has = idle-run line.moment early line.event past has
    turn-run (Some active) line early two past has = active-run line.moment early active line.event two past has
