-- What the turn of a line costs.
use Rattle.std.proofs.Common.{◌≡◌, ℕ, ◌+◌, ◌*◌, ◌≤◌, nat_lt, List, [], reverse, Option, Some, None, refl, ap, sym, subst, IfSome, arith}
use Rattle.zone_key.specs.declared.vars.Vars.{Vars}
use Rattle.zone_config.specs.declared.data.Config.{Config}
use Rattle.zone_config.specs.declared.data.Level.{Level}
use Rattle.zone_config.specs.declared.data.ZoneSpec.{ZoneSpec}
use Rattle.zone_config.specs.Conditions.{IsConfig, IsLevel}
use Rattle.replay_log.specs.declared.line.Event.{Event}
use Rattle.replay_log.specs.declared.line.Event.TheVariants.{Start, Fail, Done}
use Rattle.replay_log.specs.declared.line.Line.{Line}
use Rattle.request_script.specs.declared.active.Active.{Active}
use Rattle.request_script.specs.declared.active.Opened.{Opened}
use Rattle.request_script.specs.declared.active.Taken.{Taken}
use Rattle.request_script.specs.declared.decision.ConnStatus.{ConnStatus}
use Rattle.request_script.specs.declared.decision.Decision.TheVariants.{NextPeer}
use Rattle.request_script.specs.declared.decision.Outcome.TheVariants.{Pass, Gateway}
use Rattle.request_script.specs.declared.said.ReqSaid.{ReqSaid}
use Rattle.request_script.specs.Turn.{Turn}
use Rattle.request_script.specs.Turn.Turn.{decides}
use Rattle.request_script.specs.Zones.{level_at, servers_up}
use Rattle.request_script.specs.ConnLimits.{closes}
use Rattle.request_script.specs.Peers.{chooses, peer_of, tries_left}
use Rattle.request_script.specs.RequestSteps.{active_turn, after_conns, after_reqs, fails_whole, idle_turn, is_conn_refusal, is_req_refusal, opens, started, tries_next, turn_of}
use Rattle.request_script.proofs.TurnParts.{level-is, step_at, fails_at, ends_at}
use Rattle.request_script.proofs.Totals.{weigh, total-reverse}
use Rattle.request_script.proofs.Priced.{Prices, Within, if-within}
use Rattle.request_script.proofs.PricedLimits.{of_reqs, of_conns, of_opened, closes-within, reqs-within, conns-within, chooses-within}

-- ---- active requests

-- an active request has connections by the limits of a level and a server of its upstream
pub record IsOfLevel (level : Level) (active : Active) : Type 0 where
  pub conns : (q : ℕ → ℕ) → of_opened q active.opened ≤ of_conns q level.conn
  pub peer : IfSome active.peer (λ (taken : Taken). level.peers ≡ Some taken.zone)

-- an active request, if there is one, is of a level of these zones
abbrev pub IsOfSome : List ZoneSpec → Option Active → Type 0
IsOfSome zones None = Unit {0}
IsOfSome zones (Some active) = (level : Level) × IsLevel zones level × IsOfLevel level active

-- ---- turns

-- what an open and a later event cost at most lies within the bound
pub record IsAfforded (p : Prices) (bound : ℕ) (level : Level) : Type 0 where
  pub opens : 2 * of_reqs p.req level.req + 2 * of_conns p.conn level.conn + 2 * weigh p.peer level.peers ≤ bound
  pub goes_on : of_conns p.conn level.conn + 3 * weigh p.peer level.peers ≤ bound

module _ (p : Prices) (bound : ℕ) (config : Config) where
  abbrev Goes : ℕ → Turn → Type 0
  Goes = Within p bound (IsOfSome config.zones)

  module _ (now : ℕ) (vars : Vars) (level : Level) (is : IsLevel config.zones level) where
    step-within : (said : ReqSaid) (conns : ConnStatus) (opened : List Opened) → ((q : ℕ → ℕ) → of_opened q opened ≤ of_conns q level.conn)
        → (peers : Option ℕ) → level.peers ≡ peers → (spent : ℕ) → spent + of_opened p.conn opened + 2 * weigh p.peer peers ≤ bound → Goes spent (step_at config now peers said conns opened)
    step-within said conns opened of None same spent fits = (level, is, record { conns = of; peer = tt })
    step-within said conns opened of (Some zone) same spent fits =
        let turned = total-reverse (λ (o : Opened). p.conn o.zone) opened in
        chooses-within p bound (IsOfSome config.zones) config now zone (servers_up config zone) 0 0 (of_opened p.conn opened)
        (λ taken. decides (started Pass said conns (Some (peer_of taken))) (Some (record { opened = opened; peer = Some taken })))
        (closes (reverse opened) (decides (started Gateway said conns None) None))
        (λ taken after at fit. (level, is, record { conns = of; peer = subst (λ (z : ℕ). level.peers ≡ Some z) (sym at) same }))
        (λ after fit. closes-within p bound (IsOfSome config.zones) (reverse opened) 0 _ (λ last _. tt) after (omega (arith, fit, turned)))
        spent (omega (arith, fits))

    conns-step : (said : ReqSaid) (conns : ConnStatus) (opened : List Opened) (spent : ℕ) → ((q : ℕ → ℕ) → of_opened q opened + 0 ≤ of_conns q level.conn)
        → spent + of_opened p.conn opened + 2 * weigh p.peer level.peers ≤ bound → Goes spent (after_conns config now vars level said conns opened)
    conns-step said conns opened spent of fits =
        if-within p bound (IsOfSome config.zones) (is_conn_refusal conns) spent _ _ tt
        (step-within said conns opened (λ q. let o = of q in omega (arith, o)) level.peers refl spent fits)

    reqs-step : (said : ReqSaid) (spent : ℕ) → spent + (2 * of_conns p.conn level.conn + 2 * weigh p.peer level.peers) ≤ bound → Goes spent (after_reqs config now vars level said)
    reqs-step said spent fits =
        if-within p bound (IsOfSome config.zones) (is_req_refusal said.status) spent _ _ tt
        (conns-within p bound (IsOfSome config.zones) config vars level.conn_dry level.conn level.conn [] (2 * weigh p.peer level.peers) (after_conns config now vars level said)
        (λ conns opened after of fit. conns-step said conns opened after of fit) (λ q. omega arith) spent (omega (arith, fits)))

    opens-within : IsAfforded p bound level → Goes 0 (opens config now vars level)
    opens-within affords =
        let most = affords.opens in
        reqs-within p bound (IsOfSome config.zones) config now vars level.req_dry level.req [] (2 * of_conns p.conn level.conn + 2 * weigh p.peer level.peers) (after_reqs config now vars level)
        (λ said after fit. reqs-step said after fit) 0 (omega (arith, most))

  module _ (now : ℕ) (level : Level) (is : IsLevel config.zones level) (affords : IsAfforded p bound level) where
    whole-within : (active : Active) → IsOfLevel level active → (spent : ℕ) → spent + of_conns p.conn level.conn ≤ bound → Goes spent (fails_whole config now active)
    whole-within active of spent fits =
        let turned = total-reverse (λ (o : Opened). p.conn o.zone) active.opened in let few = of.conns p.conn in
        closes-within p bound (IsOfSome config.zones) (reverse active.opened) 0 _ (λ last _. tt) spent (omega (arith, fits, turned, few))

    next-within : (active : Active) → IsOfLevel level active → (taken : Taken) → level.peers ≡ Some taken.zone → (spent : ℕ) → spent + of_conns p.conn level.conn + 2 * p.peer taken.zone ≤ bound → Goes spent (tries_next config now active taken)
    next-within active of taken own spent fits =
        let found : Taken → Turn = λ next. decides (NextPeer (peer_of next)) (Some (record { opened = active.opened; peer = Some next })) in
        if-within p bound (IsOfSome config.zones) (nat_lt 0 (tries_left config taken)) spent
        (chooses config now taken.zone (tries_left config taken) taken.list taken.tried found (fails_whole config now active)) (fails_whole config now active)
        (chooses-within p bound (IsOfSome config.zones) config now taken.zone (tries_left config taken) taken.list taken.tried (of_conns p.conn level.conn) found (fails_whole config now active)
        (λ next after at fit. (level, is, record { conns = of.conns; peer = subst (λ (z : ℕ). level.peers ≡ Some z) (sym at) own }))
        (λ after fit. whole-within active of after fit) spent (omega (arith, fits)))
        (whole-within active of spent (omega (arith, fits)))

    fails-within : (active : Active) → IsOfLevel level active → (peer : Option Taken) → IfSome peer (λ (taken : Taken). level.peers ≡ Some taken.zone) → Goes 0 (fails_at config now active peer)
    fails-within active of None own = let most = affords.goes_on in whole-within active of 0 (omega (arith, most))
    fails-within active of (Some taken) own =
        let most = affords.goes_on in let price : weigh p.peer level.peers ≡ p.peer taken.zone = ap (weigh p.peer) own in
        (omega (arith, most, price), λ reply. next-within active of taken own (0 + p.peer taken.zone) (omega (arith, most, price)))

    ends-within : (active : Active) → IsOfLevel level active → (peer : Option Taken) → IfSome peer (λ (taken : Taken). level.peers ≡ Some taken.zone) → Goes 0 (ends_at now active peer)
    ends-within active of None own =
        let most = affords.goes_on in let turned = total-reverse (λ (o : Opened). p.conn o.zone) active.opened in let few = of.conns p.conn in
        closes-within p bound (IsOfSome config.zones) (reverse active.opened) 0 _ (λ last _. tt) 0 (omega (arith, most, turned, few))
    ends-within active of (Some taken) own =
        let most = affords.goes_on in let turned = total-reverse (λ (o : Opened). p.conn o.zone) active.opened in let few = of.conns p.conn in
        let price : weigh p.peer level.peers ≡ p.peer taken.zone = ap (weigh p.peer) own in
        (omega (arith, most, price), λ reply. closes-within p bound (IsOfSome config.zones) (reverse active.opened) 0 _ (λ last _. tt) (0 + p.peer taken.zone) (omega (arith, most, turned, few, price)))

  module _ (is : IsConfig config) (affords : (level : Level) → IsLevel config.zones level → IsAfforded p bound level) where
    idle-within : (now : ℕ) (event : Event) → Goes 0 (idle_turn config now event)
    idle-within now (Start location vars) =
        let own = level-is config is location in
        opens-within now vars (level_at config location) own (affords (level_at config location) own)
    idle-within now Fail = tt
    idle-within now Done = tt

    active-within : (now : ℕ) (active : Active) (event : Event) → IsOfSome config.zones (Some active) → Goes 0 (active_turn config now active event)
    active-within now active (Start location vars) of = of
    active-within now active Fail of = fails-within now of.0 of.1 (affords of.0 of.1) active of.2 active.peer of.2.peer
    active-within now active Done of = ends-within now of.0 of.1 (affords of.0 of.1) active of.2 active.peer of.2.peer

    pub turn-within : (active : Option Active) (line : Line) → IsOfSome config.zones active → Goes 0 (turn_of config active line)
    turn-within None line of = idle-within line.moment line.event
    turn-within (Some active) line of = active-within line.moment active line.event of
