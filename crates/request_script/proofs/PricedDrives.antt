-- What the lines of a share cost.
use Rattle.std.proofs.Common.{ℕ, ◌+◌, ◌*◌, ◌≤◌, Bool, true, false, nat_eq, if◌then◌else◌, List, length, Option, arith}
use Rattle.zone_config.specs.declared.data.Config.{Config}
use Rattle.zone_config.specs.declared.data.Level.{Level}
use Rattle.zone_config.specs.Conditions.{IsConfig, IsLevel}
use Rattle.replay_log.specs.declared.line.Line.{Line}
use Rattle.request_script.specs.declared.active.Active.{Active}
use Rattle.request_script.specs.declared.decision.Decision.{Decision}
use Rattle.request_script.specs.Turn.{Turn, Exchange, Leads}
use Rattle.request_script.specs.Turn.Turn.{decides}
use Rattle.request_script.specs.RequestSteps.{turn_of}
use Rattle.request_script.specs.Drive.{Table, with_active, nothing_active, Drives}
use Rattle.request_script.specs.Drive.Drives.{at_end, line}
use Rattle.request_script.proofs.Totals.{total-append}
use Rattle.request_script.proofs.Priced.{Prices, price, spent_by, Within, within-leads, within-spent}
use Rattle.request_script.proofs.PricedTurns.{IsOfSome, IsAfforded, turn-within}

module _ (config : Config) where
  -- each active request of a table is of a level
  abbrev pub IsOfEach : Table → Type 0
  IsOfEach table = (conn : ℕ) → IsOfSome config.zones (table conn)

  of_each-with : (table : Table) (conn : ℕ) (active : Option Active) → IsOfEach table → IsOfSome config.zones active → IsOfEach (with_active table conn active)
  of_each-with table conn active each of other = go (nat_eq conn other) where
    go : (b : Bool) → IsOfSome config.zones (if b then active else table other)
    go true = of
    go false = each other

  module _ (p : Prices) (bound : ℕ) (is : IsConfig config) (affords : (level : Level) → IsLevel config.zones level → IsAfforded p bound level) where
    -- Lines leave a table as it was, and each costs at most the bound.
    pub drives-within : (table : Table) (lines : List Line) (asked : List Exchange) (decisions : List Decision) (last : Table) → Drives config table lines asked decisions last → IsOfEach table
        → IsOfEach last × (spent_by p asked ≤ bound * length lines)
    drives-within _ _ _ _ _ (at_end table) each = (each, omega arith)
    drives-within _ _ _ _ _ (line table one lines asked more decision active decisions last leads drives) each =
        let within = turn-within p bound config is affords (table one.conn) one (each one.conn) in
        let of = within-leads p bound (IsOfSome config.zones) (turn_of config (table one.conn) one) 0 asked (decides decision active) within leads in
        let spent = within-spent p bound (IsOfSome config.zones) (turn_of config (table one.conn) one) 0 asked (decides decision active) within leads (omega arith) in
        let later = drives-within (with_active table one.conn active) lines more decisions last drives (of_each-with table one.conn active each of) in
        let less = later.1 in
        let both = total-append (λ (e : Exchange). price p e.call) asked more in
        (later.0, omega (arith, spent, less, both))

    -- and what the turn of the next line asks lies within the bound
    pub asks-within : (lines : List Line) (next : Line) (asked : List Exchange) (decisions : List Decision) (table : Table) → Drives config nothing_active lines asked decisions table
        → (since : List Exchange) (end : Turn) → Leads (turn_of config (table next.conn) next) since end → Within p bound (IsOfSome config.zones) (0 + spent_by p since) end
    asks-within lines next asked decisions table drives since end leads =
        let each = (drives-within nothing_active lines asked decisions table drives (λ conn. tt)).0 in
        let within = turn-within p bound config is affords (table next.conn) next (each next.conn) in
        within-leads p bound (IsOfSome config.zones) (turn_of config (table next.conn) next) 0 since end within leads
