-- A share that is replayed against what answers its calls.
use Rattle.std.specs.Prelude.{ℕ, ◌≡◌, ◌≤◌, ◌++◌, List, length}
use Rattle.zone_config.specs.declared.data.Config.{Config}
use Rattle.replay_log.specs.declared.line.Line.{Line}
use Rattle.request_script.specs.declared.decision.Decision.{Decision}
use Rattle.request_script.specs.declared.script.Next.{Next}
use Rattle.request_script.specs.Turn.{Turn, Exchange, Leads}
use Rattle.request_script.specs.Drive.{Table, nothing_active, Drives}
use Rattle.request_script.specs.Script.{ScriptState, begins, next_of, arrives}
use Rattle.request_script.specs.Script.Stage.{between}

-- These lines of a share were decided so, from the beginning on; what they asked was asked of what answers, and the script is
-- where they led.
pub record HasDecided (Serves : List Exchange → Type 0) (config : Config) (script : ScriptState) (lines : List Line) (decisions : List Decision) : Type 0 where
  pub asked : List Exchange
  pub drives : Drives config nothing_active lines asked decisions script.table
  pub served : Serves asked
  pub config_is : script.config ≡ config
  pub stage : script.stage ≡ between

-- After what a share asked before, the next line is under way: at least n calls of it were answered, and its turn has come here.
pub record IsUnderWay (Serves : List Exchange → Type 0) (before script : ScriptState) (line : Line) (asked : List Exchange) (next : Next) (n : ℕ) : Type 0 where
  pub since : List Exchange
  pub turn : Turn
  pub leads : Leads (begins before line) since turn
  pub says : next ≡ next_of turn
  pub state : script ≡ arrives before.config before.table line.conn turn
  pub served : Serves (asked ++ since)
  pub calls : n ≤ length since

-- All lines of a share were decided so, and what they asked was asked of what answers.
pub record HasReplayed (Serves : List Exchange → Type 0) (config : Config) (lines : List Line) (decisions : List Decision) : Type 0 where
  pub asked : List Exchange
  pub table : Table
  pub drives : Drives config nothing_active lines asked decisions table
  pub served : Serves asked
