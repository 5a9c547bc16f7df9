-- A script: what it is at, and what a line and a reply make of it.
use Rattle.std.specs.Prelude.{◌≡◌, ℕ}
use Rattle.std.specs.BTreeMap.{get}
use Rattle.std.specs.Ordering.{nat_cmp}
use Rattle.zone_config.specs.declared.data.Config.{Config}
use Rattle.replay_log.specs.declared.line.Line.{Line}
use Rattle.request_script.specs.declared.call.ZoneReply.{ZoneReply}
use Rattle.request_script.specs.declared.progress.Progress.{Progress}
use Rattle.request_script.specs.declared.script.Doing.{Doing}
use Rattle.request_script.specs.declared.script.Doing.TheVariants as doing
use Rattle.request_script.specs.declared.script.Next.{Next}
use Rattle.request_script.specs.declared.script.Next.TheVariants.{Ask, Told}
use Rattle.request_script.specs.declared.script.Script.{Script}
use Rattle.request_script.specs.Turn.{Turn}
use Rattle.request_script.specs.Turn.Turn.{asks, decides}
use Rattle.request_script.specs.RequestSteps.{turn_of}
use Rattle.request_script.specs.Drive.{Table, with_active}
use Rattle.request_script.specs.Progress.{left_of, rest}

-- ---- what a script is

-- what a script is at: between lines; behind a call that the line of a connection asked, with the turn that follows each
-- reply; or spent after want of memory
pub data Stage : Type 0 where
  between : Stage
  waits : (conn : ℕ) (next : ZoneReply → Turn) → Stage
  spent : Stage

-- a script; while a line is under way, the table is the one before it
pub record ScriptState : Type 0 where
  pub config : Config
  pub table : Table
  pub stage : Stage

-- ---- what a call makes of it

-- what a turn says first: the call that it asks, or the decision
abbrev pub next_of : Turn → Next
next_of (asks call next) = Ask call
next_of (decides decision active) = Told decision

-- the state where the line of a connection has come to a turn
abbrev pub arrives : Config → Table → ℕ → Turn → ScriptState
arrives config table conn (asks call next) = record { config = config; table = table; stage = waits conn next }
arrives config table conn (decides decision active) = record { config = config; table = with_active table conn active; stage = between }

-- a script's next word and its new state are those of a turn to which the line of a connection has come
pub record Comes (old new : ScriptState) (conn : ℕ) (turn : Turn) (next : Next) : Type 0 where
  pub says : next ≡ next_of turn
  pub state : new ≡ arrives old.config old.table conn turn

-- the turn of a line, where the script's table has its connection
abbrev pub begins : ScriptState → Line → Turn
begins s line = turn_of s.config (s.table line.conn) line

-- a line may begin
abbrev pub MayBegin : Stage → Type 0
MayBegin between = Unit {0}
MayBegin (waits conn next) = ⊥
MayBegin spent = Unit {0}

-- a reply may come
abbrev pub MayAnswer : Stage → Type 0
MayAnswer between = ⊥
MayAnswer (waits conn next) = Unit {0}
MayAnswer spent = Unit {0}

-- ---- what the fields mean

-- what a script is at
abbrev pub stage_of : Config → Doing → Progress → Stage
stage_of config doing.Between progress = between
stage_of config (doing.Waits conn) progress = waits conn (rest config progress)
stage_of config doing.Spent progress = spent

-- the state of a script
abbrev pub state_of : Script → ScriptState
state_of script = record { config = script.config.now; table = get nat_cmp script.active; stage = stage_of script.config.now script.doing script.progress }

-- the table has what is left behind the line of a connection, and the configuration is the same
pub record Leaves (old new : Script) (conn : ℕ) : Type 0 where
  pub config : new.config.now ≡ old.config.now
  pub table : get nat_cmp new.active ≡ with_active (get nat_cmp old.active) conn (left_of old.progress.opened old.progress.left)
