-- A replay of a log by several workers: what was decided of each line, and the history of each zone.
use Rattle.std.specs.Prelude.{ℕ, ◌≡◌, ◌<◌, ◌%◌, nat_eq, Bool, List, map, filter}
use Rattle.std.specs.List.{All}
use Rattle.zone_config.specs.declared.data.Config.{Config}
use Rattle.replay_log.specs.declared.line.Line.{Line}
use Rattle.request_script.specs.declared.decision.Decision.{Decision}
use Rattle.request_script.specs.Turn.{Exchange}
use Rattle.request_script.specs.Drive.{Table, nothing_active, Drives}
use Rattle.replay_share.specs.Calls.{IsWith}
use Rattle.replay_share.specs.Logs.{ZoneLog, AreLogsOf, HasParts}

-- a line and what was decided of it
pub record Decided : Type 0 where
  pub line : Line
  pub decision : Decision

-- the line that was decided
abbrev pub line_of : Decided → Line
line_of d = d.line

-- what was decided
abbrev pub decision_of : Decided → Decision
decision_of d = d.decision

-- the connection of a line is worker k's, of so many workers
abbrev pub goes_to : ℕ → ℕ → Line → Bool
goes_to workers k line = nat_eq (line.conn % workers) k

-- whether a decided line is one of worker `k`
abbrev pub is_for : ℕ → ℕ → Decided → Bool
is_for workers k d = goes_to workers k d.line

-- the lines of worker k, in the order of the log
abbrev pub lines_of : ℕ → ℕ → List Line → List Line
lines_of workers k lines = filter (goes_to workers k) lines

-- and with what was decided of them
abbrev pub share_of : ℕ → ℕ → List Decided → List Decided
share_of workers k decided = filter (is_for workers k) decided

-- Worker k's lines, one after another, were decided so by what its own calls were answered, and the histories have each of
-- these calls, once and in its order.
pub record HasPlayed (config : Config) (mine : List Decided) (k : ℕ) (logs : List ZoneLog) : Type 0 where
  pub asked : List Exchange
  pub table : Table
  pub drives : Drives config nothing_active (map line_of mine) asked (map decision_of mine) table
  pub parts : HasParts asked k logs
  pub kinds : All (IsWith config.zones) asked

-- Each line of the log was decided, each zone has a legal history of calls of so many workers, and each worker has played its share.
pub record IsReplay (config : Config) (workers : ℕ) (lines : List Line) (decided : List Decided) (logs : List ZoneLog) : Type 0 where
  pub lines_are : map line_of decided ≡ lines
  pub histories : AreLogsOf workers config.zones logs
  pub shares : (k : ℕ) → k < workers → HasPlayed config (share_of workers k decided) k logs
