-- What all workers replay, as contracts see it.
use Rattle.std.specs.Prelude.{ℕ, ◌<◌, List, length}
use Rattle.std.specs.List.{All}
use Rattle.zone_config.specs.Conditions.{IsConfig}
use Rattle.replay_log.specs.Limits.{IsLineOf}
use Rattle.zone_config.specs.declared.data.Config.{Config}
use Rattle.replay_log.specs.declared.line.Line.{Line}
use Rattle.replay_workers.specs.declared.passes.Shared.{Shared}
use Rattle.replay_workers.specs.Passes.{Task, AreShared}

-- what all workers share
abbrev pub task_of : Config → List Line → ℕ → List Shared → List ℕ → Task
task_of config lines workers zones rooms = record { config = config; lines = lines; workers = workers; zones = zones; rooms = rooms }

-- it can be replayed
pub record CanReplay (task : Task) : Type 0 where
  pub is_config : IsConfig task.config
  pub are_lines : All (IsLineOf (length task.config.locations)) task.lines
  pub some : 0 < task.workers
  pub shared : AreShared task
