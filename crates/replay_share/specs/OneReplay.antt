-- What a replay comes to, which for one worker is one thing.
use Rattle.std.specs.Prelude.{ℕ, ◌≡◌, ◌*◌, ◌<◌, ◌^◌, List, length, map, None}
use Rattle.std.specs.List.{All}
use Rattle.zone_config.specs.declared.data.Config.{Config}
use Rattle.zone_config.specs.Conditions.{IsConfig}
use Rattle.replay_log.specs.declared.line.Line.{Line}
use Rattle.replay_log.specs.Limits.{IsLineOf}
use Rattle.replay_share.specs.Opening.{refused_line}
use Rattle.request_script.specs.declared.decision.Decision.{Decision}
use Rattle.replay_share.specs.declared.journal.ZoneJournal.{ZoneJournal}
use Rattle.replay_share.specs.Journals.{Serves, log_of}
use Rattle.replay_share.specs.Share.{HasReplayed}
use Rattle.replay_share.specs.Logs.{ZoneLog}
use Rattle.replay_share.specs.Replay.{Decided, decision_of, lines_of, IsReplay}

-- what was decided of each line, and the history of each zone
pub record Outcome : Type 0 where
  pub decided : List Decided
  pub logs : List ZoneLog

-- Two replays of the same lines by one worker come to the same.
abbrev pub OneReplay : Type 0
OneReplay = (config : Config) (lines : List Line) (first second : Outcome) → IsReplay config 1 lines first.decided first.logs → IsReplay config 1 lines second.decided second.logs → first ≡ second

-- One worker can replay each log of few lines in the zones of a configuration that each have their blocks.
abbrev pub SomeReplay : Type 0
SomeReplay = (config : Config) (lines : List Line) → IsConfig config → refused_line config.zones ≡ None → All (IsLineOf (length config.locations)) lines → 3 * length lines < 2 ^ 32
    → (outcome : Outcome) × IsReplay config 1 lines outcome.decided outcome.logs

-- The share of the only worker over the journals of its zones is a replay by one worker.
abbrev pub AloneIsReplay : Type 0
AloneIsReplay = (config : Config) (room : ℕ) (journals : List ZoneJournal) (lines : List Line) (decisions : List Decision) → HasReplayed (Serves journals config.zones room) config (lines_of 1 0 lines) decisions
    → (decided : List Decided) × (map decision_of decided ≡ decisions) × IsReplay config 1 lines decided (map log_of journals)
