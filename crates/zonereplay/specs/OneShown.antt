-- A replay by one worker has one text.
use Rattle.std.specs.Prelude.{ℕ, ◌≡◌, ◌*◌, ◌<◌, ◌^◌, false, List, length, Option, Some, None}
use Rattle.std.specs.List.{All}
use Rattle.zone_config.specs.declared.data.Config.{Config}
use Rattle.zone_config.specs.Conditions.{IsConfig}
use Rattle.replay_log.specs.declared.line.Line.{Line}
use Rattle.replay_log.specs.Limits.{IsLineOf}
use Rattle.replay_share.specs.Opening.{refused_line}
use Rattle.zonereplay.specs.Told.{ShowsReplay, ShowsSummary}
use Rattle.zonereplay.specs.Plan.{plain_plan, made_plan, replay_plan}
use Rattle.zonereplay.specs.Stages.{Prints}
use Rattle.zone_watch.specs.Watched.{Watched}

-- Two texts that show a replay of the same lines by one worker to the same watchers are equal, and so are the watchers that are left.
abbrev pub OneShown : Type 0
OneShown = (config : Config) (lines : List Line) (watchers one_left other_left : List Watched) (first second : List ℕ) → ShowsReplay config 1 lines watchers one_left first → ShowsReplay config 1 lines watchers other_left second
    → (first ≡ second) × (one_left ≡ other_left)

-- And there is one, where each zone has its blocks and the lines are few.
abbrev pub SomeShown : Type 0
SomeShown = (config : Config) (lines : List Line) (watchers : List Watched) → IsConfig config → refused_line config.zones ≡ None → All (IsLineOf (length config.locations)) lines → 3 * length lines < 2 ^ 32
    → (left : List Watched) × ((text : List ℕ) × ShowsReplay config 1 lines watchers left text)

-- Where the files tell what they hold, `plain` writes one text, and leaves the same of the same watchers.
abbrev pub OnePlain : Type 0
OnePlain = (contents : List ℕ → Option (List ℕ)) (name log given lines : List ℕ) (watchers one_left other_left : List Watched) (first second : List ℕ) → contents name ≡ Some given → contents log ≡ Some lines
    → Prints contents (plain_plan name log) watchers one_left first → Prints contents (plain_plan name log) watchers other_left second → (first ≡ second) × (one_left ≡ other_left)

-- `replay` on one worker, without `words`, does what `plain` does.
abbrev pub OneWorker : Type 0
OneWorker = (name log : List ℕ) → replay_plan name log 1 false ≡ plain_plan name log

-- Two texts that show the summary of a replay of the same lines are equal.
abbrev pub OneSummary : Type 0
OneSummary = (config : Config) (lines : List Line) (first second : List ℕ) → ShowsSummary config lines first → ShowsSummary config lines second → first ≡ second

-- `made` writes one text of a seed and a number of lines, whatever the files hold and whoever watches.
abbrev pub OneMade : Type 0
OneMade = (some other : List ℕ → Option (List ℕ)) (seed count : ℕ) (watchers one_left others other_left : List Watched) (first second : List ℕ)
    → Prints some (made_plan seed count) watchers one_left first → Prints other (made_plan seed count) others other_left second → first ≡ second
