-- The decisions of all workers in the order of the lines.
use Rattle.std.specs.Prelude.{ℕ, ◌≡◌, List, [], ◌∷◌, length, map, Some, slice_get}
use Rattle.replay_log.specs.declared.line.Line.{Line}
use Rattle.request_script.specs.declared.decision.Decision.{Decision}
use Rattle.replay_share.specs.Replay.{Decided, decision_of, share_of}
use Rattle.replay_workers.specs.declared.passes.Played.{Played}

-- the lines, each with what was decided of it
abbrev pub pairs : List Line → List Decision → List Decided
pairs (line ∷ lines) (decision ∷ decisions) = record { line = line; decision = decision } ∷ pairs lines decisions
pairs _ _ = []

-- each line has a decision, and those of a worker's lines are its own, in their order
pub record IsMerged (workers : ℕ) (lines : List Line) (played : List Played) (merged : List Decision) : Type 0 where
  pub each : length merged ≡ length lines
  pub own_are : (k : ℕ) (one : Played) → slice_get played k ≡ Some one → map decision_of (share_of workers k (pairs lines merged)) ≡ one.decisions.items
