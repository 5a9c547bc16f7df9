use Rattle.std.proofs.Common.{ℕ, ◌≡◌, ◌+◌, ◌*◌, ◌≤◌, List, length}
use Rattle.std.specs.List.{All}
use Rattle.replay_log.specs.declared.line.Line.{Line as LogLine}
use Rattle.replay_log.specs.Limits.{IsLineOf}
use Rattle.request_script.specs.declared.decision.Decision.{Decision as Decided}
use Rattle.request_script.specs.Script.{state_of}
use Rattle.replay_share.specs.Share.{HasDecided, IsUnderWay}
use Rattle.replay_share.proofs.share.decide.Given as goal

abbrev pub invariant-loop : goal.invariant-loop
invariant-loop g l =
    (start : g.row.A.Denot) (lines : List LogLine) (decisions : List Decided) (room : ℕ) → All (IsLineOf (length l.config.locations)) lines → 3 * length lines + 3 ≤ room
    → (before : HasDecided (g.A.Answers.serves start l.fn.zones l.config.zones room) l.config (state_of l.fn.script) lines decisions)
    → IsUnderWay (g.A.Answers.serves start l.zones l.config.zones room) (state_of l.fn.script) (state_of l.script) l.line before.asked l.next l.counter
