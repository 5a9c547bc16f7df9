use Rattle.std.proofs.Common.{ℕ, ◌≡◌, ◌*◌, ◌≤◌, List, [], length, take}
use Rattle.request_script.specs.Script.{state_of}
use Rattle.replay_share.specs.Replay.{lines_of}
use Rattle.replay_share.specs.Share.{HasDecided}
use Rattle.replay_share.proofs.share.replay_share.Given as goal

abbrev pub invariant-loop-line : goal.invariant-loop-line
invariant-loop-line g l =
    (start : g.row.A.Denot) (room : ℕ) → g.A.Answers.serves start l.fn.zones l.config.zones room [] → 3 * length (lines_of l.workers l.worker l.lines) ≤ room
    → HasDecided (g.A.Answers.serves start l.zones l.config.zones room) l.config (state_of l.script) (lines_of l.workers l.worker (take l.line-index l.lines)) l.decisions.items
