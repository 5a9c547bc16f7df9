use Rattle.std.proofs.Common.{◌≡◌, ◌≤◌, ◌+◌, length}
use Rattle.replay_log.specs.Lines.{parts, lines_from, lines_of}
use Rattle.replay_log.proofs.LineLemmas.{after_lines}
use Rattle.replay_log.proofs.lines.read_lines.Given as goal

abbrev pub invariant-loop-rest : goal.invariant-loop-rest
invariant-loop-rest g l = record {
  said : lines_of (g.F.LineForm.says l.form) l.text ≡ after_lines l.lines.items (lines_from (g.F.LineForm.says l.form) l.number (parts 10 l.rest));
  counted : l.number ≤ 131073;
  numbered : l.number ≡ length l.lines.items + 1;
}

abbrev pub decreases-loop-rest : goal.decreases-loop-rest
decreases-loop-rest g l = length l.rest
