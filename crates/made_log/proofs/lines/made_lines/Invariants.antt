use Rattle.std.proofs.Common.{◌≡◌, ◌++◌, ◌+◌, ◌-◌, ◌*◌, ◌≤◌}
use Rattle.made_log.specs.MadeLog.{lines_from, made_lines}
use Rattle.made_log.proofs.lines.made_lines.Given as goal

-- The lines so far and those that are still to be drawn are the whole log.
abbrev pub invariant-loop-number : goal.invariant-loop-number
invariant-loop-number l = record {
  made : l.lines.items ++ lines_from (l.count - l.number) (l.number + 1) l.moment l.generator ≡ made_lines l.seed l.count;
  low : l.moment ≤ 1000000 + 50 * l.number;
}
