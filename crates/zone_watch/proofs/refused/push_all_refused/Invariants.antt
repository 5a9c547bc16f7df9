use Rattle.std.proofs.Common.{◌≡◌, ◌++◌, take}
use Rattle.zone_watch.specs.RefusedCounts.{refusals_lines}
use Rattle.zone_watch.proofs.refused.push_all_refused.Given as goal

abbrev pub invariant-loop-zone : goal.invariant-loop-zone
invariant-loop-zone l = l.text.items ≡ l.initial.text.items ++ refusals_lines 0 (take l.zone l.counts)
