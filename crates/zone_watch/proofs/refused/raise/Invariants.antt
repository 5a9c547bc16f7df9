use Rattle.std.proofs.Common.{◌≡◌, ◌++◌, take, drop}
use Rattle.zone_watch.specs.RefusedCounts.{raised_from}
use Rattle.zone_watch.proofs.refused.raise.Given as goal

abbrev pub invariant-loop-zone : goal.invariant-loop-zone
invariant-loop-zone l = l.counts ≡ raised_from 0 l.decision (take l.zone l.initial.counts) ++ drop l.zone l.initial.counts
