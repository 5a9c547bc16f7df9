use Rattle.std.proofs.Common.{length, ◌-◌, ◌≡◌}
use Rattle.request_script.specs.Progress.{reqs_from}
use Rattle.request_script.proofs.reqs.walk_reqs.Given as goal

abbrev pub invariant-limits : goal.invariant-limits
invariant-limits l = (l.progress ≡ l.initial.progress)
    × (reqs_from l.config l.progress.opening l.progress.holds l.place ≡ reqs_from l.config l.initial.progress.opening l.initial.progress.holds l.from)

abbrev pub decreases-limits : goal.decreases-limits
decreases-limits l = length l.limits - l.place
