use Rattle.std.proofs.Common.{length, ◌-◌, ◌≡◌}
use Rattle.request_script.specs.Progress.{conns_from}
use Rattle.request_script.proofs.conns.walk_conns.Given as goal

abbrev pub invariant-limits : goal.invariant-limits
invariant-limits l = (l.progress ≡ l.initial.progress)
    × (conns_from l.config l.progress.opening l.progress.said l.progress.opened l.place ≡ conns_from l.config l.initial.progress.opening l.initial.progress.said l.initial.progress.opened l.from)

abbrev pub decreases-limits : goal.decreases-limits
decreases-limits l = length l.limits - l.place
