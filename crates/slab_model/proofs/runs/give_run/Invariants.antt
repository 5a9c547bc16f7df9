use Rattle.std.proofs.Common.{◌≡◌, ◌++◌, drop, not}
use Rattle.std.specs.Prelude.{filter}
use Rattle.slab_model.specs.Runs.{give_run, is_beside}
use Rattle.slab_model.proofs.runs.give_run.Given as goal

abbrev pub invariant-loop-other : goal.invariant-loop-other
invariant-loop-other l = l.kept.items ++ filter (λ q. not (is_beside l.run q)) (drop l.other-index l.runs) ≡ give_run l.run l.runs
