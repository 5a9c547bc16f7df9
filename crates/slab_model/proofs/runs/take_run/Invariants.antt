use Rattle.std.proofs.Common.{◌≡◌, ◌++◌, drop, cond}
use Rattle.slab_model.specs.Runs.{take_run}
use Rattle.slab_model.proofs.runs.take_run.Given as goal

abbrev pub invariant-loop-run : goal.invariant-loop-run
invariant-loop-run l = l.kept.items ++ cond l.done (drop l.run-index l.runs) (take_run l.count (drop l.run-index l.runs)) ≡ take_run l.count l.runs
