use Rattle.std.proofs.Common.{◌≡◌, drop}
use Rattle.slab_model.specs.Runs.{first_fit}
use Rattle.slab_model.proofs.runs.first_fit.Given as goal

abbrev pub invariant-loop-run : goal.invariant-loop-run
invariant-loop-run l = first_fit l.count (drop l.run-index l.runs) ≡ first_fit l.count l.runs
