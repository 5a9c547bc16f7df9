use Rattle.std.proofs.Common.{◌≡◌, drop}
use Rattle.slab_model.specs.Runs.{pages_from}
use Rattle.slab_model.proofs.runs.pages_from.Given as goal

abbrev pub invariant-loop-run : goal.invariant-loop-run
invariant-loop-run l = pages_from l.page (drop l.run-index l.runs) ≡ pages_from l.page l.runs
