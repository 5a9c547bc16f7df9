use Rattle.std.proofs.Common.{◌≡◌, drop}
use Rattle.slab_model.specs.Runs.{pages_before}
use Rattle.slab_model.proofs.runs.pages_before.Given as goal

abbrev pub invariant-loop-run : goal.invariant-loop-run
invariant-loop-run l = pages_before l.page (drop l.run-index l.runs) ≡ pages_before l.page l.runs
