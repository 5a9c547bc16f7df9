use Rattle.std.proofs.Common.{◌≡◌, ◌+◌, drop}
use Rattle.slab_model.specs.Runs.{page_total}
use Rattle.slab_model.proofs.runs.page_total.Given as goal

abbrev pub invariant-loop-run : goal.invariant-loop-run
invariant-loop-run l = l.pages + page_total (drop l.run-index l.runs) ≡ page_total l.runs
