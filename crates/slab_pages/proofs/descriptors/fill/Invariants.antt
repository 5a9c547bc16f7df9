use Rattle.std.proofs.Common.{◌-◌}
use Rattle.slab_pages.specs.RunSteps.{FillsRun}
use Rattle.slab_pages.proofs.descriptors.fill.Given as goal

abbrev pub invariant-loop-page : goal.invariant-loop-page
invariant-loop-page l = FillsRun l.fn.region l.region l.first (l.page - l.first) l.slab
