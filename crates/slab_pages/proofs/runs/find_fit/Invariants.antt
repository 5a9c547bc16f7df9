use Rattle.std.proofs.Common.{ℕ, List}
use Rattle.slab_model.specs.declared.runs.Run.{Run}
use Rattle.slab_pages.specs.RunSteps.{LaysList}
use Rattle.slab_pages.proofs.WalkLemmas.{Walks}
use Rattle.slab_pages.proofs.runs.find_fit.Given as goal

abbrev pub invariant-loop-step : goal.invariant-loop-step
invariant-loop-step l = (count : ℕ) (runs : List Run) → LaysList count l.region runs → Walks count l.n l.step l.region l.o runs
