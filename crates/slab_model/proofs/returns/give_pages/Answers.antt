use Rattle.std.proofs.Common.{arith}
use Rattle.slab_model.specs.Inside.{slab_of}
use Rattle.slab_model.proofs.Bounds.{small_runs, run_in}
use Rattle.slab_model.proofs.returns.give_pages.Goals as goal

pub give_run-requires-clause-run : goal.give_run-requires-clause-run
give_run-requires-clause-run c = let h = run_in (slab_of c.args.parts.now) c.args.page c.args.count c.requires.sound c.requires.first in omega (arith, h.1)

pub give_run-requires-clause-runs : goal.give_run-requires-clause-runs
give_run-requires-clause-runs c = rw c.deref.ensures.value (small_runs (slab_of c.args.parts.now) c.requires.sound)
