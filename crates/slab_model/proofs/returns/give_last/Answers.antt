use Rattle.std.proofs.Common.{arith}
use Rattle.slab_model.specs.Inside.{slab_of}
use Rattle.slab_model.specs.State.{page_at}
use Rattle.slab_model.specs.Blocks.{used_in}
use Rattle.slab_model.proofs.Bounds.{small_runs, class_page}
use Rattle.slab_model.proofs.returns.give_last.Goals as goal

pub give_run-requires-clause-run : goal.give_run-requires-clause-run
give_run-requires-clause-run c = let h = class_page (slab_of c.args.parts.now) c.args.page c.args.class (used_in (page_at c.args.parts.now.pages.items c.args.page)) c.requires.sound c.requires.class in omega (arith, h.1)

pub give_run-requires-clause-runs : goal.give_run-requires-clause-runs
give_run-requires-clause-runs c = rw c.deref.ensures.value (small_runs (slab_of c.args.parts.now) c.requires.sound)
