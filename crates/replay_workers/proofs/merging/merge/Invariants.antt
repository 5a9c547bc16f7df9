use Rattle.replay_workers.proofs.InOrder.{AreTold}
use Rattle.replay_workers.proofs.merging.merge.Given as goal

abbrev pub invariant-loop-line : goal.invariant-loop-line
invariant-loop-line l = AreTold l.workers l.lines l.played l.line-index l.told.items l.merged.items
