use Rattle.offset_tree.proofs.SubstituteLemmas.{filled}
use Rattle.offset_tree.proofs.remove.fill.Goals as goal

pub returns-clause-does : goal.returns-clause-does
returns-clause-does g c = filled _ _ _ _ _ c.args.y _ _ _ _ c.requires c.set.ensures.sets c.set-2.ensures.sets c.set-3.ensures.sets c.paint.ensures.paints
