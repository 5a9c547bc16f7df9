use Rattle.offset_tree.proofs.AttachLemmas.{cleared_by}
use Rattle.offset_tree.proofs.attach.clear.Goals as goal

pub returns-clause-clears : goal.returns-clause-clears
returns-clause-clears g c = cleared_by _ _ _ _ _ _ c.sentinel-nil.result c.args.b _ c.sentinel-nil.ensures c.requires.room c.set.ensures.sets c.set-2.ensures.sets c.set-3.ensures.sets c.paint.ensures.paints
