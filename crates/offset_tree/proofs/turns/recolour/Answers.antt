use Rattle.std.proofs.Common.{arith, refl}
use Rattle.offset_tree.proofs.ShapeLemmas.{one-same}
use Rattle.offset_tree.proofs.Paints.{around_of, painted, painted_changes}
use Rattle.offset_tree.proofs.turns.recolour.Goals as goal

pub paint-requires : goal.paint-requires
paint-requires g c = let u = c.requires.0 in ((around_of _ _ u.path u.side u.red u.near c.args.x u.far c.requires.1).1.live c.args.x (omega (arith, one-same c.args.x c.args.x refl))).3

pub returns-clause-shape : goal.returns-clause-shape
returns-clause-shape g c = λ u h. painted _ _ _ u.path u.side u.red c.args.red u.near c.args.x u.far h c.paint.ensures.paints

pub returns-clause-changes : goal.returns-clause-changes
returns-clause-changes g c = λ u h. painted_changes _ _ _ u.path u.side u.red c.args.red u.near c.args.x u.far h c.paint.ensures.paints
