use Rattle.std.proofs.Common.{length, arith}
use Rattle.pool_tests.proofs.NodeLemmas.{cost_at_most, length-key_at}
use Rattle.pool_tests.proofs.tests.seek.Goals as goal

pub returns : goal.returns
returns g c =
    let h = c.requires.there in
    let four = length-key_at c.args.keys.now c.args.k c.args.key.now c.requires.four c.requires.key in
    omega (arith, c.find-found.ensures.cost h.blocks h.tree, cost_at_most (length h.blocks) (length c.args.key.now) h.few four)
