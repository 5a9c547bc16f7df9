use Rattle.std.proofs.Common.{arith}
use Rattle.offset_tests.proofs.GridLemmas.{search_bound}
use Rattle.offset_tests.proofs.tests.seek.Goals as goal

pub returns : goal.returns
returns g c =
    let h = c.requires.there in
    omega (arith, c.find-found.ensures.cost h.blocks h.tree, search_bound _ _ c.args.keys.now c.args.k _ h c.requires.short c.requires.key, c.requires.most)
