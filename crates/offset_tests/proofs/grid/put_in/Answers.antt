use Rattle.std.proofs.Common.{arith}
use Rattle.offset_tests.proofs.GridLemmas.{can_insert_at, tree_with_at, search_bound}
use Rattle.offset_tests.proofs.grid.put_in.Goals as goal

pub insert-requires-clause-there : goal.insert-requires-clause-there
insert-requires-clause-there g c =
    (c.requires.absent.there.blocks, can_insert_at _ _ _ c.args.k _ _ c.requires.form c.requires.absent c.requires.range c.place.ensures c.requires.key)

pub returns-clause-there : goal.returns-clause-there
returns-clause-there g c =
    let can = can_insert_at _ _ _ c.args.k _ _ c.requires.form c.requires.absent c.requires.range c.place.ensures c.requires.key in
    tree_with_at _ _ _ _ c.args.k _ c.requires.form c.requires.absent.there c.requires.range c.place.ensures (c.insert.ensures.inserted _ can)

pub returns-clause-cost : goal.returns-clause-cost
returns-clause-cost g c =
    let can = can_insert_at _ _ _ c.args.k _ _ c.requires.form c.requires.absent c.requires.range c.place.ensures c.requires.key in
    let bound = search_bound _ _ c.args.keys.now c.args.k _ c.requires.absent.there c.requires.short c.requires.key in
    omega (arith, bound, c.insert.ensures.cost _ can)
