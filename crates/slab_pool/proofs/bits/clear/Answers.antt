use Rattle.std.proofs.Common.{refl}
use Rattle.slab_pool.proofs.BitSteps.{cleared}
use Rattle.slab_pool.proofs.bits.clear.Goals as goal

pub returns-clause-cleared : goal.returns-clause-cleared
returns-clause-cleared c = λ used h. cleared _ _ _ c.args.page c.args.class c.args.index _ _ used h c.requires.low c.requires.high c.bits-v.ensures.value c.bits-v.ensures.small refl c.set_bits.ensures.sets
