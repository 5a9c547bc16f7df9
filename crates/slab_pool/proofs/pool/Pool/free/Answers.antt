use Rattle.std.proofs.Common.{◌<◌, length, subst, sym, arith}
use Rattle.slab_pages.specs.Places.{Image}
use Rattle.slab_pool.specs.Live.{block_words}
use Rattle.zone_region.specs.Granting.{ReturnsWords}
use Rattle.slab_pool.proofs.BlockWords.{length-block}
use Rattle.slab_pool.proofs.PoolLemmas.{returned-words}
use Rattle.slab_pool.proofs.pool.Pool.free.Goals as goal

pub give_back-requires : goal.give_back-requires
give_back-requires c =
    let p = c.self.invariant.1 in
    let long = subst (λ (i : Image). 0 < length (block_words i c.args.b.at)) (sym c.self.view_is) c.requires in
    (c.self.invariant.0, p, omega (arith, long, length-block _ _ c.args.b.at p))

pub returns-clause-words : goal.returns-clause-words
returns-clause-words c =
    let p = c.self.invariant.1 in
    let long = subst (λ (i : Image). 0 < length (block_words i c.args.b.at)) (sym c.self.view_is) c.requires in
    subst (λ (i : Image). ReturnsWords (block_words i) (block_words c.give_back.new.pages) c.args.b.at) c.self.view_is
    (returned-words _ _ _ _ p (omega (arith, long, length-block _ _ c.args.b.at p)) (c.give_back.ensures.laid _ p) c.give_back.ensures.kept)
