use Rattle.std.proofs.Common.{◌<◌, length, subst, sym, ap, ◌∙◌, arith}
use Rattle.zone_region.specs.Words.{SetsWord}
use Rattle.slab_pages.specs.Places.{Image}
use Rattle.slab_pool.specs.Live.{block_words, rest_of}
use Rattle.slab_pool.proofs.PoolLemmas.{place-word, place-fits, set-words}
use Rattle.slab_pool.proofs.RestLemmas.{rest-set, rest-laid}
use Rattle.slab_pool.proofs.pool.PoolBlocks.set.Goals as goal

pub overflow_add-b : goal.overflow_add-b
overflow_add-b c = omega (arith, place-fits _ _ _ _ c.self.invariant.1 (subst (λ (i : Image). c.args.i < length (block_words i c.args.b.at)) (sym c.self.view_is) c.requires))

pub set_word-requires : goal.set_word-requires
set_word-requires c = (place-word _ _ _ _ c.self.invariant.1 (subst (λ (i : Image). c.args.i < length (block_words i c.args.b.at)) (sym c.self.view_is) c.requires)).1

pub invariant_of-self : goal.invariant_of-self
invariant_of-self c =
    let p = c.self.invariant.1 in
    let h = place-word _ _ _ _ p (subst (λ (i : Image). c.args.i < length (block_words i c.args.b.at)) (sym c.self.view_is) c.requires) in
    (c.self.invariant.0, rest-laid _ _ _ (rest-set _ _ _ _ _ _ p h.2 c.set_word.ensures.set) p)

pub returns-clause-sets : goal.returns-clause-sets
returns-clause-sets c =
    let p = c.self.invariant.1 in
    let h = place-word _ _ _ _ p (subst (λ (i : Image). c.args.i < length (block_words i c.args.b.at)) (sym c.self.view_is) c.requires) in
    subst (λ (i : Image). SetsWord (block_words i) (block_words c.set_word.new.self) c.args.b.at c.args.i c.args.v) c.self.view_is (set-words _ _ _ _ _ _ p h.2 c.set_word.ensures.set)

pub returns-clause-rest : goal.returns-clause-rest
returns-clause-rest c =
    let p = c.self.invariant.1 in
    let h = place-word _ _ _ _ p (subst (λ (i : Image). c.args.i < length (block_words i c.args.b.at)) (sym c.self.view_is) c.requires) in
    rest-set _ _ _ _ _ _ p h.2 c.set_word.ensures.set ∙ ap (λ (i : Image). rest_of i) c.self.view_is
