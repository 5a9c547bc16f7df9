use Rattle.std.proofs.Common.{◌<◌, length, get_or, subst, sym, ap, ◌∙◌, arith}
use Rattle.slab_pages.specs.Places.{Image}
use Rattle.slab_pool.specs.Live.{block_words}
use Rattle.slab_pool.proofs.BlockWords.{word-block}
use Rattle.slab_pool.proofs.PoolLemmas.{place-word, place-fits}
use Rattle.slab_pool.proofs.pool.PoolBlocks.word.Goals as goal

pub overflow_add-b : goal.overflow_add-b
overflow_add-b g c = omega (arith, place-fits _ _ _ _ c.self.invariant.1 (subst (λ (i : Image). c.args.i < length (block_words i c.args.b.at)) (sym c.self.view_is) c.requires))

pub word-requires : goal.word-requires
word-requires g c = (place-word _ _ _ _ c.self.invariant.1 (subst (λ (i : Image). c.args.i < length (block_words i c.args.b.at)) (sym c.self.view_is) c.requires)).0

pub returns-clause-value : goal.returns-clause-value
returns-clause-value g c =
    let p = c.self.invariant.1 in
    let h = place-word _ _ _ _ p (subst (λ (i : Image). c.args.i < length (block_words i c.args.b.at)) (sym c.self.view_is) c.requires) in
    c.word.ensures ∙ sym (word-block _ _ _ _ p h.2) ∙ ap (λ (i : Image). get_or (block_words i c.args.b.at) c.args.i 0) c.self.view_is
