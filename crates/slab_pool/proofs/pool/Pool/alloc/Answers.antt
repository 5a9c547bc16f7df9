use Rattle.std.proofs.Common.{◌/◌, MatchOption, subst}
use Rattle.zone_region.specs.declared.blocks.Block.{Block}
use Rattle.slab_model.specs.State.{Slab}
use Rattle.slab_model.specs.Grant.{block_bytes}
use Rattle.slab_pages.specs.Places.{Image}
use Rattle.slab_pool.specs.Pool.{LaysPool}
use Rattle.slab_pool.specs.Live.{block_words}
use Rattle.zone_region.specs.Granting.{SameBlockWords, GrantsWords}
use Rattle.slab_pool.proofs.PoolLemmas.{alloc-words, granted-room}
use Rattle.slab_pool.proofs.pool.Pool.alloc.Goals as goal

pub returns-clause-words : goal.returns-clause-words
returns-clause-words c =
    let P : Image → Type 0 = λ i. (slab : Slab) → LaysPool i slab → MatchOption c.grant.result (SameBlockWords (block_words i) (block_words c.grant.new.pages)) (λ (b : Block). GrantsWords (block_words i) (block_words c.grant.new.pages) b.at (block_bytes slab c.args.size / 8)) in
    subst P c.self.view_is (λ slab p. alloc-words _ _ slab _ c.grant.result p c.requires.some (c.grant.ensures.laid slab p) (c.grant.ensures.block slab p) c.grant.ensures.kept)

pub returns-clause-known : goal.returns-clause-known
returns-clause-known c =
    let P : Image → Type 0 = λ i. (slab : Slab) × LaysPool i slab in
    subst P c.self.view_is c.self.invariant

pub returns-clause-room : goal.returns-clause-room
returns-clause-room c =
    let p = c.self.invariant.1 in
    granted-room _ _ _ _ c.grant.result p c.requires.some (c.grant.ensures.laid _ p) (c.grant.ensures.block _ p)
