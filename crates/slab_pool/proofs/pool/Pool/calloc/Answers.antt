use Rattle.std.proofs.Common.{◌≡◌, ◌/◌, replicate, sym, subst, Some}
use Rattle.slab_model.specs.State.{Slab}
use Rattle.slab_model.specs.Grant.{grant, block_bytes}
use Rattle.slab_pages.specs.Places.{Image}
use Rattle.slab_pool.specs.Pool.{LaysPool}
use Rattle.slab_pool.specs.Live.{block_words, KeepsPagesBut}
use Rattle.zone_region.specs.Granting.{SameBlockWords, GrantsWords}
use Rattle.slab_pool.proofs.PoolLemmas.{Callocs, refused-words, granted-bytes, calloc-laid, calloc-words, calloc-zeros, calloc-keeps, granted-room}
use Rattle.slab_pool.proofs.pool.Pool.calloc.Goals as goal
use Rattle.slab_pool.proofs.pool.Pool.calloc.Goals.{After-clear_block}

-- what the two steps leave
steps : (c : After-clear_block) (slab : Slab) → LaysPool c.self.inside.pages slab → Callocs c.self.inside.pages c.grant.new.pages c.clear_block.new.pages slab c.args.size c.in-Some.block.at
steps c slab p = record { before = p; some = c.requires.some; after = c.in-Some.ensures.laid slab p; given = sym (c.in-Some.ensures.block slab p); kept = c.in-Some.ensures.kept; clears = c.clear_block.ensures }

pub clear_block-requires-clause-live : goal.clear_block-requires-clause-live
clear_block-requires-clause-live c = let p = c.self.invariant.1 in (_, c.in-Some.ensures.laid _ p, granted-bytes _ _ _ _ _ p c.requires.some (c.in-Some.ensures.laid _ p) (sym (c.in-Some.ensures.block _ p)) c.in-Some.ensures.kept)

pub invariant_of-self-in-Some : goal.invariant_of-self-in-Some
invariant_of-self-in-Some c = (_, calloc-laid _ _ _ _ _ _ (steps c _ c.self.invariant.1))

pub returns-in-None-clause-words : goal.returns-in-None-clause-words
returns-in-None-clause-words c =
    let P : Image → Type 0 = λ i. (slab : Slab) → LaysPool i slab → SameBlockWords (block_words i) (block_words c.grant.new.pages) in
    subst P c.self.view_is (λ slab p. refused-words _ _ slab _ p (c.in-None.ensures.laid slab p) (sym (c.in-None.ensures.block slab p)) c.in-None.ensures.kept)

pub returns-in-Some-clause-laid : goal.returns-in-Some-clause-laid
returns-in-Some-clause-laid c =
    let P : Image → Type 0 = λ i. (slab : Slab) → LaysPool i slab → LaysPool c.clear_block.new.pages (grant slab c.args.size).1 in
    subst P c.self.view_is (λ slab p. calloc-laid _ _ _ _ _ _ (steps c slab p))

pub returns-in-Some-clause-words : goal.returns-in-Some-clause-words
returns-in-Some-clause-words c =
    let P : Image → Type 0 = λ i. (slab : Slab) → LaysPool i slab → GrantsWords (block_words i) (block_words c.clear_block.new.pages) c.in-Some.block.at (block_bytes slab c.args.size / 8) in
    subst P c.self.view_is (λ slab p. calloc-words _ _ _ _ _ _ (steps c slab p))

pub returns-in-Some-clause-zeros : goal.returns-in-Some-clause-zeros
returns-in-Some-clause-zeros c =
    let P : Image → Type 0 = λ i. (slab : Slab) → LaysPool i slab → block_words c.clear_block.new.pages c.in-Some.block.at ≡ replicate (block_bytes slab c.args.size / 8) 0 in
    subst P c.self.view_is (λ slab p. calloc-zeros _ _ _ _ _ _ (steps c slab p))

pub returns-in-Some-clause-kept : goal.returns-in-Some-clause-kept
returns-in-Some-clause-kept c =
    let P : Image → Type 0 = λ i. (slab : Slab) → LaysPool i slab → KeepsPagesBut i c.clear_block.new.pages c.in-Some.block.at (block_bytes slab c.args.size / 8) in
    subst P c.self.view_is (λ slab p. calloc-keeps _ _ _ _ _ _ (steps c slab p))

known : (a b : Image) → a ≡ b → (slab : Slab) × LaysPool a slab → (slab : Slab) × LaysPool b slab
known a b e p = subst (λ (i : Image). (slab : Slab) × LaysPool i slab) e p

pub returns-in-None-clause-known : goal.returns-in-None-clause-known
returns-in-None-clause-known c = known _ _ c.self.view_is c.self.invariant

pub returns-in-Some-clause-known : goal.returns-in-Some-clause-known
returns-in-Some-clause-known c = known _ _ c.self.view_is c.self.invariant

pub returns-in-Some-clause-room : goal.returns-in-Some-clause-room
returns-in-Some-clause-room c =
    let p = c.self.invariant.1 in
    granted-room _ _ _ c.args.size (Some c.in-Some.block) p c.requires.some (calloc-laid _ _ _ _ _ _ (steps c _ p)) (c.in-Some.ensures.block _ p)
