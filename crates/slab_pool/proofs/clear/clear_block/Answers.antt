use Rattle.std.proofs.Common.{ℕ, ◌/◌, sym, subst, ◌∙◌}
use Rattle.slab_pool.specs.Live.{ClearsWords}
use Rattle.slab_pool.proofs.PoolLemmas.{block-range}
use Rattle.slab_pool.proofs.clear.clear_block.Goals as goal

pub clear_words-requires-clause-behind : goal.clear_words-requires-clause-behind
clear_words-requires-clause-behind c = let l = c.requires.live in (block-range _ l.0 _ _ _ l.1 c.requires.some l.2 (c.block_bytes-bytes.ensures l.0 (l.1.shape_is ∙ sym c.shape_of.ensures.shape))).0

pub clear_words-requires-clause-within : goal.clear_words-requires-clause-within
clear_words-requires-clause-within c = let l = c.requires.live in (block-range _ l.0 _ _ _ l.1 c.requires.some l.2 (c.block_bytes-bytes.ensures l.0 (l.1.shape_is ∙ sym c.shape_of.ensures.shape))).1

pub returns : goal.returns
returns c = λ slab p. subst (λ (n : ℕ). ClearsWords c.args.pages.now c.clear_words.new.pages (c.args.b.at / 8) (n / 8)) (c.block_bytes-bytes.ensures slab (p.shape_is ∙ sym c.shape_of.ensures.shape)) c.clear_words.ensures
