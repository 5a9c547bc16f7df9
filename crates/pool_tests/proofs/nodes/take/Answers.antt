use Rattle.std.proofs.Common.{ℕ, List, ◌++◌, subst}
use Rattle.zone_region.proofs.MembersLemmas.{In-split}
use Rattle.slab_pool.specs.Live.{block_words}
use Rattle.slab_pool.proofs.RestLemmas.{rest-laid}
use Rattle.offset_tree.specs.Layout.{IsTree}
use Rattle.pool_tests.proofs.NodeLemmas.{tree_less, one_less}
use Rattle.pool_tests.proofs.nodes.take.Goals as goal

pub returns : goal.returns
returns g c n h =
    let s = In-split c.in_ok-b.b.at h.blocks (c.in_ok-b.ensures.found h.blocks h.tree).0 in
    let was = subst (λ (zs : List ℕ). IsTree (block_words c.args.pool.now) c.args.t.now zs) s.2 h.tree in
    record {
      slab = _;
      laid = c.free.ensures.laid _ (rest-laid c.args.pool.now c.remove.new.blocks h.slab c.remove.ensures.rest h.laid);
      blocks = s.0 ++ s.1;
      tree = tree_less (block_words c.args.pool.now) (block_words c.remove.new.blocks) (block_words c.free.new.self) c.args.t.now c.in_ok-b.b.at s.0 s.1 was (c.remove.ensures.removed s.0 s.1 was) c.free.ensures.words;
      few = one_less h.blocks s.0 c.in_ok-b.b.at s.1 n s.2 h.few;
    }
