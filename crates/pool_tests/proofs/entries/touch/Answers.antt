use Rattle.std.proofs.Common.{ℕ, List, ◌∷◌, ◌++◌, subst}
use Rattle.zone_region.proofs.MembersLemmas.{In-split}
use Rattle.slab_pool.specs.Live.{block_words}
use Rattle.slab_pool.proofs.RestLemmas.{rest-laid}
use Rattle.offset_table.specs.Table.{IsTable}
use Rattle.pool_tests.proofs.entries.touch.Goals as goal

pub touch-requires : goal.touch-requires
touch-requires g c = let h = c.requires in (h.order, h.table, (c.in_ok-b.ensures.found h.order h.table).0)

pub returns : goal.returns
returns g c =
    let h = c.requires in
    let s = In-split c.in_ok-b.b.at h.order (c.in_ok-b.ensures.found h.order h.table).0 in
    let was = subst (λ (zs : List ℕ). IsTable (block_words c.args.pool.now) c.args.t.now zs) s.2 h.table in
    record {
      slab = _;
      laid = rest-laid c.args.pool.now c.touch.new.blocks h.slab c.touch.ensures.rest h.laid;
      order = c.in_ok-b.b.at ∷ s.0 ++ s.1;
      table = c.touch.ensures.lays s.0 s.1 was;
    }
