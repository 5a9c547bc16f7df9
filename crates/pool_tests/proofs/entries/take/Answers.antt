use Rattle.std.proofs.Common.{ℕ, List, ◌++◌, subst}
use Rattle.zone_region.proofs.MembersLemmas.{In-split}
use Rattle.slab_pool.specs.Live.{block_words}
use Rattle.slab_pool.proofs.RestLemmas.{rest-laid}
use Rattle.offset_table.specs.Table.{IsTable}
use Rattle.pool_tests.proofs.EntryLemmas.{table_less}
use Rattle.pool_tests.proofs.entries.take.Goals as goal

pub returns : goal.returns
returns g c =
    let h = c.requires in
    let s = In-split c.in_ok-b.b.at h.order (c.in_ok-b.ensures.found h.order h.table).0 in
    let was = subst (λ (zs : List ℕ). IsTable (block_words c.args.pool.now) c.args.t.now zs) s.2 h.table in
    record {
      slab = _;
      laid = c.free.ensures.laid _ (rest-laid c.args.pool.now c.remove.new.blocks h.slab c.remove.ensures.rest h.laid);
      order = s.0 ++ s.1;
      table = table_less (block_words c.args.pool.now) (block_words c.remove.new.blocks) (block_words c.free.new.self) c.args.t.now c.in_ok-b.b.at s.0 s.1 was (c.remove.ensures.lays s.0 s.1 was) c.free.ensures.words;
    }
