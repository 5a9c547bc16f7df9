use Rattle.std.proofs.Common.{ℕ, ◌≡◌, subst, arith, length}
use Rattle.zone_region.specs.Entries.{words_in}
use Rattle.offset_tests.specs.Grid.{IsGrid}
use Rattle.offset_tests.proofs.GridLemmas.{grid_context, empty_tree, grid_start, grid_more}
use Rattle.offset_tests.proofs.grid.laid_out.Goals as goal

pub init-requires : goal.init-requires
init-requires c = grid_context _ _ _ _ c.loop-k.invariant

pub loop-k-init : goal.loop-k-init
loop-k-init c = grid_start _ _ _ _ c.requires.context c.in_ok-add.ensures.ok

pub loop-k-preserved : goal.loop-k-preserved
loop-k-preserved c =
    let w = c.write_key.ensures in
    grid_more _ _ _ _ _ _ _ c.loop-k.invariant (omega arith) c.place.ensures c.in_ok-add-2.ensures.ok (record { lengths = w.lengths; others = w.others; rank = w.rank })

pub returns : goal.returns
returns c =
    let all : c.loop-k.k ≡ length c.args.keys.now.numbers.items = omega (arith, c.len-k-end.ensures) in
    empty_tree _ _ _ _ c.init.ensures.changes c.init.ensures.lays (subst (λ (k : ℕ). IsGrid (words_in c.loop-k.blocks.entries) c.args.t.now c.args.keys.now k) all c.loop-k.invariant)
