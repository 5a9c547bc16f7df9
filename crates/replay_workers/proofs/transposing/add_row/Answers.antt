use Rattle.std.proofs.Common.{vec_items, vec_len, ◌≡◌, ◌∙◌, ◌<◌, ◌-◌, sym, length, arith}
use Rattle.replay_workers.proofs.ColumnCells.{added-step}
use Rattle.replay_workers.proofs.transposing.add_row.Goals as goal

pub loop-item-preserved : goal.loop-item-preserved
loop-item-preserved g c =
    let old = c.loop-item.invariant in
    let place_is : vec_len c.pop.new.self ≡ c.loop-item.place - 1 = omega (arith, c.in-Some.ensures.len, old.length) in
    let low : c.loop-item.place - 1 < length c.loop-item.columns.items = omega (arith, c.in-Some.ensures.len, old.length, old.within, c.loop-item.columns.ok.0) in
    record {
      length = place_is;
      same = old.same;
      within = omega (arith, old.within);
      added = added-step vec_items c.loop-item.columns.items c.loop-item.row.items c.pop.new.self.items c.in-Some.item c.index_mut.result.now c.push.new.self (c.loop-item.place - 1) c.in-Some.ensures.items (sym c.pop.new.self.ok.0 ∙ place_is) low c.index_mut.ensures.value c.in_ok-push.ensures.items ∙ old.added;
    }
