use Rattle.std.proofs.Common.{◌≡◌, ◌∙◌, ap, map, length, take, arith}
use Rattle.zone_watch.proofs.Showing.{written-back}
use Rattle.zone_watch.proofs.show.show_notice.Goals as goal

pub returns : goal.returns
returns g c =
    let same : length c.show_each-kept.new.list ≡ c.args.list.now.len = omega (arith, c.show_each-kept.auto.list, c.deref_mut.ensures.len) in
    ap (map g.W.Watcher.watched) c.truncate.ensures.items
    ∙ ap (λ xs. map g.W.Watcher.watched (take c.show_each-kept.result xs)) (written-back _ _ _ same)
    ∙ (rw c.deref_mut.ensures.value at c.show_each-kept.ensures.stayed)
