use Rattle.std.proofs.Common.{◌<◌, length, sym, arith, ◌∙◌}
use Rattle.zone_watch.proofs.Showing.{keeps, leaves}
use Rattle.zone_watch.proofs.show.show_each.Goals.{in-Keep, in-Leave}
use Rattle.zone_watch.proofs.show.show_each.Goals as goal

pub loop-i-preserved : goal.loop-i-preserved
loop-i-preserved g c =
    let low_list : c.loop-i.i < length c.loop-i.list = omega (arith, c.loop-i-test.true, c.loop-i.auto.list) in
    elim c.match-show.branch [
      | in-Keep w ↦
          let both = keeps g.W.Watcher.watched c.args.notice.now c.args.list.now c.loop-i.list c.loop-i.i c.loop-i.kept c.index-list-i.result c.show.new.watcher
          c.loop-i-test.true low_list c.loop-i.invariant.within c.loop-i.invariant.kept c.loop-i.invariant.rest c.show.ensures.seen (sym c.show.ensures.answered ∙ w.in-Keep.is) in
          rw (w.list-is, w.swap.ensures.after, w.kept-is) (record { within = omega (arith, c.loop-i.invariant.within); kept = both.0; rest = both.1 })
      | in-Leave w ↦
          let both = leaves g.W.Watcher.watched c.args.notice.now c.args.list.now c.loop-i.list c.loop-i.i c.loop-i.kept c.index-list-i.result c.show.new.watcher
          c.loop-i-test.true low_list c.loop-i.invariant.within c.loop-i.invariant.kept c.loop-i.invariant.rest (sym c.show.ensures.answered ∙ w.in-Leave.is) in
          rw (w.list-is, w.kept-is) (record { within = omega (arith, c.loop-i.invariant.within); kept = both.0; rest = both.1 })
    ]
