use Rattle.std.proofs.Common.{◌≡◌, length, map, arith}
use Rattle.std.proofs.lemmas.List.{length_push}
use Rattle.std.proofs.lemmas.Slice.Zip.{zip_turn, zip_end}
use Rattle.zone_watch.proofs.Showing.{decided-none, decided-more, decided-whole, decided-left, empty-map}
use Rattle.zone_watch.proofs.show.show_decisions.Goals as goal

pub loop-line-init : goal.loop-line-init
loop-line-init g c = decided-none (map g.W.Watcher.watched c.args.list.now.items)

pub returns-then-is_empty : goal.returns-then-is_empty
returns-then-is_empty g c =
    let none : length c.loop-line.list.items ≡ 0 = grind (arith, c.is_empty.ensures, c.if-is_empty.true) in
    decided-left c.args.lines.now c.args.decisions.now (length c.loop-line.yielded) _ _ c.loop-line.invariant (empty-map g.W.Watcher.watched c.loop-line.list.items none)

pub loop-line-preserved : goal.loop-line-preserved
loop-line-preserved g c =
    let turn = zip_turn c.args.lines.now c.args.decisions.now c.loop-line.yielded c.into_iter-line-iterator.result c.loop-line.line-iterator c.next.new.self c.next.result (cc) (cc) c.loop-line.yielded_by (c.in-Some.line, c.in-Some.decision) c.in-Some.is c.next.ensures.steps in
    decided-more c.args.lines.now c.args.decisions.now (length c.loop-line.yielded) _ c.in-Some.line.now c.in-Some.decision.now _ _ _ turn.0 turn.1 (turn.2 c.in-Some.line.now) (turn.3 c.in-Some.decision.now)
    c.loop-line.invariant c.show_notice.ensures (length_push c.loop-line.yielded (c.in-Some.line, c.in-Some.decision))

pub returns : goal.returns
returns g c =
    let end = zip_end c.args.lines.now c.args.decisions.now c.loop-line.yielded c.into_iter-line-iterator.result c.loop-line.line-iterator c.next.new.self c.next.result (cc) (cc) c.loop-line.yielded_by c.in-None.is c.next.ensures.steps in
    decided-whole c.args.lines.now c.args.decisions.now (length c.loop-line.yielded) _ _ c.loop-line.invariant end
