use Rattle.std.proofs.Common.{◌≡◌, ◌++◌, ℕ, length, take, subst, sym}
use Rattle.std.specs.List.{flat_map}
use Rattle.std.proofs.lemmas.List.{length_push}
use Rattle.std.proofs.lemmas.Slice.Zip.{zip_turn}
use Rattle.replay_text.specs.ReplayText.{decided_line}
use Rattle.replay_text.proofs.TextLemmas.{decisions-grow}
use Rattle.replay_text.proofs.decisions.push_decisions.Goals as goal

pub loop-line-preserved : goal.loop-line-preserved
loop-line-preserved c decided lines_are decisions_are =
    let turn = zip_turn c.args.lines.now c.args.decisions.now c.loop-line.yielded c.into_iter-line-iterator.result c.loop-line.line-iterator c.next.new.self c.next.result (cc) (cc) c.loop-line.yielded_by (c.in-Some.line, c.in-Some.decision) c.in-Some.is c.next.ensures.steps in
    subst (λ (n : ℕ). c.push_decision.new.text.items ≡ c.args.text.now.items ++ flat_map (decided_line c.args.config.now) (take n decided)) (sym (length_push c.loop-line.yielded (c.in-Some.line, c.in-Some.decision)))
    (decisions-grow c.args.config.now c.args.text.now.items c.loop-line.text.items c.push_decision.new.text.items c.args.lines.now c.args.decisions.now (length c.loop-line.yielded) c.in-Some.line.now c.in-Some.decision.now
    turn.0 (turn.2 c.in-Some.line.now) (turn.3 c.in-Some.decision.now) decided lines_are decisions_are (c.loop-line.invariant decided lines_are decisions_are) c.in_ok-push_decision.ensures)
