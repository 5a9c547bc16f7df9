use Rattle.std.proofs.Common.{rules, List, ◌≡◌, ◌∙◌, ◌++◌, ◌∷◌, [], take, length, sym, ap, refl, ◌+◌}
use Rattle.request_script.specs.Turn.{Exchange}
use Rattle.replay_log.specs.Limits.{IsLineOf}
use Rattle.request_script.specs.Script.{state_of}
use Rattle.replay_share.specs.Replay.{lines_of}
use Rattle.replay_share.proofs.Going.{before_all}
use Rattle.replay_share.proofs.Sharing.{mine-more, other-more, mine-fits, mine-all, mine-lines, decided_as, goes-here, goes-by}
use Rattle.replay_share.proofs.share.replay_share.Goals.{then-line-workers+in_ok-decide+in_ok-push, else-line-workers}
use Rattle.replay_share.proofs.share.replay_share.Goals as goal

pub loop-line-init : goal.loop-line-init
loop-line-init g c = λ start room served fits.
    before_all (g.A.Answers.serves start c.args.zones.now c.args.config.now.zones room) c.args.config.now (state_of c.new-script.result) c.in_ok-decisions.decisions.items c.new-script.ensures served c.in_ok-decisions.ensures.items

pub decide-requires-clause-before : goal.decide-requires-clause-before
decide-requires-clause-before g c =
    let r = c.requires.fresh in
    let lines = c.args.lines.now in
    let i = c.loop-line.line-index in
    let mine = goes-here c.args.workers c.args.worker c.line-item.result c.if-line-workers.true in (
      r.0,
      lines_of c.args.workers c.args.worker (take i lines),
      c.loop-line.decisions.items,
      r.1,
      mine-lines c.args.workers c.args.worker (IsLineOf (length c.args.config.now.locations)) lines i c.requires.lines,
      mine-fits c.args.workers c.args.worker lines i r.1 c.line-item.result c.loop-line-test.true c.line-item.is mine r.3,
      c.loop-line.invariant r.0 r.1 r.2 r.3,
    )

pub loop-line-preserved : goal.loop-line-preserved
loop-line-preserved g c = λ start room served fits.
    let lines = c.args.lines.now in
    let i = c.loop-line.line-index in
    let had = c.loop-line.invariant start room served fits in
    let S : g.row.A.Denot → List Exchange → Type 0 = λ z. g.A.Answers.serves start z c.args.config.now.zones room in
    elim c.if-line-workers.branch [
      | then-line-workers+in_ok-decide+in_ok-push w ↦
          let mine = goes-here c.args.workers c.args.worker c.line-item.result w.if-line-workers.true in
          let all = mine-lines c.args.workers c.args.worker (IsLineOf (length c.args.config.now.locations)) lines i c.requires.lines in
          let room_left = mine-fits c.args.workers c.args.worker lines i room c.line-item.result c.loop-line-test.true c.line-item.is mine fits in
          let now = w.in_ok-decide.ensures start (lines_of c.args.workers c.args.worker (take i lines)) c.loop-line.decisions.items room all room_left had in
          decided_as S c.args.config.now w.decide.new.zones c.if-line-workers.zones w.decide.new.script c.if-line-workers.script
          (lines_of c.args.workers c.args.worker (take i lines) ++ c.line-item.result ∷ []) (lines_of c.args.workers c.args.worker (take (i + 1) lines))
          (c.loop-line.decisions.items ++ w.in_ok-decide.field-0 ∷ []) c.if-line-workers.decisions.items w.zones-is w.script-is (mine-more c.args.workers c.args.worker lines i c.line-item.result c.loop-line-test.true c.line-item.is mine) (ap (λ d. d.items) w.decisions-is ∙ w.in_ok-push.ensures.items) now
      | else-line-workers w ↦
          let other = goes-by c.args.workers c.args.worker c.line-item.result w.if-line-workers.false in
          decided_as S c.args.config.now c.loop-line.zones c.if-line-workers.zones c.loop-line.script c.if-line-workers.script
          (lines_of c.args.workers c.args.worker (take i lines)) (lines_of c.args.workers c.args.worker (take (i + 1) lines))
          c.loop-line.decisions.items c.if-line-workers.decisions.items w.zones-is w.script-is (other-more c.args.workers c.args.worker lines i c.line-item.result c.loop-line-test.true c.line-item.is other) (ap (λ d. d.items) w.decisions-is) had
    ]
