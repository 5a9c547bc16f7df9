use Rattle.std.proofs.Common.{◌≡◌, ◌∙◌, ◌++◌, ◌∷◌, [], ◌+◌, ◌<◌, ◌%◌, length, get_or, set, sym, ap, subst, arith}
use Rattle.std.specs.Prelude.{Some, slice_get, slice_index}
use Rattle.std.proofs.lemmas.Option.{slice_get-get_or}
use Rattle.request_script.specs.declared.decision.Decision.{Decision}
use Rattle.replay_share.specs.Replay.{lines_of}
use Rattle.replay_workers.specs.declared.passes.Played.{Played}
use Rattle.replay_workers.proofs.InOrder.{AreTold, told-more, told-all, next-low, w-few, w-low, get_or-any, few-lines}
use Rattle.replay_workers.proofs.merging.merge.Goals as goal

pub index-requires : goal.index-requires
index-requires c =
    let n = c.args.workers in
    let lines = c.args.lines.now in
    let played = c.args.played.now in
    let told = c.loop-line.told.items in
    let i = c.loop-line.line-index in
    let line = c.line-item.result in
    let w = line.conn % n in
    let few = w-few n lines played c.requires.all i line told c.loop-line.merged.items c.requires.some c.loop-line-test.true c.line-item.is c.loop-line.invariant in
    let low = w-low n lines played c.requires.all i line told c.loop-line.merged.items c.requires.some c.loop-line-test.true c.line-item.is c.loop-line.invariant in
    let one = c.index-played-worker.result in
    let in_played : w < length played = omega (arith, c.requires.all, few) in
    let one_is : slice_get played w ≡ Some one = slice_get-get_or played w one in_played ∙ ap Some (sym c.index-played-worker.is) in
    let long : length one.decisions.items ≡ length (lines_of n w lines) = sym one.decisions.ok.0 ∙ c.requires.each w one one_is in
    let next_is : c.index-next.result.now ≡ slice_index told w = c.index-next.ensures ∙ get_or-any told w _ 0 low in
    let below = next-low n lines played c.requires.all i line told c.loop-line.merged.items c.requires.some c.loop-line-test.true c.line-item.is c.loop-line.invariant one long in
    let here : c.index-next.result.now < one.decisions.len = omega (arith, next_is, below, one.decisions.ok.0) in
    subst (λ (p : Played). c.index-next.result.now < p.decisions.len) c.index-played-worker.is here

pub overflow_add-next : goal.overflow_add-next
overflow_add-next c =
    let n = c.args.workers in
    let lines = c.args.lines.now in
    let played = c.args.played.now in
    let told = c.loop-line.told.items in
    let i = c.loop-line.line-index in
    let line = c.line-item.result in
    let w = line.conn % n in
    let few = w-few n lines played c.requires.all i line told c.loop-line.merged.items c.requires.some c.loop-line-test.true c.line-item.is c.loop-line.invariant in
    let low = w-low n lines played c.requires.all i line told c.loop-line.merged.items c.requires.some c.loop-line-test.true c.line-item.is c.loop-line.invariant in
    let one = c.index-played-worker.result in
    let in_played : w < length played = omega (arith, c.requires.all, few) in
    let one_is : slice_get played w ≡ Some one = slice_get-get_or played w one in_played ∙ ap Some (sym c.index-played-worker.is) in
    let long : length one.decisions.items ≡ length (lines_of n w lines) = sym one.decisions.ok.0 ∙ c.requires.each w one one_is in
    let next_is : c.index-next.result.now ≡ slice_index told w = c.index-next.ensures ∙ get_or-any told w _ 0 low in
    let below = next-low n lines played c.requires.all i line told c.loop-line.merged.items c.requires.some c.loop-line-test.true c.line-item.is c.loop-line.invariant one long in
    omega (arith, next_is, below, long, few-lines n w lines, c.requires.few)

pub loop-line-preserved : goal.loop-line-preserved
loop-line-preserved c =
    let n = c.args.workers in
    let lines = c.args.lines.now in
    let played = c.args.played.now in
    let told = c.loop-line.told.items in
    let i = c.loop-line.line-index in
    let line = c.line-item.result in
    let merged = c.loop-line.merged.items in
    let w = line.conn % n in
    let few = w-few n lines played c.requires.all i line told merged c.requires.some c.loop-line-test.true c.line-item.is c.loop-line.invariant in
    let low = w-low n lines played c.requires.all i line told merged c.requires.some c.loop-line-test.true c.line-item.is c.loop-line.invariant in
    let one = c.index-played-worker.result in
    let in_played : w < length played = omega (arith, c.requires.all, few) in
    let one_is : slice_get played w ≡ Some one = slice_get-get_or played w one in_played ∙ ap Some (sym c.index-played-worker.is) in
    let long : length one.decisions.items ≡ length (lines_of n w lines) = sym one.decisions.ok.0 ∙ c.requires.each w one one_is in
    let next_is : c.index-next.result.now ≡ slice_index told w = c.index-next.ensures ∙ get_or-any told w _ 0 low in
    let decision : Decision = c.index.result.now in
    let more = told-more n lines played c.requires.all i line told merged c.requires.some c.loop-line-test.true c.line-item.is c.loop-line.invariant one one_is long decision (c.index.ensures ∙ ap (λ (p : Played). get_or p.decisions.items c.index-next.result.now decision) (sym c.index-played-worker.is) ∙ ap (λ k. get_or one.decisions.items k decision) next_is) in
    subst (λ l. AreTold n lines played (i + 1) (set told w (c.index-next.result.now + 1)) l) (sym c.in_ok-push.ensures.items)
    (subst (λ x. AreTold n lines played (i + 1) (set told w (x + 1)) (merged ++ decision ∷ [])) (sym next_is) more)

pub returns : goal.returns
returns c = told-all c.args.workers c.args.lines.now c.args.played.now c.requires.all c.loop-line.line-index c.loop-line.told.items c.loop-line.merged.items c.loop-line-test.false c.loop-line.auto.line-index-end c.loop-line.invariant
    (λ k one is. sym one.decisions.ok.0 ∙ c.requires.each k one is)
