use Rattle.std.proofs.Common.{rules, ◌≡◌, ◌++◌, ◌∙◌, sym, arith}
use Rattle.request_script.specs.Script.{state_of}
use Rattle.replay_share.proofs.Going.{asks_call, decides_so, starts, can_ask, ends, waiting, may_answer, goes_on, is_decided}
use Rattle.replay_share.proofs.share.decide.Goals as goal

pub loop-init : goal.loop-init
loop-init g c = λ start lines decisions room all fits before.
    starts c.args.config.now c.requires.config c.args.line.now c.requires.line lines all decisions (state_of c.args.script.now) (g.A.Answers.serves start c.args.zones.now c.args.config.now.zones room) (state_of c.begin.new.self) c.in_ok-next.next before c.in_ok-next.ensures.value

pub returns-in-Told : goal.returns-in-Told
returns-in-Told g c = λ start lines decisions room all fits before.
    let u = c.loop.invariant start lines decisions room all fits before in
    let d = decides_so u.turn c.in-Told.decision (sym c.in-Told.is ∙ u.says) in
    is_decided c.args.config.now c.requires.config c.args.line.now c.requires.line lines all decisions (state_of c.args.script.now) (g.A.Answers.serves start c.args.zones.now c.args.config.now.zones room) before
    (g.A.Answers.serves start c.loop.zones c.args.config.now.zones room) (state_of c.loop.script) c.loop.next c.loop.counter c.in-Told.decision d.0 u d.1

pub ask-reply-requires : goal.ask-reply-requires
ask-reply-requires g c =
    let b = c.requires.before in
    let u = c.loop.invariant b.0 b.1 b.2 b.3 b.4 b.5 b.6 in
    let a = asks_call u.turn c.in-Ask.call (sym c.in-Ask.is ∙ u.says) in (
      b.0,
      c.args.config.now.zones,
      b.3,
      b.6.asked ++ u.since,
      u.served,
      can_ask c.args.config.now c.requires.config c.args.line.now c.requires.line b.1 b.4 b.2 (state_of c.args.script.now) (g.A.Answers.serves b.0 c.args.zones.now c.args.config.now.zones b.3) b.6 b.3 u.since u.turn c.in-Ask.call a.0 b.5 u.leads a.1,
    )

pub answer-requires-clause-under_way : goal.answer-requires-clause-under_way
answer-requires-clause-under_way g c =
    let b = c.requires.before in
    let u = c.loop.invariant b.0 b.1 b.2 b.3 b.4 b.5 b.6 in
    let a = asks_call u.turn c.in-Ask.call (sym c.in-Ask.is ∙ u.says) in
    let S = g.A.Answers.serves b.0 c.args.zones.now c.args.config.now.zones b.3 in
    may_answer c.args.config.now c.requires.config c.args.line.now c.requires.line b.1 b.4 b.2 (state_of c.args.script.now) S b.6 (state_of c.loop.script).stage a.0
    (waiting c.args.config.now c.requires.config c.args.line.now c.requires.line b.1 b.4 b.2 (state_of c.args.script.now) S b.6 (state_of c.loop.script) u.turn c.in-Ask.call a.0 u.state a.1)

pub loop-preserved : goal.loop-preserved
loop-preserved g c = λ start lines decisions room all fits before.
    let u = c.loop.invariant start lines decisions room all fits before in
    let a = asks_call u.turn c.in-Ask.call (sym c.in-Ask.is ∙ u.says) in
    let S = g.A.Answers.serves start c.args.zones.now c.args.config.now.zones room in
    let can = can_ask c.args.config.now c.requires.config c.args.line.now c.requires.line lines all decisions (state_of c.args.script.now) S before room u.since u.turn c.in-Ask.call a.0 fits u.leads a.1 in
    let served = c.ask-reply.ensures.served start c.args.config.now.zones room (before.asked ++ u.since) u.served can in
    let waits_so = waiting c.args.config.now c.requires.config c.args.line.now c.requires.line lines all decisions (state_of c.args.script.now) S before (state_of c.loop.script) u.turn c.in-Ask.call a.0 u.state a.1 in
    goes_on c.args.config.now c.requires.config c.args.line.now c.requires.line lines all decisions (state_of c.args.script.now) S before
    (g.A.Answers.serves start c.loop.zones c.args.config.now.zones room) (g.A.Answers.serves start c.ask-reply.new.self c.args.config.now.zones room) (state_of c.loop.script) (state_of c.answer.new.self) c.loop.next c.in_ok-next-in-Ask.next c.loop.counter c.in-Ask.call c.ask-reply.result a.0 u a.1
    (c.in_ok-next-in-Ask.ensures.value c.args.line.now.conn a.0 waits_so) served

pub unreachable-requires : goal.unreachable-requires
unreachable-requires g c =
    let b = c.requires.before in
    let u = c.loop.invariant b.0 b.1 b.2 b.3 b.4 b.5 b.6 in
    let a = asks_call u.turn c.in-Ask-next.call (sym c.in-Ask-next.is ∙ u.says) in
    let few = ends c.args.config.now c.requires.config c.args.line.now c.requires.line b.1 b.4 b.2 (state_of c.args.script.now) (g.A.Answers.serves b.0 c.args.zones.now c.args.config.now.zones b.3) b.6 u.since u.turn c.in-Ask-next.call a.0 u.leads a.1 in
    absurd (omega (arith, few, u.calls, c.loop-test.false))

pub returns : goal.returns
returns g c = λ start lines decisions room all fits before.
    let u = c.loop.invariant start lines decisions room all fits before in
    let d = decides_so u.turn c.in-Told-next.decision (sym c.in-Told-next.is ∙ u.says) in
    is_decided c.args.config.now c.requires.config c.args.line.now c.requires.line lines all decisions (state_of c.args.script.now) (g.A.Answers.serves start c.args.zones.now c.args.config.now.zones room) before
    (g.A.Answers.serves start c.loop.zones c.args.config.now.zones room) (state_of c.loop.script) c.loop.next c.loop.counter c.in-Told-next.decision d.0 u d.1
