use Rattle.std.proofs.Common.{subst, Option, None, arith}
use Rattle.peer_zone.specs.declared.takers.Least.{Least}
use Rattle.peer_zone.specs.Choice.{least_in}
use Rattle.peer_zone.specs.Numbers.{part_of, IsLeast}
use Rattle.peer_zone.proofs.RecordLemmas.{peer-below}
use Rattle.peer_zone.proofs.ChangeLemmas.{least-peer, least-several, least-alone}
use Rattle.peer_zone.proofs.choosing.by_least.Goals as goal

-- the witness of what the list is, and of the least busy one
pub take-requires-clause-there : goal.take-requires-clause-there
take-requires-clause-there g c =
    let r = c.requires.there in
    let is = subst (λ (x : Option Least). IsLeast x (least_in (part_of c.args.takers.now) 0 None r.0)) c.in-Some.is (c.least_busy.ensures.is r.0 r.1 None r.2 tt) in
    let t = least-peer (g.B.Blocks.words c.args.blocks.now) (part_of c.args.takers.now) c.args.first c.args.servers c.in-Some.least r.0 r.1 r.2 is in
    (r.0, r.1, t.0, t.1, t.2)

pub returns-then-count_taking-gt1-clause-does : goal.returns-then-count_taking-gt1-clause-does
returns-then-count_taking-gt1-clause-does g c = λ ps ats chain.
    let is = subst (λ (x : Option Least). IsLeast x (least_in (part_of c.args.takers.now) 0 None ps)) c.in-Some.is (c.least_busy.ensures.is ps ats None chain tt) in
    least-several (g.B.Blocks.words c.args.blocks.now) (g.B.Blocks.words c.by_round.new.blocks) c.args.takers.now c.args.takers.now.moment c.count_taking.result c.in-Some.least c.by_round.result c.requires.least c.if-count_taking-gt1.true ps ats is (c.count_taking.ensures.is ps ats chain) (c.by_round.ensures.does ps ats chain)

pub returns-clause-does : goal.returns-clause-does
returns-clause-does g c = λ ps ats chain.
    let is = subst (λ (x : Option Least). IsLeast x (least_in (part_of c.args.takers.now) 0 None ps)) c.in-Some.is (c.least_busy.ensures.is ps ats None chain tt) in
    least-alone (g.B.Blocks.words c.args.blocks.now) (g.B.Blocks.words c.take.new.blocks) c.args.takers.now c.args.takers.now.moment c.count_taking.result c.args.first c.args.servers c.in-Some.least c.requires.least c.if-count_taking-gt1.false c.take.ensures.does ps ats chain is (c.count_taking.ensures.is ps ats chain)

pub returns-clause-cost : goal.returns-clause-cost
returns-clause-cost g c =
    let r = c.requires.there in
    let is = subst (λ (x : Option Least). IsLeast x (least_in (part_of c.args.takers.now) 0 None r.0)) c.in-Some.is (c.least_busy.ensures.is r.0 r.1 None r.2 tt) in
    let t = least-peer (g.B.Blocks.words c.args.blocks.now) (part_of c.args.takers.now) c.args.first c.args.servers c.in-Some.least r.0 r.1 r.2 is in
    let low = peer-below r.0 c.in-Some.least.index t.0 t.1.there in
    omega (arith, low, r.2.servers_are, c.take.ensures.cost, c.count_taking.ensures.cost, c.least_busy.ensures.cost)
