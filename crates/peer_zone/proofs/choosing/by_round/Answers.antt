use Rattle.std.proofs.Common.{arith}
use Rattle.peer_zone.specs.Choice.{raised_in}
use Rattle.peer_zone.specs.Numbers.{part_of}
use Rattle.peer_zone.proofs.RecordLemmas.{peer-below, length-laid}
use Rattle.peer_zone.proofs.ChangeLemmas.{nearest-there, round-some}
use Rattle.peer_zone.proofs.choosing.by_round.Goals as goal

pub take-requires-clause-there : goal.take-requires-clause-there
take-requires-clause-there g c =
    let r = c.requires.there in
    let t = nearest-there (g.B.Blocks.words c.args.blocks.now) (g.B.Blocks.words c.raise_all-raised.new.blocks) (part_of c.args.takers.now) c.args.first c.args.servers c.raise_all-raised.result c.in-Some.nearest c.in-Some.is r.0 r.1 r.2 (c.raise_all-raised.ensures.does r.0 r.1 r.2) in
    (raised_in (part_of c.args.takers.now) 0 r.0, r.1, t.0, t.1, t.2)

pub returns-in-Some-clause-does : goal.returns-in-Some-clause-does
returns-in-Some-clause-does g c = λ ps ats chain. round-some (g.B.Blocks.words c.args.blocks.now) (g.B.Blocks.words c.raise_all-raised.new.blocks) (g.B.Blocks.words c.take.new.blocks) (part_of c.args.takers.now) c.args.takers.now.moment c.args.first c.args.servers c.raise_all-raised.result c.in-Some.nearest c.in-Some.is c.take.ensures.does ps ats chain (c.raise_all-raised.ensures.does ps ats chain)

pub returns-in-Some-clause-cost : goal.returns-in-Some-clause-cost
returns-in-Some-clause-cost g c =
    let r = c.requires.there in
    let t = nearest-there (g.B.Blocks.words c.args.blocks.now) (g.B.Blocks.words c.raise_all-raised.new.blocks) (part_of c.args.takers.now) c.args.first c.args.servers c.raise_all-raised.result c.in-Some.nearest c.in-Some.is r.0 r.1 r.2 (c.raise_all-raised.ensures.does r.0 r.1 r.2) in
    let low = peer-below (raised_in (part_of c.args.takers.now) 0 r.0) c.in-Some.nearest.index t.0 t.1.there in
    omega (arith, low, length-laid (g.B.Blocks.words c.raise_all-raised.new.blocks) (raised_in (part_of c.args.takers.now) 0 r.0) r.1 t.1.laid, length-laid (g.B.Blocks.words c.args.blocks.now) r.0 r.1 r.2.laid, r.2.servers_are, c.take.ensures.cost, c.raise_all-raised.ensures.cost)
