use Rattle.std.proofs.Common.{arith}
use Rattle.conn_zone.proofs.connections.open_connection.Goals as goal

pub find_node-requires : goal.find_node-requires
find_node-requires g c = (c.requires.0, c.requires.1.words)

pub open_found-requires-clause-limit : goal.open_found-requires-clause-limit
open_found-requires-clause-limit g c = let asked = c.requires.2.asked in omega (arith, asked.1.1)

pub open_found-requires-clause-there : goal.open_found-requires-clause-there
open_found-requires-clause-there g c =
    let s = c.requires.0 in
    let l = c.requires.1.words in
    let found = c.in-Some.ensures.found s l in
    (s, _, _, found.0, l, found.1)

pub open_missing-requires-clause-key : goal.open_missing-requires-clause-key
open_missing-requires-clause-key g c = c.requires.2.asked.0

pub open_missing-requires-clause-there : goal.open_missing-requires-clause-there
open_missing-requires-clause-there g c = (c.requires.0, c.requires.1, c.in-None.ensures.found c.requires.0 c.requires.1.words)

pub returns-in-Some-clause-reply : goal.returns-in-Some-clause-reply
returns-in-Some-clause-reply g c s l ready = let found = c.in-Some.ensures.found s l.words in c.open_found.ensures.reply s _ c.args.key.now found.0 l.words found.1

pub returns-in-Some-clause-laid : goal.returns-in-Some-clause-laid
returns-in-Some-clause-laid g c s l ready = let found = c.in-Some.ensures.found s l.words in c.open_found.ensures.laid s _ _ c.args.key.now found.0 l found.1

pub returns-in-Some-clause-cost : goal.returns-in-Some-clause-cost
returns-in-Some-clause-cost g c s l ready = omega (arith, c.in-Some.ensures.cost s l.words, c.open_found.ensures.cost)

pub returns-in-None-clause-reply : goal.returns-in-None-clause-reply
returns-in-None-clause-reply g c s l ready = c.open_missing.ensures.reply s c.args.limit l (c.in-None.ensures.found s l.words)

pub returns-in-None-clause-laid : goal.returns-in-None-clause-laid
returns-in-None-clause-laid g c s l ready = c.open_missing.ensures.laid s c.args.limit l (c.in-None.ensures.found s l.words)

pub returns-in-None-clause-cost : goal.returns-in-None-clause-cost
returns-in-None-clause-cost g c s l ready = omega (arith, c.in-None.ensures.cost s l.words, c.open_missing.ensures.cost s l (c.in-None.ensures.found s l.words))
