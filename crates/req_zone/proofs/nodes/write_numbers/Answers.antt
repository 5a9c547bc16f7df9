use Rattle.req_zone.proofs.NodeLemmas.{sets_numbers}
use Rattle.req_zone.proofs.nodes.write_numbers.Goals as goal

pub returns-clause-sets : goal.returns-clause-sets
returns-clause-sets g c = sets_numbers _ _ _ _ c.args.b.at c.args.numbers c.requires c.set.ensures.sets c.set-2.ensures.sets c.set-3.ensures.sets
