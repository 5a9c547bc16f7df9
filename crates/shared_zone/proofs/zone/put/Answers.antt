use Rattle.shared_zone.proofs.RuleKept.{opens_at, opens_learns_at}
use Rattle.shared_zone.proofs.zone.put.Goals as goal

pub push_as-requires-clause-rule : goal.push_as-requires-clause-rule
push_as-requires-clause-rule g c = (opens_at _ _ _ _ _ c.requires.run.0 c.requires.first c.requires.new c.requires.run.1, opens_learns_at _ _ _ c.requires.first)
