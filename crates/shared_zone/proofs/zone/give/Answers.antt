use Rattle.shared_zone.proofs.RuleKept.{gives, gives_learns}
use Rattle.shared_zone.proofs.zone.give.Goals as goal

pub push_as-requires-clause-rule : goal.push_as-requires-clause-rule
push_as-requires-clause-rule g c = (
  gives _ _ _ _ _ c.requires.entry.0 c.requires.run.0 c.requires.run.1 c.requires.run.2 c.requires.rooms c.requires.holding c.requires.entry.1 c.requires.entry.2 c.requires.within,
  gives_learns _ _ _ _ c.requires.run.1 c.requires.holding,
)
