use Rattle.shared_zone.proofs.RuleKept.{notes}
use Rattle.shared_zone.proofs.zone.SharedZone.note.Goals as goal

pub another-requires-clause-rule : goal.another-requires-clause-rule
another-requires-clause-rule g c = notes _ _ _ _ c.pass.invariant.1.1
