use Rattle.std.proofs.Common.{ap, ◌∙◌}
use Rattle.shared_zone.proofs.RuleKept.{takes}
use Rattle.shared_zone.proofs.zone.take.Goals as goal

pub try_pop_as-requires-clause-rule : goal.try_pop_as-requires-clause-rule
try_pop_as-requires-clause-rule g c =
    takes _ _ _ c.requires.start.0 (ap (λ v. v.start) c.loop.invariant.1 ∙ c.requires.start.1) (ap (λ v. v.live) c.loop.invariant.1 ∙ c.requires.live)
