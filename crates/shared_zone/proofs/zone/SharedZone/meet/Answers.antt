use Rattle.std.proofs.Common.{ap, ◌∙◌}
use Rattle.crossbeam_queue.specs.Passes.{view}
use Rattle.shared_zone.proofs.RuleKept.{meets, meets_learns}
use Rattle.shared_zone.proofs.Calls.{met_begins}
use Rattle.shared_zone.proofs.zone.SharedZone.meet.Goals as goal

pub absorb-requires-clause-rule : goal.absorb-requires-clause-rule
absorb-requires-clause-rule g c = meets _ _ _ _ _ _ _ c.pass.invariant.1.1 c.note.invariant.1.1 c.pass.invariant.4 c.note.invariant.2

pub learn_as-requires-clause-rule : goal.learn_as-requires-clause-rule
learn_as-requires-clause-rule g c =
    let r = c.absorb.ensures.rule in
    meets_learns _ _ _ _ (ap (λ v. v.start) r ∙ c.pass.invariant.1.1) (ap (λ v. v.live) r ∙ c.pass.invariant.3)

pub returns-clause-begins : goal.returns-clause-begins
returns-clause-begins g c =
    met_begins (view c.pass.inside.seat) (view c.note.inside.seat) (view c.absorb.new.pass) (view c.learn_as.new.pass) _ _ c.absorb.ensures.rule c.learn_as.ensures.queue.1 c.learn_as.ensures.rule.1 (ap (λ s. s.seen) c.pass.view_is) (ap (λ s. s.seen) c.note.view_is)
