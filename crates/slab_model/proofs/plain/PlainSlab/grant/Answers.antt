use Rattle.slab_model.proofs.PlainLemmas.{sound_after_grant}
use Rattle.slab_model.proofs.plain.PlainSlab.grant.Goals as goal

pub invariant_of-self : goal.invariant_of-self
invariant_of-self c = sound_after_grant c.grant.result c.self.inside.parts c.grant.new.parts c.args.size c.self.invariant c.requires.some c.grant.ensures.ok c.grant.ensures.err

pub returns-clause-sound : goal.returns-clause-sound
returns-clause-sound c = sound_after_grant c.grant.result c.self.inside.parts c.grant.new.parts c.args.size c.self.invariant c.requires.some c.grant.ensures.ok c.grant.ensures.err
