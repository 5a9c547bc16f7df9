use Rattle.std.proofs.Common.{sym, subst}
use Rattle.slab_model.specs.Inside.{slab_of}
use Rattle.slab_model.specs.State.{Slab}
use Rattle.slab_model.specs.Blocks.{IsLive}
use Rattle.slab_model.proofs.PlainLemmas.{sound_after_return}
use Rattle.slab_model.proofs.plain.PlainSlab.give_back.Goals as goal

pub invariant_of-self : goal.invariant_of-self
invariant_of-self c =
    let live : IsLive (slab_of c.self.inside.parts) c.args.block.at = subst (λ (t : Slab). IsLive t c.args.block.at) (sym c.self.view_is) c.requires in
    sound_after_return c.give_back.result c.self.inside.parts c.give_back.new.parts c.args.block.at c.self.invariant live c.give_back.ensures.ok c.give_back.ensures.err

pub returns-clause-sound : goal.returns-clause-sound
returns-clause-sound c =
    let live : IsLive (slab_of c.self.inside.parts) c.args.block.at = subst (λ (t : Slab). IsLive t c.args.block.at) (sym c.self.view_is) c.requires in
    sound_after_return c.give_back.result c.self.inside.parts c.give_back.new.parts c.args.block.at c.self.invariant live c.give_back.ensures.ok c.give_back.ensures.err
