use Rattle.std.proofs.Common.{sym, subst, refl}
use Rattle.slab_model.specs.Geometry.{shape_of}
use Rattle.slab_model.specs.State.{Slab}
use Rattle.slab_model.specs.Soundness.{IsSound}
use Rattle.slab_model.proofs.SoundLemmas.{IsSound-fresh}
use Rattle.slab_model.proofs.plain.PlainSlab.open.Goals as goal

pub invariant_of-result : goal.invariant_of-result
invariant_of-result c = subst (λ (t : Slab). IsSound t) (sym (c.in_ok-parts.ensures {u = tt})) (IsSound-fresh (shape_of c.args.bytes) (record { large = c.requires.large; small = c.requires.small; shift = refl }))
