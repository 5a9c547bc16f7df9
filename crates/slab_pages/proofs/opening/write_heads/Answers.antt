use Rattle.std.proofs.Common.{◌+◌, set, ap, arith, ◌∙◌}
use Rattle.slab_pages.specs.Places.{byte_of}
use Rattle.slab_pages.proofs.OpeningLemmas.{heads_more}
use Rattle.slab_pages.proofs.opening.write_heads.Goals as goal

pub loop-class-preserved : goal.loop-class-preserved
loop-class-preserved c =
    heads_more _ _ _ c.loop-class.class c.loop-class.invariant (omega (arith, c.requires, c.loop-class.invariant.same_length, c.loop-class-test.true))
    (c.store.ensures ∙ ap (λ o. set c.loop-class.region (c.head_at-head.result + 1) o) c.byte_offset.ensures ∙ ap (λ h. set c.loop-class.region (h + 1) (byte_of h)) c.head_at-head.ensures)
