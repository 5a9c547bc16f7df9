use Rattle.std.proofs.Common.{◌+◌, ◌-◌, ◌/◌, ap, arith, ◌∙◌}
use Rattle.std.specs.Prelude.{slice_set}
use Rattle.slab_pages.specs.Places.{descriptor}
use Rattle.slab_pages.proofs.PlaceLemmas.{descriptor-word}
use Rattle.slab_pages.proofs.WriteLemmas.{begun, length-written}
use Rattle.slab_pages.proofs.descriptors.begin_run.Goals as goal

pub store-requires : goal.store-requires
store-requires c = omega (arith, c.offset_of.ensures, descriptor-word (c.args.first + c.args.pages - 1))

pub store-requires-2 : goal.store-requires-2
store-requires-2 c = omega (arith, c.offset_of-o.ensures, descriptor-word c.args.first, length-written _ _ _ _ c.store.ensures)

pub returns : goal.returns
returns c = begun c.args.region.now c.store.new.self c.store-2.new.self (record { first = c.args.first; pages = c.args.pages }) c.requires.some c.requires.room
    (c.store.ensures ∙ ap (λ o. slice_set c.args.region.now (o / 8 + 2) c.offset_of-o.result) c.offset_of.ensures ∙ ap (λ o. slice_set c.args.region.now (descriptor (c.args.first + c.args.pages - 1) / 8 + 2) o) c.offset_of-o.ensures)
    (c.store-2.ensures ∙ ap (λ o. slice_set c.store.new.self (o / 8) c.args.pages) c.offset_of-o.ensures)
