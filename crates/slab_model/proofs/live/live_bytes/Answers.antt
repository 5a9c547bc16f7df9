use Rattle.std.proofs.Common.{◌<◌, ◌-◌, ◌/◌, length, sym, subst, arith}
use Rattle.std.proofs.lemmas.Grind.{common_steps}
use Rattle.slab_model.specs.declared.page.PageState.{PageState}
use Rattle.slab_model.specs.Inside.{IsSmallPage}
use Rattle.slab_model.specs.Inside.{slab_of}
use Rattle.slab_model.proofs.Bounds.{small_page}
use Rattle.slab_model.proofs.live.live_bytes.Goals as goal

pub live_in_page-requires-clause-page : goal.live_in_page-requires-clause-page
live_in_page-requires-clause-page c =
    let page = (c.args.at - c.start_offset-start.result) / c.page_size-size.result in
    let low : page < length c.args.parts.now.pages.items = grind (arith, common_steps) in
    subst (λ (t : PageState). IsSmallPage c.args.parts.now.shape t) (sym c.index.ensures) (small_page (slab_of c.args.parts.now) page c.index.result.now c.requires low)
