use Rattle.std.proofs.Common.{◌+◌, ◌-◌, sym, ◌∙◌, arith}
use Rattle.slab_model.specs.declared.page.PageState.TheVariants.{Free}
use Rattle.slab_model.proofs.PageLoops.{fill_step}
use Rattle.slab_model.proofs.pages.clear_pages.Goals as goal

pub loop-page-preserved : goal.loop-page-preserved
loop-page-preserved c =
    let page = c.loop-page.page in
    let end = c.args.first + c.args.count in
    sym (fill_step Free page (end - page) (end - (page + 1)) c.loop-page.pages (omega arith)) ∙ c.loop-page.invariant
