use Rattle.std.proofs.Common.{◌≡◌, ◌+◌, ◌-◌}
use Rattle.slab_model.specs.declared.page.PageState.TheVariants.{Later}
use Rattle.slab_model.specs.State.{fill_pages}
use Rattle.slab_model.specs.Grant.{use_pages}
use Rattle.slab_model.proofs.pages.use_pages.Given as goal

abbrev pub invariant-loop-page : goal.invariant-loop-page
invariant-loop-page l = fill_pages Later l.page (l.first + l.count - l.page) l.pages ≡ use_pages l.first l.count l.fn.pages
