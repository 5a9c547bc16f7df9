use Rattle.std.proofs.Common.{◌≡◌, ◌+◌, ◌-◌}
use Rattle.slab_model.specs.declared.page.PageState.TheVariants.{Free}
use Rattle.slab_model.specs.State.{fill_pages}
use Rattle.slab_model.proofs.pages.clear_pages.Given as goal

abbrev pub invariant-loop-page : goal.invariant-loop-page
invariant-loop-page l = fill_pages Free l.page (l.first + l.count - l.page) l.pages ≡ fill_pages Free l.first l.count l.fn.pages
