use Rattle.std.proofs.Common.{◌≡◌, replicate}
use Rattle.slab_model.specs.declared.page.PageState.TheVariants.{Free}
use Rattle.slab_model.proofs.pages.free_pages.Given as goal

abbrev pub invariant-loop-page : goal.invariant-loop-page
invariant-loop-page l = l.pages.items ≡ replicate l._page Free
