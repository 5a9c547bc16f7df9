use Rattle.std.proofs.Common.{◌<◌, ◌*◌, ◌^◌, ap, subst, arith}
use Rattle.slab_model.specs.declared.page.PageState.{PageState}
use Rattle.slab_model.specs.Inside.{IsSmallPage}
use Rattle.slab_model.proofs.ClassLemmas.{cuts}
use Rattle.slab_model.proofs.live.live_in_page.Goals as goal

pub overflow_mul-result : goal.overflow_mul-result
overflow_mul-result c = let h : c.in-First.pages < 2 ^ 32 = subst (λ (t : PageState). IsSmallPage c.args.shape t) c.in-First.is c.requires.page in omega (arith, h, ap (λ k. k * c.in-First.pages) c.page_size.ensures)

pub class_size-size-requires : goal.class_size-size-requires
class_size-size-requires c = let h : c.in-Class.class < 9 = subst (λ (t : PageState). IsSmallPage c.args.shape t) c.in-Class.is c.requires.page in omega (arith, h)

pub nonzero_rem-place : goal.nonzero_rem-place
nonzero_rem-place c = let h : c.in-Class.class < 9 = subst (λ (t : PageState). IsSmallPage c.args.shape t) c.in-Class.is c.requires.page in omega (arith, (cuts c.args.shape c.in-Class.class h).some, c.class_size-size.ensures)

pub nonzero_div-place : goal.nonzero_div-place
nonzero_div-place c = let h : c.in-Class.class < 9 = subst (λ (t : PageState). IsSmallPage c.args.shape t) c.in-Class.is c.requires.page in omega (arith, (cuts c.args.shape c.in-Class.class h).some, c.class_size-size.ensures)
