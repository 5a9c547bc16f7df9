use Rattle.std.proofs.Common.{List, ℕ, ◌≡◌, sym, ap, subst, ◌∙◌}
use Rattle.std.proofs.lemmas.List.{get_or_default}
use Rattle.slab_model.specs.declared.page.PageState.TheVariants.{Free}
use Rattle.slab_model.specs.Inside.{slab_of}
use Rattle.slab_model.specs.State.{page_at}
use Rattle.slab_model.specs.Blocks.{used_in}
use Rattle.slab_model.specs.Soundness.{AreUsed}
use Rattle.slab_model.proofs.Bounds.{class_page}
use Rattle.slab_model.proofs.returns.give_in_page.Goals as goal

pub is_full-full-requires-clause-used : goal.is_full-full-requires-clause-used
is_full-full-requires-clause-used c =
    let old = slab_of c.args.parts.now in
    let used = used_in (page_at old.pages c.args.page) in
    let h = class_page old c.args.page c.args.class used c.requires.sound c.requires.class in
    let is : c.indexes-used.result.now ≡ used = c.indexes-used.ensures ∙ ap (λ t. used_in t) (c.index.ensures ∙ get_or_default old.pages c.args.page c.index.result.now Free h.0) in
    subst (λ (u : List ℕ). AreUsed old.shape c.args.class u) (sym is) (c.requires.sound.used c.args.page c.args.class used c.requires.class)
