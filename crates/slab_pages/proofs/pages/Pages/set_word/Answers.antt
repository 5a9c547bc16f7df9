use Rattle.std.proofs.Common.{sym, subst}
use Rattle.slab_pages.specs.Shapes.{shape_in}
use Rattle.slab_pages.specs.Places.{Image}
use Rattle.slab_pages.specs.Layout.{LaysRuns, MaySet}
use Rattle.slab_pages.proofs.PagesLemmas.{set_other}
use Rattle.slab_pages.proofs.pages.Pages.set_word.Goals as goal

pub invariant_of-self : goal.invariant_of-self
invariant_of-self c =
    let g = c.self.inside.geometry in
    let may = subst (λ (image : Image). MaySet image c.args.w) (sym c.self.view_is) c.requires in
    let w = c.self.invariant in
    (w.0, set_other (shape_in g) c.self.inside.region c.store.new.self w.0 c.args.w c.args.v g.limits w.1 may c.store.ensures)

pub returns-clause-laid : goal.returns-clause-laid
returns-clause-laid c = λ runs h.
    let g = c.self.inside.geometry in
    let may = subst (λ (image : Image). MaySet image c.args.w) (sym c.self.view_is) c.requires in
    set_other (shape_in g) c.self.inside.region c.store.new.self runs c.args.w c.args.v g.limits (subst (λ (image : Image). LaysRuns image runs) (sym c.self.view_is) h) may c.store.ensures
