use Rattle.std.proofs.Common.{ℕ, sym, subst}
use Rattle.slab_model.specs.declared.runs.Run.{Run}
use Rattle.slab_pages.specs.Places.{Image}
use Rattle.slab_pages.specs.Layout.{CanComeBack, MayPut}
use Rattle.slab_pages.specs.RunSteps.{LaysList}
use Rattle.slab_pages.proofs.PagesLemmas.{runs-list}
use Rattle.slab_pages.proofs.pages.Pages.can_put.Goals as goal

pub can_come_back-requires-clause-laid : goal.can_come_back-requires-clause-laid
can_come_back-requires-clause-laid c =
    let g = c.self.inside.geometry in
    (c.self.invariant.0, subst (λ (count : ℕ). LaysList count c.self.inside.region c.self.invariant.0) (sym g.pages_are) (runs-list _ _ g.limits c.self.invariant.1))

pub returns : goal.returns
returns c =
    let g = c.self.inside.geometry in
    let run : Run = record { first = c.args.p.number; pages = c.args.n } in
    let w = c.self.invariant in
    let list = subst (λ (count : ℕ). LaysList count c.self.inside.region w.0) (sym g.pages_are) (runs-list _ _ g.limits w.1) in (
      λ yes.
          let used = subst (λ (count : ℕ). CanComeBack count c.self.inside.region w.0 run) g.pages_are ((c.can_come_back.ensures w.0 list).0 yes) in
          subst (λ (image : Image). MayPut image run) c.self.view_is (w.0, w.1, used),
      λ may.
          let here = subst (λ (image : Image). MayPut image run) (sym c.self.view_is) may in
          let laid = subst (λ (count : ℕ). LaysList count c.self.inside.region here.0) (sym g.pages_are) (runs-list _ _ g.limits here.1) in
          (c.can_come_back.ensures here.0 laid).1 (subst (λ (count : ℕ). CanComeBack count c.self.inside.region here.0 run) (sym g.pages_are) here.2),
    )
