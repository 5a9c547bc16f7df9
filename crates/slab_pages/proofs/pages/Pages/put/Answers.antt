use Rattle.std.proofs.Common.{ℕ, sym, subst}
use Rattle.slab_model.specs.declared.runs.Run.{Run}
use Rattle.slab_model.specs.Runs.{give_run}
use Rattle.slab_pages.specs.Shapes.{shape_in}
use Rattle.slab_pages.specs.Places.{Image, KeepsOthers}
use Rattle.slab_pages.specs.Layout.{LaysRuns, CanComeBack, MayPut}
use Rattle.slab_pages.specs.RunSteps.{LaysList, GivesRun}
use Rattle.slab_pages.proofs.PagesLemmas.{runs-list, given-runs, come_back-any}
use Rattle.slab_pages.proofs.pages.Pages.put.Goals as goal

pub give_pages-requires : goal.give_pages-requires
give_pages-requires c =
    let w = c.self.invariant in
    let g = c.self.inside.geometry in
    let run : Run = record { first = c.args.p.number; pages = c.args.n } in
    let used = come_back-any _ w.0 run w.1 (subst (λ (image : Image). MayPut image run) (sym c.self.view_is) c.requires) in
    (w.0, subst (λ (count : ℕ). LaysList count c.self.inside.region w.0) (sym g.pages_are) (runs-list _ _ g.limits w.1), subst (λ (count : ℕ). CanComeBack count c.self.inside.region w.0 run) (sym g.pages_are) used, w.1.counted)

pub invariant_of-self : goal.invariant_of-self
invariant_of-self c =
    let w = c.self.invariant in
    let g = c.self.inside.geometry in
    let run : Run = record { first = c.args.p.number; pages = c.args.n } in
    let used = come_back-any _ w.0 run w.1 (subst (λ (image : Image). MayPut image run) (sym c.self.view_is) c.requires) in
    let list = subst (λ (count : ℕ). LaysList count c.self.inside.region w.0) (sym g.pages_are) (runs-list _ _ g.limits w.1) in
    let gives = c.give_pages.ensures w.0 list (subst (λ (count : ℕ). CanComeBack count c.self.inside.region w.0 run) (sym g.pages_are) used) w.1.counted in
    (give_run run w.0, given-runs (shape_in g) _ _ w.0 run w.1 (subst (λ (count : ℕ). GivesRun count w.0 c.self.inside.region c.give_pages.new.region run) g.pages_are gives))

pub returns-clause-laid : goal.returns-clause-laid
returns-clause-laid c = λ runs there.
    let g = c.self.inside.geometry in
    let run : Run = record { first = c.args.p.number; pages = c.args.n } in
    let h = subst (λ (image : Image). LaysRuns image runs) (sym c.self.view_is) there in
    let used = come_back-any _ runs run h (subst (λ (image : Image). MayPut image run) (sym c.self.view_is) c.requires) in
    let list = subst (λ (count : ℕ). LaysList count c.self.inside.region runs) (sym g.pages_are) (runs-list _ _ g.limits h) in
    let gives = c.give_pages.ensures runs list (subst (λ (count : ℕ). CanComeBack count c.self.inside.region runs run) (sym g.pages_are) used) h.counted in
    given-runs (shape_in g) _ _ runs run h (subst (λ (count : ℕ). GivesRun count runs c.self.inside.region c.give_pages.new.region run) g.pages_are gives)

pub returns-clause-kept : goal.returns-clause-kept
returns-clause-kept c = λ runs there.
    let g = c.self.inside.geometry in
    let run : Run = record { first = c.args.p.number; pages = c.args.n } in
    let h = subst (λ (image : Image). LaysRuns image runs) (sym c.self.view_is) there in
    let used = come_back-any _ runs run h (subst (λ (image : Image). MayPut image run) (sym c.self.view_is) c.requires) in
    let list = subst (λ (count : ℕ). LaysList count c.self.inside.region runs) (sym g.pages_are) (runs-list _ _ g.limits h) in
    let gives = c.give_pages.ensures runs list (subst (λ (count : ℕ). CanComeBack count c.self.inside.region runs run) (sym g.pages_are) used) h.counted in
    subst (λ (image : Image). KeepsOthers (give_run run runs) image.words c.give_pages.new.region) c.self.view_is gives.kept
