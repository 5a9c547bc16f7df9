use Rattle.std.proofs.Common.{List, sym, subst}
use Rattle.slab_model.specs.declared.runs.Run.{Run}
use Rattle.slab_model.specs.Geometry.{pages_of}
use Rattle.slab_model.specs.Runs.{take_run}
use Rattle.slab_model.proofs.RunLemmas.{take_run-none}
use Rattle.slab_pages.specs.Shapes.{shape_in}
use Rattle.slab_pages.specs.Places.{Image, KeepsOthers}
use Rattle.slab_pages.specs.Layout.{LaysRuns}
use Rattle.slab_pages.proofs.GiveLemmas.{taken_total}
use Rattle.slab_pages.proofs.PagesLemmas.{runs-list, taken-runs}
use Rattle.slab_pages.proofs.pages.Pages.take.Goals as goal

pub find_fit-requires : goal.find_fit-requires
find_fit-requires c = let g = c.self.inside.geometry in (pages_of (shape_in g), c.self.invariant.0, runs-list _ _ g.limits c.self.invariant.1)

pub take_pages-requires-clause-laid : goal.take_pages-requires-clause-laid
take_pages-requires-clause-laid c =
    let g = c.self.inside.geometry in
    let list = runs-list _ _ g.limits c.self.invariant.1 in
    (pages_of (shape_in g), c.self.invariant.0, list, sym (c.in-Some.ensures (pages_of (shape_in g)) c.self.invariant.0 list), c.self.invariant.1.counted)

pub invariant_of-self : goal.invariant_of-self
invariant_of-self c =
    let g = c.self.inside.geometry in
    let h = c.self.invariant.1 in
    let list = runs-list _ _ g.limits h in
    let found = sym (c.in-Some.ensures (pages_of (shape_in g)) c.self.invariant.0 list) in
    (take_run c.args.n c.self.invariant.0, taken-runs (shape_in g) _ _ c.self.invariant.0 c.in-Some.first c.args.n h (c.take_pages.ensures (pages_of (shape_in g)) c.self.invariant.0 list found h.counted) (taken_total c.args.n c.in-Some.first c.self.invariant.0 found))

pub returns-in-None-clause-page : goal.returns-in-None-clause-page
returns-in-None-clause-page c = λ runs h.
    let g = c.self.inside.geometry in
    sym (c.in-None.ensures (pages_of (shape_in g)) runs (runs-list _ _ g.limits (subst (λ (image : Image). LaysRuns image runs) (sym c.self.view_is) h)))

pub returns-in-None-clause-laid : goal.returns-in-None-clause-laid
returns-in-None-clause-laid c = λ runs h.
    let g = c.self.inside.geometry in
    let none = sym (c.in-None.ensures (pages_of (shape_in g)) runs (runs-list _ _ g.limits (subst (λ (image : Image). LaysRuns image runs) (sym c.self.view_is) h))) in
    subst (λ (rs : List Run). LaysRuns c.args.self.now rs) (sym (take_run-none c.args.n runs none)) h

pub returns-in-Some-clause-page : goal.returns-in-Some-clause-page
returns-in-Some-clause-page c = λ runs h.
    let g = c.self.inside.geometry in
    sym (c.in-Some.ensures (pages_of (shape_in g)) runs (runs-list _ _ g.limits (subst (λ (image : Image). LaysRuns image runs) (sym c.self.view_is) h)))

pub returns-in-Some-clause-laid : goal.returns-in-Some-clause-laid
returns-in-Some-clause-laid c = λ runs there.
    let g = c.self.inside.geometry in
    let h = subst (λ (image : Image). LaysRuns image runs) (sym c.self.view_is) there in
    let list = runs-list _ _ g.limits h in
    let found = sym (c.in-Some.ensures (pages_of (shape_in g)) runs list) in
    taken-runs (shape_in g) _ _ runs c.in-Some.first c.args.n h (c.take_pages.ensures (pages_of (shape_in g)) runs list found h.counted) (taken_total c.args.n c.in-Some.first runs found)

pub returns-in-Some-clause-used : goal.returns-in-Some-clause-used
returns-in-Some-clause-used c =
    let g = c.self.inside.geometry in
    let h = c.self.invariant.1 in
    let list = runs-list _ _ g.limits h in
    (c.take_pages.ensures (pages_of (shape_in g)) c.self.invariant.0 list (sym (c.in-Some.ensures (pages_of (shape_in g)) c.self.invariant.0 list)) h.counted).used

pub returns-in-Some-clause-kept : goal.returns-in-Some-clause-kept
returns-in-Some-clause-kept c = λ runs there.
    let g = c.self.inside.geometry in
    let h = subst (λ (image : Image). LaysRuns image runs) (sym c.self.view_is) there in
    let list = runs-list _ _ g.limits h in
    subst (λ (image : Image). KeepsOthers runs image.words c.take_pages.new.region) c.self.view_is
    (c.take_pages.ensures (pages_of (shape_in g)) runs list (sym (c.in-Some.ensures (pages_of (shape_in g)) runs list)) h.counted).kept
