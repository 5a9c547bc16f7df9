use Rattle.std.proofs.Common.{ℕ, [], ◌∷◌, set, sym, ap, subst, arith, ◌∙◌}
use Rattle.slab_model.specs.declared.runs.Run.{Run}
use Rattle.slab_model.specs.Geometry.{pages_of}
use Rattle.slab_pages.specs.Shapes.{shape_in}
use Rattle.slab_pages.specs.Places.{pfree_word}
use Rattle.slab_pages.specs.RunSteps.{IsCleared, Relists}
use Rattle.slab_pages.proofs.OpeningLemmas.{prepared-list, prepared-clear, opened-lays}
use Rattle.slab_pages.proofs.pages.Pages.open.Goals as goal

pub add_run-requires : goal.add_run-requires
add_run-requires c =
    let g = c.args.g in
    (pages_of (shape_in g), [], prepared-list (shape_in g) _ g.limits c.prepare.ensures, subst (λ (n : ℕ). IsCleared (pages_of (shape_in g)) c.prepare.new.region [] (record { first = 0; pages = n })) (sym g.pages_are) (prepared-clear (shape_in g) _ g.limits c.prepare.ensures))

pub store-requires : goal.store-requires
store-requires c =
    let g = c.args.g in
    let re = c.add_run.ensures (pages_of (shape_in g)) [] (prepared-list (shape_in g) _ g.limits c.prepare.ensures) (subst (λ (n : ℕ). IsCleared (pages_of (shape_in g)) c.prepare.new.region [] (record { first = 0; pages = n })) (sym g.pages_are) (prepared-clear (shape_in g) _ g.limits c.prepare.ensures)) in
    omega (arith, re.laid.room)

pub invariant_of-result : goal.invariant_of-result
invariant_of-result c =
    let g = c.args.g in
    let re = c.add_run.ensures (pages_of (shape_in g)) [] (prepared-list (shape_in g) _ g.limits c.prepare.ensures) (subst (λ (n : ℕ). IsCleared (pages_of (shape_in g)) c.prepare.new.region [] (record { first = 0; pages = n })) (sym g.pages_are) (prepared-clear (shape_in g) _ g.limits c.prepare.ensures)) in
    let run : Run = record { first = 0; pages = pages_of (shape_in g) } in
    (run ∷ [], (opened-lays (shape_in g) _ _ _ g.limits c.prepare.ensures (subst (λ (n : ℕ). Relists (pages_of (shape_in g)) (record { first = 0; pages = n } ∷ []) (record { first = 0; pages = n } ∷ []) c.prepare.new.region c.add_run.new.region) g.pages_are re) (c.store.ensures ∙ ap (λ n. set c.add_run.new.region pfree_word n) g.pages_are)).laid.runs)

pub returns : goal.returns
returns c =
    let g = c.args.g in
    let re = c.add_run.ensures (pages_of (shape_in g)) [] (prepared-list (shape_in g) _ g.limits c.prepare.ensures) (subst (λ (n : ℕ). IsCleared (pages_of (shape_in g)) c.prepare.new.region [] (record { first = 0; pages = n })) (sym g.pages_are) (prepared-clear (shape_in g) _ g.limits c.prepare.ensures)) in
    opened-lays (shape_in g) _ _ _ g.limits c.prepare.ensures (subst (λ (n : ℕ). Relists (pages_of (shape_in g)) (record { first = 0; pages = n } ∷ []) (record { first = 0; pages = n } ∷ []) c.prepare.new.region c.add_run.new.region) g.pages_are re) (c.store.ensures ∙ ap (λ n. set c.add_run.new.region pfree_word n) g.pages_are)
