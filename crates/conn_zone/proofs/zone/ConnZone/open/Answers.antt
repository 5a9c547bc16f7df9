use Rattle.std.proofs.Common.{ℕ, ◌≡◌, List, refl, ap, subst, ◌∙◌}
use Rattle.slab_model.specs.declared.shape.Shape.{Shape}
use Rattle.slab_model.specs.Geometry.{IsInLimits, shape_of}
use Rattle.slab_model.specs.State.{fresh_slab}
use Rattle.slab_pages.specs.Shapes.{shape_in}
use Rattle.slab_pool.specs.Pool.{LaysPool}
use Rattle.conn_zone.specs.Object.{opened_zone}
use Rattle.conn_zone.specs.Layout.{name_bytes}
use Rattle.conn_zone.specs.Changes.{IsFresh}
use Rattle.conn_zone.proofs.zone.ConnZone.open.Goals as goal

pub invariant_of-result : goal.invariant_of-result
invariant_of-result c =
    let f : ℕ → ℕ → Shape = λ m n. record { bytes = m; page_shift = n } in
    let shape : shape_in c.in-Ok.geometry ≡ shape_of c.args.spec.bytes = ap (λ m. f m c.in-Ok.geometry.page_shift) c.in-Ok.ensures.bytes ∙ ap (λ n. f c.args.spec.bytes n) (c.in-Ok.ensures.shift ∙ c.requires.page_shift) in
    let fresh : IsFresh c.in_ok-pool.pool c.args.spec.name c.args.spec.bytes c.deref.result.now = record {
      laid = subst (λ (h : Shape). LaysPool c.in_ok-pool.pool (fresh_slab h)) shape c.in_ok-pool.ensures.laid;
      limits = subst (λ (h : Shape). IsInLimits h) shape c.in-Ok.geometry.limits;
      named = c.requires.name;
      text_is = c.deref.ensures.value ∙ c.in_ok-text.ensures ∙ ap (λ (bs : List ℕ). name_bytes bs) c.bytes.ensures;
    } in
    (opened_zone c.args.spec.name c.args.spec.bytes, record { laid = record { words = c.begin-context.ensures c.args.spec.name c.args.spec.bytes fresh; counted = refl }; name_is = refl })
