use Rattle.std.proofs.Common.{◌≡◌, ℕ, List, ap, subst, ◌∙◌, refl, arith}
use Rattle.slab_model.specs.declared.shape.Shape.{Shape}
use Rattle.slab_model.specs.Geometry.{IsInLimits, shape_of}
use Rattle.slab_model.specs.State.{fresh_slab}
use Rattle.slab_pages.specs.Shapes.{shape_in}
use Rattle.slab_pool.specs.Pool.{LaysPool}
use Rattle.req_zone.specs.Object.{opened_zone}
use Rattle.req_zone.specs.Words.{name_text}
use Rattle.req_zone.specs.Lays.{Lays}
use Rattle.req_zone.proofs.OpenLemmas.{same_shape}
use Rattle.req_zone.proofs.object.ReqZone.open.Goals as goal

pub returns-clause-laid : goal.returns-clause-laid
returns-clause-laid c =
    let rate = c.args.spec.now.rate in
    let bytes = c.args.spec.now.bytes in
    let name = c.args.spec.now.name in
    let g = c.in-Ok.geometry in
    let shape : shape_in g ≡ shape_of bytes = same_shape (shape_in g) bytes c.in-Ok.ensures.bytes (c.in-Ok.ensures.shift ∙ c.requires.page_shift) in
    let limits = subst (λ (s : Shape). IsInLimits s) shape g.limits in
    let p = subst (λ (s : Shape). LaysPool c.in_ok-pool.pool (fresh_slab s)) shape c.in_ok-pool.ensures.laid in
    let text = c.deref.ensures.value ∙ c.in_ok-text.ensures ∙ ap (λ (bs : List ℕ). name_text bs) c.bytes-2.ensures in
    let b = c.begin-table.ensures rate bytes name p limits c.requires.name text in (
      omega (arith, limits.large),
      record {
        words = b.0;
        table_is = b.1;
        name_is = c.in_ok-name.ensures ∙ c.bytes.ensures;
        rate_is = refl;
        entries_is = refl;
        rate_in = c.requires.rate;
      },
    )

pub invariant_of-result : goal.invariant_of-result
invariant_of-result c =
    let rate = c.args.spec.now.rate in
    let bytes = c.args.spec.now.bytes in
    let name = c.args.spec.now.name in
    let g = c.in-Ok.geometry in
    let shape : shape_in g ≡ shape_of bytes = same_shape (shape_in g) bytes c.in-Ok.ensures.bytes (c.in-Ok.ensures.shift ∙ c.requires.page_shift) in
    let limits = subst (λ (s : Shape). IsInLimits s) shape g.limits in
    let p = subst (λ (s : Shape). LaysPool c.in_ok-pool.pool (fresh_slab s)) shape c.in_ok-pool.ensures.laid in
    let text = c.deref.ensures.value ∙ c.in_ok-text.ensures ∙ ap (λ (bs : List ℕ). name_text bs) c.bytes-2.ensures in
    let b = c.begin-table.ensures rate bytes name p limits c.requires.name text in (
      opened_zone rate name bytes,
      record {
        words = b.0;
        table_is = b.1;
        name_is = c.in_ok-name.ensures ∙ c.bytes.ensures;
        rate_is = refl;
        entries_is = refl;
        rate_in = c.requires.rate;
      },
    )
