use Rattle.std.proofs.Common.{◌≡◌, ◌*◌, Some, ap, arith}
use Rattle.std.proofs.lemmas.Grind.{common_steps}
use Rattle.slab_model.specs.Inside.{slab_of}
use Rattle.slab_model.specs.Runs.{first_fit}
use Rattle.slab_model.proofs.ClassLemmas.{zone}
use Rattle.slab_model.proofs.Bounds.{small_runs, fit_in}
use Rattle.slab_model.proofs.grants.grant_run.Goals as goal

pub take_run-requires : goal.take_run-requires
take_run-requires c = rw c.deref-2.ensures.value (small_runs (slab_of c.args.parts.now) c.requires.sound)

pub use_pages-requires-clause-room : goal.use_pages-requires-clause-room
use_pages-requires-clause-room c =
    let fit : first_fit c.args.count c.args.parts.now.runs.items ≡ Some c.in-Some.page = grind (arith, common_steps) in
    let h = fit_in (slab_of c.args.parts.now) c.args.count c.in-Some.page c.requires.sound fit in
    rw c.deref_mut.ensures.value (omega (arith, h.0))

pub overflow_mul-result : goal.overflow_mul-result
overflow_mul-result c =
    let fit : first_fit c.args.count c.args.parts.now.runs.items ≡ Some c.in-Some.page = grind (arith, common_steps) in
    let h = fit_in (slab_of c.args.parts.now) c.args.count c.in-Some.page c.requires.sound fit in
    omega (arith, h.1, ap (λ k. k * c.in-Some.page) c.page_size.ensures)

pub overflow_add-result : goal.overflow_add-result
overflow_add-result c =
    let fit : first_fit c.args.count c.args.parts.now.runs.items ≡ Some c.in-Some.page = grind (arith, common_steps) in
    let h = fit_in (slab_of c.args.parts.now) c.args.count c.in-Some.page c.requires.sound fit in
    let z = zone c.args.parts.now.shape c.requires.sound.limits in
    omega (arith, h.1, ap (λ k. k * c.in-Some.page) c.page_size.ensures, z.last, c.requires.sound.limits.small, c.start_offset.ensures)
