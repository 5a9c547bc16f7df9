use Rattle.std.proofs.Common.{◌≡◌, Some, arith}
use Rattle.std.proofs.lemmas.Grind.{common_steps}
use Rattle.slab_model.specs.Inside.{slab_of}
use Rattle.slab_model.specs.Runs.{first_fit}
use Rattle.slab_model.proofs.ClassLemmas.{cuts}
use Rattle.slab_model.proofs.Bounds.{small_stat, small_runs, fit_in}
use Rattle.slab_model.proofs.grants.grant_in_new_page.Goals as goal

pub take_run-requires : goal.take_run-requires
take_run-requires c = rw c.deref-2.ensures.value (small_runs (slab_of c.args.parts.now) c.requires.sound)

pub block_at-block-requires-clause-page : goal.block_at-block-requires-clause-page
block_at-block-requires-clause-page c =
    let fit : first_fit 1 c.args.parts.now.runs.items ≡ Some c.in-Some.page = grind (arith, common_steps) in
    let h = fit_in (slab_of c.args.parts.now) 1 c.in-Some.page c.requires.sound fit in
    omega (arith, h.1)

pub block_at-block-requires-clause-index : goal.block_at-block-requires-clause-index
block_at-block-requires-clause-index c =
    let k = cuts c.args.parts.now.shape c.args.class c.requires.class in
    omega (arith, k.sum, k.many, k.two, c.first_index-index.ensures)

pub index_mut-requires-2 : goal.index_mut-requires-2
index_mut-requires-2 c =
    let fit : first_fit 1 c.args.parts.now.runs.items ≡ Some c.in-Some.page = grind (arith, common_steps) in
    let h = fit_in (slab_of c.args.parts.now) 1 c.in-Some.page c.requires.sound fit in
    omega (arith, h.0)

pub count_grant-requires-clause-total : goal.count_grant-requires-clause-total
count_grant-requires-clause-total c =
    let k = cuts c.args.parts.now.shape c.args.class c.requires.class in
    let small = small_stat (slab_of c.args.parts.now) c.args.class c.requires.sound c.requires.class in
    grind (arith, common_steps, k.sum, k.many, small.total)

pub count_grant-requires-clause-used : goal.count_grant-requires-clause-used
count_grant-requires-clause-used c = let small = small_stat (slab_of c.args.parts.now) c.args.class c.requires.sound c.requires.class in grind (arith, common_steps, small.used)
