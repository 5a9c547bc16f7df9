use Rattle.std.proofs.Common.{◌-◌, ◌/◌, ◌^◌, ap, ◌∙◌, arith}
use Rattle.slab_pages.specs.Places.{slab_at}
use Rattle.slab_pool.proofs.RunLemmas.{run-puttable, run-back, run-keeps, run-room}
use Rattle.slab_pool.proofs.runs.give_run.Goals as goal

pub offset_of-requires : goal.offset_of-requires
offset_of-requires c = (run-room _ _ _ _ c.requires.2 c.requires.3).0

pub slab-count-requires : goal.slab-count-requires
slab-count-requires c = omega (arith, (run-room _ _ _ _ c.requires.2 c.requires.3).1, ap (λ o. o / 8) c.offset_of.ensures)

pub put-requires : goal.put-requires
put-requires c = (run-puttable _ _ _ _ _ c.requires.2 c.requires.3 (ap (λ n. n - 2 ^ 63) (c.slab-count.ensures ∙ ap (λ o. slab_at c.args.pages.now.words o) c.offset_of.ensures))).1

pub returns-clause-laid : goal.returns-clause-laid
returns-clause-laid c = λ slab count p is.
    let same = (run-puttable _ _ _ _ _ p is (ap (λ n. n - 2 ^ 63) (c.slab-count.ensures ∙ ap (λ o. slab_at c.args.pages.now.words o) c.offset_of.ensures))).0 in
    run-back _ _ slab _ count _ p is same (record { laid = c.put.ensures.laid; kept = c.put.ensures.kept; shape = c.put.ensures.shape })

pub returns-clause-kept : goal.returns-clause-kept
returns-clause-kept c =
    let p = c.requires.2 in
    let is = c.requires.3 in
    let same = (run-puttable _ _ _ _ _ p is (ap (λ n. n - 2 ^ 63) (c.slab-count.ensures ∙ ap (λ o. slab_at c.args.pages.now.words o) c.offset_of.ensures))).0 in
    run-keeps _ _ _ _ _ _ p is same (record { laid = c.put.ensures.laid; kept = c.put.ensures.kept; shape = c.put.ensures.shape })
