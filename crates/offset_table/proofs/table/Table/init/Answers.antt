use Rattle.std.proofs.Common.{[], subst}
use Rattle.offset_queue.specs.declared.queue.Queue.{Queue}
use Rattle.offset_queue.specs.Queue.{IsQueue, ChangesLinks}
use Rattle.offset_tree.specs.declared.tree.Tree.{Tree}
use Rattle.offset_tree.specs.Changes.{MakesEmpty}
use Rattle.offset_tree.specs.Layout.{IsTree}
use Rattle.offset_table.proofs.Tables.{made_table, makes_table}
use Rattle.offset_table.proofs.table.Table.init.Goals as goal

pub returns-clause-lays : goal.returns-clause-lays
returns-clause-lays g c =
    let n = g.B.Blocks.words c.init.new.blocks in
    let l = g.B.Blocks.words c.init-2.new.blocks in
    made_table n l _ (subst (λ (w : Tree). IsTree n w []) c.tree-tree.ensures c.init.ensures.lays)
    (subst (λ (q : Queue). IsQueue l q 5 []) c.queue-queue.ensures (c.init-2.ensures.lays 5))
    (subst (λ (q : Queue). ChangesLinks n l q 5 []) c.queue-queue.ensures (c.init-2.ensures.changes 5))

pub returns-clause-changes : goal.returns-clause-changes
returns-clause-changes g c =
    let m = g.B.Blocks.words c.args.blocks.now in
    let n = g.B.Blocks.words c.init.new.blocks in
    let l = g.B.Blocks.words c.init-2.new.blocks in
    makes_table m n l _ (subst (λ (w : Tree). MakesEmpty m n w.context.at) c.tree-tree.ensures c.init.ensures.changes)
    (subst (λ (q : Queue). IsQueue l q 5 []) c.queue-queue.ensures (c.init-2.ensures.lays 5))
    (subst (λ (q : Queue). ChangesLinks n l q 5 []) c.queue-queue.ensures (c.init-2.ensures.changes 5))
