use Rattle.std.proofs.Common.{ℕ, List, ◌∷◌, length, sym, ap, subst, arith}
use Rattle.offset_queue.specs.declared.queue.Queue.{Queue}
use Rattle.offset_queue.specs.Queue.{IsQueue, CanPush, ChangesLinks}
use Rattle.offset_tree.specs.declared.tree.Tree.{Tree}
use Rattle.offset_tree.specs.Bounds.{search_cost}
use Rattle.offset_tree.specs.Layout.{CanInsert, Inserted}
use Rattle.offset_table.specs.Table.{tree_of, queue_of, CanAdd}
use Rattle.offset_table.proofs.Tables.{equally_many, can_insert_node, can_push_node, added, added_changes}
use Rattle.offset_table.proofs.table.Table.add.Given as given
use Rattle.offset_table.proofs.table.Table.add.Goals as goal
use Rattle.offset_table.proofs.table.Table.add.Goals.{After-push_front}

pub insert-requires-clause-there : goal.insert-requires-clause-there
insert-requires-clause-there g c =
    let m = g.B.Blocks.words c.args.blocks.now in
    let sorted = c.requires.1.table.sorted in
    (sorted, subst (λ (w : Tree). CanInsert m w c.args.b.at c.args.key.now sorted) (sym c.tree-tree.ensures) (can_insert_node _ _ _ _ _ c.requires.1))

-- the block in the tree
inserted : (g : given.Over) (c : After-push_front g) (order : List ℕ) → (can : CanAdd (g.B.Blocks.words c.args.blocks.now) c.args.self.now c.args.b.at c.args.key.now order) →
    Inserted (g.B.Blocks.words c.args.blocks.now) (g.B.Blocks.words c.insert.new.blocks) (tree_of c.args.self.now) c.args.b.at can.table.sorted
inserted g c order can =
    let m = g.B.Blocks.words c.args.blocks.now in
    let e = c.tree-tree.ensures in
    subst (λ (w : Tree). Inserted m (g.B.Blocks.words c.insert.new.blocks) w c.args.b.at can.table.sorted) e
    (c.insert.ensures.inserted can.table.sorted (subst (λ (w : Tree). CanInsert m w c.args.b.at c.args.key.now can.table.sorted) (sym e) (can_insert_node _ _ _ _ _ can)))

pub push_front-requires : goal.push_front-requires
push_front-requires g c =
    let m = g.B.Blocks.words c.args.blocks.now in
    let n = g.B.Blocks.words c.insert.new.blocks in
    let can = c.requires.1 in
    let e = c.tree-tree.ensures in
    let i = subst (λ (w : Tree). Inserted m n w c.args.b.at can.table.sorted) e
    (c.insert.ensures.inserted can.table.sorted (subst (λ (w : Tree). CanInsert m w c.args.b.at c.args.key.now can.table.sorted) (sym e) (can_insert_node _ _ _ _ _ can))) in
    (c.requires.0, subst (λ (q : Queue). CanPush n q 5 c.args.b.at c.requires.0) (sym c.queue-queue.ensures) (can_push_node m n _ _ _ _ can i))

-- the block in the queue
pushed : (g : given.Over) (c : After-push_front g) (order : List ℕ) → CanAdd (g.B.Blocks.words c.args.blocks.now) c.args.self.now c.args.b.at c.args.key.now order →
    IsQueue (g.B.Blocks.words c.push_front.new.blocks) (queue_of c.args.self.now) 5 (c.args.b.at ∷ order) × ChangesLinks (g.B.Blocks.words c.insert.new.blocks) (g.B.Blocks.words c.push_front.new.blocks) (queue_of c.args.self.now) 5 (c.args.b.at ∷ order)
pushed g c order can =
    let n = g.B.Blocks.words c.insert.new.blocks in
    let l = g.B.Blocks.words c.push_front.new.blocks in
    let e = c.queue-queue.ensures in
    let room = subst (λ (q : Queue). CanPush n q 5 c.args.b.at order) (sym e) (can_push_node _ n _ _ _ _ can (inserted g c order can)) in (
      subst (λ (q : Queue). IsQueue l q 5 (c.args.b.at ∷ order)) e (c.push_front.ensures.lays order room),
      subst (λ (q : Queue). ChangesLinks n l q 5 (c.args.b.at ∷ order)) e (c.push_front.ensures.changes order room),
    )

pub returns-clause-lays : goal.returns-clause-lays
returns-clause-lays g c = λ order can. let p = pushed g c order can in added _ _ _ _ _ _ order can (inserted g c order can) p.0 p.1

pub returns-clause-changes : goal.returns-clause-changes
returns-clause-changes g c = λ order can. added_changes _ _ _ _ _ _ order can (inserted g c order can) (pushed g c order can).1

pub returns-clause-cost : goal.returns-clause-cost
returns-clause-cost g c = λ order can.
    let m = g.B.Blocks.words c.args.blocks.now in
    let same = ap (λ (n : ℕ). search_cost n (length c.args.key.now)) (equally_many m _ order can.table) in
    omega (arith, c.insert.ensures.cost can.table.sorted (subst (λ (w : Tree). CanInsert m w c.args.b.at c.args.key.now can.table.sorted) (sym c.tree-tree.ensures) (can_insert_node _ _ _ _ _ can)), same)
