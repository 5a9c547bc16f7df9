use Rattle.std.proofs.Common.{ℕ, List, ◌∷◌, ◌++◌, sym, subst}
use Rattle.zone_region.specs.Members.{In}
use Rattle.zone_region.proofs.MembersLemmas.{In-middle, In-split}
use Rattle.offset_queue.specs.declared.queue.Queue.{Queue}
use Rattle.offset_queue.specs.Queue.{IsQueue, ChangesLinks}
use Rattle.offset_tree.specs.declared.tree.Tree.{Tree}
use Rattle.offset_tree.specs.Changes.{ChangesNodes}
use Rattle.offset_tree.specs.Layout.{IsTree}
use Rattle.offset_table.specs.Table.{queue_of, IsTable}
use Rattle.offset_table.proofs.Sharing.{queue_keeps_tree, links_in_table, nodes_in_table, table_changed_twice}
use Rattle.offset_table.proofs.Tables.{removed}
use Rattle.offset_table.proofs.table.Table.remove.Given as given
use Rattle.offset_table.proofs.table.Table.remove.Goals as goal
use Rattle.offset_table.proofs.table.Table.remove.Goals.{After-remove-2}

pub remove-requires-2-clause-there : goal.remove-requires-2-clause-there
remove-requires-2-clause-there g c =
    let m = g.B.Blocks.words c.args.blocks.now in
    let n = g.B.Blocks.words c.remove.new.blocks in
    let h = c.requires.1 in
    let e = c.queue-queue.ensures in
    let links = subst (λ (q : Queue). ChangesLinks m n q 5 c.requires.0) e (c.remove.ensures.changes c.requires.0 (subst (λ (q : Queue). IsQueue m q 5 c.requires.0) (sym e) h.queue) c.requires.2) in
    (h.sorted, subst (λ (w : Tree). IsTree n w h.sorted) (sym c.tree-tree.ensures) (queue_keeps_tree m n _ c.requires.0 h.sorted links h.tree), h.there _ c.requires.2)

-- what the queue's call changed
links : (g : given.Over) (c : After-remove-2 g) (order : List ℕ) → IsTable (g.B.Blocks.words c.args.blocks.now) c.args.self.now order → In c.args.b.at order →
    ChangesLinks (g.B.Blocks.words c.args.blocks.now) (g.B.Blocks.words c.remove.new.blocks) (queue_of c.args.self.now) 5 order
links g c order h i =
    let m = g.B.Blocks.words c.args.blocks.now in
    let e = c.queue-queue.ensures in
    subst (λ (q : Queue). ChangesLinks m (g.B.Blocks.words c.remove.new.blocks) q 5 order) e (c.remove.ensures.changes order (subst (λ (q : Queue). IsQueue m q 5 order) (sym e) h.queue) i)

-- the tree as its call finds it
tree_left : (g : given.Over) (c : After-remove-2 g) (order : List ℕ) → (h : IsTable (g.B.Blocks.words c.args.blocks.now) c.args.self.now order) → In c.args.b.at order →
    IsTree (g.B.Blocks.words c.remove.new.blocks) c.tree-tree.result h.sorted
tree_left g c order h i =
    let n = g.B.Blocks.words c.remove.new.blocks in
    subst (λ (w : Tree). IsTree n w h.sorted) (sym c.tree-tree.ensures) (queue_keeps_tree _ n _ order h.sorted (links g c order h i) h.tree)

nodes : (g : given.Over) (c : After-remove-2 g) (order : List ℕ) → (h : IsTable (g.B.Blocks.words c.args.blocks.now) c.args.self.now order) → In c.args.b.at order →
    ChangesNodes (g.B.Blocks.words c.remove.new.blocks) (g.B.Blocks.words c.remove-2.new.blocks) c.args.self.now.context.at h.sorted
nodes g c order h i =
    let n = g.B.Blocks.words c.remove.new.blocks in
    let l = g.B.Blocks.words c.remove-2.new.blocks in
    subst (λ (w : Tree). ChangesNodes n l w.context.at h.sorted) c.tree-tree.ensures (c.remove-2.ensures.changes h.sorted (tree_left g c order h i) (h.there _ i))

pub returns-clause-lays : goal.returns-clause-lays
returns-clause-lays g c = λ ys zs h.
    let m = g.B.Blocks.words c.args.blocks.now in
    let n = g.B.Blocks.words c.remove.new.blocks in
    let l = g.B.Blocks.words c.remove-2.new.blocks in
    let order = ys ++ c.args.b.at ∷ zs in
    let i = In-middle ys c.args.b.at zs in
    let s = In-split c.args.b.at h.sorted (h.there _ i) in
    let e = c.queue-queue.ensures in
    let queue = subst (λ (q : Queue). IsQueue n q 5 (ys ++ zs)) e (c.remove.ensures.lays ys zs (subst (λ (q : Queue). IsQueue m q 5 order) (sym e) h.queue)) in
    let tree = subst (λ (w : Tree). IsTree l w (s.0 ++ s.1)) c.tree-tree.ensures (c.remove-2.ensures.removed s.0 s.1 (subst (λ (ws : List ℕ). IsTree n c.tree-tree.result ws) s.2 (tree_left g c order h i))) in
    removed m n l _ ys _ zs s.0 s.1 h s.2 queue tree (subst (λ (ws : List ℕ). ChangesNodes n l c.args.self.now.context.at ws) s.2 (nodes g c order h i))

pub returns-clause-changes : goal.returns-clause-changes
returns-clause-changes g c = λ order h i.
    table_changed_twice _ _ _ _ order (links_in_table _ _ _ order (links g c order h i)) (nodes_in_table _ _ _ h.sorted order h.back (nodes g c order h i))
