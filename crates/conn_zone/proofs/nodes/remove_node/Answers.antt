use Rattle.std.proofs.Common.{arith, inr}
use Rattle.conn_zone.proofs.Stepping.{is_form, tree_in, node_there, left_zone}
use Rattle.conn_zone.proofs.nodes.remove_node.Goals as goal

pub remove-requires-clause-form : goal.remove-requires-clause-form
remove-requires-clause-form c = is_form _ _ c.tree_at.ensures

pub remove-requires-clause-there : goal.remove-requires-clause-there
remove-requires-clause-there c =
    let l = c.requires.2 in
    (_, tree_in c.args.pool.now c.args.context.at c.requires.0 c.tree_at.result l c.tree_at.ensures, node_there c.args.pool.now c.args.context.at c.requires.0 c.args.node.at c.requires.1 l c.requires.3)

pub free-requires : goal.free-requires
free-requires c =
    let l = c.requires.2 in
    let there = node_there c.args.pool.now c.args.context.at c.requires.0 c.args.node.at c.requires.1 l c.requires.3 in
    let tree = tree_in c.args.pool.now c.args.context.at c.requires.0 c.tree_at.result l c.tree_at.ensures in
    let live = tree.holds.live c.args.node.at (inr there) in
    let same = (c.remove.ensures.changes _ tree there).lengths c.args.node.at in
    omega (arith, live, same)

pub returns : goal.returns
returns c s entry l found = left_zone c.args.pool.now c.remove.new.blocks c.free.new.self c.args.context.at s c.args.node.at entry c.tree_at.result
    (record { removed = c.remove.ensures.removed; changes = c.remove.ensures.changes; rest = c.remove.ensures.rest; laid = c.free.ensures.laid; returned = c.free.ensures.words; keeps = c.free.ensures.kept })
    c.tree_at.ensures l found
