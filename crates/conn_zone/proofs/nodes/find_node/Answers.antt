use Rattle.std.proofs.Common.{ℕ, ◌+◌, ◌≤◌, length, ap, subst, ◌∙◌}
use Rattle.zone_key.specs.Crc.{crc32_of}
use Rattle.offset_tree.specs.Bounds.{search_cost}
use Rattle.conn_zone.proofs.Stepping.{is_form, tree_in, nodes_are, search_found}
use Rattle.conn_zone.proofs.nodes.find_node.Goals as goal

pub find-requires-clause-form : goal.find-requires-clause-form
find-requires-clause-form g c = is_form _ _ c.tree_at.ensures

pub find-requires-clause-there : goal.find-requires-clause-there
find-requires-clause-there g c = (_, tree_in c.args.pool.now c.args.context.at c.requires.0 c.tree_at.result c.requires.1 c.tree_at.ensures)

pub returns-clause-found : goal.returns-clause-found
returns-clause-found g c s l = search_found c.args.pool.now c.args.context.at s c.tree_at.result c.crc32.result c.args.key.now c.find.result l c.tree_at.ensures (c.crc32.ensures ∙ ap (λ bs. crc32_of bs) c.bytes.ensures) c.find.ensures.found

pub returns-clause-cost : goal.returns-clause-cost
returns-clause-cost g c s l = subst (λ (n : ℕ). c.find.new.steps ≤ c.args.steps.now + search_cost n (length c.args.key.now)) (nodes_are c.args.pool.now c.args.context.at s l) (c.find.ensures.cost _ (tree_in c.args.pool.now c.args.context.at s c.tree_at.result l c.tree_at.ensures))
