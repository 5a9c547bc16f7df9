use Rattle.std.proofs.Common.{ℕ, ◌+◌, ◌*◌, ◌≤◌, length, ap, subst, sym, ◌∙◌, arith}
use Rattle.std.specs.declared.option.Option.{Option}
use Rattle.zone_region.specs.declared.blocks.Block.{Block}
use Rattle.slab_model.specs.Grant.{granted_offset}
use Rattle.offset_tree.specs.Bounds.{search_cost}
use Rattle.conn_zone.specs.Step.{node_size}
use Rattle.conn_zone.proofs.Stepping.{is_form, nodes_are, given_size, laid_size, refused_zone, GetsNode, can_add, added_zone}
use Rattle.conn_zone.proofs.nodes.add_node.Goals as goal

pub returns-in_err-node-clause-block : goal.returns-in_err-node-clause-block
returns-in_err-node-clause-block g c s l none = ap (λ (r : Option Block). granted_offset r) c.from_residual.ensures ∙ given_size s _ c.args.key.now _ (ap (λ n. node_size + n) c.len.ensures) (c.in_err-node.ensures.block s.slab l.zone.slab)

pub returns-in_err-node-clause-laid : goal.returns-in_err-node-clause-laid
returns-in_err-node-clause-laid g c s l none =
    let size = ap (λ n. node_size + n) c.len.ensures in
    refused_zone c.args.pool.now c.alloc.new.self c.args.context.at s c.args.key.now l (sym (given_size s _ c.args.key.now _ size (c.in_err-node.ensures.block s.slab l.zone.slab))) (laid_size c.alloc.new.self s _ c.args.key.now size (c.in_err-node.ensures.laid s.slab l.zone.slab))
    (c.in_err-node.ensures.words s.slab l.zone.slab) c.in_err-node.ensures.kept

pub write_node-requires-clause-room : goal.write_node-requires-clause-room
write_node-requires-clause-room g c = omega (arith, c.in_ok-node.ensures.room, c.len.ensures)

pub insert-requires-clause-form : goal.insert-requires-clause-form
insert-requires-clause-form g c = is_form _ _ c.tree_at.ensures

pub insert-requires-clause-there : goal.insert-requires-clause-there
insert-requires-clause-there g c =
    let s = c.requires.there.0 in
    let l = c.requires.there.1 in
    let size = ap (λ n. node_size + n) c.len.ensures in
    let gets : GetsNode c.args.pool.now c.alloc.new.self c.write_node.new.blocks c.args.context.at s c.args.key.now c.in_ok-node.node.at = record {
      lays = l;
      missing = c.requires.there.2;
      given = sym (given_size s _ c.args.key.now _ size (c.in_ok-node.ensures.block s.slab l.zone.slab));
      laid = laid_size c.alloc.new.self s _ c.args.key.now size (c.in_ok-node.ensures.laid s.slab l.zone.slab);
      others = (c.in_ok-node.ensures.words s.slab l.zone.slab).others;
      room = omega (arith, c.in_ok-node.ensures.room, c.len.ensures);
      keeps = c.in_ok-node.ensures.kept;
      writes = c.write_node.ensures.node;
      rest = c.write_node.ensures.rest;
    } in
    (_, can_add _ _ _ _ s _ _ c.tree_at.result gets c.tree_at.ensures)

pub returns-clause-block : goal.returns-clause-block
returns-clause-block g c s l none = given_size s _ c.args.key.now _ (ap (λ n. node_size + n) c.len.ensures) (c.in_ok-node.ensures.block s.slab l.zone.slab)

pub returns-clause-laid : goal.returns-clause-laid
returns-clause-laid g c s l none =
    let size = ap (λ n. node_size + n) c.len.ensures in
    let gets : GetsNode c.args.pool.now c.alloc.new.self c.write_node.new.blocks c.args.context.at s c.args.key.now c.in_ok-node.node.at = record {
      lays = l;
      missing = none;
      given = sym (given_size s _ c.args.key.now _ size (c.in_ok-node.ensures.block s.slab l.zone.slab));
      laid = laid_size c.alloc.new.self s _ c.args.key.now size (c.in_ok-node.ensures.laid s.slab l.zone.slab);
      others = (c.in_ok-node.ensures.words s.slab l.zone.slab).others;
      room = omega (arith, c.in_ok-node.ensures.room, c.len.ensures);
      keeps = c.in_ok-node.ensures.kept;
      writes = c.write_node.ensures.node;
      rest = c.write_node.ensures.rest;
    } in
    added_zone _ _ _ _ _ s _ _ c.tree_at.result gets c.tree_at.ensures (c.insert.ensures.inserted _ (can_add _ _ _ _ s _ _ c.tree_at.result gets c.tree_at.ensures)) c.insert.ensures.rest

pub returns-clause-cost : goal.returns-clause-cost
returns-clause-cost g c s l none =
    let size = ap (λ n. node_size + n) c.len.ensures in
    let gets : GetsNode c.args.pool.now c.alloc.new.self c.write_node.new.blocks c.args.context.at s c.args.key.now c.in_ok-node.node.at = record {
      lays = l;
      missing = none;
      given = sym (given_size s _ c.args.key.now _ size (c.in_ok-node.ensures.block s.slab l.zone.slab));
      laid = laid_size c.alloc.new.self s _ c.args.key.now size (c.in_ok-node.ensures.laid s.slab l.zone.slab);
      others = (c.in_ok-node.ensures.words s.slab l.zone.slab).others;
      room = omega (arith, c.in_ok-node.ensures.room, c.len.ensures);
      keeps = c.in_ok-node.ensures.kept;
      writes = c.write_node.ensures.node;
      rest = c.write_node.ensures.rest;
    } in
    subst (λ (n : ℕ). c.insert.new.steps ≤ c.args.steps.now + (3 * search_cost n (length c.args.key.now) + 24)) (nodes_are c.args.pool.now c.args.context.at s l) (c.insert.ensures.cost _ (can_add _ _ _ _ s _ _ c.tree_at.result gets c.tree_at.ensures))
