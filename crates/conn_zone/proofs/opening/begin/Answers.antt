use Rattle.std.proofs.Common.{arith}
use Rattle.zone_region.proofs.WordLemmas.{length-set_word}
use Rattle.conn_zone.proofs.Beginning.{opens, text_length, is_some_block, second_given, has_granted, has_context, begun}
use Rattle.conn_zone.proofs.opening.begin.Goals as goal

pub unreachable-requires : goal.unreachable-requires
unreachable-requires c = let f = c.requires.2 in is_some_block _ _ (c.in_default.ensures.block _ f.laid) (opens _ _ _ _ f).context

pub unreachable-requires-in_default-alloc : goal.unreachable-requires-in_default-alloc
unreachable-requires-in_default-alloc c = let f = c.requires.2 in second_given _ _ _ _ f (c.in_default-alloc.ensures.block _ (c.in-Some.ensures.laid _ f.laid))

pub alloc-requires-2-clause-small : goal.alloc-requires-2-clause-small
alloc-requires-2-clause-small c = let f = c.requires.2 in omega (arith, text_length _ _ _ _ f, f.named.1)

pub init-requires : goal.init-requires
init-requires c =
    let f = c.requires.2 in
    let one = c.in-Some.ensures.laid _ f.laid in
    let g = has_granted c.args.pool.now c.alloc.new.self c.alloc-2.new.self c.requires.0 c.requires.1 c.in-Some.context.at c.in-Some-alloc.name.at _ c.args.text.now f (c.in-Some.ensures.block _ f.laid) c.in-Some.ensures.room (c.in-Some-alloc.ensures.block _ one) (c.in-Some-alloc.ensures.laid _ one) (c.in-Some-alloc.ensures.words _ one) c.in-Some-alloc.ensures.room in
    has_context _ _ _ _ _ _ _ c.tree_at.result g c.tree_at.ensures

pub set_root-requires-clause-name : goal.set_root-requires-clause-name
set_root-requires-clause-name c =
    let f = c.requires.2 in
    let one = c.in-Some.ensures.laid _ f.laid in
    let g = has_granted c.args.pool.now c.alloc.new.self c.alloc-2.new.self c.requires.0 c.requires.1 c.in-Some.context.at c.in-Some-alloc.name.at _ c.args.text.now f (c.in-Some.ensures.block _ f.laid) c.in-Some.ensures.room (c.in-Some-alloc.ensures.block _ one) (c.in-Some-alloc.ensures.laid _ one) (c.in-Some-alloc.ensures.words _ one) c.in-Some-alloc.ensures.room in
    let z = c.in-Some-alloc.name.at in
    omega (arith, g.long, c.write_bytes.ensures.puts.lengths z, length-set_word _ _ _ _ _ z c.set.ensures.sets, c.init.ensures.changes.lengths z)

pub returns : goal.returns
returns c name bytes f =
    let one = c.in-Some.ensures.laid _ f.laid in
    let g = has_granted c.args.pool.now c.alloc.new.self c.alloc-2.new.self name bytes c.in-Some.context.at c.in-Some-alloc.name.at _ c.args.text.now f (c.in-Some.ensures.block _ f.laid) c.in-Some.ensures.room (c.in-Some-alloc.ensures.block _ one) (c.in-Some-alloc.ensures.laid _ one) (c.in-Some-alloc.ensures.words _ one) c.in-Some-alloc.ensures.room in
    begun c.args.pool.now c.alloc.new.self c.alloc-2.new.self c.init.new.blocks c.set.new.self c.write_bytes.new.blocks c.set_root.new.self name bytes c.in-Some.context.at c.in-Some-alloc.name.at c.tree_at.result c.args.text.now f g c.tree_at.ensures (record {
      empty = c.init.ensures.lays;
      makes = c.init.ensures.changes;
      third_rest = c.init.ensures.rest;
      zero = c.set.ensures.sets;
      fourth_rest = c.set.ensures.rest;
      puts = c.write_bytes.ensures.puts;
      fifth_rest = c.write_bytes.ensures.rest;
      roots = c.set_root.ensures.set;
      laid = c.set_root.ensures.laid;
      same = c.set_root.ensures.words;
    })
