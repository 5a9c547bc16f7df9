use Rattle.std.proofs.Common.{ℕ, subst, List}
use Rattle.block_bytes.specs.Bytes.{PutsBytes}
use Rattle.slab_pool.specs.Live.{block_words}
use Rattle.peer_zone.specs.Layout.{HoldsList}
use Rattle.peer_zone.proofs.RootLemmas.{begun}
use Rattle.peer_zone.proofs.opening.write_roots.Goals as goal

pub returns : goal.returns
returns c =
    let spec = c.args.spec.now in
    begun c.args.pool.now c.write_list.new.blocks c.write_context.new.blocks c.write_bytes.new.blocks c.set_root.new.self spec c.args.placed.now c.is_single.result c.unwrap_or-backup.result c.requires.spec c.requires.placed c.is_single.ensures c.unwrap_or-backup.ensures (record {
      list = subst (λ (n : ℕ). HoldsList (block_words c.write_list.new.blocks) c.args.placed.now.list.at c.args.placed.now.first n c.is_single.result) c.len-servers.ensures c.write_list.ensures.held;
      list_changes = c.write_list.ensures.changes;
      list_rest = c.write_list.ensures.rest;
      context = c.write_context.ensures.held;
      context_changes = c.write_context.ensures.changes;
      context_rest = c.write_context.ensures.rest;
      name = subst (λ (bs : List ℕ). PutsBytes (block_words c.write_context.new.blocks) (block_words c.write_bytes.new.blocks) c.args.placed.now.name.at 0 bs) c.requires.text c.write_bytes.ensures.puts;
      name_rest = c.write_bytes.ensures.rest;
      root = c.set_root.ensures.set;
      given = c.set_root.ensures.laid;
      same = c.set_root.ensures.words;
    })
