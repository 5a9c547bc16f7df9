use Rattle.std.proofs.Common.{ℕ, ◌≡◌, List, length, Some, sym, ap, subst, ◌∙◌, arith}
use Rattle.block_bytes.specs.Bytes.{PutsBytes}
use Rattle.slab_model.specs.Geometry.{shape_of}
use Rattle.slab_model.specs.State.{fresh_slab}
use Rattle.slab_model.specs.Grant.{grant}
use Rattle.slab_pool.specs.Pool.{LaysPool}
use Rattle.slab_pool.specs.Live.{block_words}
use Rattle.req_zone.specs.Object.{name_size, with_context}
use Rattle.req_zone.proofs.OpenLemmas.{text_size, context_long, table_room, blocks_differ, Begins, begun}
use Rattle.req_zone.specs.Proving.Fresh.{opens}
use Rattle.req_zone.proofs.opening.begin.Goals as goal

pub take_block-context-requires-clause-fits : goal.take_block-context-requires-clause-fits
take_block-context-requires-clause-fits c = let r = c.requires in let g = opens r.0 r.1 r.4 r.3 in (fresh_slab (shape_of r.0), g.0, r.2, g.2.first)

pub take_block-name-requires-clause-small : goal.take_block-name-requires-clause-small
take_block-name-requires-clause-small c = let r = c.requires in omega (arith, ap (λ (bs : List ℕ). length bs) r.5, text_size r.1, r.4.1)

pub take_block-name-requires-clause-fits : goal.take_block-name-requires-clause-fits
take_block-name-requires-clause-fits c =
    let r = c.requires in
    let g = opens r.0 r.1 r.4 r.3 in
    let size : length c.args.text.now ≡ name_size r.1 = ap (λ (bs : List ℕ). length bs) r.5 ∙ text_size r.1 in
    ((with_context r.0).1, g.1, c.take_block-context.ensures.laid (fresh_slab (shape_of r.0)) r.2, subst (λ (n : ℕ). (grant (with_context r.0).1 n).0 ≡ Some g.1) (sym size) g.2.second)

pub init-requires : goal.init-requires
init-requires c =
    let r = c.requires in
    let p1 = c.take_block-context.new.pool in
    let p2 = c.take_block-name.new.pool in
    let context = c.take_block-context.result.at in
    let laid = c.take_block-context.ensures.laid (fresh_slab (shape_of r.0)) r.2 in
    let words = c.take_block-name.ensures.words (with_context r.0).1 laid in
    let long = context_long p1 r.0 context (c.take_block-context.ensures.zeros (fresh_slab (shape_of r.0)) r.2) in
    let ne = blocks_differ p1 p2 context c.take_block-name.result.at _ long words in
    table_room p2 _ context (c.take_block-name.ensures.laid (with_context r.0).1 laid) (ap (λ (ws : List ℕ). length ws) (words.others context ne) ∙ long)

pub returns : goal.returns
returns c rate bytes name p limits ok text_is =
    let laid = c.take_block-context.ensures.laid (fresh_slab (shape_of bytes)) p in
    let size : length c.args.text.now ≡ name_size name = ap (λ (bs : List ℕ). length bs) text_is ∙ text_size name in
    let b : Begins c.args.pool.now c.take_block-context.new.pool c.take_block-name.new.pool c.init.new.blocks c.write_bytes.new.blocks c.set_root.new.self bytes name c.take_block-context.result.at c.take_block-name.result.at _ = record {
      limits = limits;
      ok = ok;
      first = c.take_block-context.ensures.block (fresh_slab (shape_of bytes)) p;
      zeros = c.take_block-context.ensures.zeros (fresh_slab (shape_of bytes)) p;
      second = subst (λ (n : ℕ). (grant (with_context bytes).1 n).0 ≡ Some c.take_block-name.result.at) size (c.take_block-name.ensures.block (with_context bytes).1 laid);
      laid = subst (λ (n : ℕ). LaysPool c.take_block-name.new.pool (grant (with_context bytes).1 n).1) size (c.take_block-name.ensures.laid (with_context bytes).1 laid);
      words = c.take_block-name.ensures.words (with_context bytes).1 laid;
      table = c.init.ensures.lays;
      makes = c.init.ensures.changes;
      kept = c.init.ensures.rest;
      puts = subst (λ (bs : List ℕ). PutsBytes (block_words c.init.new.blocks) (block_words c.write_bytes.new.blocks) c.take_block-name.result.at 0 bs) text_is c.write_bytes.ensures.puts;
      stays = c.write_bytes.ensures.rest;
      root = c.set_root.ensures.set;
      given = c.set_root.ensures.laid;
      same = c.set_root.ensures.words;
    } in
    begun _ _ _ _ _ _ rate bytes name _ _ _ b
