use Rattle.std.proofs.Common.{◌∷◌, ◌++◌, ap, sym, ◌∙◌, arith}
use Rattle.zone_key.specs.Crc.{crc32_of}
use Rattle.slab_pool.specs.Live.{block_words}
use Rattle.slab_pool.proofs.RestLemmas.{rest-laid}
use Rattle.offset_tree.proofs.Keeping.{kept_blocks, kept_tree}
use Rattle.pool_tests.proofs.NodeLemmas.{IsNewNode, node_size, new_node, one_more, missed, rank_given, length-key_at}
use Rattle.pool_tests.proofs.nodes.add.Goals as goal

pub returns-in_err-b : goal.returns-in_err-b
returns-in_err-b g c =
    let h = c.requires.there in
    record {
      slab = _;
      laid = c.in_err-b.ensures.laid _ h.laid;
      blocks = h.blocks;
      tree = kept_tree (block_words c.args.pool.now) (block_words c.alloc.new.self) c.args.t.now h.blocks (kept_blocks (block_words c.args.pool.now) (block_words c.alloc.new.self) c.args.t.now h.blocks (λ z i. c.in_err-b.ensures.words _ h.laid z)) h.tree;
      few = omega (arith, h.few);
    }

pub write_key-requires-clause-room : goal.write_key-requires-clause-room
write_key-requires-clause-room g c =
    let h = c.requires.there in
    let size = node_size h.slab c.args.t.now.form c.requires.form in
    omega (arith, size.room, (c.in_ok-b.ensures.words h.slab h.laid).long)

pub write_key-requires-clause-more : goal.write_key-requires-clause-more
write_key-requires-clause-more g c two =
    let h = c.requires.there in
    let size = node_size h.slab c.args.t.now.form c.requires.form in
    omega (arith, size.more two, (c.in_ok-b.ensures.words h.slab h.laid).long)

pub insert-requires-clause-there : goal.insert-requires-clause-there
insert-requires-clause-there g c =
    let h = c.requires.there in
    let new : IsNewNode c.args.pool.now c.alloc.new.self c.write_key.new.pool c.args.t.now c.in_ok-b.b.at c.crc32.result c.args.key.now h.blocks = record {
      slab = _;
      laid = c.in_ok-b.ensures.laid h.slab h.laid;
      tree = h.tree;
      none = missed c.find.result _ _ (sym c.is_some.ensures ∙ c.if-is_some.false) (c.find.ensures.found h.blocks h.tree);
      count = _;
      granted = c.in_ok-b.ensures.words h.slab h.laid;
      size = node_size h.slab c.args.t.now.form c.requires.form;
      lengths = c.write_key.ensures.lengths;
      others = c.write_key.ensures.others;
      rank = c.write_key.ensures.rank ∙ rank_given c.args.keys.now c.args.k c.crc32.result c.args.key.now c.requires.key (c.crc32.ensures ∙ ap (λ bs. crc32_of bs) c.bytes.ensures);
      four = length-key_at c.args.keys.now c.args.k c.args.key.now c.requires.four c.requires.key;
    } in
    (h.blocks, new_node _ _ _ _ _ _ _ _ new)

pub returns : goal.returns
returns g c =
    let h = c.requires.there in
    let new : IsNewNode c.args.pool.now c.alloc.new.self c.write_key.new.pool c.args.t.now c.in_ok-b.b.at c.crc32.result c.args.key.now h.blocks = record {
      slab = _;
      laid = c.in_ok-b.ensures.laid h.slab h.laid;
      tree = h.tree;
      none = missed c.find.result _ _ (sym c.is_some.ensures ∙ c.if-is_some.false) (c.find.ensures.found h.blocks h.tree);
      count = _;
      granted = c.in_ok-b.ensures.words h.slab h.laid;
      size = node_size h.slab c.args.t.now.form c.requires.form;
      lengths = c.write_key.ensures.lengths;
      others = c.write_key.ensures.others;
      rank = c.write_key.ensures.rank ∙ rank_given c.args.keys.now c.args.k c.crc32.result c.args.key.now c.requires.key (c.crc32.ensures ∙ ap (λ bs. crc32_of bs) c.bytes.ensures);
      four = length-key_at c.args.keys.now c.args.k c.args.key.now c.requires.four c.requires.key;
    } in
    let i = c.insert.ensures.inserted h.blocks (new_node _ _ _ _ _ _ _ _ new) in
    record {
      slab = _;
      laid = rest-laid c.alloc.new.self c.insert.new.blocks _ (c.insert.ensures.rest ∙ c.write_key.ensures.rest) (c.in_ok-b.ensures.laid h.slab h.laid);
      blocks = i.before ++ c.in_ok-b.b.at ∷ i.after;
      tree = i.tree;
      few = one_more _ _ _ _ _ i c.args.k h.few;
    }
