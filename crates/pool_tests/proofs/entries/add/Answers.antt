use Rattle.std.proofs.Common.{◌∷◌, inl, refl, ap, sym, ◌∙◌, arith}
use Rattle.zone_key.specs.Crc.{crc32_of}
use Rattle.slab_pool.specs.Live.{block_words}
use Rattle.slab_pool.proofs.RestLemmas.{rest-laid}
use Rattle.offset_tree.specs.Keys.{IsForm}
use Rattle.offset_table.specs.Table.{request_form, tree_of}
use Rattle.offset_table.proofs.Keeping.{kept_table}
use Rattle.pool_tests.proofs.NodeLemmas.{IsNewNode, node_size, missed, rank_given, length-key_at}
use Rattle.pool_tests.proofs.EntryLemmas.{new_entry}
use Rattle.pool_tests.proofs.entries.add.Goals as goal

form : IsForm request_form
form = record { len_place = inl (refl, refl, refl) }

pub returns-in_err-b : goal.returns-in_err-b
returns-in_err-b g c =
    let h = c.requires.there in
    record {
      slab = _;
      laid = c.in_err-b.ensures.laid _ h.laid;
      order = h.order;
      table = kept_table (block_words c.args.pool.now) (block_words c.alloc.new.self) c.args.t.now h.order (λ z i. c.in_err-b.ensures.words _ h.laid z) h.table;
    }

pub write_key-requires-clause-form : goal.write_key-requires-clause-form
write_key-requires-clause-form g c = form

pub write_key-requires-clause-room : goal.write_key-requires-clause-room
write_key-requires-clause-room g c =
    let h = c.requires.there in
    let size = node_size h.slab request_form form in
    omega (arith, size.room, (c.in_ok-b.ensures.words h.slab h.laid).long)

pub write_key-requires-clause-more : goal.write_key-requires-clause-more
write_key-requires-clause-more g c two =
    let h = c.requires.there in
    let size = node_size h.slab request_form form in
    omega (arith, size.more two, (c.in_ok-b.ensures.words h.slab h.laid).long)

pub add-requires : goal.add-requires
add-requires g c =
    let h = c.requires.there in
    let none = missed c.find.result _ _ (sym c.is_some.ensures ∙ c.if-is_some.false) (c.find.ensures.found h.order h.table) in
    let node : IsNewNode c.args.pool.now c.alloc.new.self c.write_key.new.pool (tree_of c.args.t.now) c.in_ok-b.b.at c.crc32.result c.args.key.now h.table.sorted = record {
      slab = _;
      laid = c.in_ok-b.ensures.laid h.slab h.laid;
      tree = h.table.tree;
      none = λ x i. none x (h.table.back x i);
      count = _;
      granted = c.in_ok-b.ensures.words h.slab h.laid;
      size = node_size h.slab request_form form;
      lengths = c.write_key.ensures.lengths;
      others = c.write_key.ensures.others;
      rank = c.write_key.ensures.rank ∙ rank_given c.args.keys.now c.args.k c.crc32.result c.args.key.now c.requires.key (c.crc32.ensures ∙ ap (λ bs. crc32_of bs) c.bytes.ensures);
      four = length-key_at c.args.keys.now c.args.k c.args.key.now c.requires.four c.requires.key;
    } in
    (h.order, new_entry _ _ _ c.args.t.now _ _ _ h.order h.table none node)

pub returns : goal.returns
returns g c =
    let h = c.requires.there in
    let none = missed c.find.result _ _ (sym c.is_some.ensures ∙ c.if-is_some.false) (c.find.ensures.found h.order h.table) in
    let node : IsNewNode c.args.pool.now c.alloc.new.self c.write_key.new.pool (tree_of c.args.t.now) c.in_ok-b.b.at c.crc32.result c.args.key.now h.table.sorted = record {
      slab = _;
      laid = c.in_ok-b.ensures.laid h.slab h.laid;
      tree = h.table.tree;
      none = λ x i. none x (h.table.back x i);
      count = _;
      granted = c.in_ok-b.ensures.words h.slab h.laid;
      size = node_size h.slab request_form form;
      lengths = c.write_key.ensures.lengths;
      others = c.write_key.ensures.others;
      rank = c.write_key.ensures.rank ∙ rank_given c.args.keys.now c.args.k c.crc32.result c.args.key.now c.requires.key (c.crc32.ensures ∙ ap (λ bs. crc32_of bs) c.bytes.ensures);
      four = length-key_at c.args.keys.now c.args.k c.args.key.now c.requires.four c.requires.key;
    } in
    let can = new_entry _ _ _ c.args.t.now _ _ _ h.order h.table none node in
    record {
      slab = _;
      laid = rest-laid c.alloc.new.self c.add.new.blocks _ (c.add.ensures.rest ∙ c.write_key.ensures.rest) (c.in_ok-b.ensures.laid h.slab h.laid);
      order = c.in_ok-b.b.at ∷ h.order;
      table = c.add.ensures.lays h.order can;
    }
