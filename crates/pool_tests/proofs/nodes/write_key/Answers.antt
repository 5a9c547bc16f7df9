use Rattle.std.proofs.Common.{ap, ◌∙◌, arith}
use Rattle.std.proofs.lemmas.Grind.{get_or_default_zero}
use Rattle.zone_key.specs.Crc.{crc32_of}
use Rattle.slab_pool.specs.Live.{block_words}
use Rattle.offset_tests.proofs.KeyLemmas.{request_rank, connection_rank}
use Rattle.pool_tests.proofs.NodeLemmas.{sets_three, rank_there}
use Rattle.pool_tests.proofs.nodes.write_key.Goals as goal

pub returns-then-t-eq2-clause-rank : goal.returns-then-t-eq2-clause-rank
returns-then-t-eq2-clause-rank c =
    let set = sets_three _ _ _ _ _ _ _ _ _ _ _ (omega arith) (omega arith) (c.requires.more c.if-t-eq2.true) c.set.ensures.sets c.set-then-t-eq2.ensures.sets c.set-then-t-eq2-2.ensures.sets in
    let rank = request_rank (block_words c.set-then-t-eq2-2.new.self) c.args.t.now.form _ _ c.args.keys.now.len _ c.requires.form c.if-t-eq2.true c.requires.short set in
    rank_there _ c.args.keys.now c.args.k _ _ c.args.key.now rank (c.index-number.ensures ∙ get_or_default_zero c.args.keys.now.numbers.items c.args.k _ c.requires.range) c.requires.key (c.from.ensures ∙ c.crc32.ensures ∙ ap (λ bs. crc32_of bs) c.bytes.ensures)

pub returns-else-t-eq2-clause-rank : goal.returns-else-t-eq2-clause-rank
returns-else-t-eq2-clause-rank c =
    let set = sets_three _ _ _ _ _ _ _ _ _ _ _ (omega arith) (omega arith) c.requires.room c.set.ensures.sets c.set-else-t-eq2.ensures.sets c.set-else-t-eq2-2.ensures.sets in
    let rank = connection_rank (block_words c.set-else-t-eq2-2.new.self) c.args.t.now.form _ _ c.args.keys.now.len _ c.requires.form c.if-t-eq2.false c.requires.short set in
    rank_there _ c.args.keys.now c.args.k _ _ c.args.key.now rank (c.index-number.ensures ∙ get_or_default_zero c.args.keys.now.numbers.items c.args.k _ c.requires.range) c.requires.key (c.from.ensures ∙ c.crc32.ensures ∙ ap (λ bs. crc32_of bs) c.bytes.ensures)
