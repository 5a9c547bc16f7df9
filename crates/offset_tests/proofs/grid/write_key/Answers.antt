use Rattle.std.proofs.lemmas.Grind.{get_or_default_zero}
use Rattle.std.proofs.Common.{ℕ, ◌≡◌, length, ap, subst, sym, ◌∙◌, arith}
use Rattle.zone_region.specs.Entries.{words_in}
use Rattle.zone_key.specs.Crc.{crc32_of}
use Rattle.offset_tests.proofs.KeyLemmas.{sets_three, request_rank, connection_rank, rank_there}
use Rattle.offset_tests.proofs.grid.write_key.Goals as goal

pub returns-then-t-eq2-clause-rank : goal.returns-then-t-eq2-clause-rank
returns-then-t-eq2-clause-rank c =
    let room = subst (λ (z : ℕ). length (words_in c.args.blocks.now.entries z) ≡ 16) (sym c.place-b.ensures) c.requires.room in
    let set = sets_three _ _ _ _ _ _ _ _ _ _ _ room (omega arith) (omega arith) (omega arith) c.set.ensures.sets c.set-then-t-eq2.ensures.sets c.set-then-t-eq2-2.ensures.sets in
    let rank = request_rank (words_in c.set-then-t-eq2-2.new.self.entries) c.args.t.now.form _ _ c.args.keys.now.len _ c.requires.form c.if-t-eq2.true c.requires.short set in
    rank_there (words_in c.set-then-t-eq2-2.new.self.entries) c.args.t.now.form c.args.keys.now _ c.args.k _ _ c.args.key.now rank c.place-b.ensures (c.index-number.ensures ∙ get_or_default_zero c.args.keys.now.numbers.items c.args.k _ c.requires.range) c.requires.key (c.from.ensures ∙ c.crc32.ensures ∙ ap (λ bs. crc32_of bs) c.bytes.ensures)

pub returns-else-t-eq2-clause-rank : goal.returns-else-t-eq2-clause-rank
returns-else-t-eq2-clause-rank c =
    let room = subst (λ (z : ℕ). length (words_in c.args.blocks.now.entries z) ≡ 16) (sym c.place-b.ensures) c.requires.room in
    let set = sets_three _ _ _ _ _ _ _ _ _ _ _ room (omega arith) (omega arith) (omega arith) c.set.ensures.sets c.set-else-t-eq2.ensures.sets c.set-else-t-eq2-2.ensures.sets in
    let rank = connection_rank (words_in c.set-else-t-eq2-2.new.self.entries) c.args.t.now.form _ _ c.args.keys.now.len _ c.requires.form c.if-t-eq2.false c.requires.short set in
    rank_there (words_in c.set-else-t-eq2-2.new.self.entries) c.args.t.now.form c.args.keys.now _ c.args.k _ _ c.args.key.now rank c.place-b.ensures (c.index-number.ensures ∙ get_or_default_zero c.args.keys.now.numbers.items c.args.k _ c.requires.range) c.requires.key (c.from.ensures ∙ c.crc32.ensures ∙ ap (λ bs. crc32_of bs) c.bytes.ensures)
