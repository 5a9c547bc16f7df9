use Rattle.std.proofs.Common.{ℕ, ◌-◌, ap, arith}
use Rattle.conn_zone.specs.Table.{is_at}
use Rattle.conn_zone.proofs.Named.{counted_entry-law}
use Rattle.conn_zone.proofs.Answering.{last_closed, other_closed, one_fewer}
use Rattle.conn_zone.proofs.Stepping.{closed_room, closed_as, counted_next, left_next}
use Rattle.conn_zone.proofs.connections.close_connection.Goals as goal

pub word-word-requires : goal.word-word-requires
word-word-requires g c =
    let s = c.requires.0 in
    let l = c.requires.1.words in
    let e = counted_entry-law s c.args.node.at l.zone.whole c.requires.2.asked in
    closed_room c.args.pool.now c.args.context.at s c.args.node.at e.0 l e.1.found

pub overflow_sub-count : goal.overflow_sub-count
overflow_sub-count g c =
    let s = c.requires.0 in
    let l = c.requires.1.words in
    let e = counted_entry-law s c.args.node.at l.zone.whole c.requires.2.asked in
    let is = closed_as c.args.pool.now c.args.context.at s c.args.node.at e.0 l e.1.found c.word-word.result c.count_in-count.result c.word-word.ensures.value c.count_in-count.ensures in
    omega (arith, is, e.1.counted, c.requires.2.asked)

pub remove_node-requires : goal.remove_node-requires
remove_node-requires g c =
    let s = c.requires.0 in
    let l = c.requires.1.words in
    let e = counted_entry-law s c.args.node.at l.zone.whole c.requires.2.asked in
    (s, e.0, l, e.1.found)

pub overflow_sub-entries : goal.overflow_sub-entries
overflow_sub-entries g c =
    let s = c.requires.0 in
    let l = c.requires.1.words in
    let e = counted_entry-law s c.args.node.at l.zone.whole c.requires.2.asked in
    omega (arith, one_fewer (is_at c.args.node.at) s.table e.0 e.1.found, c.requires.1.counted)

pub returns-then-count-eq0-clause-reply : goal.returns-then-count-eq0-clause-reply
returns-then-count-eq0-clause-reply g c s l ready =
    let e = counted_entry-law s c.args.node.at l.words.zone.whole ready.asked in
    let is = closed_as c.args.pool.now c.args.context.at s c.args.node.at e.0 l.words e.1.found c.word-word.result c.count_in-count.result c.word-word.ensures.value c.count_in-count.ensures in
    (last_closed s c.args.node.at _ e.0 e.1.found (ap (λ (n : ℕ). n - 1) is) c.if-count-eq0.true).reply_is

pub returns-then-count-eq0-clause-laid : goal.returns-then-count-eq0-clause-laid
returns-then-count-eq0-clause-laid g c s l ready =
    let e = counted_entry-law s c.args.node.at l.words.zone.whole ready.asked in
    let is = closed_as c.args.pool.now c.args.context.at s c.args.node.at e.0 l.words e.1.found c.word-word.result c.count_in-count.result c.word-word.ensures.value c.count_in-count.ensures in
    let fewer = one_fewer (is_at c.args.node.at) s.table e.0 e.1.found in
    left_next c.remove_node.new.pool c.args.context.at c.args.entries.now _ s c.args.node.at e.0 _ e.1.found l.counted (omega (arith, fewer, l.counted)) (c.remove_node.ensures s e.0 l.words e.1.found) (last_closed s c.args.node.at _ e.0 e.1.found (ap (λ (n : ℕ). n - 1) is) c.if-count-eq0.true).after_is

pub recount-requires-clause-room : goal.recount-requires-clause-room
recount-requires-clause-room g c =
    let s = c.requires.0 in
    let l = c.requires.1.words in
    let e = counted_entry-law s c.args.node.at l.zone.whole c.requires.2.asked in
    closed_room c.args.pool.now c.args.context.at s c.args.node.at e.0 l e.1.found

pub returns-clause-reply : goal.returns-clause-reply
returns-clause-reply g c s l ready =
    let e = counted_entry-law s c.args.node.at l.words.zone.whole ready.asked in
    let is = closed_as c.args.pool.now c.args.context.at s c.args.node.at e.0 l.words e.1.found c.word-word.result c.count_in-count.result c.word-word.ensures.value c.count_in-count.ensures in
    (other_closed s c.args.node.at _ e.0 e.1.found (ap (λ (n : ℕ). n - 1) is) c.if-count-eq0.false).reply_is

pub returns-clause-laid : goal.returns-clause-laid
returns-clause-laid g c s l ready =
    let e = counted_entry-law s c.args.node.at l.words.zone.whole ready.asked in
    let is = closed_as c.args.pool.now c.args.context.at s c.args.node.at e.0 l.words e.1.found c.word-word.result c.count_in-count.result c.word-word.ensures.value c.count_in-count.ensures in
    counted_next c.recount.new.pool c.args.context.at c.args.entries.now s (is_at c.args.node.at) _ e.0 _ e.1.found l.counted (c.recount.ensures s c.args.context.at (is_at c.args.node.at) e.0 l.words e.1.found e.1.block) (other_closed s c.args.node.at _ e.0 e.1.found (ap (λ (n : ℕ). n - 1) is) c.if-count-eq0.false).after_is
