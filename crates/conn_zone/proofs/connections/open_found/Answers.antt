use Rattle.std.proofs.Common.{subst, arith}
use Rattle.conn_zone.specs.declared.state.ConnState.{ConnState}
use Rattle.conn_zone.specs.Table.{has_key}
use Rattle.conn_zone.specs.Layout.{LaysCounted}
use Rattle.conn_zone.proofs.Answering.{at_limit, below_limit}
use Rattle.conn_zone.proofs.Stepping.{node_room, counted_as, counted_next}
use Rattle.conn_zone.proofs.connections.open_found.Goals as goal

pub word-word-requires : goal.word-word-requires
word-word-requires g c = let h = c.requires.there in node_room c.args.pool.now h.1 h.0 h.2 c.args.node.at h.3 h.4 h.5

pub returns-then-count-limit-clause-reply : goal.returns-then-count-limit-clause-reply
returns-then-count-limit-clause-reply g c s context key entry l found = (at_limit s key c.args.limit c.args.node.at _ entry found (counted_as c.args.pool.now context s key c.args.node.at entry l found c.word-word.result c.count_in-count.result c.word-word.ensures.value c.count_in-count.ensures) (omega (arith, c.if-count-limit.true))).reply_is

pub returns-then-count-limit-clause-laid : goal.returns-then-count-limit-clause-laid
returns-then-count-limit-clause-laid g c s context entries key entry l found = subst (λ (t : ConnState). LaysCounted c.args.pool.now context entries t) (at_limit s key c.args.limit c.args.node.at _ entry found (counted_as c.args.pool.now context s key c.args.node.at entry l.words found c.word-word.result c.count_in-count.result c.word-word.ensures.value c.count_in-count.ensures) (omega (arith, c.if-count-limit.true))).after_is l

pub recount-requires-clause-room : goal.recount-requires-clause-room
recount-requires-clause-room g c = let h = c.requires.there in node_room c.args.pool.now h.1 h.0 h.2 c.args.node.at h.3 h.4 h.5

pub returns-clause-reply : goal.returns-clause-reply
returns-clause-reply g c s context key entry l found = (below_limit s key c.args.limit c.args.node.at _ entry found (counted_as c.args.pool.now context s key c.args.node.at entry l found c.word-word.result c.count_in-count.result c.word-word.ensures.value c.count_in-count.ensures) (omega (arith, c.if-count-limit.false))).reply_is

pub returns-clause-laid : goal.returns-clause-laid
returns-clause-laid g c s context entries key entry l found = counted_next c.recount.new.pool context entries s (has_key key) _ entry _ found.by_key l.counted
    (c.recount.ensures s context (has_key key) entry l.words found.by_key found.at_block)
    (below_limit s key c.args.limit c.args.node.at _ entry found (counted_as c.args.pool.now context s key c.args.node.at entry l.words found c.word-word.result c.count_in-count.result c.word-word.ensures.value c.count_in-count.ensures) (omega (arith, c.if-count-limit.false))).after_is
