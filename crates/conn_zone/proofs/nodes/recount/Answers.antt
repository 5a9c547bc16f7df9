use Rattle.conn_zone.proofs.Stepping.{recounted_zone}
use Rattle.conn_zone.proofs.nodes.recount.Goals as goal

pub returns : goal.returns
returns c s context test entry l found block = recounted_zone c.args.pool.now c.set.new.self context s test entry c.args.node.at c.args.word c.with_count.result c.args.count (record { room = c.requires.room; word_is = c.requires.word; set = c.set.ensures.sets; recounts = c.with_count.ensures; rest = c.set.ensures.rest }) l found block
