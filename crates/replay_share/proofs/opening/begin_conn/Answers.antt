use Rattle.replay_share.proofs.Served.{fresh_conn}
use Rattle.replay_share.proofs.opening.begin_conn.Goals as goal

pub returns : goal.returns
returns c = fresh_conn c.args.given.now c.args.room c.in_ok-zone.zone c.in_ok-new.field-0 c.in_ok-zone.ensures c.in_ok-new.ensures.parts c.in_ok-new.ensures.run
