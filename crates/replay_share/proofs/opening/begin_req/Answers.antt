use Rattle.replay_share.proofs.Served.{fresh_req}
use Rattle.replay_share.proofs.opening.begin_req.Goals as goal

pub returns : goal.returns
returns c = fresh_req c.args.given.now c.args.room c.in_ok-zone.zone c.in_ok-new.field-0 c.in_ok-zone.ensures c.in_ok-new.ensures.parts c.in_ok-new.ensures.run
