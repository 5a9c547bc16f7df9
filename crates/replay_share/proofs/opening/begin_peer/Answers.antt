use Rattle.replay_share.proofs.Served.{fresh_peer}
use Rattle.replay_share.proofs.opening.begin_peer.Goals as goal

pub returns-in_ok-new-in-Ok : goal.returns-in_ok-new-in-Ok
returns-in_ok-new-in-Ok c =
    let begun = fresh_peer c.args.given.now c.args.room c.in-Ok.zone c.in_ok-new-in-Ok.field-0 c.in-Ok.ensures.0 c.in_ok-new-in-Ok.ensures.parts c.in_ok-new-in-Ok.ensures.run in
    (begun.0, begun.1, c.in-Ok.ensures.1)
