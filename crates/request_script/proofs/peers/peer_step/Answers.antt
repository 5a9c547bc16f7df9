use Rattle.request_script.proofs.peers.peer_step.Goals as goal

pub returns-in-Some : goal.returns-in-Some
returns-in-Some c = rw (← c.level_at.ensures, c.in-Some.is, ← c.servers_up.ensures) (c.choose.ensures c.args.config.now)
