use Rattle.std.proofs.lemmas.Bool.{lt-ltb}
use Rattle.request_script.proofs.peers.tries_next.Goals as goal

pub returns-then-tries-gt0 : goal.returns-then-tries-gt0
returns-then-tries-gt0 c = rw (← c.tries_left-tries.ensures, lt-ltb 0 c.tries_left-tries.result c.if-tries-gt0.true) (c.choose.ensures c.args.config.now)
