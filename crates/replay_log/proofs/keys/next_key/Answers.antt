use Rattle.replay_log.proofs.KeyLemmas.{next_limits}
use Rattle.replay_log.proofs.keys.next_key.Goals as goal

pub returns-clause-limits : goal.returns-clause-limits
returns-clause-limits c = next_limits c.args.number c.args.rest.now c.next_line.result c.next_line.ensures
