use Rattle.replay_log.proofs.KeyLemmas.{limits_of_keys}
use Rattle.replay_log.proofs.keys.read_keys.Goals as goal

pub returns-clause-limits : goal.returns-clause-limits
returns-clause-limits c = limits_of_keys c.args.text.now c.read_lines.result c.read_lines.ensures.value
