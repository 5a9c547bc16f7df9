use Rattle.std.proofs.Common.{◌+◌, ◌*◌, vec_len}
use Rattle.replay_workers.proofs.work.+fn-work-join+arg2+fn-work-join+arg3+work.Given as goal

abbrev pub decreases-work : goal.decreases-work
decreases-work g l = 2 * vec_len l.rows

abbrev pub decreases-join+arg2 : goal.decreases-join+arg2
decreases-join+arg2 g l = 2 * vec_len l.rows + 1

abbrev pub decreases-join+arg3 : goal.decreases-join+arg3
decreases-join+arg3 g l = 2 * vec_len l.rest + 1
