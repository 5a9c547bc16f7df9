use Rattle.std.proofs.Common.{◌+◌, ◌*◌, vec_len}
use Rattle.shared_tests.proofs.halves.+all_rounds+fn-all_rounds-join+arg2+fn-all_rounds-join+arg3.Given as goal

abbrev pub decreases-all_rounds : goal.decreases-all_rounds
decreases-all_rounds g l = 2 * vec_len l.passes

abbrev pub decreases-join+arg2 : goal.decreases-join+arg2
decreases-join+arg2 g l = 2 * vec_len l.passes + 1

abbrev pub decreases-join+arg3 : goal.decreases-join+arg3
decreases-join+arg3 g l = 2 * vec_len l.rest + 1
