use Rattle.std.proofs.Common.{◌≤◌, arith, sym}
use Rattle.replay_log.proofs.NumberLemmas.{number-le}
use Rattle.replay_log.proofs.requests.read_conn.Goals as goal

pub overflow_cast-result : goal.overflow_cast-result
overflow_cast-result c =
    let found = c.in-Some.ensures in
    let within : c.in-Some.conn ≤ 4294967295 = number-le 4294967295 found.0 c.in-Some.conn (sym found.1.1) in
    omega arith
