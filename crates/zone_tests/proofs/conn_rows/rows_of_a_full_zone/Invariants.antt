use Rattle.std.proofs.Common.{◌≡◌, length}
use Rattle.zone_tests.proofs.conn_rows.rows_of_a_full_zone.Given as goal

abbrev pub invariant-loop-n : goal.invariant-loop-n
invariant-loop-n g l = (l.journal.room ≡ 384) × (length l.journal.log ≡ l.n-counter)
