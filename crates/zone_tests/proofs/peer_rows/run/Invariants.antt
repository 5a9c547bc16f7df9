use Rattle.std.proofs.Common.{◌≡◌, length}
use Rattle.zone_tests.proofs.peer_rows.run.Given as goal

abbrev pub invariant-loop-call : goal.invariant-loop-call
invariant-loop-call g l = (l.journal.room ≡ l.call-index-end) × (length l.journal.log ≡ l.call-index)
