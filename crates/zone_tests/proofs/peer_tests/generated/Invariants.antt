use Rattle.std.proofs.Common.{◌≡◌, length}
use Rattle.zone_tests.proofs.peer_tests.generated.Given as goal

abbrev pub invariant-loop-n : goal.invariant-loop-n
invariant-loop-n g l = (l.journal.room ≡ 2000) × (length l.journal.log ≡ l.n-counter)
