use Rattle.std.proofs.Common.{length}
use Rattle.zone_tests.proofs.peer_calls.+had.Given as goal

abbrev pub decreases-had : goal.decreases-had
decreases-had l = length l.entries.now
