use Rattle.std.proofs.Common.{◌≡◌, length}
use Rattle.req_zone.proofs.tests.run.Given as goal

abbrev pub invariant-loop-now : goal.invariant-loop-now
invariant-loop-now g l = (l.journal.room ≡ l.now-index-end) × (length l.journal.log ≡ l.now-index)
