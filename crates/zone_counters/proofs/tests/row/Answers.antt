use Rattle.zone_counters.specs.Counting.{zero_counters}
use Rattle.zone_counters.proofs.tests.row.Goals as goal

pub new-requires-2 : goal.new-requires-2
new-requires-2 c = (zero_counters 3, c.in_ok-counters.ensures.quiet, c.in_ok-counters.ensures.laid)
