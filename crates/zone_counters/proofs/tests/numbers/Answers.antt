use Rattle.std.proofs.Common.{lit<}
use Rattle.zone_counters.specs.Counting.{zero_counters}
use Rattle.zone_counters.proofs.tests.numbers.Goals as goal

pub apply_uncounted-reply-requires : goal.apply_uncounted-reply-requires
apply_uncounted-reply-requires g c = (zero_counters 3, c.in_ok-counters.ensures.laid, lit< tt)
