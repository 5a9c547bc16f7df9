use Rattle.req_zone.proofs.tests.small_zone.Goals as goal

pub new-requires : goal.new-requires
new-requires c d = (_, d.in_ok-zone.ensures.quiet, d.in_ok-zone.ensures.laid.1)
