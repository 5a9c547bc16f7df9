use Rattle.zone_tests.proofs.conn_calls.opened.Goals as goal

pub new-requires : goal.new-requires
new-requires c d = (_, d.in_ok-zone.ensures.quiet, d.in_ok-zone.ensures.opened)
