use Rattle.std.proofs.Common.{refl, arith}
use Rattle.shared_tests.specs.Rounds.{home}
use Rattle.shared_tests.proofs.Zones.{has_run}
use Rattle.shared_tests.proofs.halves.sixteen.Goals as goal

pub close-requires-clause-zone : goal.close-requires-clause-zone
close-requires-clause-zone g c = (home c.in_ok-zone.zone, refl, c.in_ok-passes.ensures.zone)

pub returns : goal.returns
returns g c =
    let passes = c.in_ok-passes.passes in
    has_run c.in_ok-zone.zone passes.items c.close.result.0 c.close.result.1.items
    (omega (arith, passes.ok.0, c.in_ok-passes.ensures.count, c.in_ok-zone.ensures.count)) c.in_ok-passes.ensures.zone c.close.ensures.run
