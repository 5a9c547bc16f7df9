use Rattle.std.proofs.Common.{sym, ◌∙◌}
use Rattle.shared_tests.proofs.Zones.{all_may_go}
use Rattle.shared_tests.proofs.rounds.opened_zone.Goals as goal

pub returns-clause-passes : goal.returns-clause-passes
returns-clause-passes g c =
    let new = c.in_ok-new.ensures in
    let zone = c.in_ok-zone.ensures in
    all_may_go c.in_ok-new.field-0 c.in_ok-zone.zone c.in_ok-zone.passes.items new.laid new.quiet (sym c.in_ok-zone.passes.ok.0 ∙ zone.count) zone.begins
