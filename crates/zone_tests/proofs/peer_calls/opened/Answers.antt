use Rattle.zone_tests.proofs.OpenedLemmas.{opened-begins}
use Rattle.zone_tests.proofs.peer_calls.opened.Goals as goal

pub returns : goal.returns
returns g c = opened-begins _ c.open.result c.open.ensures.laid c.open.ensures.quiet
