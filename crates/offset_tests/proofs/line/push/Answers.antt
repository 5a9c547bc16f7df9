use Rattle.offset_tests.proofs.LineLemmas.{can_push_three, line_with}
use Rattle.offset_tests.proofs.line.push.Goals as goal

pub push_front-requires : goal.push_front-requires
push_front-requires g c = (c.requires.there.0, can_push_three _ _ _ _ c.requires.there.1 c.requires.one c.requires.there.2)

pub returns : goal.returns
returns g c xs l absent =
    let can = can_push_three _ _ _ _ l c.requires.one absent in
    line_with _ _ _ _ xs l c.requires.one (c.push_front.ensures.lays xs can) (c.push_front.ensures.changes xs can)
