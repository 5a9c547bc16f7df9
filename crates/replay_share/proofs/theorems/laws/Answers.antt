use Rattle.replay_share.proofs.Alone.{alone-is-replay}
use Rattle.replay_share.proofs.OneReplay.{one_replay}
use Rattle.replay_share.proofs.SomeReplay.{some_replay}
use Rattle.replay_share.proofs.theorems.laws.Goals as goal

pub returns : goal.returns
returns c = record { one_replay = one_replay; some_replay = some_replay c.laws.ensures.refused c.laws.ensures.opened; alone = alone-is-replay }
