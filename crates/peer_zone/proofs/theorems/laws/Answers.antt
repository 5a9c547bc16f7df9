use Rattle.peer_zone.specs.ObjectLaws.{answer-law, start-law}
use Rattle.peer_zone.proofs.ChoiceLaws.{no_peer-law, no_change-law, chosen-law, nearest-law}
use Rattle.peer_zone.proofs.LeastLaws.{least-law}
use Rattle.peer_zone.specs.Proving.Sums.{sum-law}
use Rattle.peer_zone.proofs.RefusedLaws.{refused-law}
use Rattle.peer_zone.proofs.OpeningLaws.{opened-law}
use Rattle.peer_zone.proofs.BlockLaws.{blocks-law}
use Rattle.peer_zone.proofs.theorems.laws.Goals as goal

pub returns : goal.returns
returns c = record {
  no_peer = no_peer-law;
  no_change = no_change-law;
  chosen = chosen-law;
  nearest = nearest-law;
  least = least-law;
  sum = sum-law;
  refused = refused-law;
  opened = opened-law;
  blocks = blocks-law;
  answers = answer-law;
  start = start-law;
}
