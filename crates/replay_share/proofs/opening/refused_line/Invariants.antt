use Rattle.std.proofs.Common.{◌≡◌, drop}
use Rattle.replay_share.specs.Opening.{refused_line}
use Rattle.replay_share.proofs.opening.refused_line.Given as goal

abbrev pub invariant-loop-zone : goal.invariant-loop-zone
invariant-loop-zone l = refused_line l.zones ≡ refused_line (drop l.zone-index l.zones)
