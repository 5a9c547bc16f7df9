use Rattle.std.proofs.Common.{◌≡◌, length}
use Rattle.zone_outside.specs.Coded.{after, decoded}
use Rattle.zone_outside.proofs.coded.decode.Given as goal

abbrev pub invariant-loop-rest : goal.invariant-loop-rest
invariant-loop-rest l = decoded l.text ≡ after l.bytes.items (decoded l.rest)

abbrev pub decreases-loop-rest : goal.decreases-loop-rest
decreases-loop-rest l = length l.rest
