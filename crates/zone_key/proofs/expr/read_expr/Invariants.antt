use Rattle.std.proofs.Common.{◌≡◌, ◌≤◌, length}
use Rattle.zone_key.specs.Expr.{after, parts_of}
use Rattle.zone_key.proofs.expr.read_expr.Given as goal

abbrev pub invariant-loop-rest : goal.invariant-loop-rest
invariant-loop-rest l = record { read : parts_of l.text ≡ after l.parts (parts_of l.rest); few : length l.parts ≤ 8 }

abbrev pub decreases-loop-rest : goal.decreases-loop-rest
decreases-loop-rest l = length l.rest
