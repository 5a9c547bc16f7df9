use Rattle.std.proofs.Common.{◌≡◌, take}
use Rattle.zone_key.specs.Value.{value_of}
use Rattle.zone_key.proofs.vars.value.Given as goal

abbrev pub invariant-loop-part : goal.invariant-loop-part
invariant-loop-part l = l.bytes.items ≡ value_of (take l.part-index l.expr.parts) l.vars
