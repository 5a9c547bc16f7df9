use Rattle.std.proofs.Common.{◌≡◌, ◌++◌, take}
use Rattle.zone_key.specs.Value.{dotted}
use Rattle.zone_key.proofs.vars.push_dotted.Given as goal

abbrev pub invariant-loop-i : goal.invariant-loop-i
invariant-loop-i l = l.bytes.items ≡ l.initial.bytes.items ++ dotted (take l.i l.address)
