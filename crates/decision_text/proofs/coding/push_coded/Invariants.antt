use Rattle.std.proofs.Common.{◌≡◌, ◌++◌, take}
use Rattle.std.specs.List.{flat_map}
use Rattle.decision_text.specs.Coding.{coded_byte}
use Rattle.decision_text.proofs.coding.push_coded.Given as goal

abbrev pub invariant-loop-byte : goal.invariant-loop-byte
invariant-loop-byte l = l.text.items ≡ l.initial.text.items ++ flat_map coded_byte (take l.byte-index l.name)
