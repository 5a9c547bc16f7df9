use Rattle.std.specs.Prelude.{◌≡◌, length}
use Rattle.offset_tests.proofs.keys.counted.Given as goal

abbrev pub invariant-loop-k : goal.invariant-loop-k
invariant-loop-k l = length l.numbers.items ≡ l.k
