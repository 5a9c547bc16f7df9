use Rattle.std.proofs.Common.{◌≡◌, ◌≤◌, length}
use Rattle.directive_text.specs.Internals.Lexemes.{between}
use Rattle.directive_text.proofs.scanner.Scanner.skip_blank.Given as goal

abbrev pub invariant-loop-byte : goal.invariant-loop-byte
invariant-loop-byte l = record {
  same : between l.initial.self.line l.initial.self.left.now ≡ between l.self.line l.self.left.now;
  fewer : length l.self.left.now ≤ length l.initial.self.left.now;
}

abbrev pub decreases-loop-byte : goal.decreases-loop-byte
decreases-loop-byte l = length l.self.left.now
