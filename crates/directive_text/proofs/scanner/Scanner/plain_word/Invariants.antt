use Rattle.std.proofs.Common.{◌≡◌, ◌≤◌, length}
use Rattle.directive_text.specs.Internals.Lexemes.{kept, plain}
use Rattle.directive_text.proofs.scanner.Scanner.plain_word.Given as goal

abbrev pub invariant-loop-byte : goal.invariant-loop-byte
invariant-loop-byte l = record {
  read : kept l.initial.word.items (plain l.fn.dollar l.initial.self.line l.initial.self.left.now) ≡ kept l.word.items (plain l.dollar l.self.line l.self.left.now);
  fewer : length l.self.left.now ≤ length l.initial.self.left.now;
}

abbrev pub decreases-loop-byte : goal.decreases-loop-byte
decreases-loop-byte l = length l.self.left.now
