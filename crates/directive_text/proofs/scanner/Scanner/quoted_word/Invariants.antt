use Rattle.std.proofs.Common.{◌≡◌, ◌≤◌, length}
use Rattle.directive_text.specs.Internals.Lexemes.{kept, quoted}
use Rattle.directive_text.proofs.scanner.Scanner.quoted_word.Given as goal

abbrev pub invariant-loop-byte : goal.invariant-loop-byte
invariant-loop-byte l = record {
  read : kept l.initial.word.items (quoted l.quote l.initial.self.line l.initial.self.left.now) ≡ kept l.word.items (quoted l.quote l.self.line l.self.left.now);
  fewer : length l.self.left.now ≤ length l.initial.self.left.now;
}

abbrev pub decreases-loop-byte : goal.decreases-loop-byte
decreases-loop-byte l = length l.self.left.now
