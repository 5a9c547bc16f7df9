use Rattle.std.proofs.Common.{◌≡◌, ◌++◌, false, length}
use Rattle.directive_text.specs.Internals.Tokens.{first_fault}
use Rattle.directive_text.specs.Internals.Tokens.{token_marks}
use Rattle.directive_text.specs.Internals.Lexemes.{tokens_of}
use Rattle.directive_text.specs.Internals.ScanSteps.{ahead}
use Rattle.directive_text.specs.Internals.Tokens.{fault_of}
use Rattle.directive_text.proofs.reader.read.Given as goal

abbrev pub invariant-tokens : goal.invariant-tokens
invariant-tokens l = record {
  faults : fault_of l.fn.text ≡ first_fault l.builder.blocks l.builder.pending (ahead l.scanner.after_quote l.scanner.line l.scanner.left.now);
  marks : token_marks false (tokens_of l.fn.text) ≡ l.builder.marks ++ token_marks l.builder.pending (ahead l.scanner.after_quote l.scanner.line l.scanner.left.now);
}

abbrev pub decreases-tokens : goal.decreases-tokens
decreases-tokens l = length l.scanner.left.now
