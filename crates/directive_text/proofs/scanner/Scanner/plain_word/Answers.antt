use Rattle.std.proofs.Common.{ap, sym, ◌∙◌}
use Rattle.directive_text.specs.Internals.Lexemes.{kept}
use Rattle.directive_text.proofs.TextPlaces.{plain-end-at}
use Rattle.directive_text.proofs.scanner.Scanner.plain_word.Goals as goal

pub returns-then-ends_plain-clause-whole : goal.returns-then-ends_plain-clause-whole
returns-then-ends_plain-clause-whole c =
    c.loop-byte.invariant.read ∙ ap (kept c.loop-byte.word.items) (plain-end-at _ _ _ _ _ c.in-Some.ensures (sym c.if-ends_plain.ensures))
