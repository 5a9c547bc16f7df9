use Rattle.std.proofs.Common.{rules}
use Rattle.directive_text.proofs.TextPlaces.{inside-plain, mark-semicolon, mark-opening, mark-closing}
use Rattle.directive_text.proofs.scanner.Scanner.symbol.Goals.{in-59, in-123, in-125}
use Rattle.directive_text.proofs.scanner.Scanner.symbol.Goals as goal

pub plain_symbol-requires-clause-inside : goal.plain_symbol-requires-clause-inside
plain_symbol-requires-clause-inside c = inside-plain c.args.byte c.requires.begins.0 (search rules) (search rules)

pub returns-clause-first : goal.returns-clause-first
returns-clause-first c =
    rw (← c.if-is_quote.ensures)
    (elim c.match-byte.branch [
      | in-59 w ↦ rw w.symbol-is (mark-semicolon c.pass.ensures w.in-59.is)
      | in-123 w ↦ rw w.symbol-is (mark-opening c.pass.ensures w.in-123.is)
      | in-125 w ↦ rw w.symbol-is (mark-closing c.pass.ensures w.in-125.is)
    ])
