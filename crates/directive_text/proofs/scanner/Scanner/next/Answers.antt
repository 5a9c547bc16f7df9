use Rattle.std.proofs.Common.{refl, ◌∙◌}
use Rattle.directive_text.proofs.scanner.Scanner.next.Goals as goal

pub returns-clause-first : goal.returns-clause-first
returns-clause-first c =
    rw (c.in_ok-symbol.ensures.more, c.is_quote-self.ensures)
    (c.if-is_misplaced.ensures.other refl ∙ c.in-Some.ensures.same ∙ c.in_ok-symbol.ensures.first)
