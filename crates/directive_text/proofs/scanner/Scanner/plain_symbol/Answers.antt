use Rattle.std.proofs.Common.{ap, sym, ◌∙◌, false}
use Rattle.directive_text.specs.Internals.Lexemes.{kept, plain}
use Rattle.directive_text.proofs.TextPlaces.{word-plain}
use Rattle.directive_text.proofs.scanner.Scanner.plain_symbol.Goals as goal

pub returns-clause-first : goal.returns-clause-first
returns-clause-first c =
    rw (c.in_ok-of.ensures, c.deref.ensures.value)
    (word-plain _ _ _ _ _ _ c.requires.next c.requires.inside c.requires.begins
    (ap (λ v. kept v (plain false c.args.self.now.line c.args.self.now.left.now)) (sym c.new-value.ensures.items)
    ∙ c.in_ok-dollar.ensures.goes_on ∙ c.in_ok-plain_word.ensures.whole))
