use Rattle.std.proofs.Common.{ap, sym, ◌∙◌}
use Rattle.directive_text.specs.Internals.Lexemes.{kept, quoted}
use Rattle.directive_text.proofs.TextPlaces.{word-quoted}
use Rattle.directive_text.proofs.scanner.Scanner.quoted_symbol.Goals as goal

pub returns-clause-first : goal.returns-clause-first
returns-clause-first c =
    rw (c.in_ok-of.ensures, c.deref.ensures.value)
    (word-quoted _ _ c.pass.ensures c.requires.quote
    (ap (λ v. kept v (quoted c.args.quote c.pass.new.self.line c.pass.new.self.left.now)) (sym c.new-value.ensures.items)
    ∙ c.in_ok-quoted_word.ensures.whole))
