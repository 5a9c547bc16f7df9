use Rattle.std.proofs.Common.{[], ◌∷◌, ◌||◌, ap, ◌∙◌}
use Rattle.std.specs.Prelude.{◌==◌}
use Rattle.directive_text.specs.Internals.Lexemes.{kept, plain}
use Rattle.directive_text.proofs.TextPlaces.{kept_kept, pass-backslash, pass-plain}
use Rattle.directive_text.proofs.scanner.Scanner.plain_byte.Goals as goal

pub returns-then-byte-eq92-clause-goes_on : goal.returns-then-byte-eq92-clause-goes_on
returns-then-byte-eq92-clause-goes_on c =
    ap (kept c.args.word.now.items) (pass-backslash c.args.dollar c.pass.ensures c.if-byte-eq92.true) ∙ c.in_ok-pair.ensures.plain

pub returns-clause-goes_on : goal.returns-clause-goes_on
returns-clause-goes_on c =
    rw (c.in_ok-push.ensures.items, c.keeps_brace.ensures)
    (ap (kept c.args.word.now.items) (pass-plain c.args.dollar c.pass.ensures c.requires.inside c.if-byte-eq92.false) ∙ kept_kept c.args.word.now.items (c.args.byte ∷ []) (plain (c.args.byte == 36 || c.args.byte == 123) c.pass.new.self.line c.pass.new.self.left.now))
