use Rattle.std.proofs.Common.{ap, ◌∙◌, arith}
use Rattle.directive_text.specs.Internals.Lexemes.{kept}
use Rattle.directive_text.proofs.TextPlaces.{length-next, pass-quoted_backslash, pass-quote}
use Rattle.directive_text.proofs.scanner.Scanner.quoted_word.Goals as goal

pub loop-byte-preserved-in-Continue-1 : goal.loop-byte-preserved-in-Continue-1
loop-byte-preserved-in-Continue-1 c = record {
  read =
      c.loop-byte.invariant.read
      ∙ ap (kept c.loop-byte.word.items) (pass-quoted_backslash c.args.quote c.pass.ensures c.if-byte-quote.false c.if-byte-eq92.true)
      ∙ c.in_ok-pair.ensures.quoted c.args.quote;
  fewer = omega (arith, length-next c.pass.ensures);
}

pub returns-then-byte-quote-clause-whole : goal.returns-then-byte-quote-clause-whole
returns-then-byte-quote-clause-whole c =
    c.loop-byte.invariant.read ∙ ap (kept c.loop-byte.word.items) (pass-quote c.args.quote c.pass.ensures c.requires c.if-byte-quote.true)
