use Rattle.std.proofs.Common.{◌∙◌, arith}
use Rattle.directive_text.proofs.TextPlaces.{length-next, pass-hash}
use Rattle.directive_text.proofs.scanner.Scanner.skip_blank.Goals as goal

pub loop-byte-preserved-then-byte-eq35 : goal.loop-byte-preserved-then-byte-eq35
loop-byte-preserved-then-byte-eq35 c = record {
  same = c.loop-byte.invariant.same ∙ pass-hash c.pass.ensures c.if-byte-eq35.true ∙ c.skip_comment.ensures.same;
  fewer = omega (arith, length-next c.pass.ensures);
}
