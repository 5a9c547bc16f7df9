use Rattle.std.proofs.Common.{ap, arith, length, List, ◌∙◌}
use Rattle.replay_log.specs.declared.line.Line.{Line}
use Rattle.zonereplay.proofs.MadeLemmas.{made-count}
use Rattle.zonereplay.proofs.made.write_made.Goals as goal

pub write_summary-requires-clause-few : goal.write_summary-requires-clause-few
write_summary-requires-clause-few c =
    let count = ap (λ (lines : List Line). length lines) (c.deref.ensures.value ∙ c.in_ok-lines.ensures.made) ∙ made-count _ c.args.count in
    omega (arith, count, c.requires)
