use Rattle.std.proofs.Common.{◌∙◌, ◌+◌, ap, [], ◌∷◌, arith, sym, length-append}
use Rattle.replay_log.specs.Lines.{parts, lines_from}
use Rattle.replay_log.proofs.LineLemmas.{after_lines, after_more, next_lines}
use Rattle.replay_log.proofs.lines.read_lines.Goals as goal

pub loop-rest-preserved : goal.loop-rest-preserved
loop-rest-preserved g c =
    let says = g.F.LineForm.says c.args.form.now in
    let n = c.loop-rest.number in
    let line = c.in_ok-line.line in
    let tail = c.in_ok-line.tail.now in
    let counts = c.in_ok-line.ensures.counts in
    record {
      said = c.loop-rest.invariant.said ∙ ap (after_lines c.loop-rest.lines.items) (next_lines says n c.loop-rest.rest.now line tail c.in_ok-line.ensures)
          ∙ after_more c.loop-rest.lines.items n line (lines_from says (n + 1) (parts 10 tail))
          ∙ ap (λ ks. after_lines ks (lines_from says (n + 1) (parts 10 tail))) (sym c.in_ok-push.ensures.items);
      counted = omega (arith, counts);
      numbered = rw c.in_ok-push.ensures.items (omega (arith, length-append c.loop-rest.lines.items (line ∷ []), c.loop-rest.invariant.numbered));
    }
