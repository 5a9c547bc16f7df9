use Rattle.std.proofs.Common.{◌∙◌, ap, not}
use Rattle.offset_tests.proofs.LineLemmas.{line_emptied}
use Rattle.offset_tests.proofs.line.drain.Goals as goal

pub returns : goal.returns
returns g c empty = line_emptied _ _ c.loop.invariant c.last.result (c.is_none.ensures ∙ ap (λ b. not b) empty) (c.last.ensures _ c.loop.invariant.line.queue)
