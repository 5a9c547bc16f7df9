use Rattle.std.proofs.Common.{ap, ◌∙◌, ◌+◌}
use Rattle.replay_log.specs.Lines.{parts, lines_from, before_rest}
use Rattle.replay_log.proofs.LineLemmas.{line_too_many, line_counts}
use Rattle.replay_log.proofs.lines.next_line.Goals as goal

pub returns-then-number-gt-MOST_LINES : goal.returns-then-number-gt-MOST_LINES
returns-then-number-gt-MOST_LINES g c =
    let says = g.F.LineForm.says c.args.form.now in
    rw c.from-then-number-gt-MOST_LINES.ensures (ap (lines_from says c.args.number) c.in-Some.ensures.0 ∙ line_too_many says c.args.number c.in-Some.front.now c.in-Some.tail.now c.if-number-gt-MOST_LINES.true)

pub returns-in-Ok : goal.returns-in-Ok
returns-in-Ok g c = record { front = c.in-Some.front.now; cut = c.in-Some.ensures.0; said = c.in-Ok.ensures; shorter = c.in-Some.ensures.1; counts = c.if-number-gt-MOST_LINES.false }

pub returns-in-Err-Kind : goal.returns-in-Err-Kind
returns-in-Err-Kind g c =
    let says = g.F.LineForm.says c.args.form.now in
    rw (c.in-Err-Kind.field-0-is, c.from-in-Err-Kind.ensures) (ap (lines_from says c.args.number) c.in-Some.ensures.0
    ∙ line_counts says c.args.number c.in-Some.front.now c.in-Some.tail.now c.if-number-gt-MOST_LINES.false
    ∙ ap (λ l. before_rest c.args.number l (lines_from says (c.args.number + 1) (parts 10 c.in-Some.tail.now))) (rw c.in-Err-Kind.field-0-is at c.in-Err-Kind.ensures))
