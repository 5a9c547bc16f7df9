use Rattle.std.proofs.Common.{◌≡◌, ◌<◌, ◌+◌, ◌-◌, ◌∷◌, ◌∙◌, ap, length, take, drop, sym, arith, length-drop}
use Rattle.std.proofs.lemmas.Grind.{common_steps}
use Rattle.replay_log.proofs.PartLemmas.{one_part_without, first_part_at}
use Rattle.replay_log.specs.Lines.{parts}
use Rattle.replay_log.proofs.cut.cut_near.Goals as goal

pub returns-in_err-at : goal.returns-in_err-at
returns-in_err-at c = rw c.from_residual.ensures (one_part_without c.args.separator c.args.text.now (sym c.in_err-at.ensures.value))

pub returns : goal.returns
returns c =
    let high : c.in_ok-at.at < length c.args.text.now = c.in_ok-at.ensures.within in
    let first = first_part_at c.args.separator c.args.text.now c.in_ok-at.at (sym c.in_ok-at.ensures.value) in
    let whole : take (length c.args.text.now - (c.in_ok-at.at + 1)) (drop (c.in_ok-at.at + 1) c.args.text.now) ≡ drop (c.in_ok-at.at + 1) c.args.text.now = grind (arith, common_steps) in
    (first ∙ ap (λ rest. take c.in_ok-at.at c.args.text.now ∷ parts c.args.separator rest) (sym whole), rw whole (omega (arith, length-drop (c.in_ok-at.at + 1) c.args.text.now)))
