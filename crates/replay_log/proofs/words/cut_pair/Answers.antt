use Rattle.std.proofs.Common.{◌≡◌, ◌<◌, ◌+◌, ◌-◌, ◌∙◌, ap, length, take, drop, sym, arith}
use Rattle.std.proofs.lemmas.Grind.{common_steps}
use Rattle.zone_outside.specs.Coded.{decoded}
use Rattle.replay_log.specs.Words.{pair_at, named_pair}
use Rattle.replay_log.proofs.words.cut_pair.Goals as goal

pub returns-in_err-at : goal.returns-in_err-at
returns-in_err-at c = rw c.from_residual.ensures (ap (pair_at c.args.word.now) (sym c.in_err-at.ensures.value))

pub returns : goal.returns
returns c =
    let high : c.in_ok-at.at < length c.args.word.now = c.in_ok-at.ensures.within in
    let whole : take (length c.args.word.now - (c.in_ok-at.at + 1)) (drop (c.in_ok-at.at + 1) c.args.word.now) ≡ drop (c.in_ok-at.at + 1) c.args.word.now = grind (arith, common_steps) in
    ap (pair_at c.args.word.now) (sym c.in_ok-at.ensures.value) ∙ ap (λ text. named_pair (take c.in_ok-at.at c.args.word.now) (decoded text)) (sym whole)
