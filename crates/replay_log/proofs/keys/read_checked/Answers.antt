use Rattle.std.proofs.Common.{◌<◌, length, ap, sym, ◌∙◌, arith}
use Rattle.replay_log.specs.Keys.{at_key}
use Rattle.replay_log.specs.Reading.{words_left}
use Rattle.replay_log.proofs.KeyLemmas.{plain_line}
use Rattle.replay_log.proofs.keys.read_checked.Goals as goal

pub returns-in_ok-key-in-Some : goal.returns-in_ok-key-in-Some
returns-in_ok-key-in-Some c =
    let rest = c.in-Some.rest.now in
    let some : 0 < length rest = grind (arith, c.if-not-is_empty.true, c.is_empty.ensures) in
    ap (λ words. at_key c.args.moment (words_left words)) c.in-Some.is
    ∙ plain_line c.args.moment rest c.in_ok-key-in-Some.key some (sym c.are_plain.ensures ∙ c.if-are_plain.true) c.in_ok-key-in-Some.ensures
