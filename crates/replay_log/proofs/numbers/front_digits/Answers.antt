use Rattle.std.proofs.Common.{◌≡◌, ◌∙◌, ◌<◌, true, length, get_or, sym, arith}
use Rattle.std.specs.Char.{is_ascii_digit}
use Rattle.replay_log.proofs.DigitLemmas.{digits_more, value_more}
use Rattle.replay_log.proofs.numbers.front_digits.Goals as goal

pub loop-value-preserved : goal.loop-value-preserved
loop-value-preserved c =
    let text = c.args.text.now in
    let count = c.loop-value.count in
    let below : count < length text = c.if-count-text.true in
    let here : is_ascii_digit (get_or text count 0) ≡ true = sym c.is_ascii_digit.ensures.value ∙ c.if-is_ascii_digit.true in
    let more = value_more text count below here in
    let before = c.loop-value.invariant.value in
    let digit = c.from.ensures in
    record {
      within = omega (arith, below);
      digits = digits_more text count c.loop-value.invariant.digits below here;
      value = omega (arith, more, before, digit);
    }
