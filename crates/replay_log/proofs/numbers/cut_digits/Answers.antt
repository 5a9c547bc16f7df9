use Rattle.std.proofs.Common.{◌≡◌, ◌≤◌, ◌<◌, ◌+◌, ◌-◌, ◌∷◌, ◌∙◌, true, length, take, drop, Some, ap, sym, arith}
use Rattle.std.proofs.lemmas.Grind.{common_steps}
use Rattle.std.specs.Str.Parse.{digits_value}
use Rattle.zone_outside.specs.Numbers.{is_number}
use Rattle.replay_log.specs.Lines.{parts}
use Rattle.replay_log.proofs.DigitLemmas.{digits_to_end, digits_before, number_within}
use Rattle.replay_log.proofs.numbers.cut_digits.Goals as goal

pub returns-then-count-text : goal.returns-then-count-text
returns-then-count-text c =
    let text = c.args.text.now in
    let front = c.front_digits-value.ensures in
    let count = c.front_digits-value.result.1 in
    let value = front.value in
    let within : digits_value 10 (take count text) ≤ c.args.most = omega (arith, value, c.if-value-most.false) in
    let spelled : is_number (take count text) ≡ true = sym c.are_spelled.ensures ∙ c.if-not-are_spelled.false in
    let whole : length text ≤ count = omega (arith, c.if-count-text.true) in
    (take count text, (digits_to_end c.args.separator text count c.requires front.digits whole, number_within c.args.most (take count text) spelled within ∙ ap Some (sym value)))

pub returns-then-text-count : goal.returns-then-text-count
returns-then-text-count c =
    let text = c.args.text.now in
    let front = c.front_digits-value.ensures in
    let count = c.front_digits-value.result.1 in
    let value = front.value in
    let within : digits_value 10 (take count text) ≤ c.args.most = omega (arith, value, c.if-value-most.false) in
    let spelled : is_number (take count text) ≡ true = sym c.are_spelled.ensures ∙ c.if-not-are_spelled.false in
    let below : count < length text = omega (arith, front.within, c.if-count-text.false) in
    let here = c.if-text-count.true in
    let whole : take (length text - (count + 1)) (drop (count + 1) text) ≡ drop (count + 1) text = grind (arith, common_steps) in
    let front_part = digits_before c.args.separator text count c.requires front.digits below here in
    (take count text, (front_part ∙ ap (λ rest. take count text ∷ parts c.args.separator rest) (sym whole), number_within c.args.most (take count text) spelled within ∙ ap Some (sym value)))
