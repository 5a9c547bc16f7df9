use Rattle.std.proofs.Common.{◌<◌, ◌+◌, ◌*◌, ◌-◌, get_or, take, arith}
use Rattle.std.specs.Str.Parse.{digits_value}
use Rattle.zone_outside.proofs.DigitLemmas.{digit_in_range, value_more, too_much}
use Rattle.zone_outside.proofs.numbers.value_up_to.Goals as goal
use Rattle.zone_outside.proofs.numbers.value_up_to.Goals.{then-value-most-via-then-value-most, then-value-most-via-else-value-most+then-digit-most}

pub overflow_sub-byte : goal.overflow_sub-byte
overflow_sub-byte c = omega (arith, digit_in_range c.args.digits.now c.loop-byte.byte-index c.requires c.loop-byte-test.true)

pub returns-then-value-most : goal.returns-then-value-most
returns-then-value-most c =
    let value = c.loop-byte.invariant.0 in
    let above : c.args.most < digits_value 10 (take c.loop-byte.byte-index c.args.digits.now) * 10 + (get_or c.args.digits.now c.loop-byte.byte-index 0 - 48) =
    elim c.then-value-most.branch [ then-value-most-via-then-value-most w ↦ omega arith | then-value-most-via-else-value-most+then-digit-most w ↦ omega (arith, c.from-digit.ensures) ] in
    too_much c.args.digits.now c.loop-byte.byte-index c.args.most c.requires c.loop-byte-test.true above

pub loop-byte-preserved : goal.loop-byte-preserved
loop-byte-preserved c =
    let more = value_more c.args.digits.now c.loop-byte.byte-index c.requires c.loop-byte-test.true in
    let value = c.loop-byte.invariant.0 in
    (omega (arith, c.from-digit.ensures), omega (arith, c.from-digit.ensures))
