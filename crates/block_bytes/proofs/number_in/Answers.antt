use Rattle.std.proofs.Common.{◌-◌, ◌<◌, length, arith}
use Rattle.zone_key.proofs.WordLemmas.{number_down, bound_down, room}
use Rattle.block_bytes.proofs.number_in.Goals as goal

pub overflow_mul-number : goal.overflow_mul-number
overflow_mul-number c = omega (arith, room c.loop-k.number (length c.args.bytes.now - c.loop-k.k) c.loop-k.invariant.bounded (omega arith))

pub overflow_add-number : goal.overflow_add-number
overflow_add-number c =
    let low : c.from.result < 256 = omega (arith, c.from.ensures, c.type_inv.bytes (c.loop-k.k - 1)) in
    omega (arith, low, room c.loop-k.number (length c.args.bytes.now - c.loop-k.k) c.loop-k.invariant.bounded (omega arith))

pub loop-k-preserved : goal.loop-k-preserved
loop-k-preserved c =
    let low : c.from.result < 256 = omega (arith, c.from.ensures, c.type_inv.bytes (c.loop-k.k - 1)) in
    record {
      so_far = number_down c.args.bytes.now c.loop-k.k c.loop-k.number c.from.result c.loop-k-test.true c.loop-k.invariant.within c.loop-k.invariant.so_far c.from.ensures;
      within = omega arith;
      bounded = bound_down (length c.args.bytes.now) c.loop-k.k c.loop-k.number c.from.result c.loop-k-test.true c.loop-k.invariant.within c.loop-k.invariant.bounded low;
    }
