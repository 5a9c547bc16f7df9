use Rattle.std.proofs.Common.{◌<◌, arith, refl}
use Rattle.zone_key.proofs.CrcLemmas.{remainder_step}
use Rattle.zone_key.proofs.crc.remainder_by.Goals as goal

pub loop-byte-preserved : goal.loop-byte-preserved
loop-byte-preserved c =
    let i = c.loop-byte.byte-index in
    let low : c.from.result < 256 = omega (arith, c.from.ensures, c.type_inv.bytes i) in
    remainder_step c.args.table.now c.args.bytes.now i c.loop-byte.remainder c.from.result _ _ c.requires (omega arith) c.loop-byte-test.true c.from.ensures low refl c.loop-byte.invariant
