use Rattle.std.proofs.Common.{refl}
use Rattle.zone_key.specs.Crc.{divide_bits}
use Rattle.zone_key.proofs.crc.crc32.Goals as goal

pub remainder_by-requires : goal.remainder_by-requires
unfolding divide_bits
remainder_by-requires c = refl
