use Rattle.std.proofs.Common.{◌≡◌, drop}
use Rattle.zone_key.specs.Crc.{remainder}
use Rattle.zone_key.proofs.crc.remainder_by.Given as goal

abbrev pub invariant-loop-byte : goal.invariant-loop-byte
invariant-loop-byte l = remainder l.remainder (drop l.byte-index l.bytes) ≡ remainder 0xFFFFFFFF l.bytes
