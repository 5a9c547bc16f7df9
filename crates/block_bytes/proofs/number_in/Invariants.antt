use Rattle.std.proofs.Common.{◌≡◌, ◌≤◌, ◌<◌, ◌-◌, ◌^◌, drop, length}
use Rattle.zone_key.specs.Word.{little_endian}
use Rattle.block_bytes.proofs.number_in.Given as goal

abbrev pub invariant-loop-k : goal.invariant-loop-k
invariant-loop-k l = record { so_far : l.number ≡ little_endian (drop l.k l.bytes); within : l.k ≤ length l.bytes; bounded : l.number < 256 ^ (length l.bytes - l.k) }
