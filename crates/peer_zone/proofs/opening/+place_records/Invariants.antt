use Rattle.std.proofs.Common.{length}
use Rattle.peer_zone.proofs.opening.+place_records.Given as goal

abbrev pub decreases-place_records : goal.decreases-place_records
decreases-place_records l = length l.servers.now
