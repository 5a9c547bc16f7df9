use Rattle.zone_key.proofs.Printed.{printed-spells}
use Rattle.zone_key.proofs.theorems.printed_reads_back.Goals as goal

pub returns : goal.returns
returns c = printed-spells
