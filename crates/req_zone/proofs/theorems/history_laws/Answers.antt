use Rattle.req_zone.specs.ObjectLaws.{ready-law, holds-law}
use Rattle.req_zone.proofs.theorems.history_laws.Goals as goal

pub returns : goal.returns
returns g c = record { ready = ready-law; holds = holds-law }
