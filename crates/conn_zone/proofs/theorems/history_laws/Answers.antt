use Rattle.conn_zone.specs.ObjectLaws.{ready-law, holds-law}
use Rattle.conn_zone.proofs.theorems.history_laws.Goals as goal

pub returns-clause-ready : goal.returns-clause-ready
returns-clause-ready g c = ready-law

pub returns-clause-holds : goal.returns-clause-holds
returns-clause-holds g c = holds-law
