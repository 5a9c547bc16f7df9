use Rattle.decision_text.proofs.LineLemmas.{req-tells, conn-tells, peer-tells}
use Rattle.decision_text.proofs.theorems.line_tells_its_call.Goals as goal

pub returns-clause-req : goal.returns-clause-req
returns-clause-req c = req-tells

pub returns-clause-conn : goal.returns-clause-conn
returns-clause-conn c = conn-tells

pub returns-clause-peer : goal.returns-clause-peer
returns-clause-peer c = peer-tells
