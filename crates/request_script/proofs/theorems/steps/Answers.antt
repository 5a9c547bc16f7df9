use Rattle.request_script.proofs.Following.{exchange-law, line-law}
use Rattle.request_script.proofs.theorems.steps.Goals as goal

pub returns : goal.returns
returns c = record { exchange = exchange-law; line = line-law }
