use Rattle.decision_text.proofs.CodingLemmas.{reads_back}
use Rattle.decision_text.proofs.theorems.coded_reads_back.Goals as goal

pub returns : goal.returns
returns c = reads_back
