use Rattle.decision_text.proofs.LinesApart.{decision-before}
use Rattle.decision_text.proofs.theorems.decision_line_is_one_line.Goals as goal

pub returns : goal.returns
returns c = decision-before
