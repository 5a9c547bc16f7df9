use Rattle.directive_text.proofs.Meaning.{stays}
use Rattle.directive_text.proofs.theorems.faults_stay.Goals as goal

pub returns : goal.returns
returns c = stays
