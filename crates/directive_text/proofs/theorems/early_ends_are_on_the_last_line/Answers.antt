use Rattle.directive_text.proofs.Meaning.{on_last_line}
use Rattle.directive_text.proofs.theorems.early_ends_are_on_the_last_line.Goals as goal

pub returns : goal.returns
returns c = on_last_line
