use Rattle.directive_text.proofs.Meaning.{printed_spells}
use Rattle.directive_text.proofs.theorems.printed_reads_back.Goals as goal

pub returns : goal.returns
returns c = printed_spells
