use Rattle.directive_text.proofs.Meaning.{spelled_fits}
use Rattle.directive_text.proofs.theorems.spelled_fits.Goals as goal

pub returns : goal.returns
returns c = spelled_fits
