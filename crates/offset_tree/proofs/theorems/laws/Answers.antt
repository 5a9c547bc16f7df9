use Rattle.offset_tree.proofs.BoundLemmas.{digits-law, search_cost-rises}
use Rattle.offset_tree.proofs.theorems.laws.Goals as goal

pub returns : goal.returns
returns c = record { digits = digits-law; more_blocks = search_cost-rises }
