use Rattle.offset_tree.proofs.Drawing.{made_empty}
use Rattle.offset_tree.proofs.tree.Tree.init.Goals as goal

pub returns-clause-lays : goal.returns-clause-lays
returns-clause-lays g c = made_empty _ _ _ c.requires c.write_context.ensures.does
