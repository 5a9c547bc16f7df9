use Rattle.offset_tests.proofs.LineLemmas.{head_of, line_start}
use Rattle.offset_tests.proofs.line.begin.Goals as goal

pub init-requires : goal.init-requires
init-requires g c = head_of _ _ c.requires

pub returns : goal.returns
returns g c = line_start _ _ _ c.requires (c.init.ensures.lays 5) (c.init.ensures.changes 5)
