use Rattle.std.proofs.Common.{ap, ◌∙◌}
use Rattle.zone_key.specs.Crc.{crc32_of}
use Rattle.offset_tests.proofs.GridLemmas.{lacks_key, tree_without}
use Rattle.offset_tests.proofs.grid.toggle.Goals as goal

pub remove-requires-clause-there : goal.remove-requires-clause-there
remove-requires-clause-there g c = (c.requires.there.blocks, c.requires.there.tree, (c.in-Some.ensures.found _ c.requires.there.tree).0)

pub put_in-requires-clause-absent : goal.put_in-requires-clause-absent
put_in-requires-clause-absent g c = lacks_key _ _ _ c.args.k _ _ c.requires.there c.requires.key (c.crc32.ensures ∙ ap (λ bs. crc32_of bs) c.bytes.ensures) (c.in-None.ensures.found _ c.requires.there.tree)

pub returns-in-Some : goal.returns-in-Some
returns-in-Some g c =
    let i = (c.in-Some.ensures.found _ c.requires.there.tree).0 in
    tree_without _ _ _ _ c.in-Some.b.at c.requires.form c.requires.there i c.remove.ensures.removed (c.remove.ensures.changes _ c.requires.there.tree i)
