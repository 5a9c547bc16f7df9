use Rattle.std.proofs.Common.{ap, ◌∙◌}
use Rattle.zone_key.specs.Crc.{crc32_of}
use Rattle.offset_tests.proofs.GridLemmas.{lacks_key}
use Rattle.offset_tests.proofs.tests.add.Goals as goal

pub put_in-requires-clause-absent : goal.put_in-requires-clause-absent
put_in-requires-clause-absent g c = lacks_key _ _ _ c.args.k _ _ c.requires.there c.requires.key (c.crc32.ensures ∙ ap (λ bs. crc32_of bs) c.bytes.ensures) (c.in-None.ensures.found _ c.requires.there.tree)
