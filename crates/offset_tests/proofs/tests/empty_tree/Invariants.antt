use Rattle.std.specs.Prelude.{◌≡◌, length}
use Rattle.zone_region.specs.Entries.{words_in}
use Rattle.offset_tests.proofs.tests.empty_tree.Given as goal

abbrev pub invariant-loop-i : goal.invariant-loop-i
invariant-loop-i g l = length (words_in l.blocks.entries 4096) ≡ 16
