use Rattle.std.proofs.Common.{◌≡◌, ◌+◌, drop}
use Rattle.slab_model.specs.Geometry.{first_index}
use Rattle.slab_model.specs.Blocks.{lowest_unused}
use Rattle.slab_model.proofs.NumberLemmas.{first_gap}
use Rattle.slab_model.proofs.pages.lowest_unused.Given as goal

abbrev pub invariant-loop-number : goal.invariant-loop-number
invariant-loop-number l = (l.index ≡ first_index l.fn.shape l.class + l.number-index) × (first_gap l.index (drop l.number-index l.numbers) ≡ lowest_unused l.fn.shape l.class l.numbers)
