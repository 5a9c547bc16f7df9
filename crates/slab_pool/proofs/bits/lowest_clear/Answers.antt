use Rattle.std.proofs.Common.{ℕ, subst, sym}
use Rattle.slab_pool.specs.WordBits.{IsLowestClear}
use Rattle.slab_pool.proofs.WordLemmas.{lowest_clear}
use Rattle.slab_pool.proofs.bits.lowest_clear.Goals as goal

pub returns : goal.returns
returns c = subst (λ (r : ℕ). IsLowestClear c.args.v c.args.from r) (sym c.trailing_ones.ensures) (lowest_clear c.args.v c.args.from c.requires c.ranges.v.fits)
