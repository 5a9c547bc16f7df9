use Rattle.std.proofs.Common.{◌≡◌, replicate}
use Rattle.slab_model.specs.State.{no_stat}
use Rattle.slab_model.proofs.plain.no_stats.Given as goal

abbrev pub invariant-loop-class : goal.invariant-loop-class
invariant-loop-class l = l.stats.items ≡ replicate l._class no_stat
