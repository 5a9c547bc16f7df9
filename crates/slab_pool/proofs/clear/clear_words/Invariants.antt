use Rattle.std.proofs.Common.{◌-◌, ◌≤◌, List}
use Rattle.slab_model.specs.declared.runs.Run.{Run}
use Rattle.slab_pages.specs.Layout.{LaysRuns}
use Rattle.slab_pool.specs.Live.{ClearsWords}
use Rattle.slab_pool.proofs.clear.clear_words.Given as goal

abbrev pub invariant-loop-w : goal.invariant-loop-w
invariant-loop-w l = record { laid : (runs : List Run) × LaysRuns l.pages runs; clears : ClearsWords l.initial.pages l.pages l.from (l.w - l.from); low : l.from ≤ l.w }
