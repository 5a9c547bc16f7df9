use Rattle.std.proofs.Common.{◌≡◌, ◌++◌, map, vec_items}
use Rattle.replay_workers.specs.Passes.{passes_of_played}
use Rattle.replay_workers.proofs.rows.passes_of.Given as goal

abbrev pub invariant-loop-one : goal.invariant-loop-one
invariant-loop-one l = map vec_items l.rows.items ++ map passes_of_played l.one-iterator.rest.items ≡ map passes_of_played l.fn.played.items
