use Rattle.std.proofs.Common.{ℕ, ◌≡◌, ◌++◌, map, vec_items, vec_len}
use Rattle.std.specs.Prelude.{Some, slice_get}
use Rattle.replay_workers.specs.declared.passes.Row.{Row}
use Rattle.replay_workers.specs.Passes.{passes_of_row}
use Rattle.replay_workers.proofs.rows.numbered.Given as goal

abbrev pub invariant-loop-passes : goal.invariant-loop-passes
invariant-loop-passes l = record {
  passes : map passes_of_row l.numbered.items ++ map vec_items l.passes-iterator.rest.items ≡ map vec_items l.fn.rows.items;
  number : vec_len l.numbered ≡ l.number;
  numbers : (k : ℕ) (row : Row) → slice_get l.numbered.items k ≡ Some row → row.number ≡ k;
}
