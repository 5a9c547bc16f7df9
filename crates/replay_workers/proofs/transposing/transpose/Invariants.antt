use Rattle.std.proofs.Common.{◌≡◌, [], map, replicate, vec_len, vec_items}
use Rattle.replay_workers.specs.Transposing.{filled}
use Rattle.replay_workers.proofs.ColumnCells.{AreWide}
use Rattle.replay_workers.proofs.transposing.transpose.Given as goal

abbrev pub invariant-loop : goal.invariant-loop
invariant-loop g l = record {
  count : vec_len l.columns ≡ l.counter;
  empty : map vec_items l.columns.items ≡ replicate l.counter [];
}

abbrev pub invariant-loop-row : goal.invariant-loop-row
invariant-loop-row g l = record {
  wide : AreWide l.width (map vec_items l.row-iterator.rest.items);
  count : vec_len l.columns ≡ l.width;
  filled : filled (map vec_items l.columns.items) (map vec_items l.row-iterator.rest.items) ≡ filled (replicate l.width []) (map vec_items l.fn.rows.items);
}
