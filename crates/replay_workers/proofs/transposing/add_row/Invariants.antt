use Rattle.std.proofs.Common.{◌≡◌, ◌≤◌, map, vec_len, vec_items}
use Rattle.replay_workers.specs.Transposing.{added}
use Rattle.replay_workers.proofs.transposing.add_row.Given as goal

abbrev pub invariant-loop-item : goal.invariant-loop-item
invariant-loop-item g l = record {
  length : vec_len l.row ≡ l.place;
  same : vec_len l.columns ≡ vec_len l.fn.columns;
  within : l.place ≤ vec_len l.columns;
  added : added (map vec_items l.columns.items) l.row.items ≡ added (map vec_items l.fn.columns.items) l.fn.row.items;
}

abbrev pub decreases-loop-item : goal.decreases-loop-item
decreases-loop-item g l = vec_len l.row
