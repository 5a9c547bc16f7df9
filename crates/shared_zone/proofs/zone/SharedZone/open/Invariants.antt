use Rattle.std.proofs.Common.{◌≡◌, ℕ, ◌<◌, ◌≤◌, false, [], length, vec_len}
use Rattle.std.specs.Prelude.{slice_get, Some, vec_capacity}
use Rattle.crossbeam_queue.specs.Passes.{view, IsPassOf}
use Rattle.shared_zone.proofs.zone.SharedZone.open.Given as goal

abbrev pub invariant-loop-number : goal.invariant-loop-number
invariant-loop-number g l = record {
  seat_is : IsPassOf l.queue l.seat;
  start_is : (view l.seat).start ≡ (view l.initial.seat).start;
  rooms_is : (view l.seat).rooms ≡ l.rooms;
  calm : (view l.seat).holding ≡ false;
  next_is : (view l.seat).next ≡ Some l.number;
  count : vec_len l.passes ≡ l.number;
  room : length l.rooms ≤ vec_capacity l.passes;
  made : (k : ℕ) → k < l.number → slice_get l.passes.items k ≡ Some (record { zone = record { id = record { table = l.queue.table.shared.table_id }; start = (view l.initial.seat).start; rooms = l.rooms }; number = k; seen = [] });
}
