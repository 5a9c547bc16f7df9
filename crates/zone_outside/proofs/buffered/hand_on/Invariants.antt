-- The first `done` bytes were taken, and no write has failed.
use Rattle.std.proofs.Common.{◌≡◌, ◌-◌, ◌≤◌, length, take}
use Rattle.std.specs.Io.KnownBytes.{Appends}
use Rattle.zone_outside.proofs.buffered.hand_on.Given as goal

abbrev pub invariant-loop-done : goal.invariant-loop-done
invariant-loop-done g l = record {
  calm : g.K.Sink.faults l.to ≡ g.K.Sink.faults l.initial.to;
  within : l.done ≤ length l.piece;
  taken : Appends (g.K.Sink.taken l.initial.to) (g.K.Sink.taken l.to) (take l.done l.piece);
}

abbrev pub decreases-loop-done : goal.decreases-loop-done
decreases-loop-done g l = length l.piece - l.done
