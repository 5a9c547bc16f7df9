use Rattle.std.proofs.Common.{◌≡◌, ◌++◌, List, ℕ, length}
use Rattle.std.specs.Io.KnownBytes.{Appends}
use Rattle.zonereplay.proofs.output.write_lines.Given as goal

abbrev pub invariant-lines : goal.invariant-lines
invariant-lines g l = record {
  calm : g.K.Sink.faults l.sink ≡ g.K.Sink.faults l.initial.sink;
  taken : (done : List ℕ) × (l.text ≡ done ++ l.rest) × Appends (g.K.Sink.taken l.initial.sink) (g.K.Sink.taken l.sink) done;
}

abbrev pub decreases-lines : goal.decreases-lines
decreases-lines g l = length l.rest
