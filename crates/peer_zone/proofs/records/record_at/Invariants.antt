use Rattle.std.proofs.Common.{ℕ, ◌≡◌, ◌+◌, ◌<◌, List, length, get_or}
use Rattle.peer_zone.specs.declared.state.PeerRecord.{PeerRecord}
use Rattle.peer_zone.specs.Words.{LaysRecords, first_of}
use Rattle.peer_zone.proofs.records.record_at.Given as goal

abbrev pub invariant-loop-passed : goal.invariant-loop-passed
invariant-loop-passed g l = record {
  at : (ps : List PeerRecord) (ats : List ℕ) → LaysRecords (g.B.Blocks.words l.blocks) ps ats → l.fn.first ≡ first_of ats → l.fn.index < length ps → l.at ≡ get_or ats l._passed 0;
  steps : l.steps ≡ l.fn.steps + l._passed;
}
