-- The sink behind took the front of what was kept.
use Rattle.std.proofs.Common.{ℕ, ◌-◌, ◌+◌, List, take, drop, subst, arith}
use Rattle.std.proofs.KnownBytes.{append_known-moved}
use Rattle.std.specs.Io.KnownBytes.{Appends, Keeps}
use Rattle.zone_outside.specs.Buffers.{Buffer, taken_by}
use Rattle.zone_outside.proofs.BufferLemmas.{kept_split}
use Rattle.zone_outside.proofs.buffered.BufferedSink.flush.Goals as goal

pub returns-then-self-clause-same : goal.returns-then-self-clause-same
returns-then-self-clause-same g c =
    let s = c.self.inside in
    let n = c.hand_on.result in
    let before = g.K.Sink.taken s.to in
    let after = g.K.Sink.taken c.hand_on.new.to in
    let kept = take (s.end - s.start) (drop s.start s.buffer.items) in
    let left = take (s.end - (s.start + n)) (drop (s.start + n) s.buffer.items) in
    let took = subst (λ (items : List ℕ). Appends before after (take n (take (s.end - s.start) (drop s.start items)))) c.deref.ensures.value c.hand_on.ensures.taken in
    let moved = append_known-moved before after (take n kept) left kept took (kept_split s.buffer.items s.start n s.end (omega (arith, c.if-self.true))) in
    let new : Buffer = record { handed = after; kept = left; room = 0; faults = 0 } in
    subst (λ (old : Buffer). Keeps (taken_by old) (taken_by new)) c.self.view_is moved
