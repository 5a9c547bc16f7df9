-- What is written stands after what was kept.
use Rattle.std.proofs.Common.{ℕ, ◌≡◌, ◌++◌, ◌-◌, ◌+◌, ◌∙◌, List, length, take, drop, subst, sym, ap, arith}
use Rattle.std.proofs.KnownBytes.{append_known-grown}
use Rattle.std.proofs.lemmas.Grind.{common_steps}
use Rattle.std.proofs.lemmas.List.{with_items_is}
use Rattle.std.specs.Io.KnownBytes.{Keeps}
use Rattle.std.specs.Vec.{with_items}
use Rattle.zone_outside.specs.Buffers.{Buffer, taken_by}
use Rattle.zone_outside.proofs.BufferLemmas.{kept_more}
use borrow.Rule.Slice.PartMut.{post_of}
use Rattle.zone_outside.proofs.buffered.BufferedSinkSink.write.Goals as goal

pub returns-clause-bytes : goal.returns-clause-bytes
returns-clause-bytes g c =
    let s = c.self.inside in
    let count = c.min-count.result in
    let kept = take (s.end - s.start) (drop s.start s.buffer.items) in
    let old = c.deref_mut.result.now in
    let added = c.copy_from_slice.new.self in
    let rest = post_of s.end (s.end + count - s.end) old in
    let whole = take s.end old ++ (added ++ rest) in
    let many : count ≡ length added = grind (arith, common_steps, c.copy_from_slice.ensures.len, c.deref_mut.ensures.len, c.min-count.ensures, c.len.ensures) in
    let filled : (with_items s.buffer whole).items ≡ whole = with_items_is s.buffer whole (grind (arith, common_steps, c.copy_from_slice.ensures.len, c.deref_mut.ensures.len, c.min-count.ensures, c.len.ensures)) in
    let more = kept_more old added rest s.start s.end count (omega (arith, c.self.invariant)) (omega (arith, c.self.invariant, c.deref_mut.ensures.len)) many in
    let same = subst (λ (new : Buffer). Keeps (taken_by c.args.self.now) (taken_by new)) (sym c.self.view_is) c.in-Ok.ensures.same in
    append_known-grown (taken_by c.args.self.now) (g.K.Sink.taken s.to) kept _ (take count c.args.piece.now) same
    (ap (λ (items : List ℕ). take (s.end + count - s.start) (drop s.start items)) filled
    ∙ more
    ∙ ap (λ (items : List ℕ). take (s.end - s.start) (drop s.start items) ++ added) c.deref_mut.ensures.value
    ∙ ap (λ (l : List ℕ). kept ++ l) c.copy_from_slice.ensures.after)
