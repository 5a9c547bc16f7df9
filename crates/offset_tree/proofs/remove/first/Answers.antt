use Rattle.std.proofs.Common.{sym, ◌∙◌, arith}
use Rattle.offset_tree.proofs.RemoveLemmas.{go_left, left_room, left_bound}
use Rattle.offset_tree.proofs.remove.first.Goals as goal

pub child-left-requires : goal.child-left-requires
child-left-requires g c = left_room _ _ _ _ _ _ (c.loop-round.invariant _ _ c.requires.there.2)

pub returns-then-left-nil-clause-first : goal.returns-then-left-nil-clause-first
returns-then-left-nil-clause-first g c = λ tree before w. (_, c.loop-round.invariant tree before w)

pub loop-round-preserved : goal.loop-round-preserved
loop-round-preserved g c = λ tree before w.
    go_left _ _ _ c.child-left.result _ _ _ (c.loop-round.invariant tree before w) c.child-left.ensures.value (λ e. c.if-left-nil.false (e ∙ sym c.sentinel-nil.ensures))

pub unreachable-requires : goal.unreachable-requires
unreachable-requires g c = omega (arith, left_bound _ _ _ _ _ _ (c.loop-round.invariant _ _ c.requires.there.2))
