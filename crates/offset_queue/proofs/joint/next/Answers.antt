use Rattle.std.proofs.Common.{ℕ, ap, ◌∙◌, arith}
use Rattle.offset_queue.specs.Inside.{joint_from}
use Rattle.offset_queue.proofs.Joints.{joint_room, joint_ends, entry_above, head_below, next_joint, joint_from_offset}
use Rattle.offset_queue.proofs.joint.next.Goals as goal

pub overflow_add-joint : goal.overflow_add-joint
overflow_add-joint g c =
    omega (arith, joint_room _ _ _ _ _ c.requires.1.room c.requires.2, joint_ends _ _ _ _ _ c.requires.1.holds c.requires.2)

pub read-offset-requires : goal.read-offset-requires
read-offset-requires g c = omega (arith, joint_room _ _ _ _ _ c.requires.1.room c.requires.2)

pub joint_at-requires-clause-head : goal.joint_at-requires-clause-head
joint_at-requires-clause-head g c = omega (arith, head_below _ _ _ _ c.requires.1.holds c.requires.1.room)

pub joint_at-requires-clause-entry : goal.joint_at-requires-clause-entry
joint_at-requires-clause-entry g c =
    let near = next_joint _ _ _ _ _ c.requires.1 c.requires.2 in
    entry_above _ _ _ near.0 _ near.1 (c.read-offset.ensures ∙ near.2.next)

pub returns : goal.returns
returns g c = λ xs a h i l.
    c.joint_at.ensures ∙ (ap (λ (o : ℕ). joint_from c.args.q.now c.args.link o) (c.read-offset.ensures ∙ l.next) ∙ joint_from_offset _ _ _ xs a h.holds h.room i)
