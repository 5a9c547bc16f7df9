use Rattle.std.proofs.Common.{sym, ◌∙◌}
use Rattle.offset_tree.proofs.Frames.{nodes_changed_twice}
use Rattle.offset_tree.proofs.RemoveLemmas.{seat_here, seat_rooms, no_left, no_right, to_right, successor, seat_fresh, removed, others_changed, successor_in, successor_out}
use Rattle.offset_tree.proofs.remove.unlink.Goals as goal

pub child-left-requires : goal.child-left-requires
child-left-requires g c = let h = seat_here _ _ c.args.b.at _ _ c.requires.there.2 in (seat_rooms _ _ c.args.b.at 0 h.seat h.shape).x_room

pub child-right-requires : goal.child-right-requires
child-right-requires g c = let h = seat_here _ _ c.args.b.at _ _ c.requires.there.2 in (seat_rooms _ _ c.args.b.at 0 h.seat h.shape).x_room

pub take_out-requires-clause-there : goal.take_out-requires-clause-there
take_out-requires-clause-there g c = let h = seat_here _ _ c.args.b.at _ _ c.requires.there.2 in (_, no_left _ _ _ c.child-left.result _ _ h c.child-left.ensures.value (c.if-left-nil.true ∙ c.sentinel-nil.ensures))

pub returns-then-left-nil-clause-settled : goal.returns-then-left-nil-clause-settled
returns-then-left-nil-clause-settled g c = λ before after s. let h = seat_here _ _ c.args.b.at before after s in
    c.take_out.ensures.settled _ (no_left _ _ _ c.child-left.result _ _ h c.child-left.ensures.value (c.if-left-nil.true ∙ c.sentinel-nil.ensures))

pub returns-then-right-nil-clause-settled : goal.returns-then-right-nil-clause-settled
returns-then-right-nil-clause-settled g c = λ before after s. let h = seat_here _ _ c.args.b.at before after s in
    c.take_out-then-right-nil.ensures.settled _ (no_right _ _ _ c.child-right.result _ _ h c.child-right.ensures.value (c.if-right-nil.true ∙ c.sentinel-nil.ensures))

pub take_out-requires-then-right-nil-clause-there : goal.take_out-requires-then-right-nil-clause-there
take_out-requires-then-right-nil-clause-there g c = let h = seat_here _ _ c.args.b.at _ _ c.requires.there.2 in (_, no_right _ _ _ c.child-right.result _ _ h c.child-right.ensures.value (c.if-right-nil.true ∙ c.sentinel-nil.ensures))

pub first-next-requires-clause-there : goal.first-next-requires-clause-there
first-next-requires-clause-there g c = let h = seat_here _ _ c.args.b.at _ _ c.requires.there.2 in
    (_, _, to_right _ _ _ c.child-right.result _ _ h c.child-right.ensures.value (λ e. c.if-right-nil.false (e ∙ sym c.sentinel-nil.ensures)))

pub take_out-requires-2-clause-there : goal.take_out-requires-2-clause-there
take_out-requires-2-clause-there g c =
    let h = seat_here _ _ c.args.b.at _ _ c.requires.there.2 in
    let w = c.first-next.ensures.first _ _ (to_right _ _ _ c.child-right.result _ _ h c.child-right.ensures.value (λ e. c.if-right-nil.false (e ∙ sym c.sentinel-nil.ensures))) in
    (_, (successor _ _ _ _ _ _ h _ w.1 c.first-next.ensures.empty).sided)

pub substitute-requires-clause-there : goal.substitute-requires-clause-there
substitute-requires-clause-there g c =
    let h = seat_here _ _ c.args.b.at _ _ c.requires.there.2 in
    let w = c.first-next.ensures.first _ _ (to_right _ _ _ c.child-right.result _ _ h c.child-right.ensures.value (λ e. c.if-right-nil.false (e ∙ sym c.sentinel-nil.ensures))) in
    let s = successor _ _ _ _ _ _ h _ w.1 c.first-next.ensures.empty in
    let k = seat_here _ _ c.args.b.at _ _ (c.take_out-2.ensures.settled _ s.sided) in
    (k.seat, k.shape, seat_fresh _ _ _ _ _ _ _ s k ((c.take_out-2.ensures.changes _ s.sided).lengths c.first-next.result))

pub returns-clause-settled : goal.returns-clause-settled
returns-clause-settled g c = λ before after t.
    let h = seat_here _ _ c.args.b.at before after t in
    let w = c.first-next.ensures.first _ _ (to_right _ _ _ c.child-right.result _ _ h c.child-right.ensures.value (λ e. c.if-right-nil.false (e ∙ sym c.sentinel-nil.ensures))) in
    let s = successor _ _ _ _ _ _ h _ w.1 c.first-next.ensures.empty in
    let k = seat_here _ _ c.args.b.at _ _ (c.take_out-2.ensures.settled _ s.sided) in
    removed _ _ _ _ _ _ _ _ s k (c.substitute.ensures.shape k.seat k.shape (seat_fresh _ _ _ _ _ _ _ s k ((c.take_out-2.ensures.changes _ s.sided).lengths c.first-next.result)))

pub returns-then-left-nil-clause-changes : goal.returns-then-left-nil-clause-changes
returns-then-left-nil-clause-changes g c = λ before after s. let h = seat_here _ _ c.args.b.at before after s in
    others_changed _ _ _ c.args.b.at before after (c.take_out.ensures.changes _ (no_left _ _ _ c.child-left.result _ _ h c.child-left.ensures.value (c.if-left-nil.true ∙ c.sentinel-nil.ensures)))

pub returns-then-right-nil-clause-changes : goal.returns-then-right-nil-clause-changes
returns-then-right-nil-clause-changes g c = λ before after s. let h = seat_here _ _ c.args.b.at before after s in
    others_changed _ _ _ c.args.b.at before after (c.take_out-then-right-nil.ensures.changes _ (no_right _ _ _ c.child-right.result _ _ h c.child-right.ensures.value (c.if-right-nil.true ∙ c.sentinel-nil.ensures)))

pub returns-clause-changes : goal.returns-clause-changes
returns-clause-changes g c = λ before after t.
    let h = seat_here _ _ c.args.b.at before after t in
    let w = c.first-next.ensures.first _ _ (to_right _ _ _ c.child-right.result _ _ h c.child-right.ensures.value (λ e. c.if-right-nil.false (e ∙ sym c.sentinel-nil.ensures))) in
    let s = successor _ _ _ _ _ _ h _ w.1 c.first-next.ensures.empty in
    let k = seat_here _ _ c.args.b.at _ _ (c.take_out-2.ensures.settled _ s.sided) in
    let taken = c.take_out-2.ensures.changes _ s.sided in
    let blocks = successor_in _ _ _ _ _ _ _ s k in
    nodes_changed_twice _ _ _ _ _ (successor_out _ _ _ _ _ _ _ s taken) (c.substitute.ensures.changes k.seat _ k.shape (seat_fresh _ _ _ _ _ _ _ s k (taken.lengths c.first-next.result)) blocks.0 blocks.1)
