use Rattle.std.proofs.Common.{◌∙◌, arith, refl}
use Rattle.offset_tree.proofs.Writes.{two_length, parent_length}
use Rattle.offset_tree.proofs.TurnLemmas.{turn_writes, turn_rooms, turn_rooms_read, turned, turned_changes, child_read, writes_at}
use Rattle.offset_tree.proofs.turns.rotate.Goals as goal

pub child-y-requires : goal.child-y-requires
child-y-requires g c = let u = c.requires.there.0 in (turn_rooms _ _ u.path c.args.side u.red u.child_red u.near _ u.inner u.child u.outer c.requires.there.1).at

pub child-inner-requires : goal.child-inner-requires
child-inner-requires g c = let u = c.requires.there.0 in
    (turn_rooms_read _ _ _ _ _ _ c.args.side c.other-far.result c.other-far.ensures c.child-y.ensures.value refl refl
    (turn_rooms _ _ u.path c.args.side u.red u.child_red u.near _ u.inner u.child u.outer c.requires.there.1)).1

pub parent-p-requires : goal.parent-p-requires
parent-p-requires g c = let u = c.requires.there.0 in (turn_rooms _ _ u.path c.args.side u.red u.child_red u.near _ u.inner u.child u.outer c.requires.there.1).at

pub set_two-requires : goal.set_two-requires
set_two-requires g c = let u = c.requires.there.0 in (turn_rooms _ _ u.path c.args.side u.red u.child_red u.near _ u.inner u.child u.outer c.requires.there.1).at

pub set_two-requires-2 : goal.set_two-requires-2
set_two-requires-2 g c = let u = c.requires.there.0 in
    let rooms = turn_rooms_read _ _ _ _ _ _ c.args.side c.other-far.result c.other-far.ensures c.child-y.ensures.value c.child-inner.ensures.value c.parent-p.ensures.value
    (turn_rooms _ _ u.path c.args.side u.red u.child_red u.near _ u.inner u.child u.outer c.requires.there.1) in
    omega (arith, rooms.1, two_length _ _ _ _ _ _ _ c.child-y.result c.set_two.ensures.does)

pub set_parent-requires-clause-live : goal.set_parent-requires-clause-live
set_parent-requires-clause-live g c = λ ne. let u = c.requires.there.0 in
    let rooms = turn_rooms_read _ _ _ _ _ _ c.args.side c.other-far.result c.other-far.ensures c.child-y.ensures.value c.child-inner.ensures.value c.parent-p.ensures.value
    (turn_rooms _ _ u.path c.args.side u.red u.child_red u.near _ u.inner u.child u.outer c.requires.there.1) in
    omega (arith, rooms.2 ne, two_length _ _ _ _ _ _ _ c.child-inner.result c.set_two.ensures.does, two_length _ _ _ _ _ _ _ c.child-inner.result c.set_two-2.ensures.does)

pub replace-requires-clause-live : goal.replace-requires-clause-live
replace-requires-clause-live g c = λ ne. let u = c.requires.there.0 in
    let rooms = turn_rooms_read _ _ _ _ _ _ c.args.side c.other-far.result c.other-far.ensures c.child-y.ensures.value c.child-inner.ensures.value c.parent-p.ensures.value
    (turn_rooms _ _ u.path c.args.side u.red u.child_red u.near _ u.inner u.child u.outer c.requires.there.1) in
    omega (arith, rooms.3 ne, two_length _ _ _ _ _ _ _ c.parent-p.result c.set_two.ensures.does, two_length _ _ _ _ _ _ _ c.parent-p.result c.set_two-2.ensures.does, parent_length _ _ _ _ _ c.parent-p.result c.set_parent.ensures.does)

pub returns-clause-shape : goal.returns-clause-shape
returns-clause-shape g c = λ u h.
    let w = turn_writes _ _ c.args.side c.other-far.result _ _ _ _ _ _ _ _ c.other-far.ensures c.child-y.ensures.value c.child-inner.ensures.value c.parent-p.ensures.value c.set_two.ensures.does c.set_two-2.ensures.does c.set_parent.ensures.does c.replace.ensures.replaces in
    let e = w.y_is ∙ child_read _ _ u.path c.args.side u.red u.child_red u.near c.args.x u.inner u.child u.outer h in
    turned _ _ u.path c.args.side u.red u.child_red u.near c.args.x u.inner u.child u.outer _ _ _ _ _ _ h (writes_at _ _ _ _ _ _ _ _ _ _ _ _ e w)

pub returns-clause-changes : goal.returns-clause-changes
returns-clause-changes g c = λ u h.
    let w = turn_writes _ _ c.args.side c.other-far.result _ _ _ _ _ _ _ _ c.other-far.ensures c.child-y.ensures.value c.child-inner.ensures.value c.parent-p.ensures.value c.set_two.ensures.does c.set_two-2.ensures.does c.set_parent.ensures.does c.replace.ensures.replaces in
    let e = w.y_is ∙ child_read _ _ u.path c.args.side u.red u.child_red u.near c.args.x u.inner u.child u.outer h in
    turned_changes _ _ u.path c.args.side u.red u.child_red u.near c.args.x u.inner u.child u.outer _ _ _ _ _ _ h (writes_at _ _ _ _ _ _ _ _ _ _ _ _ e w)
