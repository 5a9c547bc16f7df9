use Rattle.std.proofs.Common.{sym, ◌∙◌}
use Rattle.offset_tree.proofs.Frames.{nodes_changed}
use Rattle.offset_tree.proofs.InsertFixup.Rising.{rising_room, rising_spot, parent_room, rising_settled, grand_room}
use Rattle.offset_tree.proofs.InsertFixup.Conflict.{rising_in_conflict}
use Rattle.offset_tree.proofs.InsertFixup.Uncle.{uncle_room_at, red_uncle_at, black_uncle_at}
use Rattle.offset_tree.proofs.insert_fixup.insert_fixup_step.Goals as goal

pub parent-p-requires : goal.parent-p-requires
parent-p-requires g c = rising_room _ _ _ _ _ c.requires.there.2

pub recolour-requires : goal.recolour-requires
recolour-requires g c = let u = rising_spot _ _ _ _ _ c.requires.there.2 in (u.0, u.1)

pub returns-then-p-eq0-clause-goes_on : goal.returns-then-p-eq0-clause-goes_on
returns-then-p-eq0-clause-goes_on g c = λ xs d r. let u = rising_spot _ _ _ _ _ r in u.3 (sym c.parent-p.ensures.value ∙ c.if-p-eq0.true) _ (c.recolour.ensures.shape u.0 u.1)

pub returns-then-p-eq0-clause-changes : goal.returns-then-p-eq0-clause-changes
returns-then-p-eq0-clause-changes g c = λ xs d r. let u = rising_spot _ _ _ _ _ r in nodes_changed _ _ _ _ _ u.2 (c.recolour.ensures.changes u.0 u.1)

pub is_red-requires-clause-live : goal.is_red-requires-clause-live
is_red-requires-clause-live g c = λ _. parent_room _ _ _ _ _ _ c.requires.there.2 c.parent-p.ensures.value c.if-p-eq0.false

pub returns-then-not-is_red-clause-goes_on : goal.returns-then-not-is_red-clause-goes_on
returns-then-not-is_red-clause-goes_on g c = λ xs d r. rising_settled _ _ _ _ _ _ r c.parent-p.ensures.value c.if-p-eq0.false (sym c.if-not-is_red.ensures.value)

pub side_of-side-requires : goal.side_of-side-requires
side_of-side-requires g c = grand_room _ _ _ _ _ _ _ c.requires.there.2 c.parent-p.ensures.value c.if-p-eq0.false (sym c.if-not-is_red.ensures.value) c.parent-g.ensures.value

pub child-v-requires : goal.child-v-requires
child-v-requires g c = grand_room _ _ _ _ _ _ _ c.requires.there.2 c.parent-p.ensures.value c.if-p-eq0.false (sym c.if-not-is_red.ensures.value) c.parent-g.ensures.value

pub is_red-requires-2-clause-live : goal.is_red-requires-2-clause-live
is_red-requires-2-clause-live g c = λ live.
    let k = rising_in_conflict _ _ _ _ _ _ _ _ c.requires.there.2 c.parent-p.ensures.value c.if-p-eq0.false (sym c.if-not-is_red.ensures.value) c.parent-g.ensures.value c.side_of-side.ensures.value in
    uncle_room_at _ _ _ _ _ _ _ _ k c.other.result c.child-v.result c.other.ensures c.child-v.ensures.value live

pub lift-requires : goal.lift-requires
lift-requires g c =
    let k = rising_in_conflict _ _ _ _ _ _ _ _ c.requires.there.2 c.parent-p.ensures.value c.if-p-eq0.false (sym c.if-not-is_red.ensures.value) c.parent-g.ensures.value c.side_of-side.ensures.value in
    (c.requires.there.0, c.requires.there.1, red_uncle_at _ _ _ _ _ _ _ _ k c.other.result c.child-v.result c.other.ensures c.child-v.ensures.value (sym c.if-is_red.ensures.value))

pub resolve-requires-clause-there : goal.resolve-requires-clause-there
resolve-requires-clause-there g c =
    let k = rising_in_conflict _ _ _ _ _ _ _ _ c.requires.there.2 c.parent-p.ensures.value c.if-p-eq0.false (sym c.if-not-is_red.ensures.value) c.parent-g.ensures.value c.side_of-side.ensures.value in
    (c.requires.there.0, c.requires.there.1, k, black_uncle_at _ _ _ _ _ _ _ _ k c.other.result c.child-v.result c.other.ensures c.child-v.ensures.value (sym c.if-is_red.ensures.value))

pub returns-then-is_red-clause-goes_on : goal.returns-then-is_red-clause-goes_on
returns-then-is_red-clause-goes_on g c = λ xs d r.
    let k = rising_in_conflict _ _ _ _ _ _ _ _ r c.parent-p.ensures.value c.if-p-eq0.false (sym c.if-not-is_red.ensures.value) c.parent-g.ensures.value c.side_of-side.ensures.value in
    c.lift.ensures.rising xs d (red_uncle_at _ _ _ _ _ _ _ _ k c.other.result c.child-v.result c.other.ensures c.child-v.ensures.value (sym c.if-is_red.ensures.value))

pub returns-then-is_red-clause-changes : goal.returns-then-is_red-clause-changes
returns-then-is_red-clause-changes g c = λ xs d r.
    let k = rising_in_conflict _ _ _ _ _ _ _ _ r c.parent-p.ensures.value c.if-p-eq0.false (sym c.if-not-is_red.ensures.value) c.parent-g.ensures.value c.side_of-side.ensures.value in
    c.lift.ensures.changes xs d (red_uncle_at _ _ _ _ _ _ _ _ k c.other.result c.child-v.result c.other.ensures c.child-v.ensures.value (sym c.if-is_red.ensures.value))

pub returns-else-is_red-clause-goes_on : goal.returns-else-is_red-clause-goes_on
returns-else-is_red-clause-goes_on g c = λ xs d r.
    let k = rising_in_conflict _ _ _ _ _ _ _ _ r c.parent-p.ensures.value c.if-p-eq0.false (sym c.if-not-is_red.ensures.value) c.parent-g.ensures.value c.side_of-side.ensures.value in
    c.resolve.ensures.settled xs d k (black_uncle_at _ _ _ _ _ _ _ _ k c.other.result c.child-v.result c.other.ensures c.child-v.ensures.value (sym c.if-is_red.ensures.value))

pub returns-else-is_red-clause-changes : goal.returns-else-is_red-clause-changes
returns-else-is_red-clause-changes g c = λ xs d r.
    let k = rising_in_conflict _ _ _ _ _ _ _ _ r c.parent-p.ensures.value c.if-p-eq0.false (sym c.if-not-is_red.ensures.value) c.parent-g.ensures.value c.side_of-side.ensures.value in
    c.resolve.ensures.changes xs d k (black_uncle_at _ _ _ _ _ _ _ _ k c.other.result c.child-v.result c.other.ensures c.child-v.ensures.value (sym c.if-is_red.ensures.value))
