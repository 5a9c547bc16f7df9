use Rattle.offset_tree.proofs.Frames.{nodes_changed, nodes_changed_twice}
use Rattle.offset_tree.proofs.InsertFixup.Straight.{across, straight_there}
use Rattle.offset_tree.proofs.InsertFixup.Conflict.{turn_needed, turn_spared, conflict_room}
use Rattle.offset_tree.proofs.insert_fixup.resolve.Goals as goal

pub child-inner-requires : goal.child-inner-requires
child-inner-requires g c = (conflict_room _ _ c.args.x _ _ _ _ _ c.requires.there.2).1

pub rotate-requires-clause-there : goal.rotate-requires-clause-there
rotate-requires-clause-there g c =
    let k = c.requires.there.2 in
    let a = across _ _ _ _ _ _ _ _ k c.requires.there.3 (turn_needed _ _ _ _ _ _ _ _ k c.other.result c.child-inner.result c.other.ensures c.child-inner.ensures.value c.if-inner-x.true) in
    (a.0, a.1)

pub settle-requires-clause-there : goal.settle-requires-clause-there
settle-requires-clause-there g c =
    let k = c.requires.there.2 in
    let a = across _ _ _ _ _ _ _ _ k c.requires.there.3 (turn_needed _ _ _ _ _ _ _ _ k c.other.result c.child-inner.result c.other.ensures c.child-inner.ensures.value c.if-inner-x.true) in
    (c.requires.there.0, a.3 _ (c.rotate.ensures.shape a.0 a.1))

pub settle-requires-else-inner-x-clause-there : goal.settle-requires-else-inner-x-clause-there
settle-requires-else-inner-x-clause-there g c =
    let k = c.requires.there.2 in
    (c.requires.there.0, straight_there _ _ _ _ _ _ _ _ k c.requires.there.3 (turn_spared _ _ _ _ _ _ _ _ k c.other.result c.child-inner.result c.other.ensures c.child-inner.ensures.value c.if-inner-x.false))

pub returns-then-inner-x-clause-settled : goal.returns-then-inner-x-clause-settled
returns-then-inner-x-clause-settled g c = λ xs d k black.
    let a = across _ _ _ _ _ _ _ _ k black (turn_needed _ _ _ _ _ _ _ _ k c.other.result c.child-inner.result c.other.ensures c.child-inner.ensures.value c.if-inner-x.true) in
    c.settle.ensures.settled xs (a.3 _ (c.rotate.ensures.shape a.0 a.1))

pub returns-then-inner-x-clause-changes : goal.returns-then-inner-x-clause-changes
returns-then-inner-x-clause-changes g c = λ xs d k black.
    let a = across _ _ _ _ _ _ _ _ k black (turn_needed _ _ _ _ _ _ _ _ k c.other.result c.child-inner.result c.other.ensures c.child-inner.ensures.value c.if-inner-x.true) in
    nodes_changed_twice _ _ _ _ _ (nodes_changed _ _ _ _ _ a.2 (c.rotate.ensures.changes a.0 a.1)) (c.settle.ensures.changes xs (a.3 _ (c.rotate.ensures.shape a.0 a.1)))

pub returns-else-inner-x-clause-settled : goal.returns-else-inner-x-clause-settled
returns-else-inner-x-clause-settled g c = λ xs d k black.
    c.settle-else-inner-x.ensures.settled xs (straight_there _ _ _ _ _ _ _ _ k black (turn_spared _ _ _ _ _ _ _ _ k c.other.result c.child-inner.result c.other.ensures c.child-inner.ensures.value c.if-inner-x.false))

pub returns-else-inner-x-clause-changes : goal.returns-else-inner-x-clause-changes
returns-else-inner-x-clause-changes g c = λ xs d k black.
    c.settle-else-inner-x.ensures.changes xs (straight_there _ _ _ _ _ _ _ _ k black (turn_spared _ _ _ _ _ _ _ _ k c.other.result c.child-inner.result c.other.ensures c.child-inner.ensures.value c.if-inner-x.false))
