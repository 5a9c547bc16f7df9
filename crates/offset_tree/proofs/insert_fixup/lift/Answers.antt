use Rattle.offset_tree.proofs.Frames.{nodes_changed, nodes_changed_twice}
use Rattle.offset_tree.proofs.InsertFixup.Uncle.{uncle_spots}
use Rattle.offset_tree.proofs.insert_fixup.lift.Goals as goal

pub recolour-requires : goal.recolour-requires
recolour-requires g c = let a = uncle_spots _ _ _ _ _ _ _ c.requires.2 in (a.0, a.1)

pub recolour-requires-2 : goal.recolour-requires-2
recolour-requires-2 g c =
    let a = uncle_spots _ _ _ _ _ _ _ c.requires.2 in
    let b = a.3 _ (c.recolour.ensures.shape a.0 a.1) in (b.0, b.1)

pub recolour-requires-3 : goal.recolour-requires-3
recolour-requires-3 g c =
    let a = uncle_spots _ _ _ _ _ _ _ c.requires.2 in
    let b = a.3 _ (c.recolour.ensures.shape a.0 a.1) in
    let d = b.3 _ (c.recolour-2.ensures.shape b.0 b.1) in (d.0, d.1)

pub returns-clause-rising : goal.returns-clause-rising
returns-clause-rising g c = λ xs depth h.
    let a = uncle_spots _ _ _ _ _ _ _ h in
    let b = a.3 _ (c.recolour.ensures.shape a.0 a.1) in
    let d = b.3 _ (c.recolour-2.ensures.shape b.0 b.1) in
    d.3 _ (c.recolour-3.ensures.shape d.0 d.1)

pub returns-clause-changes : goal.returns-clause-changes
returns-clause-changes g c = λ xs depth h.
    let a = uncle_spots _ _ _ _ _ _ _ h in
    let b = a.3 _ (c.recolour.ensures.shape a.0 a.1) in
    let d = b.3 _ (c.recolour-2.ensures.shape b.0 b.1) in
    nodes_changed_twice _ _ _ _ _ (nodes_changed_twice _ _ _ _ _
    (nodes_changed _ _ _ _ _ a.2 (c.recolour.ensures.changes a.0 a.1))
    (nodes_changed _ _ _ _ _ b.2 (c.recolour-2.ensures.changes b.0 b.1)))
    (nodes_changed _ _ _ _ _ d.2 (c.recolour-3.ensures.changes d.0 d.1))
