use Rattle.offset_tree.proofs.SideLemmas.{unturned_at, turned_at, turn_changes_at}
use Rattle.offset_tree.proofs.Frames.{nodes_changed, nodes_changed_twice}
use Rattle.offset_tree.proofs.InsertFixup.Straight.{straight_spots}
use Rattle.offset_tree.proofs.insert_fixup.settle.Goals as goal

pub recolour-requires : goal.recolour-requires
recolour-requires g c = let a = straight_spots _ _ _ _ _ _ c.requires.there.1 in (a.0, a.1)

pub recolour-requires-2 : goal.recolour-requires-2
recolour-requires-2 g c =
    let a = straight_spots _ _ _ _ _ _ c.requires.there.1 in
    let b = a.3 _ (c.recolour.ensures.shape a.0 a.1) in (b.0, b.1)

pub rotate-requires-clause-there : goal.rotate-requires-clause-there
rotate-requires-clause-there g c =
    let a = straight_spots _ _ _ _ _ _ c.requires.there.1 in
    let b = a.3 _ (c.recolour.ensures.shape a.0 a.1) in
    let d = b.3 _ (c.recolour-2.ensures.shape b.0 b.1) in
    (d.0, unturned_at _ _ d.0 _ _ _ c.other.ensures d.1)

pub returns-clause-settled : goal.returns-clause-settled
returns-clause-settled g c = λ xs h.
    let a = straight_spots _ _ _ _ _ _ h in
    let b = a.3 _ (c.recolour.ensures.shape a.0 a.1) in
    let d = b.3 _ (c.recolour-2.ensures.shape b.0 b.1) in
    let before = unturned_at _ _ d.0 _ _ _ c.other.ensures d.1 in
    d.3 _ (turned_at _ _ d.0 _ _ _ c.other.ensures (c.rotate.ensures.shape d.0 before))

pub returns-clause-changes : goal.returns-clause-changes
returns-clause-changes g c = λ xs h.
    let a = straight_spots _ _ _ _ _ _ h in
    let b = a.3 _ (c.recolour.ensures.shape a.0 a.1) in
    let d = b.3 _ (c.recolour-2.ensures.shape b.0 b.1) in
    let before = unturned_at _ _ d.0 _ _ _ c.other.ensures d.1 in
    nodes_changed_twice _ _ _ _ _ (nodes_changed_twice _ _ _ _ _
    (nodes_changed _ _ _ _ _ a.2 (c.recolour.ensures.changes a.0 a.1))
    (nodes_changed _ _ _ _ _ b.2 (c.recolour-2.ensures.changes b.0 b.1)))
    (nodes_changed _ _ _ _ _ d.2 (turn_changes_at _ _ _ d.0 _ _ _ c.other.ensures (c.rotate.ensures.changes d.0 before)))
