use Rattle.std.proofs.Common.{sym, ◌∙◌}
use Rattle.offset_tree.proofs.Frames.{nodes_changed, nodes_changed_twice}
use Rattle.offset_tree.proofs.DeleteFixup.Lacking.{lacking_room, lacking_red, lacking_top}
use Rattle.offset_tree.proofs.DeleteFixup.Children.{children_read, outer_read, near_read}
use Rattle.offset_tree.proofs.delete_fixup.delete_fixup_step.Goals as goal

pub is_red-requires-clause-live : goal.is_red-requires-clause-live
is_red-requires-clause-live g c = (lacking_room _ _ _ _ _ _ _ c.requires.there.2).0

pub recolour-requires : goal.recolour-requires
recolour-requires g c = let a = lacking_red _ _ _ _ _ _ _ c.requires.there.2 (sym c.if-is_red.ensures.value) in (a.0, a.1)

pub returns-then-is_red-clause-goes_on : goal.returns-then-is_red-clause-goes_on
returns-then-is_red-clause-goes_on g c = λ xs d l. let a = lacking_red _ _ _ _ _ _ _ l (sym c.if-is_red.ensures.value) in a.3 _ (c.recolour.ensures.shape a.0 a.1)

pub returns-then-is_red-clause-changes : goal.returns-then-is_red-clause-changes
returns-then-is_red-clause-changes g c = λ xs d l. let a = lacking_red _ _ _ _ _ _ _ l (sym c.if-is_red.ensures.value) in nodes_changed _ _ _ _ _ a.2 (c.recolour.ensures.changes a.0 a.1)

pub returns-then-p-eq0-clause-goes_on : goal.returns-then-p-eq0-clause-goes_on
returns-then-p-eq0-clause-goes_on g c = λ xs d l. lacking_top _ _ _ _ _ _ _ l (sym c.if-is_red.ensures.value) c.if-p-eq0.true

pub child-outer-requires : goal.child-outer-requires
child-outer-requires g c = (children_read _ _ _ _ _ _ _ (c.black_sibling-w.ensures.black _ _ c.requires.there.2)).2

pub is_red-requires-2-clause-live : goal.is_red-requires-2-clause-live
is_red-requires-2-clause-live g c =
    let r = c.black_sibling-w.ensures.black _ _ c.requires.there.2 in
    let o = outer_read _ _ _ _ _ c.other.result _ _ r c.child-outer.result c.other.ensures c.child-outer.ensures.value in o.room

pub finish-requires-clause-there : goal.finish-requires-clause-there
finish-requires-clause-there g c =
    let r = c.black_sibling-w.ensures.black _ _ c.requires.there.2 in
    let o = outer_read _ _ _ _ _ c.other.result _ _ r c.child-outer.result c.other.ensures c.child-outer.ensures.value in
    (c.requires.there.0, c.requires.there.1, r, (sym o.red ∙ sym c.if-is_red-2.ensures.value), o.lies)

pub returns-then-is_red-2-clause-goes_on : goal.returns-then-is_red-2-clause-goes_on
returns-then-is_red-2-clause-goes_on g c = λ xs d l.
    let r = c.black_sibling-w.ensures.black xs d l in
    let o = outer_read _ _ _ _ _ c.other.result _ _ r c.child-outer.result c.other.ensures c.child-outer.ensures.value in
    c.finish.ensures.settled xs d r (sym o.red ∙ sym c.if-is_red-2.ensures.value) o.lies

pub returns-then-is_red-2-clause-changes : goal.returns-then-is_red-2-clause-changes
returns-then-is_red-2-clause-changes g c = λ xs d l.
    let r = c.black_sibling-w.ensures.black xs d l in
    let o = outer_read _ _ _ _ _ c.other.result _ _ r c.child-outer.result c.other.ensures c.child-outer.ensures.value in
    nodes_changed_twice _ _ _ _ _ (c.black_sibling-w.ensures.changes xs d l) (c.finish.ensures.changes xs d r (sym o.red ∙ sym c.if-is_red-2.ensures.value) o.lies)

pub child-near-requires : goal.child-near-requires
child-near-requires g c = (children_read _ _ _ _ _ _ _ (c.black_sibling-w.ensures.black _ _ c.requires.there.2)).2

pub is_red-requires-3-clause-live : goal.is_red-requires-3-clause-live
is_red-requires-3-clause-live g c =
    let r = c.black_sibling-w.ensures.black _ _ c.requires.there.2 in
    let n = near_read _ _ _ _ _ _ _ r c.child-near.result c.child-near.ensures.value in n.room

pub turn_sibling-requires-clause-there : goal.turn_sibling-requires-clause-there
turn_sibling-requires-clause-there g c =
    let r = c.black_sibling-w.ensures.black _ _ c.requires.there.2 in
    let o = outer_read _ _ _ _ _ c.other.result _ _ r c.child-outer.result c.other.ensures c.child-outer.ensures.value in
    let n = near_read _ _ _ _ _ _ _ r c.child-near.result c.child-near.ensures.value in
    (c.requires.there.0, c.requires.there.1, r, (sym n.red ∙ sym c.if-is_red-3.ensures.value), (sym o.red ∙ sym c.if-is_red-2.ensures.value), n.lies)

pub finish-requires-then-is_red-3-clause-there : goal.finish-requires-then-is_red-3-clause-there
finish-requires-then-is_red-3-clause-there g c =
    let r = c.black_sibling-w.ensures.black _ _ c.requires.there.2 in
    let o = outer_read _ _ _ _ _ c.other.result _ _ r c.child-outer.result c.other.ensures c.child-outer.ensures.value in
    let n = near_read _ _ _ _ _ _ _ r c.child-near.result c.child-near.ensures.value in
    let k = c.turn_sibling.ensures.turned _ _ r (sym n.red ∙ sym c.if-is_red-3.ensures.value) (sym o.red ∙ sym c.if-is_red-2.ensures.value) n.lies in
    (c.requires.there.0, c.requires.there.1, k.0, k.1, k.2)

pub returns-then-is_red-3-clause-goes_on : goal.returns-then-is_red-3-clause-goes_on
returns-then-is_red-3-clause-goes_on g c = λ xs d l.
    let r = c.black_sibling-w.ensures.black xs d l in
    let o = outer_read _ _ _ _ _ c.other.result _ _ r c.child-outer.result c.other.ensures c.child-outer.ensures.value in
    let n = near_read _ _ _ _ _ _ _ r c.child-near.result c.child-near.ensures.value in
    let k = c.turn_sibling.ensures.turned xs d r (sym n.red ∙ sym c.if-is_red-3.ensures.value) (sym o.red ∙ sym c.if-is_red-2.ensures.value) n.lies in
    c.finish-then-is_red-3.ensures.settled xs d k.0 k.1 k.2

pub returns-then-is_red-3-clause-changes : goal.returns-then-is_red-3-clause-changes
returns-then-is_red-3-clause-changes g c = λ xs d l.
    let r = c.black_sibling-w.ensures.black xs d l in
    let o = outer_read _ _ _ _ _ c.other.result _ _ r c.child-outer.result c.other.ensures c.child-outer.ensures.value in
    let n = near_read _ _ _ _ _ _ _ r c.child-near.result c.child-near.ensures.value in
    let k = c.turn_sibling.ensures.turned xs d r (sym n.red ∙ sym c.if-is_red-3.ensures.value) (sym o.red ∙ sym c.if-is_red-2.ensures.value) n.lies in
    nodes_changed_twice _ _ _ _ _ (nodes_changed_twice _ _ _ _ _ (c.black_sibling-w.ensures.changes xs d l) (c.turn_sibling.ensures.changes xs d r (sym n.red ∙ sym c.if-is_red-3.ensures.value) (sym o.red ∙ sym c.if-is_red-2.ensures.value) n.lies))
    (c.finish-then-is_red-3.ensures.changes xs d k.0 k.1 k.2)

pub sink-requires-clause-there : goal.sink-requires-clause-there
sink-requires-clause-there g c =
    let r = c.black_sibling-w.ensures.black _ _ c.requires.there.2 in
    let o = outer_read _ _ _ _ _ c.other.result _ _ r c.child-outer.result c.other.ensures c.child-outer.ensures.value in
    let n = near_read _ _ _ _ _ _ _ r c.child-near.result c.child-near.ensures.value in
    (c.requires.there.0, c.requires.there.1, r, (sym n.red ∙ sym c.if-is_red-3.ensures.value), (sym o.red ∙ sym c.if-is_red-2.ensures.value))

pub returns-clause-goes_on : goal.returns-clause-goes_on
returns-clause-goes_on g c = λ xs d l.
    let r = c.black_sibling-w.ensures.black xs d l in
    let o = outer_read _ _ _ _ _ c.other.result _ _ r c.child-outer.result c.other.ensures c.child-outer.ensures.value in
    let n = near_read _ _ _ _ _ _ _ r c.child-near.result c.child-near.ensures.value in
    c.sink.ensures.goes_on xs d r (sym n.red ∙ sym c.if-is_red-3.ensures.value) (sym o.red ∙ sym c.if-is_red-2.ensures.value)

pub returns-clause-changes : goal.returns-clause-changes
returns-clause-changes g c = λ xs d l.
    let r = c.black_sibling-w.ensures.black xs d l in
    let o = outer_read _ _ _ _ _ c.other.result _ _ r c.child-outer.result c.other.ensures c.child-outer.ensures.value in
    let n = near_read _ _ _ _ _ _ _ r c.child-near.result c.child-near.ensures.value in
    nodes_changed_twice _ _ _ _ _ (c.black_sibling-w.ensures.changes xs d l) (c.sink.ensures.changes xs d r (sym n.red ∙ sym c.if-is_red-3.ensures.value) (sym o.red ∙ sym c.if-is_red-2.ensures.value))
