use Rattle.std.proofs.Common.{◌∙◌}
use Rattle.offset_tree.proofs.SideLemmas.{recoloured_at}
use Rattle.offset_tree.proofs.Frames.{nodes_changed, nodes_changed_twice}
use Rattle.offset_tree.proofs.DeleteFixup.BlackSibling.{finish_spots}
use Rattle.offset_tree.proofs.DeleteFixup.Children.{children_read}
use Rattle.offset_tree.proofs.delete_fixup.finish.Goals as goal

pub is_red-red-requires-clause-live : goal.is_red-red-requires-clause-live
is_red-red-requires-clause-live g c = λ _. (children_read _ _ _ _ _ _ _ c.requires.there.2).1

pub recolour-requires : goal.recolour-requires
recolour-requires g c = let a = finish_spots _ _ _ _ _ _ _ c.requires.there.2 _ c.requires.there.3 c.requires.there.4 in (a.0, a.1)

pub recolour-requires-2 : goal.recolour-requires-2
recolour-requires-2 g c =
    let a = finish_spots _ _ _ _ _ _ _ c.requires.there.2 _ c.requires.there.3 c.requires.there.4 in
    let b = a.3 _ (recoloured_at _ _ a.0 _ _ _ (c.is_red-red.ensures.value ∙ (children_read _ _ _ _ _ _ _ c.requires.there.2).0) (c.recolour.ensures.shape a.0 a.1)) in (b.0, b.1)

pub recolour-requires-3 : goal.recolour-requires-3
recolour-requires-3 g c =
    let a = finish_spots _ _ _ _ _ _ _ c.requires.there.2 _ c.requires.there.3 c.requires.there.4 in
    let b = a.3 _ (recoloured_at _ _ a.0 _ _ _ (c.is_red-red.ensures.value ∙ (children_read _ _ _ _ _ _ _ c.requires.there.2).0) (c.recolour.ensures.shape a.0 a.1)) in
    let d = b.3 _ (c.recolour-2.ensures.shape b.0 b.1) in (d.0, d.1)

pub rotate-requires-clause-there : goal.rotate-requires-clause-there
rotate-requires-clause-there g c =
    let a = finish_spots _ _ _ _ _ _ _ c.requires.there.2 _ c.requires.there.3 c.requires.there.4 in
    let b = a.3 _ (recoloured_at _ _ a.0 _ _ _ (c.is_red-red.ensures.value ∙ (children_read _ _ _ _ _ _ _ c.requires.there.2).0) (c.recolour.ensures.shape a.0 a.1)) in
    let d = b.3 _ (c.recolour-2.ensures.shape b.0 b.1) in
    let e = d.3 _ (c.recolour-3.ensures.shape d.0 d.1) in (e.0, e.1)

pub returns-clause-settled : goal.returns-clause-settled
returns-clause-settled g c = λ xs depth r red lies.
    let a = finish_spots _ _ _ _ _ _ _ r _ red lies in
    let b = a.3 _ (recoloured_at _ _ a.0 _ _ _ (c.is_red-red.ensures.value ∙ (children_read _ _ _ _ _ _ _ r).0) (c.recolour.ensures.shape a.0 a.1)) in
    let d = b.3 _ (c.recolour-2.ensures.shape b.0 b.1) in
    let e = d.3 _ (c.recolour-3.ensures.shape d.0 d.1) in
    e.3 _ (c.rotate.ensures.shape e.0 e.1)

pub returns-clause-changes : goal.returns-clause-changes
returns-clause-changes g c = λ xs depth r red lies.
    let a = finish_spots _ _ _ _ _ _ _ r _ red lies in
    let b = a.3 _ (recoloured_at _ _ a.0 _ _ _ (c.is_red-red.ensures.value ∙ (children_read _ _ _ _ _ _ _ r).0) (c.recolour.ensures.shape a.0 a.1)) in
    let d = b.3 _ (c.recolour-2.ensures.shape b.0 b.1) in
    let e = d.3 _ (c.recolour-3.ensures.shape d.0 d.1) in
    nodes_changed_twice _ _ _ _ _ (nodes_changed_twice _ _ _ _ _ (nodes_changed_twice _ _ _ _ _
    (nodes_changed _ _ _ _ _ a.2 (c.recolour.ensures.changes a.0 a.1))
    (nodes_changed _ _ _ _ _ b.2 (c.recolour-2.ensures.changes b.0 b.1)))
    (nodes_changed _ _ _ _ _ d.2 (c.recolour-3.ensures.changes d.0 d.1)))
    (nodes_changed _ _ _ _ _ e.2 (c.rotate.ensures.changes e.0 e.1))
