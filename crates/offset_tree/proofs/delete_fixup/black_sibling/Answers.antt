use Rattle.std.proofs.Common.{sym, arith}
use Rattle.offset_tree.proofs.DeleteFixup.Lacking.{sibling_found, lacking_room}
use Rattle.offset_tree.proofs.DeleteFixup.RedSibling.{red_sibling_room}
use Rattle.offset_tree.proofs.DeleteFixup.Children.{black_sibling_read}
use Rattle.offset_tree.proofs.delete_fixup.black_sibling.Goals as goal

pub child-w-requires : goal.child-w-requires
child-w-requires g c = (lacking_room _ _ _ _ _ _ _ c.requires.there.2).1 c.requires.below

pub is_red-requires-clause-live : goal.is_red-requires-clause-live
is_red-requires-clause-live g c = λ _. (sibling_found _ _ _ _ _ _ c.other-far.result _ _ c.requires.there.2 c.requires.below c.other-far.ensures c.child-w.ensures.value).room

pub returns-then-not-is_red-clause-black : goal.returns-then-not-is_red-clause-black
returns-then-not-is_red-clause-black g c = λ xs d l. (sibling_found _ _ _ _ _ _ c.other-far.result _ _ l c.requires.below c.other-far.ensures c.child-w.ensures.value).black (sym c.if-not-is_red.ensures.value)

pub calm-requires-clause-there : goal.calm-requires-clause-there
calm-requires-clause-there g c = (c.requires.there.0, (sibling_found _ _ _ _ _ _ c.other-far.result _ _ c.requires.there.2 c.requires.below c.other-far.ensures c.child-w.ensures.value).red (sym c.if-not-is_red.ensures.value))

pub child-requires : goal.child-requires
child-requires g c =
    let r = (sibling_found _ _ _ _ _ _ c.other-far.result _ _ c.requires.there.2 c.requires.below c.other-far.ensures c.child-w.ensures.value).red (sym c.if-not-is_red.ensures.value) in
    omega (arith, red_sibling_room _ _ _ _ _ _ r, (c.calm.ensures.changes _ r).lengths c.args.place.parent)

pub returns-clause-black : goal.returns-clause-black
returns-clause-black g c = λ xs d l.
    let r = (sibling_found _ _ _ _ _ _ c.other-far.result _ _ l c.requires.below c.other-far.ensures c.child-w.ensures.value).red (sym c.if-not-is_red.ensures.value) in
    black_sibling_read _ _ _ _ _ _ c.other-far.result _ _ (c.calm.ensures.black xs d r).1 c.other-far.ensures c.child.ensures.value

pub returns-clause-changes : goal.returns-clause-changes
returns-clause-changes g c = λ xs d l.
    c.calm.ensures.changes xs ((sibling_found _ _ _ _ _ _ c.other-far.result _ _ l c.requires.below c.other-far.ensures c.child-w.ensures.value).red (sym c.if-not-is_red.ensures.value))
