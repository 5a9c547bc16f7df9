use Rattle.std.proofs.Common.{arith}
use Rattle.offset_tree.proofs.Frames.{nodes_changed, nodes_changed_twice}
use Rattle.offset_tree.proofs.BoundLemmas.{put_in}
use Rattle.offset_tree.proofs.Drawing.{insertable, ends_of}
use Rattle.offset_tree.proofs.InsertLemmas.{insert_opening, can_open, gap_of, rising_of, inserted, opening_blocks}
use Rattle.offset_tree.proofs.tree.Tree.insert.Goals as goal

pub word-hash-requires : goal.word-hash-requires
word-hash-requires g c = let i = insertable _ _ _ _ _ c.requires.there.1 in omega (arith, i.room.links)

pub gap_for-place-requires-clause-there : goal.gap_for-place-requires-clause-there
gap_for-place-requires-clause-there g c =
    let i = insertable _ _ _ _ _ c.requires.there.1 in
    (c.requires.there.0, i.tree, can_open _ _ c.args.b.at _ _ _ i c.word-hash.ensures.value)

pub attach-requires-clause-ends : goal.attach-requires-clause-ends
attach-requires-clause-ends g c = ends_of _ _ _ c.requires.there.1.holds c.requires.there.1.room

pub attach-requires-clause-there : goal.attach-requires-clause-there
attach-requires-clause-there g c =
    let i = insertable _ _ _ _ _ c.requires.there.1 in
    let o = insert_opening _ _ c.args.b.at _ _ _ _ _ c.word-hash.ensures.value (c.gap_for-place.ensures.opening _ i.tree) in
    (o.path, gap_of _ _ _ _ _ _ _ i o)

pub insert_fixup-requires-clause-ends : goal.insert_fixup-requires-clause-ends
insert_fixup-requires-clause-ends g c = ends_of _ _ _ c.requires.there.1.holds c.requires.there.1.room

pub insert_fixup-requires-clause-there : goal.insert_fixup-requires-clause-there
insert_fixup-requires-clause-there g c =
    let i = insertable _ _ _ _ _ c.requires.there.1 in
    let o = insert_opening _ _ c.args.b.at _ _ _ _ _ c.word-hash.ensures.value (c.gap_for-place.ensures.opening _ i.tree) in
    (_, _, rising_of _ _ _ _ _ _ _ _ o (c.attach.ensures.shape o.path (gap_of _ _ _ _ _ _ _ i o)))

pub returns-clause-inserted : goal.returns-clause-inserted
returns-clause-inserted g c = λ xs h.
    let i = insertable _ _ _ _ _ h in
    let o = insert_opening _ _ c.args.b.at _ _ _ _ _ c.word-hash.ensures.value (c.gap_for-place.ensures.opening xs i.tree) in
    let gap = gap_of _ _ _ _ _ _ _ i o in
    let r = rising_of _ _ _ _ _ _ _ _ o (c.attach.ensures.shape o.path gap) in
    inserted _ _ _ _ _ _ _ _ c.requires.form h o (c.insert_fixup.ensures.settled _ _ r)
    (nodes_changed_twice _ _ _ _ _ (nodes_changed _ _ _ _ _ (opening_blocks _ _ _ c.args.b.at _ _ _ o) (c.attach.ensures.changes o.path gap)) (c.insert_fixup.ensures.changes _ _ r))

pub returns-clause-cost : goal.returns-clause-cost
returns-clause-cost g c = λ xs h.
    let i = insertable _ _ _ _ _ h in
    let o = insert_opening _ _ c.args.b.at _ _ _ _ _ c.word-hash.ensures.value (c.gap_for-place.ensures.opening xs i.tree) in
    let r = rising_of _ _ _ _ _ _ _ _ o (c.attach.ensures.shape o.path (gap_of _ _ _ _ _ _ _ i o)) in
    let found = c.gap_for-place.ensures.cost xs i.tree in
    let mended = c.insert_fixup.ensures.cost _ _ r in
    put_in _ _ o.height _ c.args.steps.now c.gap_for-place.new.steps _ o.many o.deep (omega (arith, found, c.word-hash.ensures.cost)) (omega (arith, mended, c.attach.ensures.cost))
