use Rattle.std.proofs.Common.{sym, ◌∙◌, arith}
use Rattle.offset_tree.proofs.SideLemmas.{read_at}
use Rattle.offset_tree.proofs.Writes.{parent_length}
use Rattle.offset_tree.proofs.Frames.{nodes_changed_twice}
use Rattle.offset_tree.proofs.UnlinkLemmas.{sided_reads, read_room, taken_out}
use Rattle.offset_tree.proofs.remove.take_out.Goals as goal

pub is_red-red-requires-clause-live : goal.is_red-red-requires-clause-live
is_red-red-requires-clause-live g c = λ _. (sided_reads _ _ _ _ _ c.requires.there.1).room

pub child-v-requires : goal.child-v-requires
child-v-requires g c = (sided_reads _ _ _ _ _ c.requires.there.1).room

pub parent-p-requires : goal.parent-p-requires
parent-p-requires g c = (sided_reads _ _ _ _ _ c.requires.there.1).room

pub hole_side-hole-requires : goal.hole_side-hole-requires
hole_side-hole-requires g c = read_room (g.B.Blocks.words c.args.blocks.now) _ _ 0 c.parent-p.ensures.value (sided_reads _ _ _ _ _ c.requires.there.1).parent_room

pub set_parent-requires-clause-live : goal.set_parent-requires-clause-live
set_parent-requires-clause-live g c =
    let m = g.B.Blocks.words c.args.blocks.now in
    read_room m _ _ _ (read_at m c.args.y _ c.other.result _ c.other.ensures c.child-v.ensures.value) (sided_reads _ _ _ _ _ c.requires.there.1).rest_room

pub replace-requires-clause-live : goal.replace-requires-clause-live
replace-requires-clause-live g c = λ ne.
    let m = g.B.Blocks.words c.args.blocks.now in
    omega (arith, read_room m _ _ 0 c.parent-p.ensures.value (sided_reads _ _ _ _ _ c.requires.there.1).parent_room ne, parent_length _ _ _ _ _ c.parent-p.result c.set_parent.ensures.does)

pub delete_fixup-requires-clause-there : goal.delete_fixup-requires-clause-there
delete_fixup-requires-clause-there g c =
    let o = c.requires.there.1 in
    let t = taken_out _ _ _ _ _ _ c.other.result c.hole_side-hole.result _ c.child-v.result c.parent-p.result o c.other.ensures c.child-v.ensures.value c.parent-p.ensures.value c.hole_side-hole.ensures c.set_parent.ensures.does c.replace.ensures.replaces in
    (c.requires.there.0, _, t.1 (sym (sided_reads _ _ _ _ _ o).colour ∙ (sym c.is_red-red.ensures.value ∙ c.if-not-red.true)))

pub returns-then-not-red-clause-settled : goal.returns-then-not-red-clause-settled
returns-then-not-red-clause-settled g c = λ xs o.
    let t = taken_out _ _ _ _ _ _ c.other.result c.hole_side-hole.result _ c.child-v.result c.parent-p.result o c.other.ensures c.child-v.ensures.value c.parent-p.ensures.value c.hole_side-hole.ensures c.set_parent.ensures.does c.replace.ensures.replaces in
    c.delete_fixup.ensures.settled xs _ (t.1 (sym (sided_reads _ _ _ _ _ o).colour ∙ (sym c.is_red-red.ensures.value ∙ c.if-not-red.true)))

pub returns-then-not-red-clause-changes : goal.returns-then-not-red-clause-changes
returns-then-not-red-clause-changes g c = λ xs o.
    let t = taken_out _ _ _ _ _ _ c.other.result c.hole_side-hole.result _ c.child-v.result c.parent-p.result o c.other.ensures c.child-v.ensures.value c.parent-p.ensures.value c.hole_side-hole.ensures c.set_parent.ensures.does c.replace.ensures.replaces in
    nodes_changed_twice _ _ _ _ _ t.2 (c.delete_fixup.ensures.changes xs _ (t.1 (sym (sided_reads _ _ _ _ _ o).colour ∙ (sym c.is_red-red.ensures.value ∙ c.if-not-red.true))))

pub returns-else-not-red-clause-settled : goal.returns-else-not-red-clause-settled
returns-else-not-red-clause-settled g c = λ xs o.
    let t = taken_out _ _ _ _ _ _ c.other.result c.hole_side-hole.result _ c.child-v.result c.parent-p.result o c.other.ensures c.child-v.ensures.value c.parent-p.ensures.value c.hole_side-hole.ensures c.set_parent.ensures.does c.replace.ensures.replaces in
    t.0 (sym (sided_reads _ _ _ _ _ o).colour ∙ (sym c.is_red-red.ensures.value ∙ c.if-not-red.false))

pub returns-else-not-red-clause-changes : goal.returns-else-not-red-clause-changes
returns-else-not-red-clause-changes g c = λ xs o.
    (taken_out _ _ _ _ _ _ c.other.result c.hole_side-hole.result _ c.child-v.result c.parent-p.result o c.other.ensures c.child-v.ensures.value c.parent-p.ensures.value c.hole_side-hole.ensures c.set_parent.ensures.does c.replace.ensures.replaces).2
