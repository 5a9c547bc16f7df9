use Rattle.std.proofs.Common.{arith}
use Rattle.offset_tree.proofs.Writes.{parent_length}
use Rattle.offset_tree.proofs.UnlinkLemmas.{read_room}
use Rattle.offset_tree.proofs.RemoveLemmas.{seat_rooms, seat_taken, seat_changes}
use Rattle.offset_tree.proofs.remove.substitute.Goals as goal

pub child-left-requires : goal.child-left-requires
child-left-requires g c = (seat_rooms _ _ _ c.args.y c.requires.there.0 c.requires.there.1).x_room

pub child-right-requires : goal.child-right-requires
child-right-requires g c = (seat_rooms _ _ _ c.args.y c.requires.there.0 c.requires.there.1).x_room

pub parent-p-requires : goal.parent-p-requires
parent-p-requires g c = (seat_rooms _ _ _ c.args.y c.requires.there.0 c.requires.there.1).x_room

pub is_red-red-requires-clause-live : goal.is_red-red-requires-clause-live
is_red-red-requires-clause-live g c = λ _. (seat_rooms _ _ _ c.args.y c.requires.there.0 c.requires.there.1).x_room

pub fill-requires : goal.fill-requires
fill-requires g c = c.requires.there.2.room

pub set_parent-requires-clause-live : goal.set_parent-requires-clause-live
set_parent-requires-clause-live g c = λ ne.
    omega (arith, read_room (g.B.Blocks.words c.args.blocks.now) _ _ _ c.child-left.ensures.value (seat_rooms _ _ _ c.args.y c.requires.there.0 c.requires.there.1).left_room ne, c.fill.ensures.does.lengths c.child-left.result)

pub set_parent-requires-2-clause-live : goal.set_parent-requires-2-clause-live
set_parent-requires-2-clause-live g c = λ ne.
    omega (
      arith,
      read_room (g.B.Blocks.words c.args.blocks.now) _ _ _ c.child-right.ensures.value (seat_rooms _ _ _ c.args.y c.requires.there.0 c.requires.there.1).right_room ne,
      c.fill.ensures.does.lengths c.child-right.result,
      parent_length _ _ _ _ _ c.child-right.result c.set_parent.ensures.does,
    )

pub replace-requires-clause-context : goal.replace-requires-clause-context
replace-requires-clause-context g c = omega (arith, c.requires.there.1.head, c.fill.ensures.does.lengths c.args.t.now.context.at, parent_length _ _ _ _ _ c.args.t.now.context.at c.set_parent.ensures.does, parent_length _ _ _ _ _ c.args.t.now.context.at c.set_parent-2.ensures.does)

pub replace-requires-clause-live : goal.replace-requires-clause-live
replace-requires-clause-live g c = λ ne.
    omega (
      arith,
      read_room (g.B.Blocks.words c.args.blocks.now) _ _ _ c.parent-p.ensures.value (seat_rooms _ _ _ c.args.y c.requires.there.0 c.requires.there.1).parent_room ne,
      c.fill.ensures.does.lengths c.parent-p.result,
      parent_length _ _ _ _ _ c.parent-p.result c.set_parent.ensures.does,
      parent_length _ _ _ _ _ c.parent-p.result c.set_parent-2.ensures.does,
    )

pub returns-clause-shape : goal.returns-clause-shape
returns-clause-shape g c = λ u h f. seat_taken _ _ _ _ _ _ _ _ _ _ _ _ u h f c.child-left.ensures.value c.child-right.ensures.value c.parent-p.ensures.value c.is_red-red.ensures.value c.fill.ensures.does c.set_parent.ensures.does c.set_parent-2.ensures.does c.replace.ensures.replaces

pub returns-clause-changes : goal.returns-clause-changes
returns-clause-changes g c = λ u ys h f there all.
    seat_changes _ _ _ _ _ _ _ _ _ _ _ _ ys u h f c.child-left.ensures.value c.child-right.ensures.value c.parent-p.ensures.value c.fill.ensures.does c.set_parent.ensures.does c.set_parent-2.ensures.does c.replace.ensures.replaces there all
