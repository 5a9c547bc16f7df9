use Rattle.std.proofs.Common.{arith}
use Rattle.offset_tree.proofs.AttachLemmas.{attached, attached_changes, gap_room}
use Rattle.offset_tree.proofs.attach.attach.Goals as goal

pub clear-requires-clause-room : goal.clear-requires-clause-room
clear-requires-clause-room g c = c.requires.there.1.fresh.room

pub link-requires-clause-context : goal.link-requires-clause-context
link-requires-clause-context g c = omega (arith, c.requires.there.1.shape.head, c.clear.ensures.clears.lengths c.args.t.now.context.at)

pub link-requires-clause-live : goal.link-requires-clause-live
link-requires-clause-live g c = λ live. omega (arith, gap_room _ _ _ _ _ _ c.requires.there.1 live, c.clear.ensures.clears.lengths c.args.p)

pub returns-clause-shape : goal.returns-clause-shape
returns-clause-shape g c = λ k h. attached _ _ _ _ _ _ k _ h c.clear.ensures.clears c.link.ensures.does

pub returns-clause-changes : goal.returns-clause-changes
returns-clause-changes g c = λ k h. attached_changes _ _ _ _ _ _ k _ h c.clear.ensures.clears c.link.ensures.does
