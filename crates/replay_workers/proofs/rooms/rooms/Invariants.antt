use Rattle.replay_workers.proofs.RoomFor.{AreFor}
use Rattle.replay_workers.proofs.rooms.rooms.Given as goal

abbrev pub invariant-loop-line : goal.invariant-loop-line
invariant-loop-line l = AreFor l.workers l.lines l.line-index l.rooms.items
