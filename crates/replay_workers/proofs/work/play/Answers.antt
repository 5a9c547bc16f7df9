use Rattle.std.proofs.Common.{List, sym, subst, arith}
use Rattle.std.specs.Prelude.{slice_index}
use Rattle.replay_workers.specs.declared.passes.ZonePass.{ZonePass}
use Rattle.replay_workers.specs.Passes.{Stand, AskedBy, place_of}
use Rattle.replay_workers.specs.Tasks.{task_of}
use Rattle.replay_workers.proofs.Asking.{begins_with}
use Rattle.replay_workers.proofs.work.play.Goals as goal

pub replay_share-requires-clause-fresh : goal.replay_share-requires-clause-fresh
replay_share-requires-clause-fresh g c =
    let task = task_of c.args.config.now c.args.lines.now c.args.workers c.args.zones.now c.args.rooms.now in
    let start : Stand = record { place = place_of task c.args.row.number; passes = c.args.row.passes.items } in
    let room = slice_index task.rooms c.args.row.number in
    (start, room, begins_with start start task.config.zones room c.requires.row.passes c.requires.task.shared (omega arith), c.requires.row.enough)

pub returns-clause-worked : goal.returns-clause-worked
returns-clause-worked g c =
    let task = task_of c.args.config.now c.args.lines.now c.args.workers c.args.zones.now c.args.rooms.now in
    let start : Stand = record { place = place_of task c.args.row.number; passes = c.args.row.passes.items } in
    let room = slice_index task.rooms c.args.row.number in
    let done = c.in_ok-decisions.ensures start room (begins_with start start task.config.zones room c.requires.row.passes c.requires.task.shared (omega arith)) c.requires.row.enough in
    record {
      asked = done.asked;
      table = done.table;
      drives = done.drives;
      served = subst (λ (l : List ZonePass). AskedBy start.place l task.config.zones done.asked) (sym c.into_passes.ensures) done.served.has;
    }
