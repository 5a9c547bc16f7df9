use Rattle.zonereplay.specs.Plan.{check_run}
use Rattle.zonereplay.specs.Devices.{Files}
use Rattle.zonereplay.proofs.StopLemmas.{read_prepares, read_stopped}
use Rattle.zonereplay.proofs.prepare.prepare_check.Goals as goal

pub returns-in-Ok : goal.returns-in-Ok
returns-in-Ok g c = λ watchers.
    let before : Files = record { contents = g.F.Shelf.contents c.args.files.now; faults = g.F.Shelf.faults c.args.files.now } in
    let after : Files = record { contents = g.F.Shelf.contents c.read_text.new.files; faults = g.F.Shelf.faults c.read_text.new.files } in
    read_prepares c.args.name.now before after after watchers watchers check_run c.in-Ok.text c.deref.result.now c.run_check.result c.in-Ok.ensures c.deref.ensures.value (c.run_check.ensures after watchers)

pub returns-in-Err : goal.returns-in-Err
returns-in-Err g c = λ watchers.
    let before : Files = record { contents = g.F.Shelf.contents c.args.files.now; faults = g.F.Shelf.faults c.args.files.now } in
    let after : Files = record { contents = g.F.Shelf.contents c.read_text.new.files; faults = g.F.Shelf.faults c.read_text.new.files } in
    read_stopped c.args.name.now before after watchers check_run c.in-Err.stop c.in-Err.ensures
