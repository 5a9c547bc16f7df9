use Rattle.std.proofs.Common.{List, ℕ}
use Rattle.zonereplay.specs.Jobs.{asked}
use Rattle.replay_log.specs.Keys.{keys_of}
use Rattle.zonereplay.specs.Plan.{Plan, one_run}
use Rattle.zonereplay.specs.Devices.{Files}
use Rattle.zonereplay.proofs.StopLemmas.{read_prepares, read_stopped}
use Rattle.zonereplay.proofs.prepare.prepare_one.Goals as goal

pub returns-in-Ok : goal.returns-in-Ok
returns-in-Ok g c = λ watchers.
    let before : Files = record { contents = g.F.Shelf.contents c.args.files.now; faults = g.F.Shelf.faults c.args.files.now } in
    let after : Files = record { contents = g.F.Shelf.contents c.read_text.new.files; faults = g.F.Shelf.faults c.read_text.new.files } in
    let next : List ℕ → Plan = λ text. one_run (asked c.args.job) (keys_of text) in
    read_prepares c.args.log.now before after after watchers watchers next c.in-Ok.text c.deref.result.now c.run_log.result c.in-Ok.ensures c.deref.ensures.value (c.run_log.ensures after watchers)

pub returns-in-Err : goal.returns-in-Err
returns-in-Err g c = λ watchers.
    let before : Files = record { contents = g.F.Shelf.contents c.args.files.now; faults = g.F.Shelf.faults c.args.files.now } in
    let after : Files = record { contents = g.F.Shelf.contents c.read_text.new.files; faults = g.F.Shelf.faults c.read_text.new.files } in
    let next : List ℕ → Plan = λ text. one_run (asked c.args.job) (keys_of text) in
    read_stopped c.args.log.now before after watchers next c.in-Err.stop c.in-Err.ensures
