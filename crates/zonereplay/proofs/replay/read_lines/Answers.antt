use Rattle.zonereplay.specs.Devices.{Files}
use Rattle.zonereplay.proofs.LogLemmas.{log_read, log_faulty, log_too_large, log_unread}
use Rattle.zonereplay.proofs.replay.read_lines.Goals as goal

pub returns-in-Err : goal.returns-in-Err
returns-in-Err g c =
    let before : Files = record { contents = g.F.Shelf.contents c.args.files.now; faults = g.F.Shelf.faults c.args.files.now } in
    let after : Files = record { contents = g.F.Shelf.contents c.read_text.new.files; faults = g.F.Shelf.faults c.read_text.new.files } in
    log_unread c.args.log.now c.args.config.now before after c.in-Err.stop c.in-Err.ensures

pub returns-in-Ok-read_log : goal.returns-in-Ok-read_log
returns-in-Ok-read_log g c =
    let before : Files = record { contents = g.F.Shelf.contents c.args.files.now; faults = g.F.Shelf.faults c.args.files.now } in
    let after : Files = record { contents = g.F.Shelf.contents c.read_text.new.files; faults = g.F.Shelf.faults c.read_text.new.files } in
    log_read c.args.log.now c.args.config.now before after c.in-Ok.text c.deref.result.now c.in-Ok.ensures c.deref.ensures.value c.in-Ok-read_log.lines c.in-Ok-read_log.ensures.value c.in-Ok-read_log.ensures.limits c.in-Ok-read_log.ensures.few

pub returns-in-Err-At : goal.returns-in-Err-At
returns-in-Err-At g c =
    let before : Files = record { contents = g.F.Shelf.contents c.args.files.now; faults = g.F.Shelf.faults c.args.files.now } in
    let after : Files = record { contents = g.F.Shelf.contents c.read_text.new.files; faults = g.F.Shelf.faults c.read_text.new.files } in
    log_faulty c.args.log.now c.args.config.now before after c.in-Ok.text c.deref.result.now c.in-Ok.ensures c.deref.ensures.value c.in-Err-At.line c.in-Err-At.kind (rw c.in-Err-At.field-0-is at c.in-Err-At.ensures.value)

pub returns : goal.returns
returns g c =
    let before : Files = record { contents = g.F.Shelf.contents c.args.files.now; faults = g.F.Shelf.faults c.args.files.now } in
    let after : Files = record { contents = g.F.Shelf.contents c.read_text.new.files; faults = g.F.Shelf.faults c.read_text.new.files } in
    log_too_large c.args.log.now c.args.config.now before after c.in-Ok.text c.in-Ok.ensures
