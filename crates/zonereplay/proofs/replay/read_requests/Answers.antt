use Rattle.zonereplay.specs.Replays.{told_of}
use Rattle.zonereplay.specs.Devices.{Files}
use Rattle.zonereplay.proofs.LogLemmas.{lines_prepares, lines_too_many, lines_stopped}
use Rattle.zonereplay.proofs.replay.read_requests.Goals as goal

pub returns-in-Err : goal.returns-in-Err
returns-in-Err g c =
    let before : Files = record { contents = g.F.Shelf.contents c.args.files.now; faults = g.F.Shelf.faults c.args.files.now } in
    let after : Files = record { contents = g.F.Shelf.contents c.read_lines.new.files; faults = g.F.Shelf.faults c.read_lines.new.files } in
    lines_stopped c.args.log.now c.args.config.now before after (told_of c.args.wanted c.args.config.now) _ c.in-Err.stop c.in-Err.ensures

pub returns-in-Ok-write_wanted : goal.returns-in-Ok-write_wanted
returns-in-Ok-write_wanted g c =
    let before : Files = record { contents = g.F.Shelf.contents c.args.files.now; faults = g.F.Shelf.faults c.args.files.now } in
    let after : Files = record { contents = g.F.Shelf.contents c.read_lines.new.files; faults = g.F.Shelf.faults c.read_lines.new.files } in
    let told = told_of c.args.wanted c.args.config.now in
    lines_prepares c.args.log.now c.args.config.now before after told _ _ c.in-Ok.lines c.deref.result.now c.in-Ok-write_wanted.written c.in-Ok.ensures c.deref.ensures.value c.in-Ok-write_wanted.ensures

pub returns : goal.returns
returns g c =
    let before : Files = record { contents = g.F.Shelf.contents c.args.files.now; faults = g.F.Shelf.faults c.args.files.now } in
    let after : Files = record { contents = g.F.Shelf.contents c.read_lines.new.files; faults = g.F.Shelf.faults c.read_lines.new.files } in
    let told = told_of c.args.wanted c.args.config.now in
    lines_too_many c.args.log.now c.args.config.now before after told _ _ c.in-Ok.lines c.deref.result.now c.in-Ok.ensures c.deref.ensures.value c.in-Err-write_wanted.ensures
