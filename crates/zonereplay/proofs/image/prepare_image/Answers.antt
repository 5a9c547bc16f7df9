use Rattle.std.proofs.Common.{List, ℕ, Err}
use Rattle.zonereplay.specs.Plan.{Plan, image_log, with_zones}
use Rattle.zonereplay.specs.Devices.{Files}
use Rattle.zonereplay.proofs.StopLemmas.{read_prepares, read_stopped, config_prepares, config_stopped}
use Rattle.zonereplay.proofs.image.prepare_image.Goals as goal

pub returns-in-Err : goal.returns-in-Err
returns-in-Err g c =
    let before : Files = record { contents = g.F.Shelf.contents c.args.files.now; faults = g.F.Shelf.faults c.args.files.now } in
    let after : Files = record { contents = g.F.Shelf.contents c.read_text.new.files; faults = g.F.Shelf.faults c.read_text.new.files } in
    let next : List ℕ → Plan = λ text. with_zones text (image_log c.args.log.now c.args.zone.now) in
    read_stopped c.args.name.now before after _ next c.in-Err.stop c.in-Err.ensures

pub returns-in-Ok-open_config : goal.returns-in-Ok-open_config
returns-in-Ok-open_config g c =
    let before : Files = record { contents = g.F.Shelf.contents c.args.files.now; faults = g.F.Shelf.faults c.args.files.now } in
    let between : Files = record { contents = g.F.Shelf.contents c.read_text.new.files; faults = g.F.Shelf.faults c.read_text.new.files } in
    let after : Files = record { contents = g.F.Shelf.contents c.read_image.new.files; faults = g.F.Shelf.faults c.read_image.new.files } in
    let next : List ℕ → Plan = λ text. with_zones text (image_log c.args.log.now c.args.zone.now) in
    let went = config_prepares c.deref.result.now between after _ _ (image_log c.args.log.now c.args.zone.now) c.in-Ok-open_config.config c.read_image.result c.in-Ok-open_config.ensures c.read_image.ensures in
    read_prepares c.args.name.now before between after _ _ next c.in-Ok.text c.deref.result.now c.read_image.result c.in-Ok.ensures c.deref.ensures.value went

pub returns : goal.returns
returns g c =
    let before : Files = record { contents = g.F.Shelf.contents c.args.files.now; faults = g.F.Shelf.faults c.args.files.now } in
    let after : Files = record { contents = g.F.Shelf.contents c.read_text.new.files; faults = g.F.Shelf.faults c.read_text.new.files } in
    let next : List ℕ → Plan = λ text. with_zones text (image_log c.args.log.now c.args.zone.now) in
    let went = config_stopped c.deref.result.now after _ (image_log c.args.log.now c.args.zone.now) c.in-Err-open_config.stop c.in-Err-open_config.ensures in
    read_prepares c.args.name.now before after after _ _ next c.in-Ok.text c.deref.result.now (Err c.in-Err-open_config.stop) c.in-Ok.ensures c.deref.ensures.value went
