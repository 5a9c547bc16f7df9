use Rattle.std.proofs.Common.{ℕ}
use Rattle.zonereplay.specs.Plan.{log_plan}
use Rattle.zonereplay.specs.Told.Told.{zone_words}
use Rattle.zonereplay.specs.Devices.{Files}
use Rattle.zonereplay.proofs.ImageLemmas.{zone_prepares, zone_stopped}
use Rattle.zonereplay.proofs.image.read_image.Goals as goal

pub returns-in-Some : goal.returns-in-Some
returns-in-Some g c =
    let before : Files = record { contents = g.F.Shelf.contents c.args.files.now; faults = g.F.Shelf.faults c.args.files.now } in
    let after : Files = record { contents = g.F.Shelf.contents c.read_requests.new.files; faults = g.F.Shelf.faults c.read_requests.new.files } in
    let config = c.args.config.now in
    zone_prepares config.zones c.as_slice.result.now c.args.zone.now c.bytes.result.now c.in-Some.zone (λ (zone : ℕ). log_plan c.args.log.now config (λ lines. zone_words config zone lines)) before after _ _ c.read_requests.result
    c.bytes.ensures c.as_slice.ensures c.in-Some.ensures.number c.read_requests.ensures

pub returns-in-None : goal.returns-in-None
returns-in-None g c =
    let files : Files = record { contents = g.F.Shelf.contents c.args.files.now; faults = g.F.Shelf.faults c.args.files.now } in
    let config = c.args.config.now in
    zone_stopped config.zones c.as_slice.result.now c.args.zone.now c.bytes.result.now (λ (zone : ℕ). log_plan c.args.log.now config (λ lines. zone_words config zone lines)) files _
    c.bytes.ensures c.as_slice.ensures c.in-None.ensures.number
