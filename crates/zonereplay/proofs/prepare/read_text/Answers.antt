use Rattle.std.proofs.Common.{◌<◌, ◌∙◌, List, ℕ, length, subst}
use Rattle.std.specs.Prelude.{IfSome}
use Rattle.zonereplay.specs.Plan.{text_limit}
use Rattle.zonereplay.specs.Devices.{Files}
use Rattle.zonereplay.proofs.StopLemmas.{too_long_stops}
use Rattle.zonereplay.proofs.prepare.read_text.Goals as goal

pub returns-in-Err-TooLong : goal.returns-in-Err-TooLong
returns-in-Err-TooLong g c =
    let before : Files = record { contents = g.F.Shelf.contents c.args.files.now; faults = g.F.Shelf.faults c.args.files.now } in
    let after : Files = record { contents = g.F.Shelf.contents c.read_named.new.files; faults = g.F.Shelf.faults c.read_named.new.files } in
    let named = c.in-Ok.ensures ∙ c.bytes.ensures in
    let long = subst (λ (n : List ℕ). IfSome (before.contents n) (λ text. text_limit < length text)) named (rw c.in-Err-TooLong.field-0-is at c.in-Err-TooLong.ensures.longer) in
    record {
      files = record { kept = c.read_named.ensures.kept; later = c.read_named.ensures.later };
      gives = too_long_stops c.args.name.now before after long (rw c.in-Err-TooLong.field-0-is at c.in-Err-TooLong.ensures.calm);
    }
