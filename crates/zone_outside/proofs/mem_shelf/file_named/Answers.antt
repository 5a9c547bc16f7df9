-- The search compares the names.
use Rattle.std.proofs.Common.{ap, ◌∙◌}
use Rattle.std.specs.Option.{option_map}
use Rattle.zone_outside.proofs.ShelfLemmas.{text-copied, file_text-files}
use Rattle.zone_outside.proofs.mem_shelf.file_named.Goals as goal

pub returns : goal.returns
returns c =
    text-copied c.first_named.result
    ∙ ap (λ found. option_map (λ file. file.text) found) c.first_named.ensures
    ∙ file_text-files c.args.name.now c.args.files.now
