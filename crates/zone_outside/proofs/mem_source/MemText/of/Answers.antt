-- No copy follows the bytes.
use Rattle.std.proofs.Common.{◌++◌, [], refl, ap, ◌∙◌, append-nil}
use Rattle.zone_outside.proofs.RepeatedLemmas.{repeated-none}
use Rattle.zone_outside.proofs.mem_source.MemText.of.Goals as goal

pub returns-clause-bytes : goal.returns-clause-bytes
returns-clause-bytes c =
    ap (λ l. c.args.bytes.now ++ l) (repeated-none 0 [] refl) ∙ append-nil c.args.bytes.now
