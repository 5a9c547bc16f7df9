use Rattle.std.proofs.Common.{arith, refl}
use Rattle.made_log.specs.MadeConfig.{made_config}
use Rattle.made_log.specs.MadeLog.{made_lines}
use Rattle.zonereplay.specs.Told.Told.{summary}
use Rattle.zonereplay.proofs.made.prepare_made.Goals as goal

pub returns-in-Ok : goal.returns-in-Ok
returns-in-Ok c = λ files watchers. record {
  files = record { kept = λ name. refl; later = λ name. omega arith };
  gives = (record { told = summary made_config (made_lines c.args.seed c.args.count); ends = refl; shown = (c.in-Ok.ensures, refl) }, λ name. refl);
}
