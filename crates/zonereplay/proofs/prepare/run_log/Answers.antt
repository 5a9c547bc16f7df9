use Rattle.std.proofs.Common.{ap, arith, refl, subst, sym}
use Rattle.zonereplay.specs.Jobs.{asked}
use Rattle.zonereplay.specs.OneText.{one_text}
use Rattle.zonereplay.specs.Plan.{Plan, Ends, one_run}
use Rattle.zonereplay.specs.Plan.End.{written}
use Rattle.zonereplay.specs.Told.Told.{exactly}
use Rattle.zonereplay.proofs.prepare.run_log.Goals as goal

pub returns-in-Ok : goal.returns-in-Ok
returns-in-Ok c =
    let job = asked c.args.job in
    let said = c.in-Ok.ensures in
    let told = exactly (one_text job said.0) in
    λ files watchers. record {
      files = record { kept = λ name. refl; later = λ name. omega arith };
      gives = (
        record {
          told = told;
          ends = subst (λ (p : Plan). Ends files.contents p (written told)) (sym (ap (one_run job) said.1)) refl;
          shown = (said.2, refl);
        },
        λ name. refl,
      );
    }
