use Rattle.std.proofs.Common.{arith, refl}
use Rattle.decision_text.specs.CheckText.{check_text}
use Rattle.zone_config.specs.declared.data.Config.{Config}
use Rattle.zonereplay.specs.Plan.Plan.{writes}
use Rattle.zonereplay.specs.Told.Told.{exactly}
use Rattle.zonereplay.proofs.StopLemmas.{config_prepares, config_stopped}
use Rattle.zonereplay.proofs.prepare.run_check.Goals as goal

pub returns-in-Ok-check_text : goal.returns-in-Ok-check_text
returns-in-Ok-check_text c = λ files watchers. config_prepares c.args.text.now files files watchers watchers (λ (config : Config). writes (exactly (check_text config))) c.in-Ok.config _ c.in-Ok.ensures
    (record {
      files = record { kept = λ name. refl; later = λ name. omega arith };
      gives = (record { told = exactly (check_text c.in-Ok.config); ends = refl; shown = (c.in-Ok-check_text.ensures, refl) }, λ name. refl);
    })

pub returns-in-Err : goal.returns-in-Err
returns-in-Err c = λ files watchers. config_stopped c.args.text.now files watchers (λ (config : Config). writes (exactly (check_text config))) c.in-Err.stop c.in-Err.ensures
