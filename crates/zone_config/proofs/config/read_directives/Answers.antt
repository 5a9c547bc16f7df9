use Rattle.zone_config.proofs.Answered.{configured_reads}
use Rattle.zone_config.proofs.config.read_directives.Goals as goal

pub returns : goal.returns
returns c = configured_reads c.args.directives.now c.configured.result c.in_ok-check_directives.ensures c.configured.ensures
