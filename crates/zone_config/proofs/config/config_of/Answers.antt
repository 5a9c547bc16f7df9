use Rattle.zone_config.proofs.Answered.{config_given}
use Rattle.zone_config.proofs.config.config_of.Goals as goal

pub returns-clause-limits : goal.returns-clause-limits
returns-clause-limits c = config_given c.as_slice.result.now c.read_directives.result c.read_directives.ensures
