use Rattle.std.proofs.Common.{◌≡◌, ◌∙◌, ap, subst, sym}
use Rattle.zone_config.specs.declared.data.Config.{Config}
use Rattle.replay_share.specs.Opening.{refused_line}
use Rattle.made_log.proofs.Opening.{made-zones-open}
use Rattle.made_log.proofs.config.made_config.Goals as goal

pub returns-clause-opens : goal.returns-clause-opens
returns-clause-opens c = ap (λ (config : Config). refused_line config.zones) c.in_ok-config.ensures ∙ made-zones-open
