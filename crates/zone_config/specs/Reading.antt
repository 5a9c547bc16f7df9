-- What the reader of a configuration answers.
use Rattle.std.specs.Prelude.{◌≡◌, List, None}
use Rattle.directive_text.specs.declared.tree.Directive.{Directive}
use Rattle.zone_config.specs.declared.data.Config.{Config}
use Rattle.config_rules.specs.declared.fault.ConfigFault.{ConfigFault}
use Rattle.config_rules.specs.declared.fault.ConfigFault.TheVariants.{At, NoMemory}
use Rattle.config_rules.specs.InOrder.{Place, places_of}
use Rattle.config_rules.specs.Rules.{fault_of}
use Rattle.zone_config.specs.Configuration.{Configures, server_among, upstreams_of, zones_of}

-- places without a server give no configuration
abbrev pub IsWithoutServer : ConfigFault → List Place → Type 0
IsWithoutServer (At line rule) places = server_among (zones_of places) (upstreams_of (zones_of places) places) places ≡ None
IsWithoutServer NoMemory places = Unit {0}

-- The configuration of directives that break no rule.
pub record GivesConfig (directives : List Directive) (config : Config) : Type 0 where
  pub sound : fault_of directives ≡ None
  pub configures : Configures (places_of directives) config
