-- What is answered of the directives of a text.
use Rattle.std.proofs.Common.{◌≡◌, List, None, Result, Ok, Err, MatchResult, IfOk, sym, subst}
use Rattle.directive_text.specs.declared.tree.Directive.{Directive}
use Rattle.zone_config.specs.declared.data.Config.{Config}
use Rattle.config_rules.specs.declared.fault.ConfigFault.{ConfigFault}
use Rattle.config_rules.specs.declared.fault.ConfigFault.TheVariants.{At, NoMemory}
use Rattle.config_rules.specs.InOrder.{places_of}
use Rattle.config_rules.specs.Rules.{fault_of, zones_named}
use Rattle.zone_config.specs.Configuration.{Configures, upstreams_of, zones_of}
use Rattle.config_rules.specs.Answers.{ReadsFault}
use Rattle.zone_config.specs.Reading.{GivesConfig, IsWithoutServer}
use Rattle.std.specs.List.{All}
use Rattle.zone_config.specs.Conditions.{AreLocations, AreZones, HasOwnServers, IsConfig, IsLevel, IsUpstream}
use Rattle.zone_config.proofs.NextPlace.{has_server}
use Rattle.zone_config.proofs.Bounded.{are_locations, are_zones}
use Rattle.zone_config.proofs.Leveled.{Sure, levels_within, server_within}
use Rattle.zone_config.proofs.Sound.{all_seated, all_sound}
use Rattle.zone_config.proofs.Upstreams.{upstreams_within, zones_served}

-- directives without a fault are configured, and have a server
pub configured_reads : (ds : List Directive) (result : Result Config ConfigFault) → fault_of ds ≡ None →
    MatchResult result (λ config. Configures (places_of ds) config) (λ fault. IsWithoutServer fault (places_of ds)) →
    MatchResult result (λ config. GivesConfig ds config) (λ fault. ReadsFault ds fault)
configured_reads ds (Ok config) sound given = record { sound = sound; configures = given }
configured_reads ds (Err (At line rule)) sound given =
    absurd (has_server (zones_named (places_of ds)) (zones_of (places_of ds)) (upstreams_of (zones_of (places_of ds)) (places_of ds)) (places_of ds) sound given)
configured_reads ds (Err NoMemory) sound given = tt

-- what is built of directives without a fault is a configuration
config_within : (ds : List Directive) (config : Config) → GivesConfig ds config → IsConfig config
config_within ds config given =
    let places = places_of ds in
    let text = zones_named places in
    let zones_are : config.zones ≡ zones_of places = given.configures.zones in
    let seated = all_seated text ds given.sound in
    let are : AreZones config.zones = subst AreZones (sym zones_are) (are_zones text places given.sound) in
    let upstreams : All (IsUpstream config.zones) config.upstreams =
    subst (All (IsUpstream config.zones)) (sym given.configures.upstreams) (upstreams_within places config.zones zones_are are seated) in
    let sure : Sure places config.zones config.upstreams = record { sound = all_sound text places given.sound; zones_are = zones_are; in_limits = are; served = upstreams } in
    record {
      zones = are;
      servers = subst (All HasOwnServers) (sym zones_are) (zones_served text places seated);
      upstreams = upstreams;
      server = server_within places config.zones config.upstreams sure seated config.server given.configures.server;
      locations = subst AreLocations (sym given.configures.locations) (are_locations text config.zones config.upstreams places given.sound);
      levels = subst (All (IsLevel config.zones)) (sym given.configures.locations) (levels_within places config.zones config.upstreams sure seated);
    }

pub config_given : (ds : List Directive) (result : Result Config ConfigFault) →
    MatchResult result (λ config. GivesConfig ds config) (λ fault. ReadsFault ds fault) → IfOk result IsConfig
config_given ds (Ok config) given = config_within ds config given
config_given ds (Err fault) given = tt
