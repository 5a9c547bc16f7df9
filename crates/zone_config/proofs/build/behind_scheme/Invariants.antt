use Rattle.std.proofs.Common.{◌≡◌, length}
use Rattle.config_rules.specs.Words.{behind_scheme}
use Rattle.zone_config.proofs.build.behind_scheme.Given as goal

abbrev pub invariant-bytes : goal.invariant-bytes
invariant-bytes l = behind_scheme l.rest ≡ behind_scheme l.word

abbrev pub decreases-bytes : goal.decreases-bytes
decreases-bytes l = length l.rest
