use Rattle.std.proofs.Common.{◌≡◌, ◌≤◌, length}
use Rattle.config_rules.specs.InOrder.{places_of}
use Rattle.config_rules.specs.Rules.{first_fault, nothing}
use Rattle.config_rules.proofs.check.check.Given as goal

abbrev pub invariant-places : goal.invariant-places
invariant-places l = (first_fault l.text nothing (places_of l.directives) ≡ first_fault l.text l.earlier l.walk) × (l.earlier.zone_bytes ≤ 268435456)

abbrev pub decreases-places : goal.decreases-places
decreases-places l = length l.walk
