use Rattle.std.proofs.Common.{◌≡◌, ◌++◌, length}
use Rattle.config_rules.specs.InOrder.{places_of}
use Rattle.config_rules.specs.Rules.{conn_names, req_names}
use Rattle.config_rules.proofs.check.zones_named.Given as goal

abbrev pub invariant-places : goal.invariant-places
invariant-places l = (req_names (places_of l.directives) ≡ l.names.req ++ req_names l.walk) × (conn_names (places_of l.directives) ≡ l.names.conn ++ conn_names l.walk)

abbrev pub decreases-places : goal.decreases-places
decreases-places l = length l.walk
