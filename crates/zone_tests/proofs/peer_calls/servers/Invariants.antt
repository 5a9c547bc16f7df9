use Rattle.std.specs.List.{All}
use Rattle.peer_zone.specs.Object.{IsServer}
use Rattle.zone_tests.proofs.peer_calls.servers.Given as goal

abbrev pub invariant-loop-one : goal.invariant-loop-one
invariant-loop-one g l = All IsServer l.servers
