use Rattle.std.proofs.Common.{◌≡◌, map, take}
use Rattle.request_script.specs.ZoneSpecs.{server_of}
use Rattle.request_script.proofs.zone_specs.servers_of.Given as goal

abbrev pub invariant-loop-server : goal.invariant-loop-server
invariant-loop-server l = l.servers ≡ map server_of (take l.server-index l.given)
