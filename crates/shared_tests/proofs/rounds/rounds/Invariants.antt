use Rattle.std.proofs.Common.{◌+◌, ◌*◌, ◌≤◌, length}
use Rattle.shared_zone.specs.Callers.{made, IsSameCaller}
use Rattle.shared_tests.specs.Rounds.{LowersOwn}
use Rattle.shared_tests.proofs.rounds.rounds.Given as goal

abbrev pub invariant-loop : goal.invariant-loop
invariant-loop g l = IsSameCaller l.initial.pass l.pass × LowersOwn l.pass × (length (made l.pass) ≤ length (made l.initial.pass) + 2 * l.counter)
