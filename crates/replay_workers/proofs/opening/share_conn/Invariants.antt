use Rattle.std.proofs.Common.{◌≡◌, ◌++◌, map}
use Rattle.replay_workers.specs.declared.passes.ZonePass.TheVariants.{Conn}
use Rattle.replay_workers.proofs.opening.share_conn.Given as goal

abbrev pub invariant-loop-pass : goal.invariant-loop-pass
invariant-loop-pass g l = l.column.items ++ map Conn l.pass-iterator.rest.items ≡ map Conn l.initial.pass-iterator.rest.items
