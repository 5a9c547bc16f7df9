use Rattle.std.proofs.Common.{◌≡◌, ◌++◌, map}
use Rattle.replay_workers.specs.declared.passes.ZonePass.TheVariants.{Peer}
use Rattle.replay_workers.proofs.opening.share_peer.Given as goal

abbrev pub invariant-loop-pass : goal.invariant-loop-pass
invariant-loop-pass g l = l.column.items ++ map Peer l.pass-iterator.rest.items ≡ map Peer l.initial.pass-iterator.rest.items
