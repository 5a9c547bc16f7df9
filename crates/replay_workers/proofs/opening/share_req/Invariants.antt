use Rattle.std.proofs.Common.{◌≡◌, ◌++◌, map}
use Rattle.replay_workers.specs.declared.passes.ZonePass.TheVariants.{Req}
use Rattle.replay_workers.proofs.opening.share_req.Given as goal

abbrev pub invariant-loop-pass : goal.invariant-loop-pass
invariant-loop-pass g l = l.column.items ++ map Req l.pass-iterator.rest.items ≡ map Req l.initial.pass-iterator.rest.items
