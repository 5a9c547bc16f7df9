use Rattle.std.proofs.Common.{◌≡◌, ◌++◌, map}
use Rattle.replay_workers.specs.declared.passes.ZonePass.TheVariants.{Req}
use Rattle.replay_workers.proofs.closing.close_req.Given as goal

abbrev pub invariant-loop-pass : goal.invariant-loop-pass
invariant-loop-pass g l = map Req l.passes.items ++ l.pass-iterator.rest.items ≡ l.fn.column.items
