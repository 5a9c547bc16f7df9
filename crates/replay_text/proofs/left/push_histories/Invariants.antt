use Rattle.std.proofs.Common.{◌≡◌, ◌++◌, length, map, take}
use Rattle.replay_workers.specs.Columns.{log_left}
use Rattle.replay_text.specs.ReplayText.{zones_text}
use Rattle.replay_text.proofs.left.push_histories.Given as goal

abbrev pub invariant-loop-spec : goal.invariant-loop-spec
invariant-loop-spec l = l.text.items ≡ l.initial.text.items ++ zones_text (take (length l.yielded) l.specs) (map log_left (take (length l.yielded) l.left))
