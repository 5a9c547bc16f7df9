use Rattle.std.proofs.Common.{length, map, take}
use Rattle.replay_workers.specs.Columns.{log_left}
use Rattle.replay_text.proofs.WordsLemmas.{HasWords}
use Rattle.replay_text.proofs.left.push_histories_with_words.Given as goal

abbrev pub invariant-loop-spec : goal.invariant-loop-spec
invariant-loop-spec l = HasWords l.initial.text.items l.text.items (take (length l.yielded) l.specs) (map log_left (take (length l.yielded) l.left))
