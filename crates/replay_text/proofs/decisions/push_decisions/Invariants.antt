use Rattle.std.proofs.Common.{◌≡◌, ◌++◌, List, length, map, take}
use Rattle.std.specs.List.{flat_map}
use Rattle.replay_share.specs.Replay.{Decided, line_of, decision_of}
use Rattle.replay_text.specs.ReplayText.{decided_line}
use Rattle.replay_text.proofs.decisions.push_decisions.Given as goal

abbrev pub invariant-loop-line : goal.invariant-loop-line
invariant-loop-line l = (decided : List Decided) → map line_of decided ≡ l.lines → map decision_of decided ≡ l.decisions → l.text.items ≡ l.initial.text.items ++ flat_map (decided_line l.config) (take (length l.yielded) decided)
