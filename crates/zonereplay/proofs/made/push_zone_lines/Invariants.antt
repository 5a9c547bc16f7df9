use Rattle.std.proofs.Common.{◌≡◌, ◌++◌, length, map, take}
use Rattle.replay_share.specs.Journals.{log_of}
use Rattle.made_log.specs.Summary.{zone_lines}
use Rattle.zonereplay.proofs.made.push_zone_lines.Given as goal

abbrev pub invariant-loop-spec : goal.invariant-loop-spec
invariant-loop-spec l = l.text.items ≡ l.initial.text.items ++ zone_lines (take (length l.yielded) l.specs) (map log_of (take (length l.yielded) l.zones))
