use Rattle.std.proofs.Common.{◌≡◌, ◌++◌, take}
use Rattle.std.specs.List.{flat_map}
use Rattle.config_rules.specs.Rules.{behind_space}
use Rattle.config_rules.proofs.rules.location_name.Given as goal

abbrev pub invariant-loop-word : goal.invariant-loop-word
invariant-loop-word l = l.name.items ≡ l.initial.name.items ++ flat_map behind_space (take l.word-index l.later)
