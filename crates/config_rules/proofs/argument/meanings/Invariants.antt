use Rattle.std.proofs.Common.{◌≡◌, ◌++◌, map, take}
use Rattle.config_rules.specs.Arguments.{later_argument}
use Rattle.config_rules.proofs.argument.meanings.Given as goal

abbrev pub invariant-loop-word : goal.invariant-loop-word
invariant-loop-word l = l.arguments.items ≡ l.initial.arguments.items ++ map (later_argument l.kind) (take l.word-index l.later)
