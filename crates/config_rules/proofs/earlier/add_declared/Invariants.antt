use Rattle.std.proofs.Common.{◌≡◌, ◌++◌, take}
use Rattle.std.specs.List.{filter_map}
use Rattle.config_rules.specs.Arguments.{declared_name}
use Rattle.config_rules.proofs.earlier.add_declared.Given as goal

abbrev pub invariant-loop-argument : goal.invariant-loop-argument
invariant-loop-argument l = l.names ≡ l.initial.names ++ filter_map declared_name (take l.argument-index l.arguments)
