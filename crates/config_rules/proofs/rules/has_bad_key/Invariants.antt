use Rattle.std.proofs.Common.{◌≡◌, take, false}
use Rattle.std.specs.List.{list_any}
use Rattle.config_rules.specs.Rules.{is_bad_key}
use Rattle.config_rules.proofs.rules.has_bad_key.Given as goal

abbrev pub invariant-loop-argument : goal.invariant-loop-argument
invariant-loop-argument l = list_any is_bad_key (take l.argument-index l.arguments) ≡ false
