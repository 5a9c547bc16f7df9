use Rattle.std.proofs.Common.{◌++◌, take, append_assoc, sym, ◌∙◌, ap}
use Rattle.std.specs.Option.{option_to_list}
use Rattle.std.specs.List.{filter_map}
use Rattle.config_rules.specs.Arguments.{declared_name}
use Rattle.config_rules.proofs.NextItems.{filter_map_more}
use Rattle.config_rules.proofs.earlier.add_declared.Goals as goal

pub loop-argument-preserved : goal.loop-argument-preserved
loop-argument-preserved c =
    c.in_ok-add_name.ensures
    ∙ ap (λ names. names ++ option_to_list (declared_name c.argument-item.result)) c.loop-argument.invariant
    ∙ append_assoc c.args.names.now (filter_map declared_name (take c.loop-argument.argument-index c.args.arguments.now)) (option_to_list (declared_name c.argument-item.result))
    ∙ ap (λ names. c.args.names.now ++ names) (sym (filter_map_more declared_name c.args.arguments.now c.loop-argument.argument-index c.argument-item.result c.loop-argument-test.true c.argument-item.is))
