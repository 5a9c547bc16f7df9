-- What the check of directives answers.
use Rattle.std.specs.Prelude.{◌≡◌, List, Option, Some}
use Rattle.directive_text.specs.declared.tree.Directive.{Directive}
use Rattle.config_rules.specs.declared.fault.ConfigFault.{ConfigFault}
use Rattle.config_rules.specs.declared.fault.ConfigFault.TheVariants.{At, NoMemory}
use Rattle.config_rules.specs.Rules.{Fault, fault_of}

-- a fault is this one; want of memory says nothing
abbrev pub FaultIs : ConfigFault → Option Fault → Type 0
FaultIs (At line rule) fault = fault ≡ Some (record { line = line; rule = rule })
FaultIs NoMemory fault = Unit {0}

-- a fault is the first one
abbrev pub ReadsFault : List Directive → ConfigFault → Type 0
ReadsFault directives fault = FaultIs fault (fault_of directives)
