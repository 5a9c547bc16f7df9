use Rattle.std.proofs.Common.{◌≡◌, length}
use Rattle.config_rules.specs.Numbers.{digits_of}
use Rattle.config_rules.proofs.numbers.digits_of.Given as goal

abbrev pub invariant-zeros : goal.invariant-zeros
invariant-zeros l = digits_of l.most l.digits ≡ digits_of l.most l.word

abbrev pub decreases-zeros : goal.decreases-zeros
decreases-zeros l = length l.digits
