use Rattle.std.proofs.Common.{◌≡◌, length}
use Rattle.config_rules.specs.Rules.{has_repeats}
use Rattle.config_rules.proofs.rules.has_repeats.Given as goal

abbrev pub invariant-words : goal.invariant-words
invariant-words l = has_repeats l.rest ≡ has_repeats l.words

abbrev pub decreases-words : goal.decreases-words
decreases-words l = length l.rest
