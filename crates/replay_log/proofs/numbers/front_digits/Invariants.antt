use Rattle.std.proofs.Common.{◌-◌, ◌≡◌, ◌≤◌, true, length, take}
use Rattle.std.specs.List.{list_all}
use Rattle.std.specs.Char.{is_ascii_digit}
use Rattle.std.specs.Str.Parse.{digits_value}
use Rattle.replay_log.proofs.numbers.front_digits.Given as goal

abbrev pub invariant-loop-value : goal.invariant-loop-value
invariant-loop-value l = record {
  within : l.count ≤ length l.text;
  digits : list_all is_ascii_digit (take l.count l.text) ≡ true;
  value : l.value ≡ digits_value 10 (take l.count l.text);
}

abbrev pub decreases-loop-value : goal.decreases-loop-value
decreases-loop-value l = length l.text - l.count
