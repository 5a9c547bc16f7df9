use Rattle.std.proofs.Common.{◌≡◌, ◌≤◌, false, take}
use Rattle.zone_config.specs.Configuration.{delay_behind}
use Rattle.zone_config.specs.Views.{delay_now}
use Rattle.zone_config.proofs.build.delay_of.Given as goal

abbrev pub invariant-loop-word : goal.invariant-loop-word
invariant-loop-word l = (delay_now l.delay ≡ delay_behind (record { never = false; delay = 0 }) (take l.word-index l.words)) × (l.delay.delay ≤ 1073741823)
