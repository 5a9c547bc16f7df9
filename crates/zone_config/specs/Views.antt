-- What values in the code are in the definitions.
use Rattle.zone_config.specs.declared.build.DelayWord.{DelayWord}
use Rattle.zone_config.specs.Configuration.{Delay}

-- what counts of `delay=N` and `nodelay`
abbrev pub delay_now : DelayWord → Delay
delay_now d = record { never = d.never; delay = d.delay }
