-- What is wanted of a replay on one worker.
use Rattle.std.specs.Prelude.{◌<◌, List, length}
use Rattle.zone_config.specs.declared.data.Config.{Config}
use Rattle.replay_log.specs.declared.line.Line.{Line}
use Rattle.zonereplay.specs.declared.replay.Wanted.{Wanted}
use Rattle.zonereplay.specs.declared.replay.Wanted.TheVariants.{Histories, Words}
use Rattle.zonereplay.specs.Told.{Told}
use Rattle.zonereplay.specs.Told.Told.{replay, zone_words}

-- what is written of these lines
abbrev pub told_of : Wanted → Config → List Line → Told
told_of Histories config = λ lines. replay config 1 lines
told_of (Words zone) config = λ lines. zone_words config zone lines

-- the zone whose words are wanted is there
abbrev pub IsThere : Wanted → Config → Type 0
IsThere Histories config = Unit {0}
IsThere (Words zone) config = zone < length config.zones
