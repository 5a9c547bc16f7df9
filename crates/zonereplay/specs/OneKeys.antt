-- What `one` makes of a log of keys.
use Rattle.std.specs.Prelude.{ℕ, ◌≡◌, List, Result, Ok, Err}
use Rattle.replay_log.specs.declared.fault.LogFault.{LogFault}
use Rattle.replay_log.specs.declared.fault.LogFault.TheVariants.{At, NoMemory}
use Rattle.replay_log.specs.declared.keys.KeyLine.{KeyLine}
use Rattle.replay_log.specs.Keys.{keys_of}
use Rattle.zonereplay.specs.Words.{OneJob}
use Rattle.zonereplay.specs.OneText.{one_text}

-- the text of the log's keys, or the log's first fault; want of memory says nothing
abbrev pub TellsKeys : OneJob → List ℕ → Result (List ℕ) LogFault → Type 0
TellsKeys job log (Ok text) = (keys : List KeyLine) × (keys_of log ≡ Ok keys) × (text ≡ one_text job keys)
TellsKeys job log (Err (At line kind)) = keys_of log ≡ Err (record { line = line; kind = kind })
TellsKeys job log (Err NoMemory) = Unit {0}
