-- The statuses and their numbers.
use Rattle.std.specs.Prelude.{ℕ}
use Rattle.zonereplay.specs.declared.status.Status.{Status}
use Rattle.zonereplay.specs.declared.status.Status.TheVariants.{Done, Usage, ConfigFault, LogFault, ReadFault, WriteFault, TooLong, NoMemory}

-- the number with which the program ends
abbrev pub code_of : Status → ℕ
code_of Done = 0
code_of Usage = 1
code_of ConfigFault = 2
code_of LogFault = 3
code_of ReadFault = 4
code_of WriteFault = 5
code_of TooLong = 6
code_of NoMemory = 7
