-- Why a command stops, and what it then tells on standard error.
use Rattle.std.specs.Prelude.{ℕ, List, [], ◌++◌, codes, decimal}
use Rattle.zonereplay.specs.declared.status.Status.{Status}
use Rattle.zonereplay.specs.declared.status.Status.TheVariants as status
use Rattle.zonereplay.specs.declared.stop.Refusal.TheVariants.{Usage, TooLong, Text, Rule, Log}
use Rattle.zonereplay.specs.declared.stop.Stop.{Stop}
use Rattle.zonereplay.specs.declared.stop.Stop.TheVariants.{Refused, ReadFault, NoMemory}

-- the status of a stop
abbrev pub status_of : Stop → Status
status_of (Refused Usage) = status.Usage
status_of (Refused TooLong) = status.TooLong
status_of (Refused (Text line kind)) = status.ConfigFault
status_of (Refused (Rule line rule)) = status.ConfigFault
status_of (Refused (Log line kind)) = status.LogFault
status_of ReadFault = status.ReadFault
status_of NoMemory = status.NoMemory

-- the text of status 2
abbrev pub usage : List ℕ
usage = codes "usage: one RATE BURST SIZE LOG | check CONFIG | plain CONFIG LOG | replay CONFIG LOG WORKERS [words] | image CONFIG LOG ZONE | made SEED LINES\n"

-- what tells of a fault of a text: which text, the line, and the number of the fault
abbrev pub fault_line : List ℕ → ℕ → List ℕ → ℕ → List ℕ
fault_line text line between number = text ++ decimal line ++ between ++ decimal number ++ codes "\n"

-- the line of a stop, none for want of memory
abbrev pub line_of : Stop → List ℕ
line_of (Refused Usage) = usage
line_of (Refused TooLong) = codes "too long\n"
line_of (Refused (Text line kind)) = fault_line (codes "config ") line (codes " text ") kind
line_of (Refused (Rule line rule)) = fault_line (codes "config ") line (codes " rule ") rule
line_of (Refused (Log line kind)) = fault_line (codes "log ") line (codes " ") kind
line_of ReadFault = codes "read fault\n"
line_of NoMemory = []
