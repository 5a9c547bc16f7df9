-- The devices at one moment, and what becomes of an output.
use Rattle.std.specs.Prelude.{ℕ, ◌≡◌, ◌<◌, ◌⊎◌, List, Option, length, take, codes}
use Rattle.std.specs.Io.KnownBytes.{Appends, Keeps}
use Rattle.zone_outside.specs.Faults.{Rose}
use Rattle.zone_watch.specs.Watched.{Watched}

-- what the files hold, by name and where that is told, and the count of faults of each name
pub record Files : Type 0 where
  pub contents : List ℕ → Option (List ℕ)
  pub faults : List ℕ → ℕ

-- what an output took, where it tells it, and how many of its writes failed
pub record Taken : Type 0 where
  pub text : Option (List ℕ)
  pub faults : ℕ

-- all that a command is given: the files, standard output, standard error and the watchers
pub record Devices : Type 0 where
  pub files : Files
  pub out : Taken
  pub err : Taken
  pub watchers : List Watched

-- no file failed: the counts of all names are as before
abbrev pub FilesCalm : Files → Files → Type 0
FilesCalm before after = (name : List ℕ) → after.faults name ≡ before.faults name

-- ---- one output

-- an output took this text whole, and no write failed
pub record TakesWhole (before after : Taken) (text : List ℕ) : Type 0 where
  pub took : Appends before.text after.text text
  pub calm : after.faults ≡ before.faults

-- an output took nothing, and no write failed
pub record TakesNone (before after : Taken) : Type 0 where
  pub kept : Keeps before.text after.text
  pub calm : after.faults ≡ before.faults

-- a write to an output failed, after a proper prefix of the text
pub record TakesPart (before after : Taken) (text : List ℕ) : Type 0 where
  pub rose : Rose before.faults after.faults
  pub part : ℕ
  pub proper : part < length text
  pub took : Appends before.text after.text (take part text)

-- a text was written to an output, if that took it
abbrev pub Tries : Taken → Taken → List ℕ → Type 0
Tries before after text = TakesWhole before after text ⊎ TakesPart before after text

-- the line that tells of a failed write
abbrev pub write_fault : List ℕ
write_fault = codes "write fault\n"

-- a write of this line failed, and after it `write fault` was written to the same output, if that took it
pub record TakesFault (before after : Taken) (line : List ℕ) : Type 0 where
  pub between : Taken
  pub line_failed : TakesPart before between line
  pub fault_told : Tries between after write_fault
