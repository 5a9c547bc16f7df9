-- What the calls that read a log line by line answer. Want of memory says nothing.
use Rattle.std.specs.Prelude.{ℕ, ◌≡◌, ◌<◌, ◌≤◌, List, ◌∷◌, length, Result, Ok, Err}
use denote.Ref.{Bor}
use Rattle.replay_log.specs.declared.fault.LogFault.{LogFault}
use Rattle.replay_log.specs.declared.fault.LogFault.TheVariants as in_log
use Rattle.replay_log.specs.Lines.{parts, lines_from}

-- the first line of what is left of a log, which has this number, says this, and stands before the tail
pub record IsNext {L : Type 0} (says : ℕ → List ℕ → Result L ℕ) (n : ℕ) (rest : List ℕ) (line : L) (tail : List ℕ) : Type 0 where
  pub front : List ℕ
  pub cut : parts 10 rest ≡ front ∷ parts 10 tail
  pub said : says n front ≡ Ok line
  pub shorter : length tail < length rest
  pub counts : n ≤ 131072

-- the first line of what is left of a log and what is left behind it, or the first fault of what is left
abbrev pub GivesNext : {L : Type 0} → (ℕ → List ℕ → Result L ℕ) → ℕ → List ℕ → Result (L × Bor (List ℕ)) LogFault → Type 0
GivesNext says n rest (Ok next) = IsNext says n rest next.0 next.1.now
GivesNext says n rest (Err (in_log.At line kind)) = lines_from says n (parts 10 rest) ≡ Err (record { line = line; kind = kind })
GivesNext says n rest (Err in_log.NoMemory) = Unit {0}
