-- The ranges of a line.
use Rattle.std.specs.Prelude.{ℕ, ◌≡◌, ◌<◌, ◌≤◌, ◌^◌, Option, Some, None, length}
use Rattle.replay_log.specs.declared.keys.KeyLine.{KeyLine}
use Rattle.replay_log.specs.declared.line.Event.{Event}
use Rattle.replay_log.specs.declared.line.Event.TheVariants.{Start, Fail, Done}
use Rattle.replay_log.specs.declared.line.Line.{Line}

-- the server, or one of so many locations
abbrev pub IsLevelOf : ℕ → Option ℕ → Type 0
IsLevelOf count None = Unit {0}
IsLevelOf count (Some level) = level < count

-- an event at one of so many locations, from an address of four octets
abbrev pub IsEventOf : ℕ → Event → Type 0
IsEventOf count (Start level vars) = IsLevelOf count level × (length vars.address ≡ 4)
IsEventOf count Fail = Unit {0}
IsEventOf count Done = Unit {0}

-- a line of a log in a configuration with so many locations
pub record IsLineOf (count : ℕ) (line : Line) : Type 0 where
  pub first : 1 ≤ line.number
  pub last : line.number ≤ 131072
  pub moment : line.moment < 2 ^ 42
  pub conn : line.conn < 2 ^ 32
  pub event : IsEventOf count line.event

-- a line of a log of keys: a moment below 2^42 and a key with a byte
abbrev pub IsKeyLine : KeyLine → Type 0
IsKeyLine line = (line.moment < 2 ^ 42) × (0 < length line.key)
