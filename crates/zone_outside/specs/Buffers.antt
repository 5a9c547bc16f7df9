-- A sink that gathers what it takes before it hands it on.
use Rattle.std.specs.Prelude.{ℕ, List, Option}
use Rattle.std.specs.Io.KnownBytes.{append_known}

-- what the sink behind it took, where that tells it, what is kept for it, how many bytes have room before it must be handed on, and the faults of the sink behind
pub record Buffer : Type 0 where
  pub handed : Option (List ℕ)
  pub kept : List ℕ
  pub room : ℕ
  pub faults : ℕ

-- all that was taken: what was handed on, and then what is kept
abbrev pub taken_by : Buffer → Option (List ℕ)
taken_by buffer = append_known buffer.handed buffer.kept
