-- Sinks in memory.
use Rattle.std.specs.Prelude.{ℕ, List}

-- a sink in memory: the bytes taken, how many a write takes at most, the numbers of the writes that fail, and its counts of writes and faults
pub record SinkState : Type 0 where
  pub taken : List ℕ
  pub most : ℕ
  pub failing : List ℕ
  pub writes : ℕ
  pub faults : ℕ
