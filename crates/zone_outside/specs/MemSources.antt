-- Texts and sources in memory.
use Rattle.std.specs.Prelude.{ℕ, zero, suc, List, [], ◌++◌}

-- so many copies of a text, one after another
unfoldable pub repeated : ℕ → List ℕ → List ℕ
repeated zero xs = []
repeated (suc n) xs = xs ++ repeated n xs

-- a text in memory: its bytes, how many of them a read gives at most, and the numbers of the reads that fail
pub record SourceText : Type 0 where
  pub bytes : List ℕ
  pub most : ℕ
  pub failing : List ℕ

-- a source in memory: its name, the bytes still to come, how many of them a read gives at most, the numbers of the reads that fail, and its counts of reads and faults
pub record SourceState : Type 0 where
  pub name : List ℕ
  pub left : List ℕ
  pub most : ℕ
  pub failing : List ℕ
  pub reads : ℕ
  pub faults : ℕ

-- a text under a name, of which nothing has been read
abbrev pub source_of : List ℕ → SourceText → SourceState
source_of name text = record { name = name; left = text.bytes; most = text.most; failing = text.failing; reads = 0; faults = 0 }
