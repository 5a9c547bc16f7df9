-- Counts, and how they are printed.
use Rattle.std.specs.Prelude.{ℕ, List, ◌++◌, decimal}
pub use Rattle.slab_model.specs.Counting.{one_more}

-- a count behind its word
abbrev pub with_count : List ℕ → ℕ → List ℕ
with_count word count = word ++ decimal count
