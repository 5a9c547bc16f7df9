-- What a grant and a return of a block change.
use Rattle.std.specs.Prelude.{ℕ, ◌≡◌, ◌≢◌, List, [], length}
use Rattle.zone_region.specs.Words.{Words}

-- a block of so many words is live at `at` where none was, and every other block has its words
pub record GrantsWords (old new : Words) (at count : ℕ) : Type 0 where
  pub fresh : old at ≡ []
  pub long : length (new at) ≡ count
  pub others : (other : ℕ) → other ≢ at → new other ≡ old other

-- no block is live at `at` any more, and every other block has its words
pub record ReturnsWords (old new : Words) (at : ℕ) : Type 0 where
  pub gone : new at ≡ []
  pub others : (other : ℕ) → other ≢ at → new other ≡ old other

-- the same blocks are live, with the same words
abbrev pub SameBlockWords : Words → Words → Type 0
SameBlockWords old new = (at : ℕ) → new at ≡ old at
