-- The bits of one word.
use Rattle.std.specs.Prelude.{ℕ, ◌≡◌, ◌<◌, ◌≤◌}
use Rattle.std.specs.Int.{bit_at}

-- bit `r` is the lowest from `from` on that isn't set; it is 64 where all are set
pub record IsLowestClear (v from r : ℕ) : Type 0 where
  pub low : from ≤ r
  pub high : r ≤ 64
  pub ones : (k : ℕ) → from ≤ k → k < r → bit_at v k ≡ 1
  pub zero : r < 64 → bit_at v r ≡ 0
