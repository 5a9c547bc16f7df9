-- What a structure asks of the blocks that it keeps.
use Rattle.std.specs.Prelude.{ℕ, ◌≢◌, ◌⊎◌, ◌+◌, ◌*◌, ◌^◌, ◌<◌, ◌≤◌, List, length}
use Rattle.zone_region.specs.Words.{Words}
use Rattle.zone_region.specs.Members.{In, IsDistinct}

-- no byte belongs to both blocks
abbrev pub AreDisjoint : Words → ℕ → ℕ → Type 0
AreDisjoint m x y = (x + 8 * length (m x) ≤ y) ⊎ (y + 8 * length (m y) ≤ x)

-- These blocks are live, none stands twice, no two of them overlap, and each begins above offset 0 and ends at or below 2^63.
pub record HoldsBlocks (m : Words) (xs : List ℕ) : Type 0 where
  pub live : (x : ℕ) → In x xs → 0 < length (m x)
  pub distinct : IsDistinct xs
  pub apart : (x y : ℕ) → In x xs → In y xs → x ≢ y → AreDisjoint m x y
  pub above : (x : ℕ) → In x xs → 0 < x
  pub below : (x : ℕ) → In x xs → x + 8 * length (m x) ≤ 2 ^ 63
