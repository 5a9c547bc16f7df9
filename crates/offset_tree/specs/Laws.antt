-- What holds of the bounds on searches.
use Rattle.std.specs.Prelude.{ℕ, ◌≡◌, ◌≢◌, ◌*◌, ◌^◌, ◌<◌, ◌≤◌}
use Rattle.offset_tree.specs.Bounds.{bits, search_cost}

-- two to the number of a number's binary digits is above the number, and at most twice the number
abbrev pub DigitsLaw : Type 0
DigitsLaw = (m : ℕ) → m ≢ 0 → (m < 2 ^ bits m) × (2 ^ bits m ≤ 2 * m)

-- the bound on a search among more blocks is no lower
abbrev pub MoreBlocksLaw : Type 0
MoreBlocksLaw = (n most len : ℕ) → n ≤ most → search_cost n len ≤ search_cost most len

-- a search among a thousand blocks for a key of four bytes counts at most 105 steps
abbrev pub ThousandRow : Type 0
ThousandRow = search_cost 1000 4 ≡ 105
