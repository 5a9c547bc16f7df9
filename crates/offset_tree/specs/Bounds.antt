-- How many steps a search may count. A step is a word that is read.
use Rattle.std.specs.Prelude.{ℕ, ◌+◌, ◌*◌, ◌/◌, ◌==◌, if◌then◌else◌, zero, suc}

-- how many binary digits `n` has, if that is at most `most`
abbrev pub bits_up_to : ℕ → ℕ → ℕ
bits_up_to zero n = 0
bits_up_to (suc most) n = if n == 0 then 0 else suc (bits_up_to most (n / 2))

-- how many binary digits `n` has, none for 0
unfoldable pub bits : ℕ → ℕ
bits n = bits_up_to n n

-- A search among `n` blocks for a key of `len` bytes visits at most `2 * bits (n + 1) + 1` blocks, and counts at most `5 + len / 8` steps at each.
unfoldable pub search_cost : ℕ → ℕ → ℕ
search_cost n len = (2 * bits (n + 1) + 1) * (5 + len / 8)
