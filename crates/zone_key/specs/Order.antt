-- The order of keys.
use Rattle.std.specs.Prelude.{ℕ, List}
use Rattle.std.specs.Ordering.{nat_cmp}
use Rattle.std.specs.Cmp.Lexicographic.{slice_cmp}
use Rattle.std.specs.declared.cmp.Ordering.{Ordering}

-- byte by byte, and a proper prefix is less
abbrev pub key_order : List ℕ → List ℕ → Ordering
key_order = slice_cmp nat_cmp
