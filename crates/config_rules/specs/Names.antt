-- Names that are looked up in an ordered set of their bytes.
use Rattle.std.specs.Prelude.{◌≡◌, ℕ, Bool, List, Vec}
use Rattle.std.specs.Ordering.{nat_cmp}
use Rattle.std.specs.List.{list_any}
use Rattle.std.specs.Cmp.Lexicographic.{slice_cmp}
use Rattle.std.specs.BTreeSet.{BTreeSet, contains_by}
use Rattle.zone_key.specs.Expr.{is_same}

-- whether a set has these bytes
abbrev pub has_bytes : {A : Type 0} → List ℕ → BTreeSet (Vec ℕ A) → Bool
has_bytes bytes known = contains_by (λ k. slice_cmp nat_cmp bytes k.items) known

-- a set has just the names of a list
abbrev pub HasJust : {A : Type 0} → BTreeSet (Vec ℕ A) → List (List ℕ) → Type 0
HasJust known names = (bytes : List ℕ) → has_bytes bytes known ≡ list_any (is_same bytes) names
