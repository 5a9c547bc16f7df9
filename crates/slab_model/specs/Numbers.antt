-- Lists of numbers: a test of membership, ascending lists, and a list with one number more or less.
use Rattle.std.specs.Prelude.{ℕ, suc, ◌≤◌, Bool, false, not, ◌||◌, nat_eq, nat_lt, List, [], ◌∷◌, filter, if◌then◌else◌}

-- the test for `In n ns`
abbrev pub is_member : ℕ → List ℕ → Bool
is_member n [] = false
is_member n (m ∷ ms) = nat_eq n m || is_member n ms

-- the numbers are at least `low`, and each is greater than the one before it
abbrev pub AscendsFrom : ℕ → List ℕ → Type 0
AscendsFrom low [] = Unit {0}
AscendsFrom low (n ∷ ns) = (low ≤ n) × AscendsFrom (suc n) ns

-- the ascending list with this number in its place
abbrev pub with_number : ℕ → List ℕ → List ℕ
with_number n [] = n ∷ []
with_number n (m ∷ ms) = if nat_lt n m then n ∷ m ∷ ms else m ∷ with_number n ms

-- the list without this number
abbrev pub without : ℕ → List ℕ → List ℕ
without n ns = filter (λ m. not (nat_eq n m)) ns
