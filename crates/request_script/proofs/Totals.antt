-- Sums over lists, from the head on.
use Rattle.std.proofs.Common.{◌≡◌, ℕ, ◌+◌, List, [], ◌∷◌, ◌++◌, map, reverse, sum_by, Option, Some, None, filter_map, arith}
use Rattle.std.specs.List.{cons_option}
use Rattle.std.proofs.lemmas.List.Sums.{sum_by-cons}
use Rattle.std.proofs.lemmas.List.Sorted.{IsPermutation-reverse, sum_by-IsPermutation}

-- what a value weighs, if there is one
abbrev pub weigh : {Y : Type 0} → (Y → ℕ) → Option Y → ℕ
weigh f None = 0
weigh f (Some y) = f y

module _ {X : Type 0} where
  abbrev pub total : (X → ℕ) → List X → ℕ
  total f [] = 0
  total f (x ∷ xs) = f x + total f xs

  pub total-sum_by : (f : X → ℕ) (xs : List X) → sum_by f xs ≡ total f xs
  total-sum_by f [] = omega arith
  total-sum_by f (x ∷ xs) = omega (arith, sum_by-cons f x xs, total-sum_by f xs)

  pub total-append : (f : X → ℕ) (xs ys : List X) → total f (xs ++ ys) ≡ total f xs + total f ys
  total-append f [] ys = omega arith
  total-append f (x ∷ xs) ys = omega (arith, total-append f xs ys)

  pub total-reverse : (f : X → ℕ) (xs : List X) → total f (reverse xs) ≡ total f xs
  total-reverse f xs = omega (arith, total-sum_by f xs, total-sum_by f (reverse xs), sum_by-IsPermutation f xs (reverse xs) (IsPermutation-reverse xs))

  -- what is picked of the elements weighs what it weighs at each
  pub total-picked : {Y : Type 0} (f : Y → ℕ) (pick : X → Option Y) (xs : List X) → sum_by f (filter_map pick xs) ≡ total (λ x. weigh f (pick x)) xs
  total-picked f pick [] = omega arith
  total-picked {Y} f pick (x ∷ xs) = go (total-picked f pick xs) (pick x) where
    go : sum_by f (filter_map pick xs) ≡ total (λ x. weigh f (pick x)) xs
        → (picked : Option Y) → sum_by f (cons_option picked (filter_map pick xs)) ≡ weigh f picked + total (λ x. weigh f (pick x)) xs
    go later None = omega (arith, later)
    go later (Some y) = omega (arith, later, sum_by-cons f y (filter_map pick xs))

pub total-map : {X Y : Type 0} (f : Y → ℕ) (g : X → Y) (xs : List X) → total f (map g xs) ≡ total (λ x. f (g x)) xs
total-map f g [] = omega arith
total-map f g (x ∷ xs) = omega (arith, total-map f g xs)
