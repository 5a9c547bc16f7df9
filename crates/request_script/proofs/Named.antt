-- How often elements name a number.
use Rattle.std.proofs.Common.{◌≡◌, ℕ, zero, suc, ◌+◌, ◌<◌, ◌≤◌, ◌≢◌, Bool, true, false, nat_eq, if◌then◌else◌, List, [], ◌∷◌, length, refl, sym, ◌∙◌, All, AllPairs, arith}
use Rattle.std.proofs.lemmas.Bool.{eqb-true, eqb-false}
use Rattle.std.proofs.lemmas.List.Elements.{All-head, All-tail}
use Rattle.request_script.proofs.Totals.{total}

-- once if a number is z
abbrev pub once : ℕ → ℕ → ℕ
once z n = if nat_eq n z then 1 else 0

pub once-other : (z n : ℕ) → n ≢ z → once z n ≡ 0
once-other z n apart = go (nat_eq n z) refl where
  go : (b : Bool) → nat_eq n z ≡ b → ◌≡◌ {A = ℕ} (if b then 1 else 0) 0
  go true is = absurd (apart (eqb-true n z is))
  go false is = refl

pub once-most : (z n : ℕ) → once z n ≤ 1
once-most z n = go (nat_eq n z) where
  go : (b : Bool) → (if b then 1 else 0) ≤ 1
  go true = omega arith
  go false = omega arith

-- what is free at each element is free at all
pub total-none : {X : Type 0} (price : X → ℕ) (P : X → Type 0) → ((x : X) → P x → price x ≡ 0) → (xs : List X) → All P xs → total price xs ≡ 0
total-none price P none [] each = refl
total-none price P none (x ∷ xs) each =
    let first = none x (All-head P x xs each) in let later = total-none price P none xs (All-tail P x xs each) in
    omega (arith, first, later)

pairs-first : {X : Type 0} (R : X → X → Type 0) (x : X) (xs : List X) → AllPairs R (x ∷ xs) → All (R x) xs
pairs-first R x xs pairs k d within = pairs 0 (suc k) d (omega arith) (omega (arith, within))

pairs-rest : {X : Type 0} (R : X → X → Type 0) (x : X) (xs : List X) → AllPairs R (x ∷ xs) → AllPairs R xs
pairs-rest R x xs pairs i j d less within = pairs (suc i) (suc j) d (omega (arith, less)) (omega (arith, within))

module _ {X : Type 0} (number_of : X → ℕ) where
  abbrev pub named : ℕ → List X → ℕ
  named z xs = total (λ x. once z (number_of x)) xs

  -- Of elements that name no number twice, at most one names z.
  pub named-once : (z : ℕ) (xs : List X) → AllPairs (λ a b. number_of a ≢ number_of b) xs → named z xs ≤ 1
  named-once z [] pairs = omega arith
  named-once z (x ∷ xs) pairs =
      go (named-once z xs (pairs-rest (λ a b. number_of a ≢ number_of b) x xs pairs)) (nat_eq (number_of x) z) refl where
        go : named z xs ≤ 1 → (b : Bool) → nat_eq (number_of x) z ≡ b → (if b then 1 else 0) + named z xs ≤ 1
        go later true is =
            let same = eqb-true (number_of x) z is in
            let none = total-none (λ (y : X). once z (number_of y)) (λ (y : X). number_of x ≢ number_of y) (λ y apart. once-other z (number_of y) (λ e. apart (same ∙ sym e))) xs (pairs-first (λ a b. number_of a ≢ number_of b) x xs pairs) in
            omega (arith, none)
        go later false is = omega (arith, later)

-- ---- sums over all numbers below n

abbrev pub below : ℕ → (ℕ → ℕ) → ℕ
below zero f = 0
below (suc n) f = f n + below n f

pub below-none : (n : ℕ) → below n (λ z. 0) ≡ 0
below-none zero = refl
below-none (suc n) = let later = below-none n in omega (arith, later)

pub below-sum : (n : ℕ) (f g : ℕ → ℕ) → below n (λ z. f z + g z) ≡ below n f + below n g
below-sum zero f g = omega arith
below-sum (suc n) f g = let later = below-sum n f g in omega (arith, later)

pub below-most : (n : ℕ) (f : ℕ → ℕ) → ((z : ℕ) → f z ≤ 1) → below n f ≤ n
below-most zero f most = omega arith
below-most (suc n) f most = let one = most n in let later = below-most n f most in omega (arith, one, later)

below-past : (n y : ℕ) → n ≤ y → below n (λ z. once z y) ≡ 0
below-past zero y past = refl
below-past (suc n) y past =
    let first = once-other n y (λ same. omega (arith, same, past)) in let later = below-past n y (omega (arith, past)) in
    omega (arith, first, later)

-- a number below n is named once
pub below-once : (n y : ℕ) → y < n → below n (λ z. once z y) ≡ 1
below-once zero y within = absurd (omega (arith, within))
below-once (suc n) y within = go (below-once n y) (nat_eq y n) refl where
  go : (y < n → below n (λ z. once z y) ≡ 1) → (b : Bool) → nat_eq y n ≡ b → (if b then 1 else 0) + below n (λ z. once z y) ≡ 1
  go later true is = let same = eqb-true y n is in let none = below-past n y (omega (arith, same)) in omega (arith, none)
  go later false is = let one = later (less (λ same. eqb-false y n is same)) in omega (arith, one) where
    less : y ≢ n → y < n
    less apart = omega (arith, within, apart)

-- so elements that name numbers below n are as many as the numbers that they name
pub below-named : {X : Type 0} (number_of : X → ℕ) (n : ℕ) (xs : List X) → All (λ (x : X). number_of x < n) xs → below n (λ z. named number_of z xs) ≡ length xs
below-named number_of n [] within = below-none n
below-named {X} number_of n (x ∷ xs) within =
    let first = below-once n (number_of x) (All-head (λ (x : X). number_of x < n) x xs within) in
    let later = below-named number_of n xs (All-tail (λ (x : X). number_of x < n) x xs within) in
    let both = below-sum n (λ z. once z (number_of x)) (λ z. named number_of z xs) in
    omega (arith, first, later, both)
