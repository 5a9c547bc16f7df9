-- How often a block stands in a list.
use Rattle.std.proofs.Common.{ℕ, ◌≡◌, ◌+◌, ◌≤◌, List, [], ◌∷◌, ◌++◌, subst, refl, arith, inl, inr}
use Rattle.std.proofs.lemmas.Bool.{cases_eq}
use Rattle.zone_region.specs.Members.{In, IsDistinct}
use Rattle.offset_tree.specs.Inside.Shape.{Shape, leaf, node, one, hits, blocks_of}
use Rattle.offset_tree.proofs.ShapeLemmas.{one-same, one-other}

-- how often a block stands in a list
abbrev pub times : ℕ → List ℕ → ℕ
times z [] = 0
times z (x ∷ xs) = one z x + times z xs

pub times-append : (z : ℕ) (xs ys : List ℕ) → times z (xs ++ ys) ≡ times z xs + times z ys
times-append z [] ys = omega arith
times-append z (x ∷ xs) ys = omega (arith, times-append z xs ys)

pub times-none : (z : ℕ) (xs : List ℕ) → (In z xs → ⊥) → times z xs ≡ 0
times-none z [] n = refl
times-none z (x ∷ xs) n = omega (arith, one-other z x (λ e. n (inl e)), times-none z xs (λ i. n (inr i)))

pub times-distinct : (z : ℕ) (xs : List ℕ) → IsDistinct xs → times z xs ≤ 1
times-distinct z [] d = omega arith
times-distinct z (x ∷ xs) d = elim (cases_eq z x) [
  | inl e ↦ omega (arith, one-same z x e, times-none z xs (λ i. d.0 (subst (λ (q : ℕ). In q xs) e i)))
  | inr ne ↦ omega (arith, one-other z x ne, times-distinct z xs d.1)
]

pub hits-times : (z : ℕ) (t : Shape) → hits z t ≡ times z (blocks_of t)
hits-times z leaf = refl
hits-times z (node c a x b) = omega (arith, hits-times z a, hits-times z b, times-append z (blocks_of a) (x ∷ blocks_of b))
