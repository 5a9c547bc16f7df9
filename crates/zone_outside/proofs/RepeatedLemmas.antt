-- Lemmas on copies of a text.
use Rattle.std.proofs.Common.{◌≡◌, ℕ, zero, suc, ◌-◌, ◌<◌, List, [], ◌++◌, refl, ap, ◌∙◌, arith}
use Rattle.zone_outside.specs.MemSources.{repeated}

-- no copy
pub repeated-none : (n : ℕ) (xs : List ℕ) → n ≡ 0 → repeated n xs ≡ []
unfolding repeated
repeated-none zero xs e = refl
repeated-none (suc n) xs e = absurd (omega (arith, e))

-- one copy, and then the others
pub repeated-first : (n : ℕ) (xs : List ℕ) → 0 < n → xs ++ repeated (n - 1) xs ≡ repeated n xs
unfolding repeated
repeated-first zero xs h = absurd (omega (arith, h))
repeated-first (suc n) xs h = let e : suc n - 1 ≡ n = omega arith in ap (λ m. xs ++ repeated m xs) e

-- copies of nothing
pub repeated-nil : (n : ℕ) (xs : List ℕ) → xs ≡ [] → repeated n xs ≡ []
unfolding repeated
repeated-nil zero xs e = refl
repeated-nil (suc n) xs e = ap (λ l. l ++ repeated n xs) e ∙ repeated-nil n xs e
