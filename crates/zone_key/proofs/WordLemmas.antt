-- Bounds on the number of a few bytes.
use Rattle.std.proofs.Common.{ℕ, ◌≡◌, suc, ◌+◌, ◌-◌, ◌*◌, ◌^◌, ◌<◌, ◌≤◌, ◌∙◌, ap, sym, List, length, get_or, subst, drop, arith, lit<}
use Rattle.std.proofs.lemmas.List.{drop_more}
use Rattle.std.proofs.Math.Nat.{pow-suc, pow-le-pow_right}
use Rattle.zone_key.specs.Word.{little_endian}

-- one byte more in front
pub number_step : (s : List ℕ) (k : ℕ) → k < length s → little_endian (drop (k + 1) s) * 256 + get_or s k 0 ≡ little_endian (drop k s)
number_step s k h = sym (ap (λ (xs : List ℕ). little_endian xs) (drop_more s k 0 h) ∙ omega arith)

-- a number of `m` bytes and one byte more
pub bound_step : (n m b : ℕ) → n < 256 ^ m → b < 256 → n * 256 + b < 256 ^ suc m
bound_step n m b h low = let e : 256 ^ suc m ≡ 256 ^ m * 256 = pow-suc 256 m in omega arith

-- seven bytes leave room for one more
pub room : (n m : ℕ) → n < 256 ^ m → m < 8 → n < 256 ^ 7
room n m h low = let up : 256 ^ m ≤ 256 ^ 7 = let seven : m ≤ 7 = omega arith in pow-le-pow_right (lit< tt) seven in omega arith

-- the loop's step down to `k - 1`
pub number_down : (s : List ℕ) (k n b : ℕ) → 0 < k → k ≤ length s → n ≡ little_endian (drop k s) → b ≡ get_or s (k - 1) 0 → n * 256 + b ≡ little_endian (drop (k - 1) s)
number_down s k n b some within is byte =
    let same : k - 1 + 1 ≡ k = omega arith in
    let h = number_step s (k - 1) (omega arith) in
    ap (λ (x : ℕ). x * 256 + b) (is ∙ ap (λ (i : ℕ). little_endian (drop i s)) (sym same)) ∙ ap (λ (x : ℕ). little_endian (drop (k - 1 + 1) s) * 256 + x) byte ∙ h

pub bound_down : (l k n b : ℕ) → 0 < k → k ≤ l → n < 256 ^ (l - k) → b < 256 → n * 256 + b < 256 ^ (l - (k - 1))
bound_down l k n b some within h low =
    let e : suc (l - k) ≡ l - (k - 1) = omega arith in subst (λ (m : ℕ). n * 256 + b < 256 ^ m) e (bound_step n (l - k) b h low)
