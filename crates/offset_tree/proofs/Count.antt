-- A tree of different blocks below a bound has no way down longer than the bound.
use Rattle.std.proofs.Common.{ℕ, ◌≡◌, ◌+◌, ◌^◌, ◌<◌, ◌≤◌, zero, suc, List, subst, refl, arith, inl, inr}
use Rattle.std.proofs.lemmas.Bool.{cases_eq}
use Rattle.zone_region.specs.Words.{Words}
use Rattle.offset_tree.specs.Inside.Shape.{Shape, branch, Path, top, step, plug, one, hits, hits_path}
use Rattle.offset_tree.specs.Inside.Links.{IsShape}
use Rattle.offset_tree.specs.Inside.Balance.{depth_of}
use Rattle.offset_tree.specs.Inside.InsertFixup.{Rising}
use Rattle.offset_tree.proofs.ShapeLemmas.{one-same, one-other, hits-plug}

-- the sum of `f` below `n`
abbrev pub total : (ℕ → ℕ) → ℕ → ℕ
total f zero = 0
total f (suc n) = f n + total f n

total-add : (f g : ℕ → ℕ) (n : ℕ) → total (λ z. f z + g z) n ≡ total f n + total g n
total-add f g zero = refl
total-add f g (suc n) = omega (arith, total-add f g n)

total-one_past : (x n : ℕ) → n ≤ x → total (λ z. one z x) n ≡ 0
total-one_past x zero h = refl
total-one_past x (suc n) h = omega (arith, one-other n x (λ e. omega (arith, e, h)), total-one_past x n (omega (arith, h)))

total-one : (x n : ℕ) → x < n → total (λ z. one z x) n ≡ 1
total-one x zero h = absurd (omega (arith, h))
total-one x (suc n) h = elim (cases_eq n x) [
  | inl e ↦ omega (arith, one-same n x e, total-one_past x n (omega (arith, e)))
  | inr ne ↦ omega (arith, one-other n x ne, total-one x n (omega (arith, h, ne)))
]

total-le : (f : ℕ → ℕ) (n : ℕ) → ((z : ℕ) → f z ≤ 1) → total f n ≤ n
total-le f zero h = omega arith
total-le f (suc n) h = omega (arith, h n, total-le f n h)

depth-total : (k : Path) (n : ℕ) → ((z : ℕ) → 0 < hits_path z k → z < n) → depth_of k ≤ total (λ z. hits_path z k) n
depth-total top n h = omega arith
depth-total (step s c x far up) n h =
    omega (
      arith,
      depth-total up n (λ z i. h z (omega (arith, i))),
      total-one x n (h x (omega (arith, one-same x x refl))),
      total-add (λ z. one z x + hits z far) (λ z. hits_path z up) n,
      total-add (λ z. one z x) (λ z. hits z far) n,
    )

pub depth_bound : (m : Words) (context : ℕ) (k : Path) (t : Shape) → IsShape m context (plug k t) → depth_of k ≤ 2 ^ 63
depth_bound m context k t h = below (2 ^ 63) h.below where
  below : (n : ℕ) → ((z : ℕ) → 0 < hits z (plug k t) → z < n) → depth_of k ≤ n
  below n b = omega (arith, depth-total k n (λ z i. b z (omega (arith, i, hits-plug z k t))), total-le (λ z. hits_path z k) n (λ z. omega (arith, h.tidy z, hits-plug z k t)))

pub rising_bound : (m : Words) (context x : ℕ) (xs : List ℕ) (depth : ℕ) → Rising m context x xs depth → depth ≤ 2 ^ 63
rising_bound m context x xs depth r = subst (λ (d : ℕ). d ≤ 2 ^ 63) r.deep (depth_bound m context r.path (branch r.side _ r.near x r.far) r.shape)
