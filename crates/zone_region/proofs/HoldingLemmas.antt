-- Blocks that a structure holds: fewer of them, and after a change that keeps their lengths.
use Rattle.std.proofs.Common.{ℕ, ◌≡◌, ◌+◌, ◌*◌, ◌^◌, ◌<◌, ◌≤◌, List, [], ◌∷◌, length, inl, inr, sym, subst, ◌∙◌, arith}
use Rattle.zone_region.specs.Words.{Words}
use Rattle.zone_region.specs.Members.{In, IsDistinct}
use Rattle.zone_region.specs.Holding.{HoldsBlocks}

-- members of a list of held blocks are held
pub holds_some : (m : Words) (xs ys : List ℕ) → IsDistinct ys → ((x : ℕ) → In x ys → In x xs) → HoldsBlocks m xs → HoldsBlocks m ys
holds_some m xs ys distinct into h = record {
  live = λ x i. h.live x (into x i);
  distinct = distinct;
  apart = λ x y i j ne. h.apart x y (into x i) (into y j) ne;
  above = λ x i. h.above x (into x i);
  below = λ x i. h.below x (into x i);
}

-- blocks that keep their lengths are held
pub holds_kept : (m n : Words) (xs : List ℕ) → ((x : ℕ) → In x xs → length (n x) ≡ length (m x)) → HoldsBlocks m xs → HoldsBlocks n xs
holds_kept m n xs same h = record {
  live = λ x i. omega (arith, same x i, h.live x i);
  distinct = h.distinct;
  apart = λ x y i j ne. elim (h.apart x y i j ne) [ inl a ↦ inl (omega (arith, a, same x i)) | inr b ↦ inr (omega (arith, b, same y j)) ];
  above = h.above;
  below = λ x i. omega (arith, same x i, h.below x i);
}

-- one live block is held
pub holds_one : (m : Words) (x : ℕ) → 0 < length (m x) → 0 < x → x + 8 * length (m x) ≤ 2 ^ 63 → HoldsBlocks m (x ∷ [])
holds_one m x live above below = record {
  live = λ y i. elim i [ inl e ↦ subst (λ (z : ℕ). 0 < length (m z)) (sym e) live | inr none ↦ absurd none ];
  distinct = (λ none. none, tt);
  apart = λ y z i j ne. elim i [ inl e ↦ elim j [ inl f ↦ absurd (ne (e ∙ sym f)) | inr none ↦ absurd none ] | inr none ↦ absurd none ];
  above = λ y i. elim i [ inl e ↦ omega (arith, e, above) | inr none ↦ absurd none ];
  below = λ y i. elim i [ inl e ↦ subst (λ (z : ℕ). z + 8 * length (m z) ≤ 2 ^ 63) (sym e) below | inr none ↦ absurd none ];
}
