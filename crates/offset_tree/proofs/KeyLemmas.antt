-- The order of ranks and of keys.
use Rattle.std.proofs.Common.{ℕ, ◌≡◌, ◌≤◌, zero, suc, Bool, true, false, not, ◌==◌, List, [], ◌∷◌, length, drop, sym, ap, ◌∙◌, refl, arith}
use Rattle.std.proofs.lemmas.List.{drop_all}
use Rattle.std.proofs.lemmas.Grind.{common_steps}
use Rattle.std.specs.Ordering.{nat_cmp, ordering_then, ordering_index}
use Rattle.std.specs.Cmp.Lexicographic.{slice_cmp}
use Rattle.std.specs.declared.cmp.Ordering.{Ordering}
use Rattle.std.specs.declared.cmp.Ordering.TheVariants.{Less, Equal, Greater}
use Rattle.zone_region.specs.Words.{Words}
use Rattle.offset_tree.specs.Keys.{bytes_of, rank_cmp}

-- the test `r != Equal`
pub equal_told : (r : Ordering) (b : Bool) → b ≡ not (ordering_index r == 1) → b ≡ false → r ≡ Equal
equal_told Less b is f = absurd (differ (sym is ∙ f)) where
  differ : true ≡ false → ⊥
  differ e = cc
equal_told Equal b is f = refl
equal_told Greater b is f = absurd (differ (sym is ∙ f)) where
  differ : true ≡ false → ⊥
  differ e = cc

pub unequal_then : (r s : Ordering) (b : Bool) → b ≡ not (ordering_index r == 1) → b ≡ true → ordering_then r s ≡ r
unequal_then Less s b is t = refl
unequal_then Equal s b is t = absurd (differ (sym is ∙ t)) where
  differ : false ≡ true → ⊥
  differ e = cc
unequal_then Greater s b is t = refl

-- the key is used up, or is longer
pub cmp_short : (ks : List ℕ) (i : ℕ) (m : Words) (x j r : ℕ) → length ks ≤ i → slice_cmp nat_cmp (drop i ks) (bytes_of m x j (suc r)) ≡ Less
cmp_short ks i m x j r h = ap (λ l. slice_cmp nat_cmp l (bytes_of m x j (suc r))) (drop_all i ks h)

pub cmp_end : (ks : List ℕ) (i : ℕ) → i ≤ length ks → slice_cmp nat_cmp (drop i ks) [] ≡ nat_cmp (length ks) i
cmp_end [] zero h = refl
cmp_end [] (suc i) h = absurd (omega arith)
cmp_end (k ∷ ks) zero h = longer (length ks) where
  longer : (a : ℕ) → Greater ≡ nat_cmp (suc a) 0
  longer a = grind (arith, common_steps)
cmp_end (k ∷ ks) (suc i) h = cmp_end ks i (omega (arith, h)) ∙ cmp_suc (length ks) i where
  cmp_suc : (a b : ℕ) → nat_cmp a b ≡ nat_cmp (suc a) (suc b)
  cmp_suc a b = grind (arith, common_steps)

-- equal hashes leave the order to the keys
pub order_by_bytes : (hash there at : ℕ) (ks ls : List ℕ) (r : Ordering) (b : Bool) → r ≡ nat_cmp hash at → at ≡ there → b ≡ not (ordering_index r == 1) → b ≡ false →
    rank_cmp (hash, ks) (there, ls) ≡ slice_cmp nat_cmp ks ls
order_by_bytes hash there at ks ls r b is e t f =
    let same : nat_cmp hash there ≡ Equal = ap (λ (z : ℕ). nat_cmp hash z) (sym e) ∙ (sym is ∙ equal_told r b t f) in
    ap (λ (o : Ordering). ordering_then o (slice_cmp nat_cmp ks ls)) same
