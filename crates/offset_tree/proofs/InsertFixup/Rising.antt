-- A red block that may stand at the root or under a red block.
use Rattle.std.proofs.Common.{ℕ, ◌≡◌, ◌≢◌, ◌+◌, ◌≤◌, suc, true, false, List, sym, ap, subst, ◌∙◌, refl, arith, inl, inr, length}
use Rattle.zone_region.specs.Words.{Words, word_at}
use Rattle.offset_tree.specs.declared.side.Side.{Side}
use Rattle.offset_tree.specs.Inside.Shape.{Shape, branch, Path, top, step, plug, blocks_of}
use Rattle.offset_tree.specs.Inside.Links.{IsShape, red_at, side_at}
use Rattle.offset_tree.specs.Inside.Moves.{Spot, shape_at, recoloured}
use Rattle.offset_tree.specs.Inside.Balance.{IsBalanced, IsPathBalanced, Settled}
use Rattle.offset_tree.specs.Inside.InsertFixup.{Rising}
use Rattle.offset_tree.proofs.ShapeLemmas.{blocks_of-branch}
use Rattle.offset_tree.proofs.Paints.{around_of, red_at-number}
use Rattle.offset_tree.proofs.TurnLemmas.{around_parent}
use Rattle.offset_tree.proofs.BalanceLemmas.{red_of-branch, balanced_black, red_balanced, plug_balanced}
use Rattle.offset_tree.proofs.InsertFixup.Conflict.{conflict_room, rising_in_conflict}
use Rattle.offset_tree.proofs.NodeLemmas.{hits_here}

-- at the root
pub rising_top : (m n : Words) (context x : ℕ) (xs : List ℕ) (k : Path) (s : Side) (near far : Shape) (h : ℕ) →
    IsShape m context (plug k (branch s true near x far)) → word_at m x 3 ≡ 0 → IsBalanced (branch s true near x far) h → blocks_of (plug k (branch s true near x far)) ≡ xs →
    IsShape n context (plug k (branch s false near x far)) → Settled n context xs
rising_top m n context x xs top s near far h shape root balanced blocks new =
    let b = red_balanced s near x far h balanced in
    record {
      tree = branch s false near x far;
      height = suc h;
      shape = new;
      black = red_of-branch s false near x far;
      balanced = balanced_black s near x far h b.2 b.3;
      blocks = blocks_of-branch s false true near near x far refl ∙ blocks;
    }
rising_top m n context x xs (step s' c p beside up) s near far h shape root balanced blocks new =
    let u = around_of m context (step s' c p beside up) s true near x far shape in
    let e : p ≡ 0 = sym u.1.around.0 ∙ (sym u.1.is.parent ∙ root) in
    absurd ((shape.apart p (hits_here up s' c (branch s true near x far) p beside)).2 e)

-- under a black block
pub rising_black : (m : Words) (context x p : ℕ) (xs : List ℕ) (k : Path) (s : Side) (near far : Shape) (h : ℕ) →
    IsShape m context (plug k (branch s true near x far)) → p ≡ word_at m x 3 → p ≢ 0 → red_at m (context + 24) p ≡ false → IsBalanced (branch s true near x far) h → IsPathBalanced k h →
    blocks_of (plug k (branch s true near x far)) ≡ xs → Settled m context xs
rising_black m context x p xs top s near far h shape at live black balanced around blocks =
    let u = around_of m context top s true near x far shape in absurd (live (at ∙ (u.1.is.parent ∙ u.1.around.1)))
rising_black m context x p xs (step s' true q beside up) s near far h shape at live black balanced around blocks =
    let u = around_of m context (step s' true q beside up) s true near x far shape in
    let e : p ≡ q = at ∙ (u.1.is.parent ∙ u.1.around.0) in
    let q_live : q ≢ context + 24 = (shape.apart q (hits_here up s' true (branch s true near x far) q beside)).1 in
    let red : red_at m (context + 24) q ≡ true = red_at-number m (context + 24) q true q_live u.1.around.2 in
    let bad : true ≡ false = sym red ∙ (ap (λ (z : ℕ). red_at m (context + 24) z) (sym e) ∙ black) in
    absurd (differ bad) where
      differ : true ≡ false → ⊥
      differ e = cc
rising_black m context x p xs (step s' false q beside up) s near far h shape at live black balanced around blocks =
    let w = plug_balanced (step s' false q beside up) (branch s true near x far) h around balanced (λ e. absurd (differ e)) in
    record { tree = plug (step s' false q beside up) (branch s true near x far); height = w.0; shape = shape; black = w.2; balanced = w.1; blocks = blocks } where
      differ : false ≡ true → ⊥
      differ e = cc

-- rooms that the code reads
pub rising_room : (m : Words) (context x : ℕ) (xs : List ℕ) (depth : ℕ) → Rising m context x xs depth → 5 ≤ length (m x)
rising_room m context x xs depth r = r.shape.room x (hits_here r.path r.side true r.near x r.far)

pub parent_room : (m : Words) (context x p : ℕ) (xs : List ℕ) (depth : ℕ) → Rising m context x xs depth → p ≡ word_at m x 3 → p ≢ 0 → 5 ≤ length (m p)
parent_room m context x p xs depth r at live =
    let u = around_of m context r.path r.side true r.near x r.far r.shape in
    let e : p ≡ u.0 = at ∙ u.1.is.parent in
    elim (around_parent m (context + 24) (word_at m context 0) r.path x u.0 u.1.around) [
      | inl z ↦ absurd (live (e ∙ z))
      | inr i ↦ subst (λ (q : ℕ). 5 ≤ length (m q)) (sym e) (u.1.live u.0 (omega (arith, i))).3
    ]

-- the root that is painted
pub rising_spot : (m : Words) (context x : ℕ) (xs : List ℕ) (depth : ℕ) → Rising m context x xs depth →
    (u : Spot) × IsShape m context (shape_at u x) × (blocks_of (shape_at u x) ≡ xs) × (word_at m x 3 ≡ 0 → (n : Words) → IsShape n context (recoloured u x false) → Settled n context xs)
rising_spot m context x xs depth r = (
  record { path = r.path; side = r.side; red = true; near = r.near; far = r.far },
  r.shape,
  r.blocks,
  λ root n new. rising_top m n context x xs r.path r.side r.near r.far r.height r.shape root r.balanced r.blocks new,
)

pub rising_settled : (m : Words) (context x p : ℕ) (xs : List ℕ) (depth : ℕ) → Rising m context x xs depth → p ≡ word_at m x 3 → p ≢ 0 → red_at m (context + 24) p ≡ false → Settled m context xs
rising_settled m context x p xs depth r at live black = rising_black m context x p xs r.path r.side r.near r.far r.height r.shape at live black r.balanced r.around r.blocks

-- the grandparent is there before its side is read
pub grand_room : (m : Words) (context x p g : ℕ) (xs : List ℕ) (depth : ℕ) → Rising m context x xs depth → p ≡ word_at m x 3 → p ≢ 0 → red_at m (context + 24) p ≡ true → g ≡ word_at m p 3 → 5 ≤ length (m g)
grand_room m context x p g xs depth r at live red above = (conflict_room m context x p g (side_at m g p) xs depth (rising_in_conflict m context x p g (side_at m g p) xs depth r at live red above refl)).0
