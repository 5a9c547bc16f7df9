-- A red block under a red block.
use Rattle.std.proofs.Common.{ℕ, ◌≡◌, ◌≢◌, ◌+◌, ◌<◌, ◌≤◌, suc, true, false, List, sym, ap, subst, ◌∙◌, refl, arith, inl, inr, length}
use Rattle.zone_region.specs.Words.{Words, word_at}
use Rattle.offset_tree.specs.declared.side.Side.{Side}
use Rattle.offset_tree.specs.Inside.Sides.{child_word, other_of}
use Rattle.offset_tree.specs.Inside.Shape.{Shape, branch, Path, top, step, plug, blocks_of, hits}
use Rattle.offset_tree.specs.Inside.Links.{Lies, IsShape, red_at, side_at}
use Rattle.offset_tree.specs.Inside.Balance.{IsBalanced, IsPathBalanced, depth_of}
use Rattle.offset_tree.specs.Inside.InsertFixup.{Rising, Conflict}
use Rattle.offset_tree.proofs.SideLemmas.{read_at}
use Rattle.offset_tree.proofs.ShapeLemmas.{one-same, hits-branch}
use Rattle.offset_tree.proofs.Writes.{hits_root}
use Rattle.offset_tree.proofs.Paints.{around_of, red_at-number}
use Rattle.offset_tree.proofs.NodeLemmas.{hits_here, read_child, same_or_other}

-- under a red block
conflict_here : (m : Words) (context x : ℕ) (xs : List ℕ) (depth : ℕ) (up : Path) (s2 : Side) (g : ℕ) (uncle : Shape) (s1 : Side) (p : ℕ) (beside : Shape) (s : Side) (near far : Shape) (h : ℕ) →
    IsShape m context (plug up (branch s2 false (branch s1 true (branch s true near x far) p beside) g uncle)) → IsBalanced (branch s true near x far) h →
    IsPathBalanced (step s1 true p beside (step s2 false g uncle up)) h →
    blocks_of (plug up (branch s2 false (branch s1 true (branch s true near x far) p beside) g uncle)) ≡ xs → suc (suc (depth_of up)) ≡ depth →
    Conflict m context x p g s2 xs depth
conflict_here m context x xs depth up s2 g uncle s1 p beside s near far h shape balanced around blocks deep = record {
  path = up;
  x_side = s1;
  low_side = s;
  near = near;
  far = far;
  beside = beside;
  uncle = uncle;
  height = h;
  shape = shape;
  balanced = balanced;
  beside_black = around.0;
  beside_balanced = around.1;
  uncle_balanced = around.3.0;
  around = around.3.1;
  blocks = blocks;
  deep = deep;
}

pub rising_conflict : (m : Words) (context x p g : ℕ) (side : Side) (xs : List ℕ) (depth : ℕ) (k : Path) (s : Side) (near far : Shape) (h : ℕ) →
    IsShape m context (plug k (branch s true near x far)) → p ≡ word_at m x 3 → p ≢ 0 → red_at m (context + 24) p ≡ true → g ≡ word_at m p 3 → side ≡ side_at m g p →
    IsBalanced (branch s true near x far) h → IsPathBalanced k h → blocks_of (plug k (branch s true near x far)) ≡ xs → depth_of k ≡ depth →
    Conflict m context x p g side xs depth
rising_conflict m context x p g side xs depth top s near far h shape at live red above side_is balanced around blocks deep =
    let u = around_of m context top s true near x far shape in absurd (live (at ∙ (u.1.is.parent ∙ u.1.around.1)))
rising_conflict m context x p g side xs depth (step s1 false q beside up) s near far h shape at live red above side_is balanced around blocks deep =
    let r = read_child m context up s1 false s true near x far q beside shape in
    let e : p ≡ q = at ∙ r.1 in
    let u = around_of m context up s1 false (branch s true near x far) q beside shape in
    let q_live : q ≢ context + 24 = (shape.apart q (hits_here up s1 false (branch s true near x far) q beside)).1 in
    let black : red_at m (context + 24) q ≡ false = red_at-number m (context + 24) q false q_live u.1.is.colour in
    absurd (differ (sym black ∙ (ap (λ (z : ℕ). red_at m (context + 24) z) (sym e) ∙ red))) where
      differ : false ≡ true → ⊥
      differ e = cc
rising_conflict m context x p g side xs depth (step s1 true q beside top) s near far h shape at live red above side_is balanced around blocks deep = absurd (differ around.2) where
  differ : true ≡ false → ⊥
  differ e = cc
rising_conflict m context x p g side xs depth (step s1 true q beside (step s2 true o uncle up)) s near far h shape at live red above side_is balanced around blocks deep = absurd (differ around.2) where
  differ : true ≡ false → ⊥
  differ e = cc
rising_conflict m context x p g side xs depth (step s1 true q beside (step s2 false o uncle up)) s near far h shape at live red above side_is balanced around blocks deep =
    let low = read_child m context (step s2 false o uncle up) s1 true s true near x far q beside shape in
    let high = read_child m context up s2 false s1 true (branch s true near x far) q beside o uncle shape in
    let pq : p ≡ q = at ∙ low.1 in
    let go : g ≡ o = above ∙ (ap (λ (z : ℕ). word_at m z 3) pq ∙ high.1) in
    let ss : side ≡ s2 = side_is ∙ (ap (λ (z : ℕ). side_at m z p) go ∙ (ap (λ (z : ℕ). side_at m o z) pq ∙ high.2)) in
    let c = conflict_here m context x xs depth up s2 o uncle s1 q beside s near far h shape balanced around blocks deep in
    subst (λ (z : ℕ). Conflict m context x z g side xs depth) (sym pq)
    (subst (λ (z : ℕ). Conflict m context x q z side xs depth) (sym go)
    (subst (λ (z : Side). Conflict m context x q o z xs depth) (sym ss) c))

-- which side `x` is on is what the code tests
pub conflict_side : (m : Words) (context x p g : ℕ) (side : Side) (xs : List ℕ) (depth : ℕ) (c : Conflict m context x p g side xs depth) → word_at m p (child_word (other_of side)) ≡ x → c.x_side ≡ other_of side
conflict_side m context x p g side xs depth c at = elim (same_or_other side c.x_side) [
  | inl e ↦
      let k = step side false g c.uncle c.path in
      let u = around_of m context k c.x_side true (branch c.low_side true c.near x c.far) p c.beside c.shape in
      let beside_at = subst (λ (s : Side). Lies m (context + 24) c.beside (word_at m p (child_word (other_of s))) p) e u.1.is.on_other in
      let x_there : 0 < hits x (branch c.low_side true c.near x c.far) = omega (arith, hits-branch x c.low_side true c.near x c.far, one-same x x refl) in
      let i = hits_root m (context + 24) c.beside x p (subst (λ (z : ℕ). Lies m (context + 24) c.beside z p) at beside_at) (u.1.live x (omega (arith, x_there))).1 in
      absurd (omega (arith, i, x_there, u.1.tidy x))
  | inr e ↦ e
]

pub conflict_other_side : (m : Words) (context x p g : ℕ) (side : Side) (xs : List ℕ) (depth : ℕ) (c : Conflict m context x p g side xs depth) → word_at m p (child_word (other_of side)) ≢ x → c.x_side ≡ side
conflict_other_side m context x p g side xs depth c ne = elim (same_or_other side c.x_side) [
  | inl e ↦ e
  | inr e ↦
      let r = read_child m context (step side false g c.uncle c.path) c.x_side true c.low_side true c.near x c.far p c.beside c.shape in
      absurd (ne (subst (λ (s : Side). word_at m p (child_word s) ≡ x) e r.0))
]

pub conflict_room : (m : Words) (context x p g : ℕ) (side : Side) (xs : List ℕ) (depth : ℕ) → Conflict m context x p g side xs depth → (5 ≤ length (m g)) × (5 ≤ length (m p))
conflict_room m context x p g side xs depth c = (
  c.shape.room g (hits_here c.path side false (branch c.x_side true (branch c.low_side true c.near x c.far) p c.beside) g c.uncle),
  c.shape.room p (hits_here (step side false g c.uncle c.path) c.x_side true (branch c.low_side true c.near x c.far) p c.beside),
)

pub rising_in_conflict : (m : Words) (context x p g : ℕ) (side : Side) (xs : List ℕ) (depth : ℕ) → Rising m context x xs depth → p ≡ word_at m x 3 → p ≢ 0 → red_at m (context + 24) p ≡ true → g ≡ word_at m p 3 → side ≡ side_at m g p → Conflict m context x p g side xs depth
rising_in_conflict m context x p g side xs depth r at live red above is = rising_conflict m context x p g side xs depth r.path r.side r.near r.far r.height r.shape at live red above is r.balanced r.around r.blocks r.deep

-- what the code's test of the inner child says
pub turn_needed : (m : Words) (context x p g : ℕ) (side : Side) (xs : List ℕ) (depth : ℕ) (c : Conflict m context x p g side xs depth) (f : Side) (r : ℕ) →
    f ≡ other_of side → r ≡ word_at m p (child_word f) → r ≡ x → c.x_side ≡ other_of side
turn_needed m context x p g side xs depth c f r e at same = conflict_side m context x p g side xs depth c (sym (read_at m p r f (other_of side) e at) ∙ same)

pub turn_spared : (m : Words) (context x p g : ℕ) (side : Side) (xs : List ℕ) (depth : ℕ) (c : Conflict m context x p g side xs depth) (f : Side) (r : ℕ) →
    f ≡ other_of side → r ≡ word_at m p (child_word f) → (r ≡ x → ⊥) → c.x_side ≡ side
turn_spared m context x p g side xs depth c f r e at ne = conflict_other_side m context x p g side xs depth c (λ q. ne (read_at m p r f (other_of side) e at ∙ q))
