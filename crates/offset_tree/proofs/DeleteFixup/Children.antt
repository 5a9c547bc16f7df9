-- The children of a black sibling, as the code reads them.
use Rattle.std.proofs.Common.{ℕ, ◌≡◌, ◌≢◌, ◌+◌, ◌<◌, ◌≤◌, false, List, sym, ap, subst, ◌∙◌, refl, arith, length}
use Rattle.zone_region.specs.Words.{Words, word_at}
use Rattle.offset_tree.specs.declared.side.Side.{Side}
use Rattle.offset_tree.specs.Inside.Sides.{child_word, other_of}
use Rattle.offset_tree.specs.Inside.Shape.{Shape, branch, step, plug, hits}
use Rattle.offset_tree.specs.Inside.Links.{Lies, IsShape, red_at}
use Rattle.offset_tree.specs.Inside.Balance.{red_of}
use Rattle.offset_tree.proofs.ShapeLemmas.{one-same}
use Rattle.offset_tree.proofs.LiesLemmas.{branch_of}
use Rattle.offset_tree.proofs.Writes.{hits_root}
use Rattle.offset_tree.proofs.Paints.{around_of, red_at-number, red_at_is}
use Rattle.offset_tree.proofs.BalanceLemmas.{branch-flip}
use Rattle.offset_tree.specs.Inside.DeleteFixup.{BlackSibling}

-- the children of the black sibling, as the code reads them
pub children_read : (m : Words) (context p w : ℕ) (side : Side) (xs : List ℕ) (depth : ℕ) (r : BlackSibling m context p w side xs depth) →
    (red_at m (context + 24) p ≡ r.red) × (5 ≤ length (m p)) × (5 ≤ length (m w)) × Lies m (context + 24) r.near (word_at m w (child_word side)) w × Lies m (context + 24) r.outer (word_at m w (child_word (other_of side))) w
    × ((z : ℕ) → 0 < hits z r.near + hits z r.outer → (z ≢ context + 24) × (5 ≤ length (m z))) × (p ≢ context + 24)
children_read m context p w side xs depth r =
    let o = other_of side in
    let flip0 : branch side r.red r.part p (branch side false r.near w r.outer) ≡ branch o r.red (branch side false r.near w r.outer) p r.part = sym (branch-flip side r.red (branch side false r.near w r.outer) p r.part) in
    let s0 = subst (λ (t : Shape). IsShape m context (plug r.path t)) flip0 r.shape in
    let u = around_of m context r.path o r.red (branch side false r.near w r.outer) p r.part s0 in
    let v = around_of m context (step o r.red p r.part r.path) side false r.near w r.outer s0 in
    let live = u.1.live p (omega (arith, one-same p p refl)) in (
      red_at-number m (context + 24) p r.red live.1 u.1.is.colour,
      live.3,
      (v.1.live w (omega (arith, one-same w w refl))).3,
      v.1.is.on_side,
      v.1.is.on_other,
      λ z i. let q = v.1.live z (omega (arith, i)) in (q.1, q.3),
      live.1,
    )

-- the sibling as the code reads it
pub sibling_at : (m : Words) (context p w : ℕ) (side : Side) (xs : List ℕ) (depth : ℕ) → BlackSibling m context p w side xs depth → word_at m p (child_word (other_of side)) ≡ w
sibling_at m context p w side xs depth r =
    let u = around_of m context r.path side r.red r.part p (branch side false r.near w r.outer) r.shape in
    (branch_of m (context + 24) side false r.near w r.outer (word_at m p (child_word (other_of side))) p u.1.is.on_other).at

pub black_sibling_read : (m : Words) (context p v w : ℕ) (side far : Side) (xs : List ℕ) (depth : ℕ) → BlackSibling m context p v side xs depth → far ≡ other_of side → w ≡ word_at m p (child_word far) → BlackSibling m context p w side xs depth
black_sibling_read m context p v w side far xs depth r e at =
    let same : v ≡ w = sym (sibling_at m context p v side xs depth r) ∙ sym (at ∙ ap (λ (s : Side). word_at m p (child_word s)) e) in
    subst (λ (z : ℕ). BlackSibling m context p z side xs depth) same r

-- the outer and the near child that the code reads
pub record ChildRead (m : Words) (nil w : ℕ) (t : Shape) (v : ℕ) : Type 0 where
  pub lies : Lies m nil t v w
  pub room : v ≢ nil → 5 ≤ length (m v)
  pub red : red_at m nil v ≡ red_of t

pub outer_read : (m : Words) (context p w : ℕ) (side far : Side) (xs : List ℕ) (depth : ℕ) (r : BlackSibling m context p w side xs depth) (v : ℕ) → far ≡ other_of side → v ≡ word_at m w (child_word far) → ChildRead m (context + 24) w r.outer v
outer_read m context p w side far xs depth r v e at =
    let c = children_read m context p w side xs depth r in
    let lies = subst (λ (z : ℕ). Lies m (context + 24) r.outer z w) (sym (at ∙ ap (λ (q : Side). word_at m w (child_word q)) e)) c.4 in
    record {
      lies = lies;
      room = λ ne. (c.5 v (let i = hits_root m (context + 24) r.outer v w lies ne in omega (arith, i))).1;
      red = red_at_is m (context + 24) r.outer v w (λ z i. (c.5 z (omega (arith, i))).0) lies;
    }

pub near_read : (m : Words) (context p w : ℕ) (side : Side) (xs : List ℕ) (depth : ℕ) (r : BlackSibling m context p w side xs depth) (v : ℕ) → v ≡ word_at m w (child_word side) → ChildRead m (context + 24) w r.near v
near_read m context p w side xs depth r v at =
    let c = children_read m context p w side xs depth r in
    let lies = subst (λ (z : ℕ). Lies m (context + 24) r.near z w) (sym at) c.3 in
    record {
      lies = lies;
      room = λ ne. (c.5 v (let i = hits_root m (context + 24) r.near v w lies ne in omega (arith, i))).1;
      red = red_at_is m (context + 24) r.near v w (λ z i. (c.5 z (omega (arith, i))).0) lies;
    }

pub sink_high : (m : Words) (g x : ℕ) → g ≡ x → g ≢ 0 → (x ≢ 0 → 5 ≤ length (m x)) → 5 ≤ length (m g)
sink_high m g x e live room = subst (λ (z : ℕ). 5 ≤ length (m z)) (sym e) (room (λ z. live (e ∙ z)))
