-- A part of the tree that is one black block short, and its sibling.
use Rattle.std.proofs.Common.{ℕ, ◌≡◌, ◌≢◌, ◌+◌, ◌<◌, ◌≤◌, suc, Bool, true, false, List, sym, ap, subst, ◌∙◌, refl, arith, inl, inr, length, ◌^◌}
use Rattle.zone_region.specs.Words.{Words, word_at}
use Rattle.offset_tree.specs.declared.side.Side.{Side}
use Rattle.offset_tree.specs.declared.side.Side.TheVariants.{Left}
use Rattle.offset_tree.specs.Inside.Sides.{child_word, other_of}
use Rattle.offset_tree.specs.Inside.Shape.{Shape, leaf, node, branch, Path, top, step, plug, blocks_of, hits, IsHole}
use Rattle.offset_tree.specs.Inside.Links.{Lies, IsShape, red_at}
use Rattle.offset_tree.specs.Inside.Moves.{Spot, shape_at, recoloured}
use Rattle.offset_tree.specs.Inside.Balance.{red_of, IsBalanced, IsPathBalanced, depth_of, Settled}
use Rattle.offset_tree.proofs.ShapeLemmas.{one-same, hits-plug, blocks_of-plug}
use Rattle.offset_tree.proofs.LiesLemmas.{branch_of}
use Rattle.offset_tree.proofs.Writes.{hits_root}
use Rattle.offset_tree.proofs.Paints.{around_of, red_at-number, red_at_is}
use Rattle.offset_tree.proofs.BalanceLemmas.{branch-flip, plug_balanced}
use Rattle.offset_tree.specs.Inside.DeleteFixup.{Lacking, RedSibling, BlackSibling}
use Rattle.offset_tree.proofs.Count.{depth_bound}
use Rattle.offset_tree.proofs.NodeLemmas.{black_node, bool_cases, red_node}

-- a part whose root is red, or that is the whole tree, ends it
pub lacking_red : (m : Words) (context at p : ℕ) (side : Side) (xs : List ℕ) (depth : ℕ) (l : Lacking m context at p side xs depth) → red_at m (context + 24) at ≡ true →
    (a : Spot) × IsShape m context (shape_at a at) × (blocks_of (shape_at a at) ≡ xs) × ((n : Words) → IsShape n context (recoloured a at false) → Settled n context xs)
lacking_red m context at p side xs depth l red = go l.part l.shape l.lies l.balanced l.blocks where
  Result : Type 0
  Result = (a : Spot) × IsShape m context (shape_at a at) × (blocks_of (shape_at a at) ≡ xs) × ((n : Words) → IsShape n context (recoloured a at false) → Settled n context xs)

  go : (t : Shape) → IsShape m context (plug l.path t) → Lies m (context + 24) t at p → IsBalanced t l.height → blocks_of (plug l.path t) ≡ xs → (a : Spot) × IsShape m context (shape_at a at) × (blocks_of (shape_at a at) ≡ xs) × ((n : Words) → IsShape n context (recoloured a at false) → Settled n context xs)
  go leaf shape lies b blocks = absurd (differ (sym (red_at_is m (context + 24) leaf at p (λ z i. absurd (omega (arith, i))) lies) ∙ red)) where
    differ : false ≡ true → ⊥
    differ e = cc
  go (node false a x d) shape lies b blocks = absurd (differ (sym (red_at_is m (context + 24) (node false a x d) at p (λ z i. (shape.apart z (omega (arith, i, hits-plug z l.path (node false a x d)))).1) lies) ∙ red)) where
    differ : false ≡ true → ⊥
    differ e = cc
  go (node true a x d) shape lies b blocks =
      let ends = λ (n : Words) (new : IsShape n context (plug l.path (node false a at d))).
      let q = plug_balanced l.path (node false a at d) (suc l.height) l.around (b.2, b.3) (λ _. refl) in
      let made : Settled n context xs = record {
        tree = plug l.path (node false a at d);
        height = q.0;
        shape = new;
        black = q.2;
        balanced = q.1;
        blocks = blocks_of-plug l.path (node false a at d) (node true a at d) refl ∙ subst (λ (y : ℕ). blocks_of (plug l.path (node true a y d)) ≡ xs) (sym lies.0) blocks;
      } in made in (
        record { path = l.path; side = Left; red = true; near = a; far = d },
        subst (λ (y : ℕ). IsShape m context (plug l.path (node true a y d))) (sym lies.0) shape,
        subst (λ (y : ℕ). blocks_of (plug l.path (node true a y d)) ≡ xs) (sym lies.0) blocks,
        ends,
      )

pub lacking_top : (m : Words) (context at p : ℕ) (side : Side) (xs : List ℕ) (depth : ℕ) (l : Lacking m context at p side xs depth) → red_at m (context + 24) at ≡ false → p ≡ 0 → Settled m context xs
lacking_top m context at p side xs depth l black root = go l.path l.hole l.shape l.blocks where
  part_black : red_of l.part ≡ false
  part_black = sym (red_at_is m (context + 24) l.part at p (λ z i. (l.shape.apart z (omega (arith, i, hits-plug z l.path l.part))).1) l.lies) ∙ black

  go : (k : Path) → IsHole k p side → IsShape m context (plug k l.part) → blocks_of (plug k l.part) ≡ xs → Settled m context xs
  go top hole shape blocks = record { tree = l.part; height = l.height; shape = shape; black = part_black; balanced = l.balanced; blocks = blocks }
  go (step s c x far up) hole shape blocks =
      let x_there : 0 < hits x (plug (step s c x far up) l.part) = omega (arith, hits-plug x (step s c x far up) l.part, one-same x x refl) in
      absurd ((shape.apart x x_there).2 (sym hole.0 ∙ root))

-- the sibling that the code reads
pub record SiblingRead (m : Words) (context at p : ℕ) (side : Side) (xs : List ℕ) (depth : ℕ) (w : ℕ) : Type 0 where
  pub room : 5 ≤ length (m w)
  pub live : w ≢ context + 24
  pub red : red_at m (context + 24) w ≡ true → RedSibling m context p w side xs
  pub black : red_at m (context + 24) w ≡ false → BlackSibling m context p w side xs depth

-- a sibling of some black height isn't empty
sibling_read : (m : Words) (context at p : ℕ) (side : Side) (xs : List ℕ) (depth : ℕ) (up : Path) (c : Bool) (part : Shape) (h : ℕ) (near : Shape) (w : ℕ) (outer : Shape) (d : Bool) →
    IsShape m context (plug up (branch side c part p (branch side d near w outer))) → IsBalanced part h →
    (d ≡ true → (c ≡ false) × (red_of near ≡ false) × IsBalanced near (suc h) × IsBalanced outer (suc h) × IsPathBalanced up (suc (suc h))) →
    (d ≡ false → IsBalanced near h × IsBalanced outer h × IsPathBalanced (step side c p (branch side false near w outer) up) (suc h)) →
    blocks_of (plug up (branch side c part p (branch side d near w outer))) ≡ xs → suc (depth_of up) ≡ depth → SiblingRead m context at p side xs depth w
sibling_read m context at p side xs depth up c part h near w outer d shape part_b if_red if_black blocks deep =
    let k = step (other_of side) c p part up in
    let flip : branch side c part p (branch side d near w outer) ≡ branch (other_of side) c (branch side d near w outer) p part = sym (branch-flip side c (branch side d near w outer) p part) in
    let s0 = subst (λ (t : Shape). IsShape m context (plug up t)) flip shape in
    let u = around_of m context k side d near w outer s0 in
    let live = u.1.live w (omega (arith, one-same w w refl)) in
    let colour = red_at-number m (context + 24) w d live.1 u.1.is.colour in
    record {
      room = live.3;
      live = live.1;
      red = λ e. let t = if_red (sym colour ∙ e) in record {
        path = up;
        part = part;
        near = near;
        outer = outer;
        height = h;
        shape = subst (λ (q : Bool). IsShape m context (plug up (branch side q part p (branch side true near w outer)))) t.0 (subst (λ (q : Bool). IsShape m context (plug up (branch side c part p (branch side q near w outer)))) (sym colour ∙ e) shape);
        part_balanced = part_b;
        near_black = t.1;
        near_balanced = t.2;
        outer_balanced = t.3;
        around = t.4;
        blocks = subst (λ (q : Bool). blocks_of (plug up (branch side q part p (branch side true near w outer))) ≡ xs) t.0 (subst (λ (q : Bool). blocks_of (plug up (branch side c part p (branch side q near w outer))) ≡ xs) (sym colour ∙ e) blocks);
      };
      black = λ e. let t = if_black (sym colour ∙ e) in record {
        path = up;
        red = c;
        part = part;
        near = near;
        outer = outer;
        height = h;
        shape = subst (λ (q : Bool). IsShape m context (plug up (branch side c part p (branch side q near w outer)))) (sym colour ∙ e) shape;
        part_balanced = part_b;
        near_balanced = t.0;
        outer_balanced = t.1;
        around = t.2;
        blocks = subst (λ (q : Bool). blocks_of (plug up (branch side c part p (branch side q near w outer))) ≡ xs) (sym colour ∙ e) blocks;
        deep = λ _. deep;
      };
    }

pub lacking_sibling : (m : Words) (context at p : ℕ) (side : Side) (xs : List ℕ) (depth : ℕ) (l : Lacking m context at p side xs depth) → p ≢ 0 →
    (w : ℕ) × (word_at m p (child_word (other_of side)) ≡ w) × (5 ≤ length (m p)) × SiblingRead m context at p side xs depth w
lacking_sibling m context at p side xs depth l live = go l.path l.hole l.shape l.blocks l.around l.deep where
  read : (up : Path) (s : Side) (c : Bool) (x : ℕ) (far near : Shape) (w : ℕ) (outer : Shape) (d : Bool) → IsShape m context (plug up (branch s c l.part x far)) → far ≡ branch s d near w outer → (word_at m x (child_word (other_of s)) ≡ w) × (5 ≤ length (m x))
  read up s c x far near w outer d shape e =
      let u = around_of m context up s c l.part x far shape in (
        (branch_of m (context + 24) s d near w outer (word_at m x (child_word (other_of s))) x (subst (λ (t : Shape). Lies m (context + 24) t (word_at m x (child_word (other_of s))) x) e u.1.is.on_other)).at,
        (u.1.live x (omega (arith, one-same x x refl))).3,
      )

  at_step : (s : Side) (c : Bool) (x : ℕ) (far : Shape) (up : Path) → IsShape m context (plug up (branch s c l.part x far)) → blocks_of (plug up (branch s c l.part x far)) ≡ xs → IsPathBalanced (step s c x far up) (suc l.height) → suc (depth_of up) ≡ depth → IsBalanced far (suc l.height) →
      (w : ℕ) × (word_at m x (child_word (other_of s)) ≡ w) × (5 ≤ length (m x)) × SiblingRead m context at x s xs depth w
  at_step s c x far up shape blocks around deep far_b = elim (bool_cases (red_of far)) [
    | inr b ↦
        let n = black_node s far l.height b far_b in
        let r = read up s c x far n.near n.at n.outer false shape n.is in (
          n.at,
          r.0,
          r.1,
          sibling_read m context at x s xs depth up c l.part l.height n.near n.at n.outer false
              (subst (λ (t : Shape). IsShape m context (plug up (branch s c l.part x t))) n.is shape) l.balanced (λ e. absurd (differ e))
              (λ _. (n.near_balanced, n.outer_balanced, subst (λ (t : Shape). IsPathBalanced (step s c x t up) (suc l.height)) n.is around))
              (subst (λ (t : Shape). blocks_of (plug up (branch s c l.part x t)) ≡ xs) n.is blocks) deep,
        )
    | inl b ↦
        let n = red_node s far (suc l.height) b far_b in
        let r = read up s c x far n.near n.at n.outer true shape n.is in
        let q = red_far c far b around in (
          n.at,
          r.0,
          r.1,
          sibling_read m context at x s xs depth up c l.part l.height n.near n.at n.outer true
              (subst (λ (t : Shape). IsShape m context (plug up (branch s c l.part x t))) n.is shape) l.balanced
              (λ _. (q.0, n.near_black, n.near_balanced, n.outer_balanced, q.1)) (λ e. absurd (differ (sym e)))
              (subst (λ (t : Shape). blocks_of (plug up (branch s c l.part x t)) ≡ xs) n.is blocks) deep,
        )
  ] where
    differ : false ≡ true → ⊥
    differ e = cc

    red_far : (c : Bool) (far : Shape) → red_of far ≡ true → IsPathBalanced (step s c x far up) (suc l.height) → (c ≡ false) × IsPathBalanced up (suc (suc l.height))
    red_far true far b a = absurd (differ (sym a.0 ∙ b))
    red_far false far b a = (refl, a.1)

  far_balanced : (s : Side) (c : Bool) (x : ℕ) (far : Shape) (up : Path) → IsPathBalanced (step s c x far up) (suc l.height) → IsBalanced far (suc l.height)
  far_balanced s true x far up a = a.1
  far_balanced s false x far up a = a.0

  go : (k : Path) → IsHole k p side → IsShape m context (plug k l.part) → blocks_of (plug k l.part) ≡ xs → IsPathBalanced k (suc l.height) → depth_of k ≡ depth →
      (w : ℕ) × (word_at m p (child_word (other_of side)) ≡ w) × (5 ≤ length (m p)) × SiblingRead m context at p side xs depth w
  go top hole shape blocks around deep = absurd (live hole)
  go (step s c x far up) hole shape blocks around deep =
      let r = at_step s c x far up shape blocks around deep (far_balanced s c x far up around) in
      subst (λ (y : ℕ). (w : ℕ) × (word_at m y (child_word (other_of side)) ≡ w) × (5 ≤ length (m y)) × SiblingRead m context at y side xs depth w) (sym hole.0)
      (subst (λ (z : Side). (w : ℕ) × (word_at m x (child_word (other_of z)) ≡ w) × (5 ≤ length (m x)) × SiblingRead m context at x z xs depth w) (sym hole.1) r)

-- the sibling that was read before anything changed
pub sibling_found : (m : Words) (context at p w : ℕ) (side far : Side) (xs : List ℕ) (depth : ℕ) → Lacking m context at p side xs depth → p ≢ 0 → far ≡ other_of side → w ≡ word_at m p (child_word far) →
    SiblingRead m context at p side xs depth w
sibling_found m context at p w side far xs depth l live e read =
    let s = lacking_sibling m context at p side xs depth l live in
    let same : s.0 ≡ w = sym s.1 ∙ sym (read ∙ ap (λ (q : Side). word_at m p (child_word q)) e) in
    subst (λ (z : ℕ). SiblingRead m context at p side xs depth z) same s.3

pub lacking_room : (m : Words) (context at p : ℕ) (side : Side) (xs : List ℕ) (depth : ℕ) → Lacking m context at p side xs depth → (at ≢ context + 24 → 5 ≤ length (m at)) × (p ≢ 0 → 5 ≤ length (m p))
lacking_room m context at p side xs depth l = (
  λ ne. l.shape.room at (let i = hits_root m (context + 24) l.part at p l.lies ne in omega (arith, i, hits-plug at l.path l.part)),
  λ live. (lacking_sibling m context at p side xs depth l live).2,
)

pub lacking_bound : (m : Words) (context at p : ℕ) (side : Side) (xs : List ℕ) (depth : ℕ) → Lacking m context at p side xs depth → depth ≤ 2 ^ 63
lacking_bound m context at p side xs depth l = subst (λ (d : ℕ). d ≤ 2 ^ 63) l.deep (depth_bound m context l.path l.part l.shape)
