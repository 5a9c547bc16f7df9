-- The cases of a black sibling.
use Rattle.std.proofs.Common.{ℕ, ◌≡◌, ◌≢◌, ◌+◌, ◌≤◌, suc, Bool, true, false, List, sym, ap, subst, ◌∙◌, refl, arith, inl, inr, length}
use Rattle.zone_region.specs.Words.{Words, word_at}
use Rattle.offset_tree.specs.declared.side.Side.{Side}
use Rattle.offset_tree.specs.Inside.Sides.{child_word, other_of}
use Rattle.offset_tree.specs.Inside.Shape.{Shape, branch, Path, top, step, plug, blocks_of, before_turn, after_turn, IsHole}
use Rattle.offset_tree.specs.Inside.Links.{Lies, IsShape, red_at, side_at}
use Rattle.offset_tree.specs.Inside.Moves.{Turn, unturned, turned, Spot, shape_at, recoloured}
use Rattle.offset_tree.specs.Inside.Balance.{red_of, IsBalanced, IsPathBalanced, depth_of, Settled}
use Rattle.offset_tree.proofs.ShapeLemmas.{one-same, blocks_of-branch, blocks_of-plug, blocks_of-turn}
use Rattle.offset_tree.proofs.LiesLemmas.{branch_of, Lies-branch}
use Rattle.offset_tree.proofs.Paints.{around_of, red_at-number}
use Rattle.offset_tree.proofs.TurnLemmas.{around_parent}
use Rattle.offset_tree.proofs.BalanceLemmas.{branch-flip, red_of-branch, balanced_red, balanced_black, plug_balanced}
use Rattle.offset_tree.specs.Inside.DeleteFixup.{Lacking, BlackSibling}
use Rattle.offset_tree.proofs.NodeLemmas.{hits_here, read_child, red_node_at}

-- any black sibling of that height does there
around_again : (s : Side) (c : Bool) (p : ℕ) (far far' : Shape) (up : Path) (h : ℕ) → IsPathBalanced (step s c p far up) h → red_of far' ≡ false → IsBalanced far' h → IsPathBalanced (step s c p far' up) h
around_again s true p far far' up h a r b = (r, b, a.2, a.3)
around_again s false p far far' up h a r b = (b, a.1)

-- the end: the top of the part has the colour that `p` had
settled_top : (n : Words) (context p w : ℕ) (xs : List ℕ) (side : Side) (c : Bool) (far : Shape) (up : Path) (inner outer : Shape) (h : ℕ) →
    IsPathBalanced (step side c p far up) (suc h) → IsBalanced inner (suc h) → IsBalanced outer (suc h) → red_of inner ≡ false → red_of outer ≡ false →
    IsShape n context (plug up (branch side c inner w outer)) → blocks_of (plug up (branch side c inner w outer)) ≡ xs → Settled n context xs
settled_top n context p w xs side true far up inner outer h a bi bo ri ro shape blocks =
    let q = plug_balanced up (branch side true inner w outer) (suc h) a.3 (balanced_red side inner w outer (suc h) ri ro bi bo) (λ e. absurd (differ (sym a.2 ∙ e))) in
    record { tree = plug up (branch side true inner w outer); height = q.0; shape = shape; black = q.2; balanced = q.1; blocks = blocks } where
      differ : false ≡ true → ⊥
      differ e = cc
settled_top n context p w xs side false far up inner outer h a bi bo ri ro shape blocks =
    let q = plug_balanced up (branch side false inner w outer) (suc (suc h)) a.1 (balanced_black side inner w outer (suc h) bi bo) (λ _. red_of-branch side false inner w outer) in
    record { tree = plug up (branch side false inner w outer); height = q.0; shape = shape; black = q.2; balanced = q.1; blocks = blocks }

-- a red outer child `v` of the sibling: three colours and a turn
pub finish_spots : (m : Words) (context p w : ℕ) (side : Side) (xs : List ℕ) (depth : ℕ) (r : BlackSibling m context p w side xs depth) (v : ℕ) → red_of r.outer ≡ true → Lies m (context + 24) r.outer v w →
    (a : Spot) × IsShape m context (shape_at a w) × (blocks_of (shape_at a w) ≡ xs) × ((n : Words) → IsShape n context (recoloured a w r.red) →
    (b : Spot) × IsShape n context (shape_at b p) × (blocks_of (shape_at b p) ≡ xs) × ((n' : Words) → IsShape n' context (recoloured b p false) →
    (d : Spot) × IsShape n' context (shape_at d v) × (blocks_of (shape_at d v) ≡ xs) × ((n'' : Words) → IsShape n'' context (recoloured d v false) →
    (u : Turn) × IsShape n'' context (unturned u side p) × (blocks_of (unturned u side p) ≡ xs) × ((l : Words) → IsShape l context (turned u side p) → Settled l context xs))))
finish_spots m context p w side xs depth r v red v_lies =
    let o = other_of side in
    let c = r.red in
    let q = red_node_at m (context + 24) side r.outer v w r.height red r.outer_balanced v_lies in
    let w0 = branch side false r.near w r.outer in
    let w1 = branch side c r.near w r.outer in
    let k = step o c p r.part r.path in
    let flip0 : branch side c r.part p w0 ≡ branch o c w0 p r.part = sym (branch-flip side c w0 p r.part) in
    let s0 = subst (λ (t : Shape). IsShape m context (plug r.path t)) flip0 r.shape in
    let e0 = subst (λ (t : Shape). blocks_of (plug r.path t) ≡ xs) flip0 r.blocks in
    let e1 : blocks_of (plug k w1) ≡ xs = blocks_of-plug k w1 w0 (blocks_of-branch side c false r.near r.near w r.outer refl) ∙ e0 in
    let p1 = branch o c w1 p r.part in
    let p2 = branch o false w1 p r.part in
    let e2 : blocks_of (plug r.path p2) ≡ xs = blocks_of-plug r.path p2 p1 (blocks_of-branch o false c w1 w1 p r.part refl) ∙ e1 in
    let k3 = step o c w r.near (step o false p r.part r.path) in
    let v0 = branch side true q.near v q.outer in
    let v1 = branch side false q.near v q.outer in
    let flip1 : w1 ≡ branch o c v0 w r.near = sym (branch-flip side c r.outer w r.near) ∙ ap (λ t. branch o c t w r.near) q.is in
    let e3 = subst (λ (t : Shape). blocks_of (plug r.path (branch o false t p r.part)) ≡ xs) flip1 e2 in
    let e4 : blocks_of (plug k3 v1) ≡ xs = blocks_of-plug k3 v1 v0 (blocks_of-branch side false true q.near q.near v q.outer refl) ∙ e3 in
    let before = before_turn side false c r.part p r.near w v1 in
    let after = after_turn side false c r.part p r.near w v1 in
    let flip2 : branch o false (branch o c v1 w r.near) p r.part ≡ before = ap (λ t. branch o false t p r.part) (branch-flip side c v1 w r.near) ∙ branch-flip side false (branch side c r.near w v1) p r.part in
    let e5 = subst (λ (t : Shape). blocks_of (plug r.path t) ≡ xs) flip2 e4 in
    let kept : blocks_of after ≡ blocks_of before = blocks_of-turn side false c r.part p r.near w v1 ∙ ap (λ t. blocks_of t) (branch-flip side false (branch side c r.near w v1) p r.part) in
    let e6 : blocks_of (plug r.path after) ≡ xs = blocks_of-plug r.path after before kept ∙ e5 in (
      record { path = k; side = side; red = false; near = r.near; far = r.outer },
      s0,
      e0,
      λ n new. (
        record { path = r.path; side = o; red = c; near = w1; far = r.part },
        new,
        e1,
        λ n' new'. (
          record { path = k3; side = side; red = true; near = q.near; far = q.outer },
          subst (λ (t : Shape). IsShape n' context (plug r.path (branch o false t p r.part))) flip1 new',
          e3,
          λ n'' new''. (
            record { path = r.path; red = false; child_red = c; near = r.part; inner = r.near; child = w; outer = v1 },
            subst (λ (t : Shape). IsShape n'' context (plug r.path t)) flip2 new'',
            e5,
            λ l last. settled_top l context p w xs side c w0 r.path (branch side false r.part p r.near) v1 r.height r.around
                (balanced_black side r.part p r.near r.height r.part_balanced r.near_balanced) (balanced_black side q.near v q.outer r.height q.near_balanced q.outer_balanced)
                (red_of-branch side false r.part p r.near) (red_of-branch side false q.near v q.outer) last e6,
          ),
        ),
      ),
    )

-- a red inner child `z` of the sibling is painted and turned up in the sibling's place
pub inner_spots : (m : Words) (context p w : ℕ) (side : Side) (xs : List ℕ) (depth : ℕ) (r : BlackSibling m context p w side xs depth) (z : ℕ) → red_of r.near ≡ true → red_of r.outer ≡ false → Lies m (context + 24) r.near z w →
    (a : Spot) × IsShape m context (shape_at a z) × (blocks_of (shape_at a z) ≡ xs) × ((n : Words) → IsShape n context (recoloured a z false) →
    (b : Spot) × IsShape n context (shape_at b w) × (blocks_of (shape_at b w) ≡ xs) × ((n' : Words) → IsShape n' context (recoloured b w true) →
    (u : Turn) × IsShape n' context (unturned u (other_of side) w) × (blocks_of (unturned u (other_of side) w) ≡ xs) × ((l : Words) → IsShape l context (turned u (other_of side) w) →
    (k : BlackSibling l context p z side xs depth) × (red_of k.outer ≡ true) × Lies l (context + 24) k.outer w z)))
inner_spots m context p w side xs depth r z red black z_lies =
    let o = other_of side in
    let c = r.red in
    let q = red_node_at m (context + 24) side r.near z w r.height red r.near_balanced z_lies in
    let w0 = branch side false r.near w r.outer in
    let k = step o c p r.part r.path in
    let flip0 : branch side c r.part p w0 ≡ branch o c w0 p r.part = sym (branch-flip side c w0 p r.part) in
    let s0 = subst (λ (t : Shape). IsShape m context (plug r.path t)) flip0 r.shape in
    let e0 = subst (λ (t : Shape). blocks_of (plug r.path t) ≡ xs) flip0 r.blocks in
    let k1 = step side false w r.outer k in
    let z0 = branch side true q.near z q.outer in
    let z1 = branch side false q.near z q.outer in
    let s1 = subst (λ (t : Shape). IsShape m context (plug k1 t)) q.is s0 in
    let e1 = subst (λ (t : Shape). blocks_of (plug k1 t) ≡ xs) q.is e0 in
    let e2 : blocks_of (plug k1 z1) ≡ xs = blocks_of-plug k1 z1 z0 (blocks_of-branch side false true q.near q.near z q.outer refl) ∙ e1 in
    let w2 = branch side false z1 w r.outer in
    let w3 = branch side true z1 w r.outer in
    let e3 : blocks_of (plug k w3) ≡ xs = blocks_of-plug k w3 w2 (blocks_of-branch side true false z1 z1 w r.outer refl) ∙ e2 in
    let before = before_turn o true false r.outer w q.outer z q.near in
    let after = after_turn o true false r.outer w q.outer z q.near in
    let flip3 : w3 ≡ before = ap (λ t. branch side true t w r.outer) (sym (branch-flip side false q.outer z q.near)) ∙ sym (branch-flip side true r.outer w (branch o false q.outer z q.near)) in
    let e4 = subst (λ (t : Shape). blocks_of (plug k t) ≡ xs) flip3 e3 in
    let kept : blocks_of after ≡ blocks_of before = blocks_of-turn o true false r.outer w q.outer z q.near ∙ ap (λ t. blocks_of t) (branch-flip o true (branch o false q.outer z q.near) w r.outer) in
    let e5 : blocks_of (plug k after) ≡ xs = blocks_of-plug k after before kept ∙ e4 in
    let low = branch side true q.outer w r.outer in
    let flip4 : after ≡ branch side false q.near z low = branch-flip side false (branch o true r.outer w q.outer) z q.near ∙ ap (λ t. branch side false q.near z t) (branch-flip side true r.outer w q.outer) in
    let far = branch side false q.near z low in
    let flip5 : branch o c far p r.part ≡ branch side c r.part p far = branch-flip side c far p r.part in
    let e6 = subst (λ (t : Shape). blocks_of (plug r.path t) ≡ xs) flip5 (subst (λ (t : Shape). blocks_of (plug k t) ≡ xs) flip4 e5) in
    let low_b = balanced_red side q.outer w r.outer r.height q.outer_black black q.outer_balanced r.outer_balanced in
    let far_b = balanced_black side q.near z low r.height q.near_balanced low_b in (
      record { path = k1; side = side; red = true; near = q.near; far = q.outer },
      s1,
      e1,
      λ n new. (
        record { path = k; side = side; red = false; near = z1; far = r.outer },
        new,
        e2,
        λ n' new'. (
          record { path = k; red = true; child_red = false; near = r.outer; inner = q.outer; child = z; outer = q.near },
          subst (λ (t : Shape). IsShape n' context (plug k t)) flip3 new',
          e4,
          λ l last.
              let s6 = subst (λ (t : Shape). IsShape l context (plug k t)) flip4 last in
              let at_z = around_of l context k side false q.near z low s6 in
              let at_low = branch_of l (context + 24) side true q.outer w r.outer (word_at l z (child_word o)) z at_z.1.is.on_other in (
                record {
                  path = r.path;
                  red = c;
                  part = r.part;
                  near = q.near;
                  outer = low;
                  height = r.height;
                  shape = subst (λ (t : Shape). IsShape l context (plug r.path t)) flip5 s6;
                  part_balanced = r.part_balanced;
                  near_balanced = q.near_balanced;
                  outer_balanced = low_b;
                  around = around_again side c p w0 far r.path (suc r.height) r.around (red_of-branch side false q.near z low) far_b;
                  blocks = e6;
                  deep = r.deep;
                },
                red_of-branch side true q.outer w r.outer,
                subst (λ (y : ℕ). Lies l (context + 24) low y z) at_low.at at_z.1.is.on_other,
              ),
        ),
      ),
    )

-- both children of the black sibling are black: it is painted red
pub sink_spots : (m : Words) (context p w : ℕ) (side : Side) (xs : List ℕ) (depth : ℕ) (r : BlackSibling m context p w side xs depth) → red_of r.near ≡ false → red_of r.outer ≡ false →
    (a : Spot) × IsShape m context (shape_at a w) × (blocks_of (shape_at a w) ≡ xs) × ((n : Words) → IsShape n context (recoloured a w true) →
    (red_at n (context + 24) p ≡ r.red)
    × (5 ≤ length (n p))
    × (r.red ≡ true → (b : Spot) × IsShape n context (shape_at b p) × (blocks_of (shape_at b p) ≡ xs) × ((n' : Words) → IsShape n' context (recoloured b p false) → Settled n' context xs))
    × (word_at n p 3 ≢ 0 → 5 ≤ length (n (word_at n p 3)))
    × (r.red ≡ false → (e : ℕ) × (suc e ≡ depth) × ((g : ℕ) (s : Side) → g ≡ word_at n p 3 → (g ≢ 0 → s ≡ side_at n g p) → Lacking n context p g s xs e)))
sink_spots m context p w side xs depth r near_black outer_black =
    let o = other_of side in
    let c = r.red in
    let w0 = branch side false r.near w r.outer in
    let w1 = branch side true r.near w r.outer in
    let k = step o c p r.part r.path in
    let flip0 : branch side c r.part p w0 ≡ branch o c w0 p r.part = sym (branch-flip side c w0 p r.part) in
    let s0 = subst (λ (t : Shape). IsShape m context (plug r.path t)) flip0 r.shape in
    let e0 = subst (λ (t : Shape). blocks_of (plug r.path t) ≡ xs) flip0 r.blocks in
    let e1 : blocks_of (plug k w1) ≡ xs = blocks_of-plug k w1 w0 (blocks_of-branch side true false r.near r.near w r.outer refl) ∙ e0 in
    let w_b = balanced_red side r.near w r.outer r.height near_black outer_black r.near_balanced r.outer_balanced in (
      record { path = k; side = side; red = false; near = r.near; far = r.outer },
      s0,
      e0,
      λ n new.
          let u = around_of n context r.path o c w1 p r.part new in
          let live = u.1.live p (omega (arith, one-same p p refl)) in (
            red_at-number n (context + 24) p c live.1 u.1.is.colour,
            live.3,
            λ is_red. (
              record { path = r.path; side = o; red = c; near = w1; far = r.part },
              new,
              e1,
              λ n' new'. ending n' o w1 w_b c is_red r.around new' (blocks_of-plug r.path (branch o false w1 p r.part) (branch o c w1 p r.part) (blocks_of-branch o false c w1 w1 p r.part refl) ∙ e1),
            ),
            λ ne. elim (around_parent n (context + 24) (word_at n context 0) r.path p u.0 u.1.around) as (λ _. 5 ≤ length (n (word_at n p 3))) [
              | inl z ↦ absurd (ne (u.1.is.parent ∙ z))
              | inr i ↦ subst (λ (q : ℕ). 5 ≤ length (n q)) (sym u.1.is.parent) (u.1.live u.0 (omega (arith, i))).3
            ],
            λ is_black. (depth_of r.path, r.deep is_black, λ g s ge se. lacking n o w1 w_b c is_black r.around new e1 g s ge se),
          ),
    ) where
      ending : (n : Words) (o : Side) (w1 : Shape) → IsBalanced w1 r.height → (c : Bool) → c ≡ true → IsPathBalanced (step side c p (branch side false r.near w r.outer) r.path) (suc r.height) →
          IsShape n context (plug r.path (branch o false w1 p r.part)) → blocks_of (plug r.path (branch o false w1 p r.part)) ≡ xs → Settled n context xs
      ending n o w1 b false e a shape blocks = absurd (differ e) where
        differ : false ≡ true → ⊥
        differ d = cc
      ending n o w1 b true e a shape blocks =
          let q = plug_balanced r.path (branch o false w1 p r.part) (suc r.height) a.3 (balanced_black o w1 p r.part r.height b r.part_balanced) (λ _. red_of-branch o false w1 p r.part) in
          record { tree = plug r.path (branch o false w1 p r.part); height = q.0; shape = shape; black = q.2; balanced = q.1; blocks = blocks }

      hole_is : (n : Words) (up : Path) (o : Side) (c : Bool) (w1 part : Shape) → IsShape n context (plug up (branch o c w1 p part)) → (g : ℕ) (s : Side) → g ≡ word_at n p 3 → (g ≢ 0 → s ≡ side_at n g p) → IsHole up g s
      hole_is n top o c w1 part shape g s ge se = let u = around_of n context top o c w1 p part shape in ge ∙ (u.1.is.parent ∙ u.1.around.1)
      hole_is n (step s' c' x far' up') o c w1 part shape g s ge se =
          let q = read_child n context up' s' c' o c w1 p part x far' shape in
          let gx : g ≡ x = ge ∙ q.1 in
          let x_live = (shape.apart x (hits_here up' s' c' (branch o c w1 p part) x far')).2 in
          (gx, se (λ z. x_live (sym gx ∙ z)) ∙ (ap (λ (y : ℕ). side_at n y p) gx ∙ q.2))

      lacking : (n : Words) (o : Side) (w1 : Shape) → IsBalanced w1 r.height → (c : Bool) → c ≡ false → IsPathBalanced (step side c p (branch side false r.near w r.outer) r.path) (suc r.height) →
          IsShape n context (plug r.path (branch o c w1 p r.part)) → blocks_of (plug r.path (branch o c w1 p r.part)) ≡ xs → (g : ℕ) (s : Side) → g ≡ word_at n p 3 → (g ≢ 0 → s ≡ side_at n g p) → Lacking n context p g s xs (depth_of r.path)
      lacking n o w1 b true e a shape blocks g s ge se = absurd (differ e) where
        differ : true ≡ false → ⊥
        differ d = cc
      lacking n o w1 b false e a shape blocks g s ge se =
          let u = around_of n context r.path o false w1 p r.part shape in
          record {
            path = r.path;
            part = branch o false w1 p r.part;
            height = suc r.height;
            shape = shape;
            lies = Lies-branch n (context + 24) o false w1 p r.part p g (record { at = refl; parent = sym ge; colour = u.1.is.colour; on_side = u.1.is.on_side; on_other = u.1.is.on_other });
            hole = hole_is n r.path o false w1 r.part shape g s ge se;
            balanced = balanced_black o w1 p r.part r.height b r.part_balanced;
            around = a.1;
            blocks = blocks;
            deep = refl;
          }
