-- A red sibling is turned up.
use Rattle.std.proofs.Common.{ℕ, ◌≡◌, ◌≤◌, true, false, List, sym, ap, subst, ◌∙◌, refl, length}
use Rattle.zone_region.specs.Words.{Words}
use Rattle.offset_tree.specs.declared.side.Side.{Side}
use Rattle.offset_tree.specs.Inside.Sides.{other_of}
use Rattle.offset_tree.specs.Inside.Shape.{Shape, branch, step, plug, blocks_of, before_turn, after_turn}
use Rattle.offset_tree.specs.Inside.Links.{IsShape}
use Rattle.offset_tree.specs.Inside.Moves.{Turn, unturned, turned, Spot, shape_at, recoloured}
use Rattle.offset_tree.proofs.ShapeLemmas.{blocks_of-branch, blocks_of-plug, blocks_of-turn}
use Rattle.offset_tree.proofs.BalanceLemmas.{branch-flip, red_of-branch, balanced_black}
use Rattle.offset_tree.specs.Inside.DeleteFixup.{RedSibling, BlackSibling}
use Rattle.offset_tree.proofs.NodeLemmas.{black_node, hits_here}

-- the red sibling is painted and turned up
pub calm_spots : (m : Words) (context p w : ℕ) (side : Side) (xs : List ℕ) (depth : ℕ) (r : RedSibling m context p w side xs) →
    (a : Spot) × IsShape m context (shape_at a w) × (blocks_of (shape_at a w) ≡ xs) × ((n : Words) → IsShape n context (recoloured a w false) →
    (b : Spot) × IsShape n context (shape_at b p) × (blocks_of (shape_at b p) ≡ xs) × ((n' : Words) → IsShape n' context (recoloured b p true) →
    (u : Turn) × IsShape n' context (unturned u side p) × (blocks_of (unturned u side p) ≡ xs) × ((n'' : Words) → IsShape n'' context (turned u side p) → (v : ℕ) × BlackSibling n'' context p v side xs depth)))
calm_spots m context p w side xs depth r =
    let o = other_of side in
    let w0 = branch side true r.near w r.outer in
    let w1 = branch side false r.near w r.outer in
    let k = step o false p r.part r.path in
    let flip0 : branch side false r.part p w0 ≡ branch o false w0 p r.part = sym (branch-flip side false w0 p r.part) in
    let e0 = subst (λ (t : Shape). blocks_of (plug r.path t) ≡ xs) flip0 r.blocks in
    let e1 : blocks_of (plug k w1) ≡ xs = blocks_of-plug k w1 w0 (blocks_of-branch side false true r.near r.near w r.outer refl) ∙ e0 in
    let p1 = branch o false w1 p r.part in
    let p2 = branch o true w1 p r.part in
    let e2 : blocks_of (plug r.path p2) ≡ xs = blocks_of-plug r.path p2 p1 (blocks_of-branch o true false w1 w1 p r.part refl) ∙ e1 in
    let before = before_turn side true false r.part p r.near w r.outer in
    let after = after_turn side true false r.part p r.near w r.outer in
    let flip2 : p2 ≡ before = branch-flip side true w1 p r.part in
    let e3 = subst (λ (t : Shape). blocks_of (plug r.path t) ≡ xs) flip2 e2 in
    let kept : blocks_of after ≡ blocks_of before = blocks_of-turn side true false r.part p r.near w r.outer ∙ ap (λ t. blocks_of t) (branch-flip side true (branch side false r.near w r.outer) p r.part) in
    let e4 : blocks_of (plug r.path after) ≡ xs = blocks_of-plug r.path after before kept ∙ e3 in
    let n = black_node side r.near r.height r.near_black r.near_balanced in
    let up = step side false w r.outer r.path in (
      record { path = k; side = side; red = true; near = r.near; far = r.outer },
      subst (λ (t : Shape). IsShape m context (plug r.path t)) flip0 r.shape,
      e0,
      λ n1 new1. (
        record { path = r.path; side = o; red = false; near = w1; far = r.part },
        new1,
        e1,
        λ n2 new2. (
          record { path = r.path; red = true; child_red = false; near = r.part; inner = r.near; child = w; outer = r.outer },
          subst (λ (t : Shape). IsShape n2 context (plug r.path t)) flip2 new2,
          e3,
          λ n3 new3. (
            n.at,
            record {
              path = up;
              red = true;
              part = r.part;
              near = n.near;
              outer = n.outer;
              height = r.height;
              shape = subst (λ (t : Shape). IsShape n3 context (plug up (branch side true r.part p t))) n.is new3;
              part_balanced = r.part_balanced;
              near_balanced = n.near_balanced;
              outer_balanced = n.outer_balanced;
              around = (red_of-branch side false n.near n.at n.outer, balanced_black side n.near n.at n.outer r.height n.near_balanced n.outer_balanced, refl, (r.outer_balanced, r.around));
              blocks = subst (λ (t : Shape). blocks_of (plug up (branch side true r.part p t)) ≡ xs) n.is e4;
              deep = λ e. absurd (true_false e);
            },
          ),
        ),
      ),
    ) where
      true_false : true ≡ false → ⊥
      true_false e = cc

pub red_sibling_room : (m : Words) (context p w : ℕ) (side : Side) (xs : List ℕ) → RedSibling m context p w side xs → 5 ≤ length (m p)
red_sibling_room m context p w side xs r = r.shape.room p (hits_here r.path side false r.part p (branch side true r.near w r.outer))
