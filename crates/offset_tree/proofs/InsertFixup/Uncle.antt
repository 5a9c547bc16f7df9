-- A conflict whose uncle is red is lifted to the grandparent.
use Rattle.std.proofs.Common.{ℕ, ◌≡◌, ◌≢◌, ◌+◌, ◌<◌, ◌≤◌, suc, true, false, List, sym, ap, subst, ◌∙◌, refl, arith, length}
use Rattle.zone_region.specs.Words.{Words, word_at}
use Rattle.offset_tree.specs.declared.side.Side.{Side}
use Rattle.offset_tree.specs.declared.side.Side.TheVariants.{Left, Right}
use Rattle.offset_tree.specs.Inside.Sides.{child_word, other_of}
use Rattle.offset_tree.specs.Inside.Shape.{Shape, leaf, node, branch, Path, step, plug, blocks_of, hits}
use Rattle.offset_tree.specs.Inside.Links.{Lies, IsShape, red_at}
use Rattle.offset_tree.specs.Inside.Moves.{Spot, shape_at, recoloured}
use Rattle.offset_tree.specs.Inside.Balance.{red_of, IsBalanced, IsPathBalanced, depth_of}
use Rattle.offset_tree.specs.Inside.InsertFixup.{Rising, Conflict, RedUncle}
use Rattle.offset_tree.proofs.SideLemmas.{read_at}
use Rattle.offset_tree.proofs.ShapeLemmas.{blocks_of-branch, blocks_of-plug}
use Rattle.offset_tree.proofs.Writes.{hits_root}
use Rattle.offset_tree.proofs.Paints.{around_of, red_at_is}
use Rattle.offset_tree.proofs.BalanceLemmas.{branch-flip, red_of-branch, balanced_red, balanced_black}

-- the three colours of a red uncle
pub lifted : (n : Words) (context p v g : ℕ) (xs : List ℕ) (depth : ℕ) (k : Path) (side x_side : Side) (low beside left right : Shape) (h : ℕ) →
    IsShape n context (plug k (branch (other_of side) true (node false left v right) g (branch x_side false low p beside))) →
    IsBalanced low h → IsBalanced beside h → IsBalanced (node true left v right) h → IsPathBalanced k (suc h) →
    blocks_of (plug k (branch side false (branch x_side true low p beside) g (node true left v right))) ≡ xs → suc (suc (depth_of k)) ≡ depth →
    (d : ℕ) × (suc (suc d) ≡ depth) × Rising n context g xs d
lifted n context p v g xs depth k side x_side low beside left right h shape low_b beside_b uncle_b around blocks deep =
    let low' = branch x_side false low p beside in
    let v' = node false left v right in
    let old = branch side false (branch x_side true low p beside) g (node true left v right) in
    let new = branch (other_of side) true v' g low' in
    let same : blocks_of new ≡ blocks_of old =
    ap (λ t. blocks_of t) (branch-flip side true v' g low')
    ∙ blocks_far side low' v' in (
      depth_of k,
      deep,
      record {
        path = k;
        side = other_of side;
        near = v';
        far = low';
        height = suc h;
        shape = shape;
        balanced = balanced_red (other_of side) v' g low' (suc h) refl (red_of-branch x_side false low p beside) (uncle_b.2, uncle_b.3) (balanced_black x_side low p beside h low_b beside_b);
        around = around;
        blocks = blocks_of-plug k new old same ∙ blocks;
        deep = refl;
      },
    ) where
      blocks_far : (s : Side) (low' v' : Shape) → blocks_of (branch s true (branch x_side false low p beside) g (node false left v right)) ≡ blocks_of (branch s false (branch x_side true low p beside) g (node true left v right))
      blocks_far Left a b = blocks_of-branch Left true false (branch x_side false low p beside) (branch x_side true low p beside) g (node false left v right) (blocks_of-branch x_side false true low low p beside refl)
      blocks_far Right a b = blocks_of-branch Right true false (branch x_side false low p beside) (branch x_side true low p beside) g (node false left v right) (blocks_of-branch x_side false true low low p beside refl)

-- where a red uncle is painted
pub uncle_spots : (m : Words) (context p v g : ℕ) (xs : List ℕ) (depth : ℕ) (r : RedUncle m context p v g xs depth) →
    (a : Spot) × IsShape m context (shape_at a p) × (blocks_of (shape_at a p) ≡ xs) × ((n : Words) → IsShape n context (recoloured a p false) →
    (b : Spot) × IsShape n context (shape_at b v) × (blocks_of (shape_at b v) ≡ xs) × ((n' : Words) → IsShape n' context (recoloured b v false) →
    (c : Spot) × IsShape n' context (shape_at c g) × (blocks_of (shape_at c g) ≡ xs) × ((n'' : Words) → IsShape n'' context (recoloured c g true) →
    (d : ℕ) × (suc (suc d) ≡ depth) × Rising n'' context g xs d)))
uncle_spots m context p v g xs depth r =
    let uncle = node true r.left v r.right in
    let uncle' = node false r.left v r.right in
    let k = step r.side false g uncle r.path in
    let p0 = branch r.x_side true r.low p r.beside in
    let p1 = branch r.x_side false r.low p r.beside in
    let e1 : blocks_of (plug k p1) ≡ xs = blocks_of-plug k p1 p0 (blocks_of-branch r.x_side false true r.low r.low p r.beside refl) ∙ r.blocks in
    let o = other_of r.side in
    let k2 = step o false g p1 r.path in
    let flip1 : branch r.side false p1 g uncle ≡ branch o false uncle g p1 = sym (branch-flip r.side false uncle g p1) in
    let e2 : blocks_of (plug k2 uncle) ≡ xs = subst (λ (t : Shape). blocks_of (plug r.path t) ≡ xs) flip1 e1 in
    let e3 : blocks_of (plug k2 uncle') ≡ xs = blocks_of-plug k2 uncle' uncle refl ∙ e2 in (
      record { path = k; side = r.x_side; red = true; near = r.low; far = r.beside },
      r.shape,
      r.blocks,
      λ n new. (
        record { path = k2; side = Left; red = true; near = r.left; far = r.right },
        subst (λ (t : Shape). IsShape n context (plug r.path t)) flip1 new,
        e2,
        λ n' new'. (
          record { path = r.path; side = o; red = false; near = uncle'; far = p1 },
          new',
          e3,
          λ n'' new''. lifted n'' context p v g xs depth r.path r.side r.x_side r.low r.beside r.left r.right r.height new'' r.low_balanced r.beside_balanced r.uncle_balanced r.around r.blocks r.deep,
        ),
      ),
    )

-- the uncle that the code reads
pub uncle_read : (m : Words) (context x p g : ℕ) (side : Side) (xs : List ℕ) (depth : ℕ) (c : Conflict m context x p g side xs depth) →
    Lies m (context + 24) c.uncle (word_at m g (child_word (other_of side))) g × ((z : ℕ) → 0 < hits z c.uncle → z ≢ context + 24)
uncle_read m context x p g side xs depth c =
    let u = around_of m context c.path side false (branch c.x_side true (branch c.low_side true c.near x c.far) p c.beside) g c.uncle c.shape in
    (u.1.is.on_other, λ z i. (u.1.live z (omega (arith, i))).1)

-- a red uncle
pub red_uncle : (m : Words) (context x p v g : ℕ) (side : Side) (xs : List ℕ) (depth : ℕ) (c : Conflict m context x p g side xs depth) → v ≡ word_at m g (child_word (other_of side)) → red_of c.uncle ≡ true →
    RedUncle m context p v g xs depth
red_uncle m context x p v g side xs depth c at red =
    let low = branch c.low_side true c.near x c.far in
    go c.uncle (subst (λ (q : ℕ). Lies m (context + 24) c.uncle q g) (sym at) (uncle_read m context x p g side xs depth c).0) red c.shape c.uncle_balanced c.blocks where
      go : (u : Shape) → Lies m (context + 24) u v g → red_of u ≡ true → IsShape m context (plug c.path (branch side false (branch c.x_side true (branch c.low_side true c.near x c.far) p c.beside) g u)) → IsBalanced u c.height →
          blocks_of (plug c.path (branch side false (branch c.x_side true (branch c.low_side true c.near x c.far) p c.beside) g u)) ≡ xs → RedUncle m context p v g xs depth
      go leaf l r shape b e = absurd (differ r) where
        differ : false ≡ true → ⊥
        differ d = cc
      go (node false a z d) l r shape b e = absurd (differ r) where
        differ : false ≡ true → ⊥
        differ d = cc
      go (node true a z d) l r shape b e =
          let low = branch c.low_side true c.near x c.far in
          let made = λ (q : ℕ) (i : q ≡ z). let res : RedUncle m context p q g xs depth = record {
            path = c.path;
            side = side;
            x_side = c.x_side;
            low = low;
            beside = c.beside;
            left = a;
            right = d;
            height = c.height;
            shape = subst (λ (w : ℕ). IsShape m context (plug c.path (branch side false (branch c.x_side true low p c.beside) g (node true a w d)))) (sym i) shape;
            low_balanced = c.balanced;
            beside_balanced = c.beside_balanced;
            uncle_balanced = b;
            around = c.around;
            blocks = subst (λ (w : ℕ). blocks_of (plug c.path (branch side false (branch c.x_side true low p c.beside) g (node true a w d))) ≡ xs) (sym i) e;
            deep = c.deep;
          } in res in
          made v l.0

pub uncle_room : (m : Words) (context x p g v : ℕ) (side : Side) (xs : List ℕ) (depth : ℕ) → Conflict m context x p g side xs depth → v ≡ word_at m g (child_word (other_of side)) → v ≢ context + 24 → 5 ≤ length (m v)
uncle_room m context x p g v side xs depth c at live =
    let u = around_of m context c.path side false (branch c.x_side true (branch c.low_side true c.near x c.far) p c.beside) g c.uncle c.shape in
    let i = hits_root m (context + 24) c.uncle v g (subst (λ (q : ℕ). Lies m (context + 24) c.uncle q g) (sym at) u.1.is.on_other) live in
    (u.1.live v (omega (arith, i))).3

-- the uncle's colour
pub uncle_colour : (m : Words) (context x p g v : ℕ) (side : Side) (xs : List ℕ) (depth : ℕ) (c : Conflict m context x p g side xs depth) → v ≡ word_at m g (child_word (other_of side)) → red_at m (context + 24) v ≡ red_of c.uncle
uncle_colour m context x p g v side xs depth c at =
    let r = uncle_read m context x p g side xs depth c in
    red_at_is m (context + 24) c.uncle v g r.1 (subst (λ (q : ℕ). Lies m (context + 24) c.uncle q g) (sym at) r.0)

-- the uncle, as the code reads it on the other side
pub uncle_room_at : (m : Words) (context x p g : ℕ) (side : Side) (xs : List ℕ) (depth : ℕ) (c : Conflict m context x p g side xs depth) (f : Side) (v : ℕ) →
    f ≡ other_of side → v ≡ word_at m g (child_word f) → v ≢ context + 24 → 5 ≤ length (m v)
uncle_room_at m context x p g side xs depth c f v e at live = uncle_room m context x p g v side xs depth c (read_at m g v f (other_of side) e at) live

pub red_uncle_at : (m : Words) (context x p g : ℕ) (side : Side) (xs : List ℕ) (depth : ℕ) (c : Conflict m context x p g side xs depth) (f : Side) (v : ℕ) →
    f ≡ other_of side → v ≡ word_at m g (child_word f) → red_at m (context + 24) v ≡ true → RedUncle m context p v g xs depth
red_uncle_at m context x p g side xs depth c f v e at red =
    let r = read_at m g v f (other_of side) e at in red_uncle m context x p v g side xs depth c r (sym (uncle_colour m context x p g v side xs depth c r) ∙ red)

pub black_uncle_at : (m : Words) (context x p g : ℕ) (side : Side) (xs : List ℕ) (depth : ℕ) (c : Conflict m context x p g side xs depth) (f : Side) (v : ℕ) →
    f ≡ other_of side → v ≡ word_at m g (child_word f) → red_at m (context + 24) v ≡ false → red_of c.uncle ≡ false
black_uncle_at m context x p g side xs depth c f v e at black = sym (uncle_colour m context x p g v side xs depth c (read_at m g v f (other_of side) e at)) ∙ black
