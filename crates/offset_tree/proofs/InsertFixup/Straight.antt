-- A conflict whose uncle is black is turned away.
use Rattle.std.proofs.Common.{ℕ, ◌≡◌, suc, true, false, List, sym, ap, subst, ◌∙◌, refl}
use Rattle.zone_region.specs.Words.{Words}
use Rattle.offset_tree.specs.declared.side.Side.{Side}
use Rattle.offset_tree.specs.Inside.Sides.{other_of}
use Rattle.offset_tree.specs.Inside.Shape.{Shape, branch, step, plug, blocks_of, before_turn, after_turn}
use Rattle.offset_tree.specs.Inside.Links.{IsShape}
use Rattle.offset_tree.specs.Inside.Moves.{Turn, unturned, turned, Spot, shape_at, recoloured}
use Rattle.offset_tree.specs.Inside.Balance.{red_of, IsBalanced, Settled}
use Rattle.offset_tree.specs.Inside.InsertFixup.{Conflict, Straight}
use Rattle.offset_tree.proofs.ShapeLemmas.{blocks_of-branch, blocks_of-plug, blocks_of-turn}
use Rattle.offset_tree.proofs.BalanceLemmas.{branch-flip, red_of-branch, balanced_red, balanced_black, red_balanced, plug_balanced}
use Rattle.offset_tree.proofs.NodeLemmas.{to_side}

-- a conflict that needs no turn
pub straight_there : (m : Words) (context x p g : ℕ) (side : Side) (xs : List ℕ) (depth : ℕ) (c : Conflict m context x p g side xs depth) →
    red_of c.uncle ≡ false → c.x_side ≡ side → Straight m context p g side xs
straight_there m context x p g side xs depth c black same =
    let low = branch c.low_side true c.near x c.far in
    record {
      path = c.path;
      outer = low;
      inner = c.beside;
      uncle = c.uncle;
      height = c.height;
      shape = subst (λ (s : Side). IsShape m context (plug c.path (branch side false (branch s true low p c.beside) g c.uncle))) same c.shape;
      outer_balanced = c.balanced;
      inner_black = c.beside_black;
      inner_balanced = c.beside_balanced;
      uncle_black = black;
      uncle_balanced = c.uncle_balanced;
      around = c.around;
      blocks = subst (λ (s : Side). blocks_of (plug c.path (branch side false (branch s true low p c.beside) g c.uncle)) ≡ xs) same c.blocks;
    }

-- a conflict across: where it is turned, and what stands after the turn
pub across : (m : Words) (context x p g : ℕ) (side : Side) (xs : List ℕ) (depth : ℕ) (c : Conflict m context x p g side xs depth) → red_of c.uncle ≡ false → c.x_side ≡ other_of side →
    (u : Turn) × IsShape m context (unturned u side p) × (blocks_of (unturned u side p) ≡ xs) × ((n : Words) → IsShape n context (turned u side p) → Straight n context x g side xs)
across m context x p g side xs depth c black e =
    let k = step side false g c.uncle c.path in
    let low = branch c.low_side true c.near x c.far in
    let w = to_side side c.low_side true c.near x c.far in
    let part : branch c.x_side true low p c.beside ≡ branch side true c.beside p (branch side true w.0 x w.1) =
    ap (λ (q : Side). branch q true low p c.beside) e ∙ (branch-flip side true low p c.beside ∙ ap (λ t. branch side true c.beside p t) w.2) in
    let shape = subst (λ (t : Shape). IsShape m context (plug k t)) part c.shape in
    let blocks = subst (λ (t : Shape). blocks_of (plug k t) ≡ xs) part c.blocks in
    let low_b = red_balanced side w.0 x w.1 c.height (subst (λ (t : Shape). IsBalanced t c.height) w.2 c.balanced) in
    let turn = after_turn side true true c.beside p w.0 x w.1 in
    let kept : blocks_of turn ≡ blocks_of (before_turn side true true c.beside p w.0 x w.1) =
    blocks_of-turn side true true c.beside p w.0 x w.1 ∙ ap (λ t. blocks_of t) (branch-flip side true (branch side true w.0 x w.1) p c.beside) in (
      record { path = k; red = true; child_red = true; near = c.beside; inner = w.0; child = x; outer = w.1 },
      shape,
      blocks,
      λ n new. record {
        path = c.path;
        outer = branch side true c.beside p w.0;
        inner = w.1;
        uncle = c.uncle;
        height = c.height;
        shape = new;
        outer_balanced = balanced_red side c.beside p w.0 c.height c.beside_black low_b.0 c.beside_balanced low_b.2;
        inner_black = low_b.1;
        inner_balanced = low_b.3;
        uncle_black = black;
        uncle_balanced = c.uncle_balanced;
        around = c.around;
        blocks = blocks_of-plug k turn (before_turn side true true c.beside p w.0 x w.1) kept ∙ blocks;
      },
    )

-- where a straight conflict is painted and turned
pub straight_spots : (m : Words) (context p g : ℕ) (side : Side) (xs : List ℕ) (s : Straight m context p g side xs) →
    (u : Spot) × IsShape m context (shape_at u p) × (blocks_of (shape_at u p) ≡ xs) × ((n : Words) → IsShape n context (recoloured u p false) →
    (v : Spot) × IsShape n context (shape_at v g) × (blocks_of (shape_at v g) ≡ xs) × ((n' : Words) → IsShape n' context (recoloured v g true) →
    (w : Turn) × IsShape n' context (unturned w (other_of side) g) × (blocks_of (unturned w (other_of side) g) ≡ xs) × ((n'' : Words) → IsShape n'' context (turned w (other_of side) g) → Settled n'' context xs)))
straight_spots m context p g side xs s =
    let k = step side false g s.uncle s.path in
    let t0 = branch side true s.outer p s.inner in
    let t1 = branch side false s.outer p s.inner in
    let e1 : blocks_of (plug k t1) ≡ xs = blocks_of-plug k t1 t0 (blocks_of-branch side false true s.outer s.outer p s.inner refl) ∙ s.blocks in
    let g1 = branch side false t1 g s.uncle in
    let g2 = branch side true t1 g s.uncle in
    let e2 : blocks_of (plug s.path g2) ≡ xs = blocks_of-plug s.path g2 g1 (blocks_of-branch side true false t1 t1 g s.uncle refl) ∙ e1 in
    let o = other_of side in
    let before = before_turn o true false s.uncle g s.inner p s.outer in
    let after = after_turn o true false s.uncle g s.inner p s.outer in
    let flipped : g2 ≡ before = ap (λ t. branch side true t g s.uncle) (sym (branch-flip side false s.inner p s.outer)) ∙ sym (branch-flip side true s.uncle g (branch o false s.inner p s.outer)) in
    let e3 : blocks_of (plug s.path before) ≡ xs = subst (λ (t : Shape). blocks_of (plug s.path t) ≡ xs) flipped e2 in
    let kept : blocks_of after ≡ blocks_of before = blocks_of-turn o true false s.uncle g s.inner p s.outer ∙ ap (λ t. blocks_of t) (branch-flip o true (branch o false s.inner p s.outer) g s.uncle) in
    let inner_b = balanced_red o s.uncle g s.inner s.height s.uncle_black s.inner_black s.uncle_balanced s.inner_balanced in
    let after_b = balanced_black o (branch o true s.uncle g s.inner) p s.outer s.height inner_b s.outer_balanced in
    let whole = plug_balanced s.path after (suc s.height) s.around after_b (λ _. red_of-branch o false (branch o true s.uncle g s.inner) p s.outer) in (
      record { path = k; side = side; red = true; near = s.outer; far = s.inner },
      s.shape,
      s.blocks,
      λ n new. (
        record { path = s.path; side = side; red = false; near = t1; far = s.uncle },
        new,
        e1,
        λ n' new'. (
          record { path = s.path; red = true; child_red = false; near = s.uncle; inner = s.inner; child = p; outer = s.outer },
          subst (λ (t : Shape). IsShape n' context (plug s.path t)) flipped new',
          e3,
          λ n'' new''. record { tree = plug s.path after; height = whole.0; shape = new''; black = whole.2; balanced = whole.1; blocks = blocks_of-plug s.path after before kept ∙ e3 },
        ),
      ),
    )
