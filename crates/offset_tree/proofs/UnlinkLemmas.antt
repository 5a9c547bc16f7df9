-- A block with an empty side is taken out: its other child takes its place.
use Rattle.std.proofs.Common.{ℕ, ◌≡◌, ◌≢◌, ◌⊎◌, ◌+◌, ◌<◌, ◌≤◌, zero, suc, Bool, true, false, List, sym, ap, subst, ◌∙◌, refl, arith, length, get_or, get_or-set_same, get_or-set_other, inl, inr}
use Rattle.std.proofs.lemmas.Bool.{cases_eq}
use Rattle.zone_region.specs.Words.{Words, word_at}
use Rattle.offset_tree.specs.declared.side.Side.{Side}
use Rattle.offset_tree.specs.declared.side.Side.TheVariants.{Left, Right}
use Rattle.offset_tree.specs.Inside.Sides.{child_word, other_of}
use Rattle.offset_tree.specs.Inside.Shape.{Shape, leaf, branch, Path, top, step, plug, one, hits, hits_path, blocks_of, IsHole}
use Rattle.offset_tree.specs.Inside.Links.{Lies, LiesAround, IsShape, SetsParent, Replaces, side_at, red_at}
use Rattle.offset_tree.specs.Inside.Balance.{red_of, IsBalanced, IsPathBalanced, depth_of, Settled}
use Rattle.offset_tree.specs.Inside.DeleteFixup.{Lacking, OneSided}
use Rattle.offset_tree.specs.Changes.{ChangesNodes}
use Rattle.offset_tree.proofs.Frames.{nodes_changed, tree_changed_twice, changes_parent, changes_slot}
use Rattle.offset_tree.proofs.ShapeLemmas.{one-same, hits-branch, hits-plug}
use Rattle.offset_tree.proofs.LiesLemmas.{same_word, LiesAround-same, Lies-plug, Lies-reparent}
use Rattle.offset_tree.proofs.Writes.{parent_length, replace_length, replace_other, hits_root, replaced}
use Rattle.offset_tree.proofs.Paints.{around_of, red_at-number}
use Rattle.offset_tree.proofs.TurnLemmas.{around_parent}
use Rattle.offset_tree.proofs.BalanceLemmas.{plug_balanced, placed_balanced}
use Rattle.offset_tree.proofs.NodeLemmas.{hits_here, read_child}

pub unlinked : (l m n : Words) (context : ℕ) (k : Path) (s : Side) (c : Bool) (y : ℕ) (b : Shape) (v p : ℕ) → IsShape l context (plug k (branch s c leaf y b)) →
    v ≡ word_at l y (child_word (other_of s)) → p ≡ word_at l y 3 → SetsParent l m (context + 24) v p → Replaces m n context p y v → IsShape n context (plug k b) × Lies n (context + 24) b v p
unlinked l m n context k s c y b v p h ve pe sp re =
    let nil = context + 24 in
    let u = around_of l context k s c leaf y b h in
    let around0 = subst (λ (q : ℕ). LiesAround l nil (word_at l context 0) k y q) (sym u.1.is.parent ∙ sym pe) u.1.around in
    let b_at = subst (λ (q : ℕ). Lies l nil b q y) (sym ve) u.1.is.on_other in
    let yy = one-same y y refl in
    let live_y = u.1.live y (omega (arith, yy)) in
    let apart_v = λ (z : ℕ) (none : hits z b ≡ 0). elim (cases_eq v nil) as (λ _. (z ≢ v) ⊎ (v ≡ nil)) [
      | inl e ↦ inr e
      | inr ne ↦ inl (λ q. let j = hits_root l nil b v y b_at ne in let i : 0 < hits z b = subst (λ (r : ℕ). 0 < hits r b) (sym q) j in omega (arith, none, i))
    ] in
    let not_p = λ (z : ℕ) (i : 0 < hits z b + one z y). let r : z ≢ p = λ e. elim (around_parent l nil (word_at l context 0) k y p around0) [
      | inl q ↦ (u.1.live z (omega (arith, i))).2 (e ∙ q)
      | inr j ↦ let j' : 0 < hits_path z k = subst (λ (q : ℕ). 0 < hits_path q k) (sym e) j in omega (arith, i, j', u.1.tidy z)
    ] in r in
    let context_v : (context ≢ v) ⊎ (v ≡ nil) = elim (cases_eq v nil) [
      | inl e ↦ inr e
      | inr ne ↦ inl (λ q. let j = hits_root l nil b v y b_at ne in (u.1.live v (omega (arith, j))).0 (sym q))
    ] in
    let lengths1 = λ (z : ℕ). parent_length l m nil v p z sp in
    let lengths = λ (z : ℕ). replace_length m n context p y v z re ∙ lengths1 z in
    let root_m : word_at m context 0 ≡ word_at l context 0 = same_word l m context 0 (sp.others context context_v) in
    let around1 = subst (λ (q : ℕ). LiesAround m nil q k y p) (sym root_m) (LiesAround-same l m nil (word_at l context 0) k y p (λ z i. sp.others z (apart_v z (omega (arith, i, u.1.tidy z)))) around0) in
    let around = replaced m n nil context k y p v (λ z. omega (arith, u.1.tidy z))
    (λ z i. let w = u.1.live z (omega (arith, i)) in (w.0, w.2, omega (arith, lengths1 z, w.3))) (omega (arith, lengths1 context, h.head)) live_y.1 (omega (arith, u.1.tidy y, yy)) re around1 in
    let other = λ (z : ℕ) (i : 0 < hits z b). replace_other m n context p y v z re (u.1.live z (omega (arith, i))).0 (not_p z (omega (arith, i))) in
    let lies = Lies-reparent l n nil b v y p (λ z. omega (arith, u.1.tidy z)) (λ z i ne. other z i ∙ sp.others z (inl ne))
    (λ i.
    let w = u.1.live v (omega (arith, i)) in
    let at : n v ≡ _ = other v i ∙ sp.here w.1 in
    let word = λ (j : ℕ) (ne : j ≢ 3). ap (λ (ws : List ℕ). get_or ws j 0) at ∙ get_or-set_other (l v) 3 j p 0 ne in
    (word 1 (λ q. omega (arith, q)), word 2 (λ q. omega (arith, q)), ap (λ (ws : List ℕ). get_or ws 3 0) at ∙ get_or-set_same (l v) 3 p 0 (omega (arith, w.3)), word 4 (λ q. omega (arith, q)))) b_at in
    let count = λ (z : ℕ). let q : hits z (plug k (branch s c leaf y b)) ≡ hits z (plug k b) + one z y = omega (arith, hits-plug z k (branch s c leaf y b), hits-plug z k b, hits-branch z s c leaf y b) in q in (
      record {
        head = omega (arith, lengths context, h.head);
        room = λ z i. omega (arith, lengths z, h.room z (omega (arith, count z, i)));
        tidy = λ z. omega (arith, count z, h.tidy z);
        apart = λ z i. h.apart z (omega (arith, count z, i));
        below = λ z i. h.below z (omega (arith, count z, i));
        lies = Lies-plug n nil (word_at n context 0) k b v p around lies;
      },
      lies,
    )

-- the place that is left, by its parent and side
pub hole_left : (m : Words) (context : ℕ) (k : Path) (s : Side) (c : Bool) (a : Shape) (y : ℕ) (b : Shape) (p : ℕ) (side : Side) → IsShape m context (plug k (branch s c a y b)) → p ≡ word_at m y 3 → (p ≢ 0 → side ≡ side_at m p y) → IsHole k p side
hole_left m context top s c a y b p side h e se = let u = around_of m context top s c a y b h in e ∙ (u.1.is.parent ∙ u.1.around.1)
hole_left m context (step s' c' x far up) s c a y b p side h e se =
    let q = read_child m context up s' c' s c a y b x far h in
    let px : p ≡ x = e ∙ q.1 in
    let x_live = (h.apart x (hits_here up s' c' (branch s c a y b) x far)).2 in
    (px, se (λ z. x_live (sym px ∙ z)) ∙ (ap (λ (w : ℕ). side_at m w y) px ∙ q.2))

-- a red block that is taken out leaves all well; a black one leaves its place one black block short
only_child : (s : Side) (c : Bool) (y : ℕ) (b : Shape) (h : ℕ) → IsBalanced (branch s c leaf y b) h → ((c ≡ true) × (red_of b ≡ false) × IsBalanced b h) ⊎ ((c ≡ false) × (g : ℕ) × (h ≡ suc g) × IsBalanced b g)
only_child Left true y b h q = inl (refl, q.1, q.3)
only_child Right true y b h q = inl (refl, q.0, q.2)
only_child Left false y b zero q = absurd q
only_child Left false y b (suc g) q = inr (refl, g, refl, q.1)
only_child Right false y b zero q = absurd q
only_child Right false y b (suc g) q = inr (refl, g, refl, q.0)

pub after_unlink : (l n : Words) (context : ℕ) (k : Path) (s : Side) (c : Bool) (y : ℕ) (b : Shape) (v p : ℕ) (side : Side) (xs : List ℕ) (g : ℕ) →
    IsBalanced (plug k (branch s c leaf y b)) g → red_of (plug k (branch s c leaf y b)) ≡ false → IsHole k p side → IsShape n context (plug k b) → Lies n (context + 24) b v p → blocks_of (plug k b) ≡ xs →
    (c ≡ true → Settled n context xs) × (c ≡ false → Lacking n context v p side xs (depth_of k))
after_unlink l n context k s c y b v p side xs g balanced black hole shape lies blocks =
    let q = placed_balanced k (branch s c leaf y b) g balanced black in
    elim (only_child s c y b q.0 q.2) [
      | inl r ↦ (
        λ _. let w = plug_balanced k b q.0 q.1 r.2 (λ _. r.1) in record { tree = plug k b; height = w.0; shape = shape; black = w.2; balanced = w.1; blocks = blocks },
        λ e. absurd (differ (sym e ∙ r.0)),
      )
      | inr r ↦ (
        λ e. absurd (differ (sym r.0 ∙ e)),
        λ _. record {
          path = k;
          part = b;
          height = r.1;
          shape = shape;
          lies = lies;
          hole = hole;
          balanced = r.3;
          around = subst (λ (h : ℕ). IsPathBalanced k h) r.2 q.1;
          blocks = blocks;
          deep = refl;
        },
      )
    ] where
      differ : false ≡ true → ⊥
      differ e = cc

pub record SidedReads (m : Words) (context y : ℕ) (side : Side) (xs : List ℕ) (o : OneSided m context y side xs) : Type 0 where
  pub room : 5 ≤ length (m y)
  pub parent_room : word_at m y 3 ≢ 0 → 5 ≤ length (m (word_at m y 3))
  pub rest_room : word_at m y (child_word (other_of side)) ≢ context + 24 → 5 ≤ length (m (word_at m y (child_word (other_of side))))
  pub colour : red_at m (context + 24) y ≡ o.red

pub sided_reads : (m : Words) (context y : ℕ) (side : Side) (xs : List ℕ) (o : OneSided m context y side xs) → SidedReads m context y side xs o
sided_reads m context y side xs o =
    let u = around_of m context o.path side o.red leaf y o.rest o.shape in
    let live = u.1.live y (omega (arith, one-same y y refl)) in
    record {
      room = live.3;
      parent_room = λ ne. elim (around_parent m (context + 24) (word_at m context 0) o.path y u.0 u.1.around) as (λ _. 5 ≤ length (m (word_at m y 3))) [
        | inl z ↦ absurd (ne (u.1.is.parent ∙ z))
        | inr i ↦ subst (λ (q : ℕ). 5 ≤ length (m q)) (sym u.1.is.parent) (u.1.live u.0 (omega (arith, i))).3
      ];
      rest_room = λ ne. (u.1.live (word_at m y (child_word (other_of side))) (let i = hits_root m (context + 24) o.rest (word_at m y (child_word (other_of side))) y u.1.is.on_other ne in omega (arith, i))).3;
      colour = red_at-number m (context + 24) y o.red live.1 u.1.is.colour;
    }

pub read_room : (m : Words) (q x : ℕ) (e : ℕ) → q ≡ x → (x ≢ e → 5 ≤ length (m x)) → q ≢ e → 5 ≤ length (m q)
read_room m q x e same room ne = subst (λ (z : ℕ). 5 ≤ length (m z)) (sym same) (room (λ z. ne (same ∙ z)))

pub taken_out : (l m n : Words) (context y : ℕ) (side far hole : Side) (xs : List ℕ) (v p : ℕ) (o : OneSided l context y side xs) → far ≡ other_of side → v ≡ word_at l y (child_word far) → p ≡ word_at l y 3 → (p ≢ 0 → hole ≡ side_at l p y) →
    SetsParent l m (context + 24) v p → Replaces m n context p y v → (o.red ≡ true → Settled n context xs) × (o.red ≡ false → Lacking n context v p hole xs (depth_of o.path)) × ChangesNodes l n context xs
taken_out l m n context y side far hole xs v p o e ve pe he sp re =
    let nil = context + 24 in
    let at = ve ∙ ap (λ (s : Side). word_at l y (child_word s)) e in
    let u = unlinked l m n context o.path side o.red y o.rest v p o.shape at pe sp re in
    let w = after_unlink l n context o.path side o.red y o.rest v p hole xs o.height o.balanced o.black (hole_left l context o.path side o.red leaf y o.rest p hole o.shape pe he) u.0 u.1 o.blocks in
    let a = around_of l context o.path side o.red leaf y o.rest o.shape in
    let t = plug o.path o.rest in
    let around0 = subst (λ (q : ℕ). LiesAround l nil (word_at l context 0) o.path y q) (sym a.1.is.parent ∙ sym pe) a.1.around in
    let rest_at = subst (λ (q : ℕ). Lies l nil o.rest q y) (sym at) a.1.is.on_other in
    let v_there = λ (ne : v ≢ nil). let i = hits_root l nil o.rest v y rest_at ne in let r : 0 < hits v t = omega (arith, i, hits-plug v o.path o.rest) in r in
    let v_away : v ≢ context = λ q. elim (cases_eq v nil) [ inl z ↦ omega (arith, z, q) | inr ne ↦ (u.0.apart v (v_there ne)).0 q ] in
    let p_there = λ (ne : p ≢ 0). elim (around_parent l nil (word_at l context 0) o.path y p around0) as (λ _. (p ≢ context) × (0 < hits p t)) [
      | inl z ↦ absurd (ne z)
      | inr i ↦ let r : 0 < hits p t = omega (arith, i, hits-plug p o.path o.rest) in ((u.0.apart p r).0, r)
    ] in
    (w.0, w.1, nodes_changed l n context t xs o.blocks (tree_changed_twice l m n context t (changes_parent l m context t v p v_away v_there sp) (changes_slot m n context t p y v p_there re)))
