-- From the layout of a list of blocks to a drawn tree, and back.
use Rattle.std.proofs.Common.{ℕ, ◌≡◌, ◌≢◌, ◌+◌, ◌^◌, ◌<◌, ◌≤◌, zero, suc, Bool, true, false, List, [], ◌∷◌, ◌++◌, length, sym, ap, subst, ◌∙◌, refl, arith, inl, inr}
use Rattle.zone_region.specs.Words.{Words, word_at}
use Rattle.offset_tree.specs.declared.tree.Tree.{Tree}
use Rattle.zone_region.specs.Members.{In, IsDistinct}
use Rattle.zone_region.specs.Holding.{HoldsBlocks}
use Rattle.zone_region.proofs.HoldingLemmas.{holds_some, holds_kept, holds_one}
use Rattle.offset_tree.specs.Keys.{Rank, IsOrdered}
use Rattle.offset_tree.specs.Layout.{LaysPart, empty, red, black, LaysTree, IsContext, HasNodes, IsTree, CanInsert}
use Rattle.offset_tree.specs.Changes.{MakesEmpty}
use Rattle.offset_tree.specs.Inside.Shape.{Shape, leaf, node, blocks_of, hits}
use Rattle.offset_tree.specs.Inside.Links.{Lies}
use Rattle.offset_tree.specs.Inside.Balance.{red_of, IsBalanced, Settled}
use Rattle.offset_tree.specs.Inside.Trees.{IsDrawn}
use Rattle.offset_tree.specs.Inside.Inserting.{IsInsertable}
use Rattle.offset_tree.proofs.Frames.{hits_in}
use Rattle.offset_tree.proofs.TimesLemmas.{times, times-distinct, hits-times}

-- a drawn tree that lies as the blocks do
pub record Drawing (m : Words) (nil : ℕ) (xs : List ℕ) (o p : ℕ) (c : Bool) (h : ℕ) : Type 0 where
  pub tree : Shape
  pub lies : Lies m nil tree o p
  pub colour : red_of tree ≡ c
  pub balanced : IsBalanced tree h
  pub blocks : blocks_of tree ≡ xs

joined : (l r : Shape) (o : ℕ) (xs ys : List ℕ) → blocks_of l ≡ xs → blocks_of r ≡ ys → blocks_of l ++ o ∷ blocks_of r ≡ xs ++ o ∷ ys
joined l r o xs ys e f = ap (λ zs. zs ++ o ∷ blocks_of r) e ∙ ap (λ zs. xs ++ o ∷ zs) f

pub drawing : (m : Words) (nil : ℕ) {xs : List ℕ} {o p : ℕ} {c : Bool} {h : ℕ} → LaysPart m nil xs o p c h → Drawing m nil xs o p c h
drawing m nil empty = record { tree = leaf; lies = refl; colour = refl; balanced = refl; blocks = refl }
drawing m nil (red {before = xs} {after = ys} {o = o} parent colour left right) =
    let l = drawing m nil left in
    let r = drawing m nil right in
    record { tree = node true l.tree o r.tree; lies = (refl, parent, colour, l.lies, r.lies); colour = refl; balanced = (l.colour, r.colour, l.balanced, r.balanced); blocks = joined l.tree r.tree o xs ys l.blocks r.blocks }
drawing m nil (black {before = xs} {after = ys} {o = o} parent colour left right) =
    let l = drawing m nil left in
    let r = drawing m nil right in
    record { tree = node false l.tree o r.tree; lies = (refl, parent, colour, l.lies, r.lies); colour = refl; balanced = (l.balanced, r.balanced); blocks = joined l.tree r.tree o xs ys l.blocks r.blocks }

pub undrawn : (m : Words) (nil : ℕ) (t : Shape) (o p h : ℕ) → Lies m nil t o p → IsBalanced t h → LaysPart m nil (blocks_of t) o p (red_of t) h
undrawn m nil leaf o p h l b = subst (λ (q : ℕ). LaysPart m nil [] q p false h) (sym l) (subst (λ (k : ℕ). LaysPart m nil [] nil p false k) (sym b) empty)
undrawn m nil (node true a x b) o p h l q =
    let left = subst (λ (c : Bool). LaysPart m nil (blocks_of a) (word_at m x 1) x c h) q.0 (undrawn m nil a (word_at m x 1) x h l.3 q.2) in
    let right = subst (λ (c : Bool). LaysPart m nil (blocks_of b) (word_at m x 2) x c h) q.1 (undrawn m nil b (word_at m x 2) x h l.4 q.3) in
    subst (λ (k : ℕ). LaysPart m nil (blocks_of a ++ x ∷ blocks_of b) k p true h) (sym l.0) (red l.1 l.2 left right)
undrawn m nil (node false a x b) o p zero l q = absurd q
undrawn m nil (node false a x b) o p (suc h) l q =
    subst (λ (k : ℕ). LaysPart m nil (blocks_of a ++ x ∷ blocks_of b) k p false (suc h)) (sym l.0)
    (black l.1 l.2 (undrawn m nil a (word_at m x 1) x h l.3 q.0) (undrawn m nil b (word_at m x 2) x h l.4 q.1))

-- a block that doesn't overlap the context is neither its beginning nor the sentinel
away : (m : Words) (t : Tree) (xs : List ℕ) → HoldsBlocks m (t.context.at ∷ xs) → HasNodes m t xs → (x : ℕ) → In x xs → (x ≢ t.context.at) × (x ≢ t.context.at + 24) × (x ≢ 0)
away m t xs h r x i =
    let differs : x ≢ t.context.at = λ e. h.distinct.0 (subst (λ (q : ℕ). In q xs) e i) in
    let room = (r.nodes x i).links in
    (differs, λ e. elim (h.apart x t.context.at (inr i) (inl refl) differs) [ inl a ↦ omega (arith, a, e, room) | inr b ↦ omega (arith, b, e, r.context) ], λ e. omega (arith, h.above x (inr i), e))

low_enough : (m : Words) (t : Tree) (xs : List ℕ) → HoldsBlocks m (t.context.at ∷ xs) → HasNodes m t xs → (x : ℕ) → In x xs → x < 2 ^ 63
low_enough m t xs h r x i = omega (arith, h.below x (inr i), (r.nodes x i).links)

pub ends_of : (m : Words) (t : Tree) (xs : List ℕ) → HoldsBlocks m (t.context.at ∷ xs) → HasNodes m t xs → t.context.at + 64 ≤ 2 ^ 63
ends_of m t xs h r = omega (arith, h.below t.context.at (inl refl), r.context)

pub drawn : (m : Words) (t : Tree) (xs : List ℕ) → IsTree m t xs → IsDrawn m t xs
drawn m t xs h =
    let d = drawing m (t.context.at + 24) h.lays.lies in
    let member = λ (z : ℕ) (i : 0 < hits z d.tree). elim (hits_in z d.tree) as (λ _. In z xs) [ inl none ↦ absurd (omega (arith, i, none)) | inr j ↦ subst (λ (ys : List ℕ). In z ys) d.blocks j ] in
    let once = λ (z : ℕ). let e = ap (λ ys. times z ys) d.blocks in let r : hits z d.tree ≤ 1 = omega (arith, e, hits-times z d.tree, times-distinct z xs h.holds.distinct.1) in r in
    record {
      settled = record {
        tree = d.tree;
        height = h.lays.height;
        shape = record {
          head = h.room.context;
          room = λ z i. (h.room.nodes z (member z i)).links;
          tidy = once;
          apart = λ z i. away m t xs h.holds h.room z (member z i);
          below = λ z i. low_enough m t xs h.holds h.room z (member z i);
          lies = d.lies;
        };
        black = d.colour;
        balanced = d.balanced;
        blocks = d.blocks;
      };
      ordered = h.lays.ordered;
      keys = h.room.nodes;
      ends = ends_of m t xs h.holds h.room;
    }

pub lays_of : (m : Words) (t : Tree) (xs : List ℕ) → Settled m t.context.at xs → IsOrdered m t.form xs → LaysTree m t xs
lays_of m t xs s o =
    let nil = t.context.at + 24 in
    let root = word_at m t.context.at 0 in
    let l = undrawn m nil s.tree root 0 s.height s.shape.lies s.balanced in
    let l' = subst (λ (c : Bool). LaysPart m nil (blocks_of s.tree) root 0 c s.height) s.black l in
    record { height = s.height; lies = subst (λ (ys : List ℕ). LaysPart m nil ys root 0 false s.height) s.blocks l'; ordered = o }

-- blocks that were held are held with other words, if they keep their lengths
pub held_same : (m n : Words) (context : ℕ) (xs ys : List ℕ) → HoldsBlocks m (context ∷ xs) → ((z : ℕ) → length (n z) ≡ length (m z)) → ((y : ℕ) → In y ys → In y xs) → IsDistinct (context ∷ ys) → HoldsBlocks n (context ∷ ys)
held_same m n context xs ys h same more distinct =
    holds_some n (context ∷ xs) (context ∷ ys) distinct (λ y i. elim i [ inl e ↦ inl e | inr j ↦ inr (more y j) ]) (holds_kept m n (context ∷ xs) (λ z i. same z) h)

-- the tree before a block is put in
pub tree_of : (m : Words) (t : Tree) (b : ℕ) (key xs : List ℕ) → CanInsert m t b key xs → IsTree m t xs
tree_of m t b key xs c = record {
  holds = held_same m m t.context.at (b ∷ xs) xs c.holds (λ z. refl) (λ y i. inr i) (λ i. c.holds.distinct.0 (inr i), c.holds.distinct.1.1);
  room = record { context = c.room.context; nodes = λ y i. c.room.nodes y (inr i) };
  lays = c.lays;
}

pub insertable : (m : Words) (t : Tree) (b : ℕ) (key xs : List ℕ) → CanInsert m t b key xs → IsInsertable m t b key xs
insertable m t b key xs c = record {
  tree = drawn m t xs (tree_of m t b key xs c);
  room = c.room.nodes b (inl refl);
  new = c.holds.distinct.1.0;
  apart = away m t (b ∷ xs) c.holds c.room b (inl refl);
  below = low_enough m t (b ∷ xs) c.holds c.room b (inl refl);
  key_is = c.key_is;
  other = λ x i e. c.other x i (e ∙ ap (λ (k : List ℕ). let q : Rank = (word_at m b 0, k) in q) (sym c.key_is));
}

-- the empty tree
pub made_empty : (m n : Words) (t : Tree) → IsContext m t → MakesEmpty m n t.context.at → IsTree n t []
made_empty m n t h e = record {
  holds = holds_kept m n (t.context.at ∷ []) (λ x i. e.lengths x) (holds_one m t.context.at (omega (arith, h.room)) h.above h.below);
  room = record { context = omega (arith, e.lengths t.context.at, h.room); nodes = λ x none. absurd none };
  lays = record {
    height = 0;
    lies = subst (λ (o : ℕ). LaysPart n (t.context.at + 24) [] o 0 false 0) (sym e.root) empty;
    ordered = tt;
  };
}
