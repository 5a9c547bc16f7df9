-- Nodes of a drawn tree by a side, and what is read of them.
use Rattle.std.proofs.Common.{ℕ, ◌≡◌, ◌⊎◌, ◌+◌, ◌<◌, suc, Bool, true, false, sym, ap, subst, ◌∙◌, refl, arith, inl, inr}
use Rattle.zone_region.specs.Words.{Words, word_at}
use Rattle.offset_tree.specs.declared.side.Side.{Side}
use Rattle.offset_tree.specs.declared.side.Side.TheVariants.{Left, Right}
use Rattle.offset_tree.specs.Inside.Sides.{child_word, other_of}
use Rattle.offset_tree.specs.Inside.Shape.{Shape, leaf, node, branch, Path, plug, hits}
use Rattle.offset_tree.specs.Inside.Links.{Lies, IsShape, side_at}
use Rattle.offset_tree.specs.Inside.Balance.{red_of, IsBalanced}
use Rattle.offset_tree.proofs.ShapeLemmas.{one-same, hits-branch, hits-plug}
use Rattle.offset_tree.proofs.LiesLemmas.{branch_of}
use Rattle.offset_tree.proofs.Paints.{around_of, side_at_is}
use Rattle.offset_tree.proofs.BalanceLemmas.{branch-flip}

-- a block stands in the tree that it is put in
pub hits_here : (k : Path) (s : Side) (c : Bool) (near : Shape) (x : ℕ) (far : Shape) → 0 < hits x (plug k (branch s c near x far))
hits_here k s c near x far = omega (arith, hits-plug x k (branch s c near x far), hits-branch x s c near x far, one-same x x refl)

-- what the code reads of a child: its place and its parent
pub read_child : (m : Words) (context : ℕ) (k : Path) (s : Side) (c : Bool) (s' : Side) (c' : Bool) (a : Shape) (x : ℕ) (b : Shape) (p : ℕ) (far : Shape) →
    IsShape m context (plug k (branch s c (branch s' c' a x b) p far)) → (word_at m p (child_word s) ≡ x) × (word_at m x 3 ≡ p) × (side_at m p x ≡ s)
read_child m context k s c s' c' a x b p far h =
    let u = around_of m context k s c (branch s' c' a x b) p far h in
    let v = branch_of m (context + 24) s' c' a x b (word_at m p (child_word s)) p u.1.is.on_side in
    let x_there : 0 < hits x (branch s' c' a x b) = omega (arith, hits-branch x s' c' a x b, one-same x x refl) in
    let alone : hits x far ≡ 0 = omega (arith, u.1.tidy x, x_there) in
    (v.at, v.parent, side_at_is m (context + 24) s c (branch s' c' a x b) p far x p u.0 (u.1.live x (omega (arith, x_there))).1 alone v.at u.1.is)

pub same_or_other : (s t : Side) → (t ≡ s) ⊎ (t ≡ other_of s)
same_or_other Left Left = inl refl
same_or_other Left Right = inr refl
same_or_other Right Left = inr refl
same_or_other Right Right = inl refl

-- the children of a node by another side
pub to_side : (s t : Side) (c : Bool) (near : Shape) (x : ℕ) (far : Shape) → (a : Shape) × (b : Shape) × (branch t c near x far ≡ branch s c a x b)
to_side s t c near x far = elim (same_or_other s t) [
  | inl e ↦ (near, far, ap (λ (q : Side). branch q c near x far) e)
  | inr e ↦ (far, near, ap (λ (q : Side). branch q c near x far) e ∙ branch-flip s c near x far)
]

-- nodes by a side
pub record BlackNode (s : Side) (t : Shape) (h : ℕ) : Type 0 where
  pub near : Shape
  pub at : ℕ
  pub outer : Shape
  pub is : t ≡ branch s false near at outer
  pub near_balanced : IsBalanced near h
  pub outer_balanced : IsBalanced outer h

pub black_node : (s : Side) (t : Shape) (h : ℕ) → red_of t ≡ false → IsBalanced t (suc h) → BlackNode s t h
black_node s leaf h r b = absurd (omega (arith, b))
black_node s (node true a x d) h r b = absurd (differ r) where
  differ : true ≡ false → ⊥
  differ e = cc
black_node Left (node false a x d) h r b = record { near = a; at = x; outer = d; is = refl; near_balanced = b.0; outer_balanced = b.1 }
black_node Right (node false a x d) h r b = record { near = d; at = x; outer = a; is = refl; near_balanced = b.1; outer_balanced = b.0 }

pub record RedNode (s : Side) (t : Shape) (h : ℕ) : Type 0 where
  pub near : Shape
  pub at : ℕ
  pub outer : Shape
  pub is : t ≡ branch s true near at outer
  pub near_black : red_of near ≡ false
  pub outer_black : red_of outer ≡ false
  pub near_balanced : IsBalanced near h
  pub outer_balanced : IsBalanced outer h

pub red_node : (s : Side) (t : Shape) (h : ℕ) → red_of t ≡ true → IsBalanced t h → RedNode s t h
red_node s leaf h r b = absurd (differ r) where
  differ : false ≡ true → ⊥
  differ e = cc
red_node s (node false a x d) h r b = absurd (differ r) where
  differ : false ≡ true → ⊥
  differ e = cc
red_node Left (node true a x d) h r b = record { near = a; at = x; outer = d; is = refl; near_black = b.0; outer_black = b.1; near_balanced = b.2; outer_balanced = b.3 }
red_node Right (node true a x d) h r b = record { near = d; at = x; outer = a; is = refl; near_black = b.1; outer_black = b.0; near_balanced = b.3; outer_balanced = b.2 }

pub record RedNodeAt (s : Side) (t : Shape) (v h : ℕ) : Type 0 where
  pub near : Shape
  pub outer : Shape
  pub is : t ≡ branch s true near v outer
  pub near_black : red_of near ≡ false
  pub outer_black : red_of outer ≡ false
  pub near_balanced : IsBalanced near h
  pub outer_balanced : IsBalanced outer h

pub red_node_at : (m : Words) (nil : ℕ) (s : Side) (t : Shape) (v p h : ℕ) → red_of t ≡ true → IsBalanced t h → Lies m nil t v p → RedNodeAt s t v h
red_node_at m nil s t v p h r b l =
    let q = red_node s t h r b in
    let e = (branch_of m nil s true q.near q.at q.outer v p (subst (λ (u : Shape). Lies m nil u v p) q.is l)).at in
    record { near = q.near; outer = q.outer; is = q.is ∙ ap (λ (z : ℕ). branch s true q.near z q.outer) (sym e); near_black = q.near_black; outer_black = q.outer_black; near_balanced = q.near_balanced; outer_balanced = q.outer_balanced }

pub bool_cases : (b : Bool) → (b ≡ true) ⊎ (b ≡ false)
bool_cases true = inl refl
bool_cases false = inr refl
