-- The steps of a search.
use Rattle.std.proofs.Common.{ℕ, ◌≡◌, ◌≢◌, ◌+◌, ◌*◌, ◌^◌, ◌<◌, ◌≤◌, zero, suc, Bool, true, false, List, [], ◌∷◌, ◌++◌, length, sym, ap, subst, ◌∙◌, refl, arith, inl, inr}
use Rattle.std.specs.Ordering.{nat_cmp, ordering_reverse}
use Rattle.std.specs.Cmp.{IsTotalOrder}
use Rattle.std.specs.Cmp.Lexicographic.{slice_cmp}
use Rattle.std.specs.declared.cmp.Ordering.{Ordering}
use Rattle.std.specs.declared.cmp.Ordering.TheVariants.{Less, Equal, Greater}
use Rattle.std.proofs.lemmas.Cmp.{on_total, then_total, nat_cmp_total, nat_list_cmp_total}
use Rattle.std.proofs.lemmas.Map.Lookups.{exact_unsigned, exact_pairs}
use Rattle.std.proofs.lemmas.List.{length-append}
use Rattle.std.specs.FinMap.{slice_cmp-IsAntisymmetric, nat_cmp-IsAntisymmetric}
use Rattle.zone_region.specs.Words.{Words, word_at}
use Rattle.offset_tree.specs.declared.tree.Tree.{Tree}
use Rattle.offset_tree.specs.declared.tree.Form.{Form}
use Rattle.offset_tree.specs.declared.side.Side.TheVariants.{Left, Right}
use Rattle.offset_tree.specs.Inside.Shape.{Shape, leaf, node, Path, top, step, plug, blocks_of, hits}
use Rattle.zone_region.specs.Members.{In}
use Rattle.offset_tree.specs.Inside.Links.{colour_value, Lies, IsShape}
use Rattle.offset_tree.specs.Inside.Balance.{red_of, IsBalanced, depth_of}
use Rattle.offset_tree.specs.Keys.{Rank, rank_cmp, rank_of, HoldsKey, AllAfter, IsOrdered}
use Rattle.offset_tree.specs.Inside.Trees.{IsDrawn, Searching, Sought}
use Rattle.std.proofs.Math.Nat.{mul-le-mul_right}
use Rattle.offset_tree.proofs.ShapeLemmas.{one-same, hits-plug}
use Rattle.zone_region.proofs.MembersLemmas.{In-append_left, In-append_right, In-append_cases}
use Rattle.offset_tree.proofs.Count.{depth_bound}

pub rank_total : IsTotalOrder rank_cmp
rank_total = then_total (on_total (λ (p : Rank). p.0) nat_cmp_total) (on_total (λ (p : Rank). p.1) nat_list_cmp_total)

pub rank_exact : (a b : Rank) → rank_cmp a b ≡ Equal → a ≡ b
rank_exact a b e = exact_pairs nat_cmp (slice_cmp nat_cmp) exact_unsigned (slice_cmp-IsAntisymmetric nat_cmp-IsAntisymmetric) a b e

reverse_self : (o : Ordering) → o ≡ ordering_reverse o → o ≡ Equal
reverse_self Less e = cc
reverse_self Equal e = refl
reverse_self Greater e = cc

pub rank_self : (a : Rank) → rank_cmp a a ≡ Equal
rank_self a = reverse_self (rank_cmp a a) (rank_total.antisymm a a)

pub rank_after : (a b : Rank) → rank_cmp a b ≡ Less → rank_cmp b a ≡ Greater
rank_after a b e = rank_total.antisymm b a ∙ ap (λ (o : Ordering). ordering_reverse o) e

-- a list in order, split
pub record OrderedAt (m : Words) (f : Form) (xs : List ℕ) (x : ℕ) (ys : List ℕ) : Type 0 where
  pub before : IsOrdered m f xs
  pub after : IsOrdered m f ys
  pub less : (y : ℕ) → In y xs → rank_cmp (rank_of m f y) (rank_of m f x) ≡ Less
  pub more : (y : ℕ) → In y ys → rank_cmp (rank_of m f x) (rank_of m f y) ≡ Less

after_in : (m : Words) (f : Form) (x : ℕ) (ys : List ℕ) (y : ℕ) → AllAfter m f x ys → In y ys → rank_cmp (rank_of m f x) (rank_of m f y) ≡ Less
after_in m f x [] y a i = absurd i
after_in m f x (z ∷ zs) y a i = elim i [ inl e ↦ subst (λ (q : ℕ). rank_cmp (rank_of m f x) (rank_of m f q) ≡ Less) (sym e) a.0 | inr t ↦ after_in m f x zs y a.1 t ]

after_part : (m : Words) (f : Form) (z : ℕ) (xs : List ℕ) (x : ℕ) (ys : List ℕ) → AllAfter m f z (xs ++ x ∷ ys) → AllAfter m f z xs × (rank_cmp (rank_of m f z) (rank_of m f x) ≡ Less)
after_part m f z [] x ys a = (tt, a.0)
after_part m f z (w ∷ ws) x ys a = let r = after_part m f z ws x ys a.1 in ((a.0, r.0), r.1)

pub ordered_at : (m : Words) (f : Form) (xs : List ℕ) (x : ℕ) (ys : List ℕ) → IsOrdered m f (xs ++ x ∷ ys) → OrderedAt m f xs x ys
ordered_at m f [] x ys o = record { before = tt; after = o.1; less = λ y i. absurd i; more = λ y i. after_in m f x ys y o.0 i }
ordered_at m f (z ∷ zs) x ys o =
    let r = ordered_at m f zs x ys o.1 in
    let a = after_part m f z zs x ys o.0 in
    record {
      before = (a.0, r.before);
      after = r.after;
      less = λ y i. elim i [ inl e ↦ subst (λ (q : ℕ). rank_cmp (rank_of m f q) (rank_of m f x) ≡ Less) (sym e) a.1 | inr t ↦ r.less y t ];
      more = r.more;
    }

-- a tree of black height `h` has at least `2 ^ h - 1` blocks
pub blocks_many : (t : Shape) (h : ℕ) → IsBalanced t h → 2 ^ h ≤ length (blocks_of t) + 1
blocks_many leaf h b = subst (λ (k : ℕ). 2 ^ k ≤ 1) (sym b) (omega arith)
blocks_many (node true l x r) h b = omega (arith, blocks_many l h b.2, length-append (blocks_of l) (x ∷ blocks_of r))
blocks_many (node false l x r) zero b = absurd b
blocks_many (node false l x r) (suc h) b = omega (arith, blocks_many l h b.0, blocks_many r h b.1, length-append (blocks_of l) (x ∷ blocks_of r), pow_suc h) where
  pow_suc : (h : ℕ) → 2 ^ suc h ≡ 2 ^ h + 2 ^ h
  pow_suc h = omega arith

pub search_start : (m : Words) (t : Tree) (rank : Rank) (xs : List ℕ) → IsDrawn m t xs → Searching m t rank xs (word_at m t.context.at 0) 0
search_start m t rank xs h = record {
  path = top;
  part = h.settled.tree;
  height = h.settled.height;
  parent = 0;
  shape = h.settled.shape;
  lies = h.settled.shape.lies;
  deep = refl;
  balanced = h.settled.balanced;
  ordered = subst (λ (ys : List ℕ). IsOrdered m t.form ys) (sym h.settled.blocks) h.ordered;
  within = λ x i. subst (λ (ys : List ℕ). In x ys) h.settled.blocks i;
  all = λ x i e. subst (λ (ys : List ℕ). In x ys) (sym h.settled.blocks) i;
}

-- at the sentinel nothing is left
pub search_none : (m : Words) (t : Tree) (rank : Rank) (xs : List ℕ) (at round : ℕ) → Searching m t rank xs at round → at ≡ t.context.at + 24 → (x : ℕ) → In x xs → rank_of m t.form x ≢ rank
search_none m t rank xs at round s e x i same = go s.part (s.all x i same) s.lies s.shape where
  go : (p : Shape) → In x (blocks_of p) → Lies m (t.context.at + 24) p at s.parent → IsShape m t.context.at (plug s.path p) → ⊥
  go leaf j l h = j
  go (node c a y b) j l h = let there : 0 < hits y (plug s.path (node c a y b)) = omega (arith, hits-plug y s.path (node c a y b), one-same y y refl) in (h.apart y there).1 (sym l.0 ∙ e)

-- a node at hand
pub record AtNode (m : Words) (t : Tree) (rank : Rank) (xs : List ℕ) (at round : ℕ) : Type 0 where
  pub path : Path
  pub red : Bool
  pub left : Shape
  pub right : Shape
  pub height : ℕ
  pub shape : IsShape m t.context.at (plug path (node red left at right))
  pub left_lies : Lies m (t.context.at + 24) left (word_at m at 1) at
  pub right_lies : Lies m (t.context.at + 24) right (word_at m at 2) at
  pub deep : depth_of path ≡ round
  pub balanced : IsBalanced (node red left at right) height
  pub ordered : IsOrdered m t.form (blocks_of (node red left at right))
  pub within : (x : ℕ) → In x (blocks_of (node red left at right)) → In x xs
  pub all : (x : ℕ) → In x xs → rank_of m t.form x ≡ rank → In x (blocks_of (node red left at right))

pub at_node : (m : Words) (t : Tree) (rank : Rank) (xs : List ℕ) (at round : ℕ) (s : Searching m t rank xs at round) → at ≢ t.context.at + 24 → (n : AtNode m t rank xs at round) × (n.height ≡ s.height) × (n.red ≡ red_of s.part)
at_node m t rank xs at round s ne = go s.part s.shape s.lies s.balanced s.ordered s.within s.all where
  go : (p : Shape) → IsShape m t.context.at (plug s.path p) → Lies m (t.context.at + 24) p at s.parent → IsBalanced p s.height → IsOrdered m t.form (blocks_of p) → ((x : ℕ) → In x (blocks_of p) → In x xs) →
      ((x : ℕ) → In x xs → rank_of m t.form x ≡ rank → In x (blocks_of p)) → (n : AtNode m t rank xs at round) × (n.height ≡ s.height) × (n.red ≡ red_of p)
  go leaf h l b o w a = absurd (ne l)
  go (node c d y e) h l b o w a =
      let made = λ (q : ℕ) (i : q ≡ y). let r : AtNode m t rank xs q round = record {
        path = s.path;
        red = c;
        left = d;
        right = e;
        height = s.height;
        shape = subst (λ (z : ℕ). IsShape m t.context.at (plug s.path (node c d z e))) (sym i) h;
        left_lies = subst (λ (z : ℕ). Lies m (t.context.at + 24) d (word_at m z 1) z) (sym i) l.3;
        right_lies = subst (λ (z : ℕ). Lies m (t.context.at + 24) e (word_at m z 2) z) (sym i) l.4;
        deep = s.deep;
        balanced = subst (λ (z : ℕ). IsBalanced (node c d z e) s.height) (sym i) b;
        ordered = subst (λ (z : ℕ). IsOrdered m t.form (blocks_of (node c d z e))) (sym i) o;
        within = subst (λ (z : ℕ). (x : ℕ) → In x (blocks_of (node c d z e)) → In x xs) (sym i) w;
        all = subst (λ (z : ℕ). (x : ℕ) → In x xs → rank_of m t.form x ≡ rank → In x (blocks_of (node c d z e))) (sym i) a;
      } in r in
      (made at l.0, refl, refl)

pub found_here : (m : Words) (t : Tree) (rank : Rank) (xs : List ℕ) (at round : ℕ) → AtNode m t rank xs at round → rank_cmp rank (rank_of m t.form at) ≡ Equal → In at xs × (rank_of m t.form at ≡ rank)
found_here m t rank xs at round n e = (n.within at (In-append_right at (blocks_of n.left) (at ∷ blocks_of n.right) (inl refl)), sym (rank_exact rank (rank_of m t.form at) e))

-- the black height of a child, and how much of the bound one node takes
pub child_balanced : (c : Bool) (a : Shape) (x : ℕ) (b : Shape) (h : ℕ) → IsBalanced (node c a x b) h →
    (k : ℕ) × IsBalanced a k × IsBalanced b k × (2 * k + colour_value (red_of a) + 1 ≤ 2 * h + colour_value c) × (2 * k + colour_value (red_of b) + 1 ≤ 2 * h + colour_value c)
child_balanced true a x b h r = (h, r.2, r.3, omega (arith, ap (λ q. colour_value q) r.0), omega (arith, ap (λ q. colour_value q) r.1))
child_balanced false a x b zero r = absurd r
child_balanced false a x b (suc h) r = (h, r.0, r.1, omega (arith, small (red_of a)), omega (arith, small (red_of b))) where
  small : (q : Bool) → colour_value q ≤ 1
  small true = omega arith
  small false = omega arith

pub record Goes (m : Words) (t : Tree) (rank : Rank) (xs : List ℕ) (at round bound : ℕ) : Type 0 where
  pub search : Searching m t rank xs at round
  pub bounded : 2 * search.height + colour_value (red_of search.part) + 1 ≤ bound

pub goes_left : (m : Words) (t : Tree) (rank : Rank) (xs : List ℕ) (at round : ℕ) (n : AtNode m t rank xs at round) → rank_cmp rank (rank_of m t.form at) ≡ Less → Goes m t rank xs (word_at m at 1) (round + 1) (2 * n.height + colour_value n.red)
goes_left m t rank xs at round n less =
    let b = child_balanced n.red n.left at n.right n.height n.balanced in
    let o = ordered_at m t.form (blocks_of n.left) at (blocks_of n.right) n.ordered in
    record {
      search = record {
        path = step Left n.red at n.right n.path;
        part = n.left;
        height = b.0;
        parent = at;
        shape = n.shape;
        lies = n.left_lies;
        deep = omega (arith, n.deep);
        balanced = b.1;
        ordered = o.before;
        within = λ x i. n.within x (In-append_left x (blocks_of n.left) (at ∷ blocks_of n.right) i);
        all = λ x i e. elim (In-append_cases x (blocks_of n.left) (at ∷ blocks_of n.right) (n.all x i e)) [
          | inl l ↦ l
          | inr r ↦ elim r [
            | inl same ↦ absurd (less_equal (sym less ∙ (ap (λ q. rank_cmp q (rank_of m t.form at)) (sym e) ∙ (ap (λ (z : ℕ). rank_cmp (rank_of m t.form z) (rank_of m t.form at)) same ∙ rank_self (rank_of m t.form at)))))
            | inr later ↦ absurd (less_greater (sym less ∙ rank_after (rank_of m t.form at) rank (subst (λ q. rank_cmp (rank_of m t.form at) q ≡ Less) e (o.more x later))))
          ]
        ];
      };
      bounded = b.3;
    } where
      less_equal : Less ≡ Equal → ⊥
      less_equal e = cc

      less_greater : Less ≡ Greater → ⊥
      less_greater e = cc

pub goes_right : (m : Words) (t : Tree) (rank : Rank) (xs : List ℕ) (at round : ℕ) (n : AtNode m t rank xs at round) → rank_cmp rank (rank_of m t.form at) ≡ Greater → Goes m t rank xs (word_at m at 2) (round + 1) (2 * n.height + colour_value n.red)
goes_right m t rank xs at round n greater =
    let b = child_balanced n.red n.left at n.right n.height n.balanced in
    let o = ordered_at m t.form (blocks_of n.left) at (blocks_of n.right) n.ordered in
    record {
      search = record {
        path = step Right n.red at n.left n.path;
        part = n.right;
        height = b.0;
        parent = at;
        shape = n.shape;
        lies = n.right_lies;
        deep = omega (arith, n.deep);
        balanced = b.2;
        ordered = o.after;
        within = λ x i. n.within x (In-append_right x (blocks_of n.left) (at ∷ blocks_of n.right) (inr i));
        all = λ x i e. elim (In-append_cases x (blocks_of n.left) (at ∷ blocks_of n.right) (n.all x i e)) [
          | inl l ↦ absurd (less_greater (sym (o.less x l) ∙ (ap (λ q. rank_cmp q (rank_of m t.form at)) e ∙ greater)))
          | inr r ↦ elim r [
            | inl same ↦ absurd (equal_greater (sym (rank_self (rank_of m t.form at)) ∙ (ap (λ (z : ℕ). rank_cmp (rank_of m t.form z) (rank_of m t.form at)) (sym same) ∙ (ap (λ q. rank_cmp q (rank_of m t.form at)) e ∙ greater))))
            | inr later ↦ later
          ]
        ];
      };
      bounded = b.4;
    } where
      less_greater : Less ≡ Greater → ⊥
      less_greater e = cc

      equal_greater : Equal ≡ Greater → ⊥
      equal_greater e = cc

pub search_bound : (m : Words) (t : Tree) (rank : Rank) (xs : List ℕ) (at round : ℕ) → Searching m t rank xs at round → round ≤ 2 ^ 63
search_bound m t rank xs at round s = subst (λ (d : ℕ). d ≤ 2 ^ 63) s.deep (depth_bound m t.context.at s.path s.part s.shape)

pub sought_start : (m : Words) (t : Tree) (rank : Rank) (xs : List ℕ) (at start now unit : ℕ) (h : IsDrawn m t xs) → at ≡ word_at m t.context.at 0 → now ≡ start + 1 → Sought m t rank xs h.settled.height at 0 start now unit
unfolding search_start
sought_start m t rank xs at start now unit h e paid =
    subst (λ (q : ℕ). Sought m t rank xs h.settled.height q 0 start now unit) (sym e) (record {
      search = search_start m t rank xs h;
      paid = let black : colour_value (red_of h.settled.tree) ≡ 0 = ap (λ q. colour_value q) h.settled.black in
          subst (λ (q : ℕ). now + (2 * h.settled.height + q) * unit ≤ start + 1 + 2 * h.settled.height * unit) (sym black) (omega (arith, paid));
    })

spent : (bound here part unit now new start most : ℕ) → part + 1 ≤ bound → bound ≡ here → now + here * unit ≤ start + 1 + most → new ≤ now + unit → new + part * unit ≤ start + 1 + most
spent bound here part unit now new start most small e paid cost =
    let h : (part + 1) * unit ≤ bound * unit = mul-le-mul_right unit small in
    let g : bound * unit ≡ here * unit = ap (λ (q : ℕ). q * unit) e in
    omega (arith, h, g, paid, cost)

pub sought_left : (m : Words) (t : Tree) (rank : Rank) (xs : List ℕ) (height at round start now unit next new : ℕ) → Sought m t rank xs height at round start now unit → at ≢ t.context.at + 24 →
    rank_cmp rank (rank_of m t.form at) ≡ Less → next ≡ word_at m at 1 → new ≤ now + unit → Sought m t rank xs height next (round + 1) start new unit
sought_left m t rank xs height at round start now unit next new s ne less e cost =
    let n = at_node m t rank xs at round s.search ne in
    let go = goes_left m t rank xs at round n.0 less in
    subst (λ (q : ℕ). Sought m t rank xs height q (round + 1) start new unit) (sym e) (record {
      search = go.search;
      paid = spent (2 * n.0.height + colour_value n.0.red) (2 * s.search.height + colour_value (red_of s.search.part)) _ unit now new start (2 * height * unit) go.bounded
          (ap (λ (k : ℕ). 2 * k + colour_value n.0.red) n.1 ∙ ap (λ (c : Bool). 2 * s.search.height + colour_value c) n.2) s.paid cost;
    })

pub sought_right : (m : Words) (t : Tree) (rank : Rank) (xs : List ℕ) (height at round start now unit next new : ℕ) → Sought m t rank xs height at round start now unit → at ≢ t.context.at + 24 →
    rank_cmp rank (rank_of m t.form at) ≡ Greater → next ≡ word_at m at 2 → new ≤ now + unit → Sought m t rank xs height next (round + 1) start new unit
sought_right m t rank xs height at round start now unit next new s ne greater e cost =
    let n = at_node m t rank xs at round s.search ne in
    let go = goes_right m t rank xs at round n.0 greater in
    subst (λ (q : ℕ). Sought m t rank xs height q (round + 1) start new unit) (sym e) (record {
      search = go.search;
      paid = spent (2 * n.0.height + colour_value n.0.red) (2 * s.search.height + colour_value (red_of s.search.part)) _ unit now new start (2 * height * unit) go.bounded
          (ap (λ (k : ℕ). 2 * k + colour_value n.0.red) n.1 ∙ ap (λ (c : Bool). 2 * s.search.height + colour_value c) n.2) s.paid cost;
    })

-- what is still to pay covers one node more
pub sought_here : (m : Words) (t : Tree) (rank : Rank) (xs : List ℕ) (height at round start now unit new : ℕ) → Sought m t rank xs height at round start now unit → at ≢ t.context.at + 24 → new ≤ now + unit → new ≤ start + 1 + 2 * height * unit
sought_here m t rank xs height at round start now unit new s ne cost =
    let n = at_node m t rank xs at round s.search ne in
    let b = child_balanced n.0.red n.0.left at n.0.right n.0.height n.0.balanced in
    omega (
      arith,
      spent (2 * n.0.height + colour_value n.0.red) (2 * s.search.height + colour_value (red_of s.search.part)) _ unit now new start (2 * height * unit) b.3
          (ap (λ (k : ℕ). 2 * k + colour_value n.0.red) n.1 ∙ ap (λ (c : Bool). 2 * s.search.height + colour_value c) n.2) s.paid cost,
    )

pub sought_room : (m : Words) (t : Tree) (rank : Rank) (xs : List ℕ) (at round : ℕ) → IsDrawn m t xs → Searching m t rank xs at round → at ≢ t.context.at + 24 → HoldsKey m t.form at
sought_room m t rank xs at round h s ne =
    let n = (at_node m t rank xs at round s ne).0 in
    h.keys at (n.within at (In-append_right at (blocks_of n.left) (at ∷ blocks_of n.right) (inl refl)))

pub found_at : (m : Words) (t : Tree) (rank : Rank) (xs : List ℕ) (at round : ℕ) → Searching m t rank xs at round → at ≢ t.context.at + 24 → rank_cmp rank (rank_of m t.form at) ≡ Equal → In at xs × (rank_of m t.form at ≡ rank)
found_at m t rank xs at round s ne e = found_here m t rank xs at round (at_node m t rank xs at round s ne).0 e

pub tree_height : (m : Words) (t : Tree) (xs : List ℕ) (h : IsDrawn m t xs) → 2 ^ h.settled.height ≤ length xs + 1
tree_height m t xs h = subst (λ (ys : List ℕ). 2 ^ h.settled.height ≤ length ys + 1) h.settled.blocks (blocks_many h.settled.tree h.settled.height h.settled.balanced)
