-- The steps of a removal.
use Rattle.std.proofs.Common.{ℕ, ◌≡◌, ◌≢◌, ◌+◌, ◌^◌, ◌<◌, ◌≤◌, zero, suc, Bool, true, false, List, [], ◌∷◌, ◌++◌, length, sym, ap, subst, ◌∙◌, refl, arith, inl, inr, append_assoc}
use Rattle.std.proofs.lemmas.List.{append-nil}
use Rattle.zone_region.specs.Words.{Words, word_at}
use Rattle.offset_tree.specs.declared.side.Side.TheVariants.{Left, Right}
use Rattle.offset_tree.specs.Inside.Shape.{Shape, leaf, node, Path, top, step, plug, blocks_of, hits}
use Rattle.zone_region.specs.Members.{In}
use Rattle.offset_tree.specs.Inside.Links.{Lies, IsShape, SetsParent, Replaces, red_at}
use Rattle.offset_tree.specs.Inside.Balance.{red_of, IsBalanced, Settled}
use Rattle.offset_tree.specs.Inside.DeleteFixup.{OneSided}
use Rattle.offset_tree.proofs.BalanceLemmas.{placed_balanced, plug_balanced}
use Rattle.offset_tree.specs.Inside.Attaching.{IsFresh, Filled}
use Rattle.offset_tree.specs.Inside.Removing.{Seat, seated, Leftward}
use Rattle.offset_tree.proofs.ShapeLemmas.{one-same, hits-plug}
use Rattle.zone_region.proofs.MembersLemmas.{In-append_left, In-append_right, In-append_cases, In-more}
use Rattle.offset_tree.proofs.TimesLemmas.{times, times-append, hits-times}
use Rattle.offset_tree.proofs.Writes.{hits_root}
use Rattle.offset_tree.proofs.Paints.{around_of, red_at-number}
use Rattle.offset_tree.proofs.TurnLemmas.{around_parent}
use Rattle.offset_tree.proofs.Count.{depth_bound}
use Rattle.offset_tree.proofs.SubstituteLemmas.{substituted, substituted_changes}
use Rattle.offset_tree.specs.Changes.{ChangesNodes}
use Rattle.offset_tree.proofs.Frames.{nodes_more}

-- the rooms that are read and written
pub record SeatRooms (m : Words) (context x y : ℕ) (u : Seat) : Type 0 where
  pub x_room : 5 ≤ length (m x)
  pub left_room : word_at m x 1 ≢ context + 24 → 5 ≤ length (m (word_at m x 1))
  pub right_room : word_at m x 2 ≢ context + 24 → 5 ≤ length (m (word_at m x 2))
  pub parent_room : word_at m x 3 ≢ 0 → 5 ≤ length (m (word_at m x 3))
  pub colour : red_at m (context + 24) x ≡ u.red

pub seat_rooms : (m : Words) (context x y : ℕ) (u : Seat) → IsShape m context (seated u x) → SeatRooms m context x y u
seat_rooms m context x y u h =
    let w = around_of m context u.path Left u.red u.left x u.right h in
    let P = w.1 in
    let live = P.live x (omega (arith, one-same x x refl)) in
    record {
      x_room = live.3;
      left_room = λ ne. (P.live (word_at m x 1) (let i = hits_root m (context + 24) u.left (word_at m x 1) x P.is.on_side ne in omega (arith, i))).3;
      right_room = λ ne. (P.live (word_at m x 2) (let i = hits_root m (context + 24) u.right (word_at m x 2) x P.is.on_other ne in omega (arith, i))).3;
      parent_room = λ ne. elim (around_parent m (context + 24) (word_at m context 0) u.path x w.0 P.around) as (λ _. 5 ≤ length (m (word_at m x 3))) [
        | inl z ↦ absurd (ne (P.is.parent ∙ z))
        | inr i ↦ subst (λ (q : ℕ). 5 ≤ length (m q)) (sym P.is.parent) (P.live w.0 (omega (arith, i))).3
      ];
      colour = red_at-number m (context + 24) x u.red live.1 P.is.colour;
    }

pub seat_taken : (m0 m1 m2 m3 m4 : Words) (context x y l r p : ℕ) (d : Bool) (u : Seat) → IsShape m0 context (seated u x) → IsFresh m0 context y (seated u x) → l ≡ word_at m0 x 1 → r ≡ word_at m0 x 2 → p ≡ word_at m0 x 3 → d ≡ red_at m0 (context + 24) x →
    Filled m0 m1 y l r p d → SetsParent m1 m2 (context + 24) l y → SetsParent m2 m3 (context + 24) r y → Replaces m3 m4 context p x y → IsShape m4 context (seated u y)
seat_taken m0 m1 m2 m3 m4 context x y l r p d u h f le ree pe de fi s1 s2 re =
    substituted m0 m1 m2 m3 m4 context u.path u.red d u.left x u.right y l r p h f le ree pe (de ∙ (seat_rooms m0 context x y u h).colour) fi s1 s2 re

pub seat_changes : (m0 m1 m2 m3 m4 : Words) (context x y l r p : ℕ) (d : Bool) (ys : List ℕ) (u : Seat) → IsShape m0 context (seated u x) → IsFresh m0 context y (seated u x) → l ≡ word_at m0 x 1 → r ≡ word_at m0 x 2 → p ≡ word_at m0 x 3 →
    Filled m0 m1 y l r p d → SetsParent m1 m2 (context + 24) l y → SetsParent m2 m3 (context + 24) r y → Replaces m3 m4 context p x y → In y ys → ((z : ℕ) → In z (blocks_of (seated u x)) → In z ys) → ChangesNodes m0 m4 context ys
seat_changes m0 m1 m2 m3 m4 context x y l r p d ys u h f le ree pe fi s1 s2 re there all =
    substituted_changes m0 m1 m2 m3 m4 context u.path u.red d u.left x u.right y l r p ys h f le ree pe fi s1 s2 re there all

-- one step further left
pub go_left : (m : Words) (context at left : ℕ) (tree : Shape) (before : List ℕ) (depth : ℕ) → Leftward m context at tree before depth → left ≡ word_at m at 1 → left ≢ context + 24 → Leftward m context left tree before (depth + 1)
go_left m context at left tree before depth w e ne = go w.part w.whole w.lies where
  go : (p : Shape) → plug w.path p ≡ tree → Lies m (context + 24) p at w.parent → Leftward m context left tree before (depth + 1)
  go leaf q l = absurd (w.live l)
  go (node c a x b) q l = record {
    path = step Left c x b w.path;
    part = a;
    parent = x;
    whole = q;
    shape = w.shape;
    lies = subst (λ (z : ℕ). Lies m (context + 24) a z x) (sym (e ∙ ap (λ (z : ℕ). word_at m z 1) l.0)) l.3;
    live = ne;
    after = x ∷ blocks_of b ++ w.after;
    split = λ u. w.split (node c u x b) ∙ ap (λ zs. before ++ zs) (append_assoc (blocks_of u) (x ∷ blocks_of b) w.after);
    deep = omega (arith, w.deep);
  }

pub left_room : (m : Words) (context at : ℕ) (tree : Shape) (before : List ℕ) (depth : ℕ) → Leftward m context at tree before depth → 5 ≤ length (m at)
left_room m context at tree before depth w =
    w.shape.room at (subst (λ (t : Shape). 0 < hits at t) w.whole (let i = hits_root m (context + 24) w.part at w.parent w.lies w.live in omega (arith, i, hits-plug at w.path w.part)))

pub left_bound : (m : Words) (context at : ℕ) (tree : Shape) (before : List ℕ) (depth : ℕ) → Leftward m context at tree before depth → depth ≤ 2 ^ 63
left_bound m context at tree before depth w = omega (arith, w.deep, depth_bound m context w.path w.part (subst (λ (t : Shape). IsShape m context t) (sym w.whole) w.shape))

-- the blocks before and after a place
abbrev pub path_split : (k : Path) → (before : List ℕ) × (after : List ℕ) × ((u : Shape) → blocks_of (plug k u) ≡ before ++ (blocks_of u ++ after))
path_split top = ([], [], λ u. sym (append-nil (blocks_of u)))
path_split (step Left c x far up) = let r = path_split up in
    (r.0, x ∷ blocks_of far ++ r.1, λ u. r.2 (node c u x far) ∙ ap (λ zs. r.0 ++ zs) (append_assoc (blocks_of u) (x ∷ blocks_of far) r.1))
path_split (step Right c x far up) = let r = path_split up in (
  r.0 ++ (blocks_of far ++ x ∷ []),
  r.1,
  λ u. r.2 (node c far x u)
      ∙ (ap (λ zs. r.0 ++ zs) (append_assoc (blocks_of far) (x ∷ blocks_of u) r.1 ∙ sym (append_assoc (blocks_of far) (x ∷ []) (blocks_of u ++ r.1))) ∙ sym (append_assoc r.0 (blocks_of far ++ x ∷ []) (blocks_of u ++ r.1))),
)

-- the seat of a block of a tree
pub seat_of : (k : Path) (t : Shape) (x : ℕ) → In x (blocks_of t) → (u : Seat) × (plug k t ≡ seated u x)
seat_of k leaf x i = absurd i
seat_of k (node c a y b) x i = elim (In-append_cases x (blocks_of a) (y ∷ blocks_of b) i) [
  | inl l ↦ seat_of (step Left c y b k) a x l
  | inr r ↦ elim r [
    | inl e ↦ (record { path = k; red = c; left = a; right = b }, ap (λ (z : ℕ). plug k (node c a z b)) (sym e))
    | inr t ↦ seat_of (step Right c y a k) b x t
  ]
]

-- a block that stands once splits a list in one way
pub one_split : (x : ℕ) (ls rs xs ys : List ℕ) → ls ++ x ∷ rs ≡ xs ++ x ∷ ys → times x (ls ++ x ∷ rs) ≤ 1 → (ls ≡ xs) × (rs ≡ ys)
one_split x [] rs [] ys e few = (refl, tail e) where
  tail : x ∷ rs ≡ x ∷ ys → rs ≡ ys
  tail e = cc
one_split x [] rs (z ∷ zs) ys e few =
    let h : x ≡ z = head e in
    let c = ap (λ ws. times x ws) e in
    absurd (omega (arith, few, c, one-same x x refl, one-same x z h, times-append x zs (x ∷ ys))) where
      head : x ∷ rs ≡ z ∷ (zs ++ x ∷ ys) → x ≡ z
      head e = cc
one_split x (a ∷ ls) rs [] ys e few =
    let h : a ≡ x = head e in
    absurd (omega (arith, few, one-same x x refl, one-same x a (sym h), times-append x ls (x ∷ rs))) where
      head : a ∷ (ls ++ x ∷ rs) ≡ x ∷ ys → a ≡ x
      head e = cc
one_split x (a ∷ ls) rs (z ∷ zs) ys e few =
    let r = one_split x ls rs zs ys (tail e) (omega (arith, few)) in
    (cons (head e) r.0, r.1) where
      head : a ∷ (ls ++ x ∷ rs) ≡ z ∷ (zs ++ x ∷ ys) → a ≡ z
      head e = cc

      tail : a ∷ (ls ++ x ∷ rs) ≡ z ∷ (zs ++ x ∷ ys) → ls ++ x ∷ rs ≡ zs ++ x ∷ ys
      tail e = cc

      cons : a ≡ z → ls ≡ zs → a ∷ ls ≡ z ∷ zs
      cons p q = cc

-- the seat of the block that is removed, and how the list is split there
pub record SeatHere (m : Words) (context x : ℕ) (before after : List ℕ) : Type 0 where
  pub seat : Seat
  pub height : ℕ
  pub shape : IsShape m context (seated seat x)
  pub black : red_of (seated seat x) ≡ false
  pub balanced : IsBalanced (seated seat x) height
  pub low : List ℕ
  pub high : List ℕ
  pub split : (u : Shape) → blocks_of (plug seat.path u) ≡ low ++ (blocks_of u ++ high)
  pub is_before : low ++ blocks_of seat.left ≡ before
  pub is_after : blocks_of seat.right ++ high ≡ after

regroup : (b l : List ℕ) (x : ℕ) (r a : List ℕ) → b ++ ((l ++ x ∷ r) ++ a) ≡ (b ++ l) ++ x ∷ (r ++ a)
regroup b l x r a = ap (λ zs. b ++ zs) (append_assoc l (x ∷ r) a) ∙ sym (append_assoc b l (x ∷ r ++ a))

pub seat_here : (m : Words) (context x : ℕ) (before after : List ℕ) → Settled m context (before ++ x ∷ after) → SeatHere m context x before after
seat_here m context x before after s =
    let i = subst (λ (zs : List ℕ). In x zs) (sym s.blocks) (In-append_right x before (x ∷ after) (inl refl)) in
    let w = seat_of top s.tree x i in
    let u = w.0 in
    let p = path_split u.path in
    let shape = subst (λ (t : Shape). IsShape m context t) w.1 s.shape in
    let all : before ++ x ∷ after ≡ (p.0 ++ blocks_of u.left) ++ x ∷ (blocks_of u.right ++ p.1) =
    sym s.blocks ∙ (ap (λ t. blocks_of t) w.1 ∙ (p.2 (node u.red u.left x u.right) ∙ regroup p.0 (blocks_of u.left) x (blocks_of u.right) p.1)) in
    let once : times x (before ++ x ∷ after) ≤ 1 = subst (λ (zs : List ℕ). times x zs ≤ 1) s.blocks (omega (arith, hits-times x s.tree, s.shape.tidy x)) in
    let q = one_split x before after (p.0 ++ blocks_of u.left) (blocks_of u.right ++ p.1) all once in
    record {
      seat = u;
      height = s.height;
      shape = shape;
      black = subst (λ (t : Shape). red_of t ≡ false) w.1 s.black;
      balanced = subst (λ (t : Shape). IsBalanced t s.height) w.1 s.balanced;
      low = p.0;
      high = p.1;
      split = p.2;
      is_before = sym q.0;
      is_after = sym q.1;
    }

-- nothing on the left, or nothing on the right
pub no_left : (m : Words) (context x l : ℕ) (before after : List ℕ) → SeatHere m context x before after → l ≡ word_at m x 1 → l ≡ context + 24 → OneSided m context x Left (before ++ after)
no_left m context x l before after h e n = go h.seat.left h.shape h.black h.balanced h.is_before where
  go : (a : Shape) → IsShape m context (plug h.seat.path (node h.seat.red a x h.seat.right)) → red_of (plug h.seat.path (node h.seat.red a x h.seat.right)) ≡ false → IsBalanced (plug h.seat.path (node h.seat.red a x h.seat.right)) h.height → h.low ++ blocks_of a ≡ before → OneSided m context x Left (before ++ after)
  go (node c a y b) s k q i =
      let u = around_of m context h.seat.path Left h.seat.red (node c a y b) x h.seat.right s in
      absurd ((u.1.live y (omega (arith, one-same y y refl))).1 (sym u.1.is.on_side.0 ∙ (sym e ∙ n)))
  go leaf s k q i = record {
    path = h.seat.path;
    red = h.seat.red;
    rest = h.seat.right;
    height = h.height;
    shape = s;
    black = k;
    balanced = q;
    blocks = h.split h.seat.right ∙ (ap (λ zs. zs ++ (blocks_of h.seat.right ++ h.high)) (sym (append-nil h.low) ∙ i) ∙ ap (λ zs. before ++ zs) h.is_after);
  }

pub no_right : (m : Words) (context x r : ℕ) (before after : List ℕ) → SeatHere m context x before after → r ≡ word_at m x 2 → r ≡ context + 24 → OneSided m context x Right (before ++ after)
no_right m context x r before after h e n = go h.seat.right h.shape h.black h.balanced h.is_after where
  go : (b : Shape) → IsShape m context (plug h.seat.path (node h.seat.red h.seat.left x b)) → red_of (plug h.seat.path (node h.seat.red h.seat.left x b)) ≡ false → IsBalanced (plug h.seat.path (node h.seat.red h.seat.left x b)) h.height → blocks_of b ++ h.high ≡ after → OneSided m context x Right (before ++ after)
  go (node c a y b) s k q i =
      let u = around_of m context h.seat.path Left h.seat.red h.seat.left x (node c a y b) s in
      absurd ((u.1.live y (omega (arith, one-same y y refl))).1 (sym u.1.is.on_other.0 ∙ (sym e ∙ n)))
  go leaf s k q i = record {
    path = h.seat.path;
    red = h.seat.red;
    rest = h.seat.left;
    height = h.height;
    shape = s;
    black = k;
    balanced = q;
    blocks = h.split h.seat.left ∙ (sym (append_assoc h.low (blocks_of h.seat.left) h.high) ∙ (ap (λ zs. zs ++ h.high) h.is_before ∙ ap (λ zs. before ++ zs) i));
  }

-- the way to the successor
pub to_right : (m : Words) (context x r : ℕ) (before after : List ℕ) (h : SeatHere m context x before after) → r ≡ word_at m x 2 → r ≢ context + 24 → Leftward m context r (seated h.seat x) (before ++ x ∷ []) 0
to_right m context x r before after h e ne =
    let u = around_of m context h.seat.path Left h.seat.red h.seat.left x h.seat.right h.shape in
    let left = blocks_of h.seat.left in
    record {
      path = step Right h.seat.red x h.seat.left h.seat.path;
      part = h.seat.right;
      parent = x;
      whole = refl;
      shape = h.shape;
      lies = subst (λ (z : ℕ). Lies m (context + 24) h.seat.right z x) (sym e) u.1.is.on_other;
      live = ne;
      after = h.high;
      split = λ t. h.split (node h.seat.red h.seat.left x t) ∙ (regroup h.low left x (blocks_of t) h.high ∙ (ap (λ zs. zs ++ x ∷ (blocks_of t ++ h.high)) h.is_before ∙ sym (append_assoc before (x ∷ []) (blocks_of t ++ h.high))));
      deep = omega arith;
    }

-- the successor is taken out first
pub record Successor (m : Words) (context x y : ℕ) (before after : List ℕ) : Type 0 where
  pub rest : List ℕ
  pub is : after ≡ y ∷ rest
  pub sided : OneSided m context y Left (before ++ x ∷ rest)
  pub once : times y (before ++ x ∷ rest) ≡ 0
  pub apart : (y ≢ context) × (y ≢ context + 24) × (y ≢ 0)
  pub below : y < 2 ^ 63
  pub room : 5 ≤ length (m y)

pub successor : (m : Words) (context x y : ℕ) (before after : List ℕ) (h : SeatHere m context x before after) (depth : ℕ) → Leftward m context y (seated h.seat x) (before ++ x ∷ []) depth → word_at m y 1 ≡ context + 24 → Successor m context x y before after
successor m context x y before after h depth w empty = go w.part w.whole w.lies where
  go : (p : Shape) → plug w.path p ≡ seated h.seat x → Lies m (context + 24) p y w.parent → Successor m context x y before after
  go leaf q l = absurd (w.live l)
  go (node c (node c' a' z b') v b) q l =
      let s = subst (λ (t : Shape). IsShape m context t) (sym q) h.shape in
      let there : 0 < hits z (plug w.path (node c (node c' a' z b') v b)) = omega (arith, hits-plug z w.path (node c (node c' a' z b') v b), one-same z z refl) in
      absurd ((s.apart z there).1 (sym l.3.0 ∙ (ap (λ (k : ℕ). word_at m k 1) (sym l.0) ∙ empty)))
  go (node c leaf v b) q l =
      let s0 = subst (λ (t : Shape). IsShape m context t) (sym q) h.shape in
      let s = subst (λ (k : ℕ). IsShape m context (plug w.path (node c leaf k b))) (sym l.0) s0 in
      let q' = ap (λ (k : ℕ). plug w.path (node c leaf k b)) l.0 ∙ q in
      let rest = blocks_of b ++ w.after in
      let y_in : 0 < hits y (plug w.path (node c leaf y b)) = omega (arith, hits-plug y w.path (node c leaf y b), one-same y y refl) in
      let all : before ++ x ∷ after ≡ before ++ x ∷ (y ∷ rest) =
      ap (λ zs. zs ++ x ∷ after) (sym h.is_before) ∙ (ap (λ zs. (h.low ++ blocks_of h.seat.left) ++ x ∷ zs) (sym h.is_after) ∙ (sym (regroup h.low (blocks_of h.seat.left) x (blocks_of h.seat.right) h.high) ∙ (sym (h.split (node h.seat.red h.seat.left x h.seat.right))
      ∙ (ap (λ t. blocks_of t) (sym q') ∙ (w.split (node c leaf y b) ∙ append_assoc before (x ∷ []) (y ∷ rest)))))) in
      let once_x : times x (before ++ x ∷ after) ≤ 1 =
      let e : blocks_of (seated h.seat x) ≡ before ++ x ∷ after = h.split (node h.seat.red h.seat.left x h.seat.right) ∙ (regroup h.low (blocks_of h.seat.left) x (blocks_of h.seat.right) h.high ∙ (ap (λ zs. zs ++ x ∷ (blocks_of h.seat.right ++ h.high)) h.is_before ∙ ap (λ zs. before ++ x ∷ zs) h.is_after)) in
      subst (λ (zs : List ℕ). times x zs ≤ 1) e (omega (arith, hits-times x (seated h.seat x), h.shape.tidy x)) in
      let o = one_split x before after before (y ∷ rest) all once_x in
      let without : blocks_of (plug w.path b) ≡ before ++ x ∷ rest = w.split b ∙ append_assoc before (x ∷ []) rest in
      record {
        rest = rest;
        is = o.1;
        sided = record { path = w.path; red = c; rest = b; height = h.height; shape = s; black = subst (λ (t : Shape). red_of t ≡ false) (sym q') h.black; balanced = subst (λ (t : Shape). IsBalanced t h.height) (sym q') h.balanced; blocks = without };
        once = let e = ap (λ zs. times y zs) without in omega (arith, e, hits-times y (plug w.path b), hits-plug y w.path b, hits-plug y w.path (node c leaf y b), one-same y y refl, s.tidy y);
        apart = s.apart y y_in;
        below = s.below y y_in;
        room = s.room y y_in;
      }

rebalanced : (c : Bool) (a : Shape) (x y : ℕ) (b : Shape) (h : ℕ) → IsBalanced (node c a x b) h → IsBalanced (node c a y b) h
rebalanced true a x y b h q = q
rebalanced false a x y b zero q = q
rebalanced false a x y b (suc h) q = q

-- the successor in the removed block's seat
pub seat_fresh : (l m : Words) (context x y : ℕ) (before after : List ℕ) (s : Successor l context x y before after) (h : SeatHere m context x before s.rest) → length (m y) ≡ length (l y) → IsFresh m context y (seated h.seat x)
seat_fresh l m context x y before after s h same =
    let e : blocks_of (seated h.seat x) ≡ before ++ x ∷ s.rest = h.split (node h.seat.red h.seat.left x h.seat.right) ∙ (regroup h.low (blocks_of h.seat.left) x (blocks_of h.seat.right) h.high ∙ (ap (λ zs. zs ++ x ∷ (blocks_of h.seat.right ++ h.high)) h.is_before ∙ ap (λ zs. before ++ x ∷ zs) h.is_after)) in
    let n = ap (λ zs. times y zs) e in
    record { room = omega (arith, same, s.room); new = omega (arith, n, hits-times y (seated h.seat x), s.once); apart = s.apart; below = s.below }

pub removed : (l m n : Words) (context x y : ℕ) (before after : List ℕ) (s : Successor l context x y before after) (h : SeatHere m context x before s.rest) → IsShape n context (seated h.seat y) → Settled n context (before ++ after)
removed l m n context x y before after s h shape =
    let u = h.seat in
    let p = placed_balanced u.path (node u.red u.left x u.right) h.height h.balanced h.black in
    let q = plug_balanced u.path (node u.red u.left y u.right) p.0 p.1 (rebalanced u.red u.left x y u.right p.0 p.2) p.3 in
    record {
      tree = seated u y;
      height = q.0;
      shape = shape;
      black = q.2;
      balanced = q.1;
      blocks = h.split (node u.red u.left y u.right) ∙ (regroup h.low (blocks_of u.left) y (blocks_of u.right) h.high ∙ (ap (λ zs. zs ++ y ∷ (blocks_of u.right ++ h.high)) h.is_before ∙ (ap (λ zs. before ++ y ∷ zs) h.is_after ∙ ap (λ zs. before ++ zs) (sym s.is))));
    }

-- the blocks of the tree in which the successor takes its seat
pub seat_blocks : (m : Words) (context x : ℕ) (before after : List ℕ) (h : SeatHere m context x before after) → blocks_of (seated h.seat x) ≡ before ++ x ∷ after
seat_blocks m context x before after h =
    h.split (node h.seat.red h.seat.left x h.seat.right) ∙ (regroup h.low (blocks_of h.seat.left) x (blocks_of h.seat.right) h.high ∙ (ap (λ zs. zs ++ x ∷ (blocks_of h.seat.right ++ h.high)) h.is_before ∙ ap (λ zs. before ++ x ∷ zs) h.is_after))

-- a list without the successor is part of the list with it
fewer : (x y : ℕ) (before rest after : List ℕ) → after ≡ y ∷ rest → (z : ℕ) → In z (before ++ x ∷ rest) → In z (before ++ x ∷ after)
fewer x y before rest after e z i =
    elim (In-append_cases z before (x ∷ rest) i) as (λ _. In z (before ++ x ∷ after)) [
      | inl l ↦ In-append_left z before (x ∷ after) l
      | inr r ↦ In-append_right z before (x ∷ after) (elim r [ inl same ↦ inl same | inr later ↦ inr (subst (λ (zs : List ℕ). In z zs) (sym e) (inr later)) ])
    ]

-- the successor's blocks are the list's
pub successor_in : (l m : Words) (context x y : ℕ) (before after : List ℕ) (s : Successor l context x y before after) (h : SeatHere m context x before s.rest) → In y (before ++ x ∷ after) × ((z : ℕ) → In z (blocks_of (seated h.seat x)) → In z (before ++ x ∷ after))
successor_in l m context x y before after s h = (
  In-append_right y before (x ∷ after) (inr (subst (λ (zs : List ℕ). In y zs) (sym s.is) (inl refl))),
  λ z i. fewer x y before s.rest after s.is z (subst (λ (zs : List ℕ). In z zs) (seat_blocks m context x before s.rest h) i),
)

pub successor_out : (l m : Words) (context x y : ℕ) (before after : List ℕ) (s : Successor l context x y before after) → ChangesNodes l m context (before ++ x ∷ s.rest) → ChangesNodes l m context (before ++ x ∷ after)
successor_out l m context x y before after s c = nodes_more l m context (before ++ x ∷ s.rest) (before ++ x ∷ after) (fewer x y before s.rest after s.is) c

-- the changes to the others are changes to all
pub others_changed : (l m : Words) (context x : ℕ) (before after : List ℕ) → ChangesNodes l m context (before ++ after) → ChangesNodes l m context (before ++ x ∷ after)
others_changed l m context x before after c = nodes_more l m context (before ++ after) (before ++ x ∷ after) (λ z i. In-more z before x after i) c
