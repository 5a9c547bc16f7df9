-- The way down to the place of a new block, and the order with it.
use Rattle.std.proofs.Common.{ℕ, ◌≡◌, ◌≢◌, ◌+◌, ◌*◌, ◌/◌, ◌%◌, ◌^◌, ◌<◌, ◌≤◌, zero, suc, true, false, List, [], ◌∷◌, ◌++◌, sym, ap, subst, ◌∙◌, refl, arith, inl, inr, append_assoc}
use Rattle.std.proofs.lemmas.Bool.{cases_eq}
use Rattle.std.proofs.lemmas.List.{append-nil}
use Rattle.std.specs.declared.cmp.Ordering.{Ordering}
use Rattle.std.specs.declared.cmp.Ordering.TheVariants.{Less, Greater}
use Rattle.std.specs.Ordering.{ordering_reverse}
use Rattle.zone_region.specs.Words.{Words, word_at}
use Rattle.offset_tree.specs.declared.tree.Tree.{Tree}
use Rattle.offset_tree.specs.declared.tree.Form.{Form}
use Rattle.offset_tree.specs.declared.side.Side.{Side}
use Rattle.offset_tree.specs.declared.side.Side.TheVariants.{Left, Right}
use Rattle.offset_tree.specs.Inside.Shape.{Shape, leaf, node, Path, top, step, plug, blocks_of, hits}
use Rattle.zone_region.specs.Members.{In, IsDistinct}
use Rattle.offset_tree.specs.Inside.Links.{colour_value, Lies, IsShape}
use Rattle.offset_tree.specs.Inside.Balance.{red_of, IsBalanced, IsPathBalanced, depth_of, Settled}
use Rattle.offset_tree.specs.Inside.InsertFixup.{Rising}
use Rattle.offset_tree.specs.Changes.{ChangesNodes}
use Rattle.offset_tree.specs.Keys.{Rank, rank_cmp, rank_of, block_byte, bytes_of, key_len, key_of, IsForm, HoldsKey, AllAfter, IsOrdered}
use Rattle.offset_tree.specs.Inside.Attaching.{Gap}
use Rattle.offset_tree.specs.Inside.Trees.{IsDrawn}
use Rattle.offset_tree.specs.Inside.Inserting.{Descending, Opening, IsInsertable}
use Rattle.offset_tree.proofs.ShapeLemmas.{one-same, hits-plug}
use Rattle.zone_region.proofs.MembersLemmas.{In-append_cases, In-one_more, IsDistinct-join}
use Rattle.offset_tree.proofs.BalanceLemmas.{placed_balanced}
use Rattle.offset_tree.proofs.SearchLemmas.{rank_total, ordered_at, child_balanced, tree_height}
use Rattle.offset_tree.proofs.Drawing.{lays_of, held_same}
use Rattle.offset_tree.specs.Layout.{CanInsert, Inserted}
use Rattle.offset_tree.proofs.Frames.{hits_in}

pub descend_start : (m : Words) (t : Tree) (rank : Rank) (xs : List ℕ) (h : IsDrawn m t xs) (at : ℕ) (side : Side) → at ≡ word_at m t.context.at 0 → Descending m t rank xs h.settled.tree at 0 side
descend_start m t rank xs h at side e = record {
  path = top;
  part = h.settled.tree;
  whole = refl;
  lies = subst (λ (q : ℕ). Lies m (t.context.at + 24) h.settled.tree q 0) (sym e) h.settled.shape.lies;
  hole = refl;
  before = [];
  after = [];
  split = λ u. sym (append-nil (blocks_of u));
  low = λ y i. absurd i;
  high = λ y i. absurd i;
  ordered = subst (λ (ys : List ℕ). IsOrdered m t.form ys) (sym h.settled.blocks) h.ordered;
}

regroup_left : (b l : List ℕ) (x : ℕ) (r a : List ℕ) → b ++ ((l ++ x ∷ r) ++ a) ≡ b ++ (l ++ (x ∷ r ++ a))
regroup_left b l x r a = ap (λ zs. b ++ zs) (append_assoc l (x ∷ r) a)

regroup_right : (b l : List ℕ) (x : ℕ) (r a : List ℕ) → b ++ ((l ++ x ∷ r) ++ a) ≡ (b ++ (l ++ x ∷ [])) ++ (r ++ a)
regroup_right b l x r a = ap (λ zs. b ++ zs) (append_assoc l (x ∷ r) a ∙ sym (append_assoc l (x ∷ []) (r ++ a))) ∙ sym (append_assoc b (l ++ x ∷ []) (r ++ a))

pub descend_left : (m : Words) (t : Tree) (rank : Rank) (xs : List ℕ) (tree : Shape) (at parent next : ℕ) (side new : Side) → Descending m t rank xs tree at parent side → at ≢ t.context.at + 24 →
    rank_cmp rank (rank_of m t.form at) ≡ Less → next ≡ word_at m at 1 → new ≡ Left → Descending m t rank xs tree next at new
descend_left m t rank xs tree at parent next side new d ne less e ns = go d.part d.whole d.lies d.ordered where
  go : (p : Shape) → plug d.path p ≡ tree → Lies m (t.context.at + 24) p at parent → IsOrdered m t.form (blocks_of p) → Descending m t rank xs tree next at new
  go leaf w l o = absurd (ne l)
  go (node c a x b) w l o =
      let q = ordered_at m t.form (blocks_of a) x (blocks_of b) o in
      let less_x = subst (λ (z : ℕ). rank_cmp rank (rank_of m t.form z) ≡ Less) l.0 less in
      record {
        path = step Left c x b d.path;
        part = a;
        whole = w;
        lies = subst (λ (z : ℕ). Lies m (t.context.at + 24) a z at) (sym e) (subst (λ (z : ℕ). Lies m (t.context.at + 24) a (word_at m z 1) z) (sym l.0) l.3);
        hole = (l.0, ns);
        before = d.before;
        after = x ∷ blocks_of b ++ d.after;
        split = λ u. d.split (node c u x b) ∙ regroup_left d.before (blocks_of u) x (blocks_of b) d.after;
        low = d.low;
        high = λ y i. elim i [
          | inl same ↦ subst (λ (z : ℕ). rank_cmp rank (rank_of m t.form z) ≡ Less) (sym same) less_x
          | inr later ↦ elim (In-append_cases y (blocks_of b) d.after later) [
            | inl j ↦ rank_total.trans rank (rank_of m t.form x) (rank_of m t.form y) less_x (q.more y j)
            | inr j ↦ d.high y j
          ]
        ];
        ordered = q.before;
      }

pub descend_right : (m : Words) (t : Tree) (rank : Rank) (xs : List ℕ) (tree : Shape) (at parent next : ℕ) (side new : Side) → Descending m t rank xs tree at parent side → at ≢ t.context.at + 24 →
    rank_cmp rank (rank_of m t.form at) ≡ Greater → next ≡ word_at m at 2 → new ≡ Right → Descending m t rank xs tree next at new
descend_right m t rank xs tree at parent next side new d ne greater e ns = go d.part d.whole d.lies d.ordered where
  go : (p : Shape) → plug d.path p ≡ tree → Lies m (t.context.at + 24) p at parent → IsOrdered m t.form (blocks_of p) → Descending m t rank xs tree next at new
  go leaf w l o = absurd (ne l)
  go (node c a x b) w l o =
      let q = ordered_at m t.form (blocks_of a) x (blocks_of b) o in
      let above = rank_total.antisymm (rank_of m t.form at) rank ∙ ap (λ (r : Ordering). ordering_reverse r) greater in
      let less_x = subst (λ (z : ℕ). rank_cmp (rank_of m t.form z) rank ≡ Less) l.0 above in
      record {
        path = step Right c x a d.path;
        part = b;
        whole = w;
        lies = subst (λ (z : ℕ). Lies m (t.context.at + 24) b z at) (sym e) (subst (λ (z : ℕ). Lies m (t.context.at + 24) b (word_at m z 2) z) (sym l.0) l.4);
        hole = (l.0, ns);
        before = d.before ++ (blocks_of a ++ x ∷ []);
        after = d.after;
        split = λ u. d.split (node c a x u) ∙ regroup_right d.before (blocks_of a) x (blocks_of u) d.after;
        low = λ y i. elim (In-append_cases y d.before (blocks_of a ++ x ∷ []) i) [
          | inl j ↦ d.low y j
          | inr j ↦ elim (In-append_cases y (blocks_of a) (x ∷ []) j) [
            | inl k ↦ rank_total.trans (rank_of m t.form y) (rank_of m t.form x) rank (q.less y k) less_x
            | inr k ↦ elim k [ inl same ↦ subst (λ (z : ℕ). rank_cmp (rank_of m t.form z) rank ≡ Less) (sym same) less_x | inr none ↦ absurd none ]
          ]
        ];
        high = d.high;
        ordered = q.after;
      }

-- a way down is at most twice as long as the black height
depth_balanced : (k : Path) (t : Shape) (g : ℕ) → IsBalanced (plug k t) g → (h : ℕ) × IsBalanced t h × (depth_of k + (2 * h + colour_value (red_of t)) ≤ 2 * g + colour_value (red_of (plug k t)))
depth_balanced top t g b = (g, b, omega arith)
depth_balanced (step Left c x far up) t g b =
    let u = depth_balanced up (node c t x far) g b in
    let q = child_balanced c t x far u.0 u.1 in
    (q.0, q.1, omega (arith, u.2, q.3))
depth_balanced (step Right c x far up) t g b =
    let u = depth_balanced up (node c far x t) g b in
    let q = child_balanced c far x t u.0 u.1 in
    (q.0, q.2, omega (arith, u.2, q.4))

pub opening_at : (m : Words) (t : Tree) (rank : Rank) (xs : List ℕ) (h : IsDrawn m t xs) (at parent : ℕ) (side : Side) → Descending m t rank xs h.settled.tree at parent side → at ≡ t.context.at + 24 → Opening m t rank xs parent side
opening_at m t rank xs h at parent side d e = go d.part d.whole d.lies where
  go : (p : Shape) → plug d.path p ≡ h.settled.tree → Lies m (t.context.at + 24) p at parent → Opening m t rank xs parent side
  go (node c a x b) w l =
      let s = subst (λ (u : Shape). IsShape m t.context.at u) (sym w) h.settled.shape in
      absurd ((s.apart x (omega (arith, hits-plug x d.path (node c a x b), one-same x x refl))).1 (sym l.0 ∙ e))
  go leaf w l =
      let b = placed_balanced d.path leaf h.settled.height (subst (λ (u : Shape). IsBalanced u h.settled.height) (sym w) h.settled.balanced) (subst (λ (u : Shape). red_of u ≡ false) (sym w) h.settled.black) in
      let far = depth_balanced d.path leaf h.settled.height (subst (λ (u : Shape). IsBalanced u h.settled.height) (sym w) h.settled.balanced) in
      let black : colour_value (red_of (plug d.path leaf)) ≡ 0 = ap (λ q. colour_value q) (ap (λ u. red_of u) w ∙ h.settled.black) in
      record {
        path = d.path;
        shape = subst (λ (u : Shape). IsShape m t.context.at u) (sym w) h.settled.shape;
        hole = d.hole;
        around = subst (λ (k : ℕ). IsPathBalanced d.path k) b.2 b.1;
        height = h.settled.height;
        many = tree_height m t xs h;
        deep = omega (arith, far.2, black);
        before = d.before;
        after = d.after;
        split = d.split;
        is = sym h.settled.blocks ∙ (ap (λ u. blocks_of u) (sym w) ∙ d.split leaf);
        low = d.low;
        high = d.high;
      }

-- the order with the new block
after_insert : (m : Words) (f : Form) (z : ℕ) (xs : List ℕ) (b : ℕ) (ys : List ℕ) → AllAfter m f z (xs ++ ys) → rank_cmp (rank_of m f z) (rank_of m f b) ≡ Less → AllAfter m f z (xs ++ b ∷ ys)
after_insert m f z [] b ys a l = (l, a)
after_insert m f z (x ∷ xs) b ys a l = (a.0, after_insert m f z xs b ys a.1 l)

all_after : (m : Words) (f : Form) (b : ℕ) (ys : List ℕ) → ((y : ℕ) → In y ys → rank_cmp (rank_of m f b) (rank_of m f y) ≡ Less) → AllAfter m f b ys
all_after m f b [] h = tt
all_after m f b (y ∷ ys) h = (h y (inl refl), all_after m f b ys (λ z i. h z (inr i)))

pub ordered_insert : (m : Words) (f : Form) (xs : List ℕ) (b : ℕ) (ys : List ℕ) → IsOrdered m f (xs ++ ys) → ((y : ℕ) → In y xs → rank_cmp (rank_of m f y) (rank_of m f b) ≡ Less) → ((y : ℕ) → In y ys → rank_cmp (rank_of m f b) (rank_of m f y) ≡ Less) → IsOrdered m f (xs ++ b ∷ ys)
ordered_insert m f [] b ys o l h = (all_after m f b ys h, o)
ordered_insert m f (x ∷ xs) b ys o l h = (after_insert m f x xs b ys o.0 (l x (inl refl)), ordered_insert m f xs b ys o.1 (λ y i. l y (inr i)) h)

-- the words of a hash and key stay
byte_same : (m n : Words) (x j : ℕ) → 36 ≤ j → word_at n x 4 / 256 ≡ word_at m x 4 / 256 → ((i : ℕ) → 5 ≤ i → word_at n x i ≡ word_at m x i) → block_byte n x j ≡ block_byte m x j
byte_same m n x j low flags rest = elim (cases_eq j 36) [
  | inl e ↦ subst (λ (q : ℕ). block_byte n x q ≡ block_byte m x q) (sym e) (at36 (word_at n x 4) (word_at m x 4) flags)
  | inr n36 ↦ elim (cases_eq j 37) [
    | inl e ↦ subst (λ (q : ℕ). block_byte n x q ≡ block_byte m x q) (sym e) (at37 (word_at n x 4) (word_at m x 4) flags)
    | inr n37 ↦ elim (cases_eq j 38) [
      | inl e ↦ subst (λ (q : ℕ). block_byte n x q ≡ block_byte m x q) (sym e) (at38 (word_at n x 4) (word_at m x 4) flags)
      | inr n38 ↦ elim (cases_eq j 39) [
        | inl e ↦ subst (λ (q : ℕ). block_byte n x q ≡ block_byte m x q) (sym e) (at39 (word_at n x 4) (word_at m x 4) flags)
        | inr n39 ↦ ap (λ (w : ℕ). w / 2 ^ (8 * (j % 8)) % 256) (rest (j / 8) (omega (arith, low, n36, n37, n38, n39)))
      ]
    ]
  ]
] where
  at36 : (v w : ℕ) → v / 256 ≡ w / 256 → v / 2 ^ (8 * (36 % 8)) % 256 ≡ w / 2 ^ (8 * (36 % 8)) % 256
  at36 v w e = ap (λ (q : ℕ). q % 256) (far v w e) where
    far : (v w : ℕ) → v / 256 ≡ w / 256 → v / 4294967296 ≡ w / 4294967296
    far v w e = omega (arith, e)

  at37 : (v w : ℕ) → v / 256 ≡ w / 256 → v / 2 ^ (8 * (37 % 8)) % 256 ≡ w / 2 ^ (8 * (37 % 8)) % 256
  at37 v w e = ap (λ (q : ℕ). q % 256) (far v w e) where
    far : (v w : ℕ) → v / 256 ≡ w / 256 → v / 1099511627776 ≡ w / 1099511627776
    far v w e = omega (arith, e)

  at38 : (v w : ℕ) → v / 256 ≡ w / 256 → v / 2 ^ (8 * (38 % 8)) % 256 ≡ w / 2 ^ (8 * (38 % 8)) % 256
  at38 v w e = ap (λ (q : ℕ). q % 256) (far v w e) where
    far : (v w : ℕ) → v / 256 ≡ w / 256 → v / 281474976710656 ≡ w / 281474976710656
    far v w e = omega (arith, e)

  at39 : (v w : ℕ) → v / 256 ≡ w / 256 → v / 2 ^ (8 * (39 % 8)) % 256 ≡ w / 2 ^ (8 * (39 % 8)) % 256
  at39 v w e = ap (λ (q : ℕ). q % 256) (far v w e) where
    far : (v w : ℕ) → v / 256 ≡ w / 256 → v / 72057594037927936 ≡ w / 72057594037927936
    far v w e = omega (arith, e)

bytes_same : (m n : Words) (x j len : ℕ) → 36 ≤ j → word_at n x 4 / 256 ≡ word_at m x 4 / 256 → ((i : ℕ) → 5 ≤ i → word_at n x i ≡ word_at m x i) → bytes_of n x j len ≡ bytes_of m x j len
bytes_same m n x j zero low flags rest = refl
bytes_same m n x j (suc len) low flags rest = ap (λ (b : ℕ). b ∷ bytes_of n x (j + 1) len) (byte_same m n x j low flags rest) ∙ ap (λ bs. block_byte m x j ∷ bs) (bytes_same m n x (j + 1) len (omega (arith, low)) flags rest)

pub key_len_same : (m n : Words) (f : Form) (x : ℕ) → IsForm f → word_at n x 4 / 256 ≡ word_at m x 4 / 256 → key_len n f x ≡ key_len m f x
key_len_same m n f x form flags = elim form.len_place [
  | inl r ↦ ap (λ (q : ℕ). q % 2 ^ (8 * f.len_bytes)) (subst (λ (a : ℕ). word_at n x 4 / 2 ^ (8 * (a % 8)) ≡ word_at m x 4 / 2 ^ (8 * (a % 8))) (sym r.0) (two (word_at n x 4) (word_at m x 4) flags))
  | inr c ↦ ap (λ (q : ℕ). q % 2 ^ (8 * f.len_bytes)) (subst (λ (a : ℕ). word_at n x 4 / 2 ^ (8 * (a % 8)) ≡ word_at m x 4 / 2 ^ (8 * (a % 8))) (sym c.0) flags)
] where
  two : (v w : ℕ) → v / 256 ≡ w / 256 → v / 65536 ≡ w / 65536
  two v w e = omega (arith, e)

key_low : (f : Form) → IsForm f → 36 ≤ f.key_at
key_low f form = elim form.len_place [ inl r ↦ omega (arith, r.2) | inr c ↦ omega (arith, c.2) ]

pub key_same : (m n : Words) (f : Form) (x : ℕ) → IsForm f → word_at n x 4 / 256 ≡ word_at m x 4 / 256 → ((i : ℕ) → 5 ≤ i → word_at n x i ≡ word_at m x i) → key_of n f x ≡ key_of m f x
key_same m n f x form flags rest =
    ap (λ (k : ℕ). bytes_of n x f.key_at k) (key_len_same m n f x form flags) ∙ bytes_same m n x f.key_at (key_len m f x) (key_low f form) flags rest

pub rank_same : (m n : Words) (f : Form) (context : ℕ) (xs : List ℕ) (x : ℕ) → IsForm f → ChangesNodes m n context xs → x ≢ context → rank_of n f x ≡ rank_of m f x
rank_same m n f context xs x form c nc =
    let key = key_same m n f x form (c.flags x nc) (λ i h. c.nodes x i nc (inr h)) in
    ap (λ (h : ℕ). let p : Rank = (h, key_of n f x) in p) (c.nodes x 0 nc (inl refl)) ∙ ap (λ (k : List ℕ). let p : Rank = (word_at m x 0, k) in p) key

after_same : (m n : Words) (f : Form) (x : ℕ) (ys : List ℕ) → rank_of n f x ≡ rank_of m f x → ((y : ℕ) → In y ys → rank_of n f y ≡ rank_of m f y) → AllAfter m f x ys → AllAfter n f x ys
after_same m n f x [] e same a = a
after_same m n f x (y ∷ ys) e same a =
    (ap (λ (r : Rank). rank_cmp r (rank_of n f y)) e ∙ (ap (λ (r : Rank). rank_cmp (rank_of m f x) r) (same y (inl refl)) ∙ a.0), after_same m n f x ys e (λ z i. same z (inr i)) a.1)

pub ordered_same : (m n : Words) (f : Form) (xs : List ℕ) → ((y : ℕ) → In y xs → rank_of n f y ≡ rank_of m f y) → IsOrdered m f xs → IsOrdered n f xs
ordered_same m n f [] same o = o
ordered_same m n f (x ∷ xs) same o = (after_same m n f x xs (same x (inl refl)) (λ y i. same y (inr i)) o.0, ordered_same m n f xs (λ y i. same y (inr i)) o.1)

pub holds_key_same : (m n : Words) (f : Form) (context : ℕ) (xs : List ℕ) (x : ℕ) → IsForm f → ChangesNodes m n context xs → x ≢ context → HoldsKey m f x → HoldsKey n f x
holds_key_same m n f context xs x form c nc h = record {
  links = omega (arith, c.lengths x, h.links);
  key = omega (arith, c.lengths x, h.key, key_len_same m n f x form (c.flags x nc));
}

-- the gap for the new block
pub gap_of : (m : Words) (t : Tree) (b : ℕ) (key : List ℕ) (xs : List ℕ) (p : ℕ) (side : Side) → IsInsertable m t b key xs → (o : Opening m t (word_at m b 0, key) xs p side) → Gap m t.context.at p side o.path b
gap_of m t b key xs p side c o = record {
  shape = o.shape;
  hole = o.hole;
  fresh = record {
    room = c.room.links;
    apart = c.apart;
    below = c.below;
    new = elim (hits_in b (plug o.path leaf)) [
      | inl none ↦ none
      | inr i ↦ absurd (c.new (subst (λ (ys : List ℕ). In b ys) (o.split leaf ∙ sym o.is) i))
    ];
  };
}

-- the tree with the red block, before the insert fixup
pub rising_of : (m n : Words) (t : Tree) (rank : Rank) (b : ℕ) (xs : List ℕ) (p : ℕ) (side : Side) (o : Opening m t rank xs p side) → IsShape n t.context.at (plug o.path (node true leaf b leaf)) →
    Rising n t.context.at b (o.before ++ b ∷ o.after) (depth_of o.path)
rising_of m n t rank b xs p side o shape = record {
  path = o.path;
  side = Left;
  near = leaf;
  far = leaf;
  height = 0;
  shape = shape;
  balanced = (refl, refl, refl, refl);
  around = o.around;
  blocks = o.split (node true leaf b leaf);
  deep = refl;
}

-- all of it
pub inserted : (m n : Words) (t : Tree) (b : ℕ) (key : List ℕ) (xs : List ℕ) (p : ℕ) (side : Side) → IsForm t.form → CanInsert m t b key xs → (o : Opening m t (word_at m b 0, key) xs p side) →
    Settled n t.context.at (o.before ++ b ∷ o.after) → ChangesNodes m n t.context.at (o.before ++ b ∷ o.after) → Inserted m n t b xs
inserted m n t b key xs p side form c o settled changes =
    let ys = o.before ++ b ∷ o.after in
    let member = λ (y : ℕ) (i : In y ys). elim (In-one_more y o.before b o.after i) as (λ _. In y (b ∷ xs)) [
      | inl e ↦ inl e
      | inr j ↦ inr (subst (λ (zs : List ℕ). In y zs) (sym o.is) j)
    ] in
    let away = λ (y : ℕ) (i : In y ys). let r : y ≢ t.context.at = λ e. c.holds.distinct.0 (subst (λ (q : ℕ). In q (b ∷ xs)) e (member y i)) in r in
    let rank_b : rank_of m t.form b ≡ (word_at m b 0, key) = ap (λ (k : List ℕ). let q : Rank = (word_at m b 0, k) in q) c.key_is in
    let ordered = ordered_insert m t.form o.before b o.after (subst (λ (zs : List ℕ). IsOrdered m t.form zs) o.is c.lays.ordered)
    (λ y i. subst (λ (r : Rank). rank_cmp (rank_of m t.form y) r ≡ Less) (sym rank_b) (o.low y i))
    (λ y i. subst (λ (r : Rank). rank_cmp r (rank_of m t.form y) ≡ Less) (sym rank_b) (o.high y i)) in
    let others = subst (λ (zs : List ℕ). IsDistinct zs) o.is c.holds.distinct.1.1 in
    let new : In b (o.before ++ o.after) → ⊥ = λ i. c.holds.distinct.1.0 (subst (λ (zs : List ℕ). In b zs) (sym o.is) i) in
    let distinct : IsDistinct (t.context.at ∷ ys) = (λ i. c.holds.distinct.0 (member t.context.at i), IsDistinct-join o.before b o.after others new) in
    record {
      before = o.before;
      after = o.after;
      is = o.is;
      changes = changes;
      tree = record {
        holds = held_same m n t.context.at (b ∷ xs) ys c.holds changes.lengths member distinct;
        room = record {
          context = omega (arith, changes.lengths t.context.at, c.room.context);
          nodes = λ y i. holds_key_same m n t.form t.context.at ys y form changes (away y i) (c.room.nodes y (member y i));
        };
        lays = lays_of n t ys settled (ordered_same m n t.form ys (λ y i. rank_same m n t.form t.context.at ys y form changes (away y i)) ordered);
      };
    }

pub descend_under : (m : Words) (t : Tree) (rank : Rank) (xs : List ℕ) (tree : Shape) (at p q : ℕ) (side : Side) → p ≡ q → Descending m t rank xs tree at q side → Descending m t rank xs tree at p side
descend_under m t rank xs tree at p q side e d = subst (λ (z : ℕ). Descending m t rank xs tree at z side) (sym e) d

-- the hash that the code has read is the block's
pub insert_opening : (m : Words) (t : Tree) (b hash : ℕ) (key : List ℕ) (xs : List ℕ) (p : ℕ) (side : Side) → hash ≡ word_at m b 0 → Opening m t (hash, key) xs p side → Opening m t (word_at m b 0, key) xs p side
insert_opening m t b hash key xs p side e o = subst (λ (h : ℕ). Opening m t (h, key) xs p side) e o

pub can_open : (m : Words) (t : Tree) (b hash : ℕ) (key : List ℕ) (xs : List ℕ) → IsInsertable m t b key xs → hash ≡ word_at m b 0 → (x : ℕ) → In x xs → rank_of m t.form x ≢ (hash, key)
can_open m t b hash key xs c e x i same = c.other x i (same ∙ ap (λ (h : ℕ). let q : Rank = (h, key) in q) e)

pub opening_blocks : (m : Words) (t : Tree) (rank : Rank) (b : ℕ) (xs : List ℕ) (p : ℕ) (side : Side) (o : Opening m t rank xs p side) → blocks_of (plug o.path (node true leaf b leaf)) ≡ o.before ++ b ∷ o.after
opening_blocks m t rank b xs p side o = o.split (node true leaf b leaf)
