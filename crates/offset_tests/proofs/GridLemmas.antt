-- Trees of blocks of a grid.
use Rattle.std.proofs.Common.{ℕ, ◌≡◌, ◌≢◌, ◌⊎◌, ◌+◌, ◌*◌, ◌^◌, ◌<◌, ◌≤◌, zero, suc, List, [], ◌∷◌, ◌++◌, length, slice_index, sym, ap, subst, ◌∙◌, refl, arith, inl, inr}
use Rattle.std.proofs.lemmas.Bool.{cases_eq, cases_order}
use Rattle.std.proofs.lemmas.List.{length-replicate, length-append, length-take-le}
use Rattle.std.specs.Int.{w64, to_le_bytes}
use Rattle.zone_region.specs.Words.{Words}
use Rattle.zone_region.specs.Entries.{AddsBlock}
use Rattle.zone_key.specs.Crc.{crc32_of}
use Rattle.offset_tree.specs.declared.tree.Tree.{Tree}
use Rattle.zone_region.specs.Members.{In, IsDistinct}
use Rattle.offset_tree.specs.Keys.{Rank, rank_of, key_len, bytes_of, IsForm, HoldsKey}
use Rattle.offset_tree.specs.Bounds.{bits, search_cost}
use Rattle.offset_tree.proofs.BoundLemmas.{search_cost-rises}
use Rattle.offset_tree.specs.Changes.{ChangesNodes, MakesEmpty}
use Rattle.offset_tree.specs.Layout.{IsContext, IsTree, CanInsert, Inserted}
use Rattle.zone_region.proofs.MembersLemmas.{In-one_more, In-more, In-split, IsDistinct-split}
use Rattle.offset_tree.proofs.InsertLemmas.{rank_same}
use Rattle.offset_tree.proofs.Keeping.{same_block}
use Rattle.offset_queue.specs.declared.queue.Queue.{Queue}
use Rattle.zone_region.specs.Holding.{HoldsBlocks}
use Rattle.offset_tests.specs.Line.{full, FitsLine}
use Rattle.offset_tests.specs.declared.keys.Keys.{Keys}
use Rattle.offset_tests.specs.Grid.{place_of, key_at, rank_at, IsGrid, HasTree, LacksKey}
use Rattle.offset_tests.proofs.KeyLemmas.{length-low}

-- the context, or a block of the grid
abbrev IsSpot : ℕ → ℕ → Type 0
IsSpot n x = (x ≡ 4096) ⊎ ((k : ℕ) × (k < n) × (x ≡ place_of k))

long : (m : Words) (t : Tree) (keys : Keys) (n x : ℕ) → IsGrid m t keys n → IsSpot n x → length (m x) ≡ 16
long m t keys n x g (inl e) = subst (λ (q : ℕ). length (m q) ≡ 16) (sym e) g.head
long m t keys n x g (inr s) = subst (λ (q : ℕ). length (m q) ≡ 16) (sym s.2) (g.room s.0 s.1)

spots_apart : (n x y lx ly : ℕ) → lx ≡ 16 → ly ≡ 16 → IsSpot n x → IsSpot n y → x ≢ y → (x + 8 * lx ≤ y) ⊎ (y + 8 * ly ≤ x)
spots_apart n x y lx ly ex ey (inl a) (inl b) ne = absurd (ne (a ∙ sym b))
spots_apart n x y lx ly ex ey (inl a) (inr b) ne = inl (omega (arith, ex, a, b.2))
spots_apart n x y lx ly ex ey (inr a) (inl b) ne = inr (omega (arith, ey, b, a.2))
spots_apart n x y lx ly ex ey (inr a) (inr b) ne = elim (cases_eq a.0 b.0) [
  | inl e ↦ absurd (ne (omega (arith, a.2, b.2, e)))
  | inr d ↦ sides a.0 b.0 d a.2 b.2
] where
  sides : (i j : ℕ) → i ≢ j → x ≡ place_of i → y ≡ place_of j → (x + 8 * lx ≤ y) ⊎ (y + 8 * ly ≤ x)
  sides i j d p q = elim (cases_order i j) [
    | inl e ↦ absurd (d e)
    | inr other ↦ elim other [ inl l ↦ inl (omega (arith, ex, l, p, q)) | inr l ↦ inr (omega (arith, ey, l, p, q)) ]
  ]

spot_low : (n x : ℕ) → IsSpot n x → 0 < x
spot_low n x (inl e) = omega (arith, e)
spot_low n x (inr s) = omega (arith, s.2)

spot_high : (n x l : ℕ) → n ≤ 65536 → l ≡ 16 → IsSpot n x → x + 8 * l ≤ 2 ^ 63
spot_high n x l few e (inl a) = omega (arith, e, a)
spot_high n x l few e (inr s) = omega (arith, few, e, s.1, s.2)

length-bytes_of : (m : Words) (x j len : ℕ) → length (bytes_of m x j len) ≡ len
length-bytes_of m x j zero = refl
length-bytes_of m x j (suc len) = ap (λ (k : ℕ). suc k) (length-bytes_of m x (j + 1) len)

holds_key : (m : Words) (t : Tree) (keys : Keys) (n k : ℕ) → IsForm t.form → IsGrid m t keys n → k < n → HoldsKey m t.form (place_of k)
holds_key m t keys n k form g l =
    let len : key_len m t.form (place_of k) ≡ length (key_at keys k) = sym (length-bytes_of m (place_of k) t.form.key_at (key_len m t.form (place_of k))) ∙ ap (λ (r : Rank). length r.1) (g.ranks k l) in
    let short : length (key_at keys k) ≤ 8 = length-low keys.len (slice_index keys.numbers.items k) in
    let room = g.room k l in
    let start : t.form.key_at ≤ 80 = elim form.len_place [ inl r ↦ omega (arith, r.2) | inr c ↦ omega (arith, c.2) ] in
    record { links = omega (arith, room); key = omega (arith, room, len, short, start) }

-- different spots are held
grid_holds : (m : Words) (t : Tree) (keys : Keys) (n : ℕ) (xs : List ℕ) → IsGrid m t keys n → IsDistinct xs → ((x : ℕ) → In x xs → IsSpot n x) → HoldsBlocks m xs
grid_holds m t keys n xs g distinct spot =
    let size = λ (x : ℕ) (i : In x xs). long m t keys n x g (spot x i) in
    record {
      live = λ x i. omega (arith, size x i);
      distinct = distinct;
      apart = λ x y i j ne. spots_apart n x y (length (m x)) (length (m y)) (size x i) (size y j) (spot x i) (spot y j) ne;
      above = λ x i. spot_low n x (spot x i);
      below = λ x i. spot_high n x (length (m x)) g.few (size x i) (spot x i);
    }

-- a block that isn't in the tree can be put in
can_insert : (m : Words) (t : Tree) (keys : Keys) (k : ℕ) → IsForm t.form → (h : HasTree m t keys) → k < length keys.numbers.items → ((x : ℕ) → In x h.blocks → rank_of m t.form x ≢ rank_at keys k) →
    CanInsert m t (place_of k) (key_at keys k) h.blocks
can_insert m t keys k form h l none =
    let n = length keys.numbers.items in
    let b = place_of k in
    let xs = h.blocks in
    let rank = h.grid.ranks k l in
    let spot = λ (x : ℕ) (i : In x (t.context.at ∷ b ∷ xs)). elim i as (λ _. IsSpot n x) [
      | inl e ↦ inl (e ∙ h.grid.context)
      | inr j ↦ elim j [ inl e ↦ inr (k, l, e) | inr s ↦ inr (h.places x s) ]
    ] in
    let apart : t.context.at ≢ b = λ e. omega (arith, e, h.grid.context) in
    let distinct : IsDistinct (t.context.at ∷ b ∷ xs) = (λ i. elim i [ inl e ↦ apart e | inr j ↦ h.tree.holds.distinct.0 j ], (λ i. none b i rank, h.tree.holds.distinct.1)) in
    record {
      holds = grid_holds m t keys n (t.context.at ∷ b ∷ xs) h.grid distinct spot;
      room = record {
        context = h.tree.room.context;
        nodes = λ x i. elim i [ inl e ↦ subst (λ (q : ℕ). HoldsKey m t.form q) (sym e) (holds_key m t keys n k form h.grid l) | inr j ↦ h.tree.room.nodes x j ];
      };
      lays = h.tree.lays;
      key_is = ap (λ (r : Rank). r.1) rank;
      other = λ x i e. none x i (e ∙ rank);
    }

-- the grid stays where links and colours change
grid_same : (m n : Words) (t : Tree) (keys : Keys) (count : ℕ) (xs : List ℕ) → IsForm t.form → ChangesNodes m n t.context.at xs → IsGrid m t keys count → IsGrid n t keys count
grid_same m n t keys count xs form c g = record {
  context = g.context;
  few = g.few;
  head = c.lengths 4096 ∙ g.head;
  room = λ k l. c.lengths (place_of k) ∙ g.room k l;
  ranks = λ k l. rank_same m n t.form t.context.at xs (place_of k) form c (λ e. omega (arith, e, g.context)) ∙ g.ranks k l;
}

tree_with : (m n : Words) (t : Tree) (keys : Keys) (k : ℕ) → IsForm t.form → (h : HasTree m t keys) → k < length keys.numbers.items → Inserted m n t (place_of k) h.blocks → HasTree n t keys
tree_with m n t keys k form h l i = record {
  grid = grid_same m n t keys (length keys.numbers.items) (i.before ++ place_of k ∷ i.after) form i.changes h.grid;
  blocks = i.before ++ place_of k ∷ i.after;
  tree = i.tree;
  places = λ x j. elim (In-one_more x i.before (place_of k) i.after j) [
    | inl e ↦ (k, l, e)
    | inr old ↦ h.places x (subst (λ (zs : List ℕ). In x zs) (sym i.is) old)
  ];
}

pub tree_without : (m n : Words) (t : Tree) (keys : Keys) (b : ℕ) → IsForm t.form → (h : HasTree m t keys) → In b h.blocks →
    ((before after : List ℕ) → IsTree m t (before ++ b ∷ after) → IsTree n t (before ++ after)) → ChangesNodes m n t.context.at h.blocks → HasTree n t keys
tree_without m n t keys b form h i removed changes =
    let s = In-split b h.blocks i in
    record {
      grid = grid_same m n t keys (length keys.numbers.items) h.blocks form changes h.grid;
      blocks = s.0 ++ s.1;
      tree = removed s.0 s.1 (subst (λ (zs : List ℕ). IsTree m t zs) s.2 h.tree);
      places = λ x j. h.places x (subst (λ (zs : List ℕ). In x zs) (sym s.2) (In-more x s.0 b s.1 j));
    }

-- an empty tree beside the grid
pub empty_tree : (m n : Words) (t : Tree) (keys : Keys) → MakesEmpty m n t.context.at → IsTree n t [] → IsGrid m t keys (length keys.numbers.items) → HasTree n t keys
empty_tree m n t keys c e g = record {
  grid = record {
    context = g.context;
    few = g.few;
    head = c.lengths 4096 ∙ g.head;
    room = λ k l. c.lengths (place_of k) ∙ g.room k l;
    ranks = λ k l. (same_block m n t.form (place_of k) (c.others (place_of k) (λ q. omega (arith, q, g.context)))).1 ∙ g.ranks k l;
  };
  blocks = [];
  tree = e;
  places = λ x i. absurd i;
}

pub grid_context : (m : Words) (t : Tree) (keys : Keys) (n : ℕ) → IsGrid m t keys n → IsContext m t
grid_context m t keys n g =
    let head : length (m t.context.at) ≡ 16 = subst (λ (q : ℕ). length (m q) ≡ 16) (sym g.context) g.head in
    record { room = omega (arith, head); above = omega (arith, g.context); below = omega (arith, head, g.context) }

-- the same at the values that the code has
pub can_insert_at : (m : Words) (t : Tree) (keys : Keys) (k b : ℕ) (key : List ℕ) → IsForm t.form → (l : LacksKey m t keys k) → k < length keys.numbers.items → b ≡ place_of k → key ≡ key_at keys k → CanInsert m t b key l.there.blocks
can_insert_at m t keys k b key form l range at same =
    subst (λ (z : ℕ). CanInsert m t z key l.there.blocks) (sym at) (subst (λ (bs : List ℕ). CanInsert m t (place_of k) bs l.there.blocks) (sym same)
    (can_insert m t keys k form l.there range l.absent))

-- a search that finds nothing
pub lacks_key : (m : Words) (t : Tree) (keys : Keys) (k hash : ℕ) (key : List ℕ) → (h : HasTree m t keys) → key ≡ key_at keys k → hash ≡ crc32_of key → ((x : ℕ) → In x h.blocks → rank_of m t.form x ≢ (hash, key)) → LacksKey m t keys k
lacks_key m t keys k hash key h same crc none =
    let rank : rank_at keys k ≡ (hash, key) = ap (λ (bs : List ℕ). let p : Rank = (crc32_of bs, bs) in p) (sym same) ∙ ap (λ (a : ℕ). let p : Rank = (a, key) in p) (sym crc) in
    record { there = h; absent = λ x i e. none x i (e ∙ rank) }

pub tree_with_at : (m n : Words) (t : Tree) (keys : Keys) (k b : ℕ) → IsForm t.form → (h : HasTree m t keys) → k < length keys.numbers.items → b ≡ place_of k → Inserted m n t b h.blocks → HasTree n t keys
tree_with_at m n t keys k b form h l at i = tree_with m n t keys k form h l (subst (λ (z : ℕ). Inserted m n t z h.blocks) at i)

-- the context alone is a grid of no blocks
pub grid_start : (m n : Words) (t : Tree) (keys : Keys) → t.context.at ≡ 4096 → AddsBlock m n t.context.at 16 → IsGrid n t keys 0
grid_start m n t keys at a = record {
  context = at;
  few = omega arith;
  head = subst (λ (z : ℕ). length (n z) ≡ 16) at (ap (λ ws. length ws) a.added ∙ length-replicate {A = ℕ} 16 0);
  room = λ k l. absurd (omega (arith, l));
  ranks = λ k l. absurd (omega (arith, l));
}

-- one block more, with its key
pub record Writes (m n : Words) (t : Tree) (keys : Keys) (k : ℕ) : Type 0 where
  pub lengths : (z : ℕ) → length (n z) ≡ length (m z)
  pub others : (z : ℕ) → z ≢ place_of k → n z ≡ m z
  pub rank : rank_of n t.form (place_of k) ≡ rank_at keys k

pub grid_more : (l m n : Words) (t : Tree) (keys : Keys) (k at : ℕ) → IsGrid l t keys k → k < 65536 → at ≡ place_of k → AddsBlock l m at 16 → Writes m n t keys k → IsGrid n t keys (k + 1)
grid_more l m n t keys k at g few e a w =
    let added : length (m (place_of k)) ≡ 16 = subst (λ (z : ℕ). length (m z) ≡ 16) e (ap (λ ws. length ws) a.added ∙ length-replicate {A = ℕ} 16 0) in
    let same = λ (z : ℕ) (ne : z ≢ place_of k). let r : n z ≡ l z = w.others z ne ∙ a.others z (λ q. ne (q ∙ e)) in r in
    let apart = λ (j : ℕ) (ne : j ≢ k). let r : place_of j ≢ place_of k = λ q. ne (omega (arith, q)) in r in
    let old = λ (j : ℕ) (b : j < k + 1) (ne : j ≢ k). let r : j < k = omega (arith, b, ne) in r in
    record {
      context = g.context;
      few = omega (arith, few);
      head = ap (λ ws. length ws) (same 4096 (λ q. omega (arith, q))) ∙ g.head;
      room = λ j b. elim (cases_eq j k) [
        | inl q ↦ subst (λ (i : ℕ). length (n (place_of i)) ≡ 16) (sym q) (w.lengths (place_of k) ∙ added)
        | inr ne ↦ ap (λ ws. length ws) (same (place_of j) (apart j ne)) ∙ g.room j (old j b ne)
      ];
      ranks = λ j b. elim (cases_eq j k) [
        | inl q ↦ subst (λ (i : ℕ). rank_of n t.form (place_of i) ≡ rank_at keys i) (sym q) w.rank
        | inr ne ↦ (same_block l n t.form (place_of j) (same (place_of j) (apart j ne))).1 ∙ g.ranks j (old j b ne)
      ];
    }

-- a tree has no more blocks than the grid
pub few_blocks : (n : ℕ) (xs : List ℕ) → IsDistinct xs → ((x : ℕ) → In x xs → (k : ℕ) × (k < n) × (x ≡ place_of k)) → length xs ≤ n
few_blocks zero [] d at = omega arith
few_blocks zero (x ∷ xs) d at = let p = at x (inl refl) in absurd (omega (arith, p.1))
few_blocks (suc n) xs d at = elim (is_in (place_of n) xs) [
  | inl i ↦
      let s = In-split (place_of n) xs i in
      let rest = IsDistinct-split s.0 (place_of n) s.1 (subst (λ (zs : List ℕ). IsDistinct zs) s.2 d) in
      let fewer = few_blocks n (s.0 ++ s.1) rest.0 (λ x j. below n x (λ e. rest.1 (subst (λ (z : ℕ). In z (s.0 ++ s.1)) e j)) (at x (subst (λ (zs : List ℕ). In x zs) (sym s.2) (In-more x s.0 (place_of n) s.1 j)))) in
      let whole : length xs ≡ length (s.0 ++ place_of n ∷ s.1) = ap (λ zs. length zs) s.2 in
      omega (arith, fewer, whole, length-append s.0 (place_of n ∷ s.1), length-append s.0 s.1)
  | inr none ↦ let fewer = few_blocks n xs d (λ x j. below n x (λ e. none (subst (λ (z : ℕ). In z xs) e j)) (at x j)) in omega (arith, fewer)
] where
  is_in : (a : ℕ) (ys : List ℕ) → In a ys ⊎ (In a ys → ⊥)
  is_in a [] = inr (λ i. i)
  is_in a (y ∷ ys) = elim (cases_eq a y) [
    | inl e ↦ inl (inl e)
    | inr ne ↦ elim (is_in a ys) [ inl i ↦ inl (inr i) | inr none ↦ inr (λ i. elim i [ inl e ↦ ne e | inr j ↦ none j ]) ]
  ]

  below : (m x : ℕ) → x ≢ place_of m → (k : ℕ) × (k < suc m) × (x ≡ place_of k) → (k : ℕ) × (k < m) × (x ≡ place_of k)
  below m x ne p = (p.0, omega (arith, p.1, λ (e : p.0 ≡ m). ne (p.2 ∙ ap (λ k. place_of k) e)), p.2)

-- what searches in the rows cost
pub cost_of_thousand : search_cost 1000 4 ≡ 105
unfolding search_cost bits
cost_of_thousand = refl

pub cost_of_colliding : search_cost 64 5 ≡ 75
unfolding search_cost bits
cost_of_colliding = refl

pub cost_at : (n m len l most : ℕ) → n ≡ m → len ≡ l → search_cost m l ≡ most → search_cost n len ≤ most
cost_at n m len l most en el e =
    let same : search_cost n len ≡ search_cost m l = ap (λ (x : ℕ). search_cost x len) en ∙ ap (λ (x : ℕ). search_cost m x) el in
    omega (arith, same, e)

length-key_at : (keys : Keys) (k : ℕ) → keys.len ≤ 8 → length (key_at keys k) ≡ keys.len
length-key_at keys k le = length-take-le keys.len (to_le_bytes w64 (slice_index keys.numbers.items k)) (omega (arith, le))

-- a search in the grid's tree
pub search_bound : (m : Words) (t : Tree) (keys : Keys) (k : ℕ) (key : List ℕ) → (h : HasTree m t keys) → keys.len ≤ 8 → key ≡ key_at keys k → search_cost (length h.blocks) (length key) ≤ search_cost (length keys.numbers.items) keys.len
search_bound m t keys k key h le same =
    let few = few_blocks (length keys.numbers.items) h.blocks h.tree.holds.distinct.1 h.places in
    let len : length key ≡ keys.len = ap (λ bs. length bs) same ∙ length-key_at keys k le in
    subst (λ (l : ℕ). search_cost (length h.blocks) l ≤ search_cost (length keys.numbers.items) keys.len) (sym len) (search_cost-rises (length h.blocks) (length keys.numbers.items) keys.len few)

-- the first three blocks of a grid can be in a queue whose head is in the context
pub grid_queue : (m : Words) (t : Tree) (q : Queue) (keys : Keys) (n : ℕ) → IsGrid m t keys n → 3 ≤ n → q.head.at ≡ 4096 → q.at ≡ 8 → FitsLine m q
grid_queue m t q keys n g most at word =
    let spot = λ (x : ℕ) (i : In x (q.head.at ∷ full)). elim i as (λ _. IsSpot n x) [
      | inl e ↦ inl (e ∙ at)
      | inr j ↦ elim j [
        | inl e ↦ inr (2, omega (arith, most), e)
        | inr k ↦ elim k [
          | inl e ↦ inr (1, omega (arith, most), e)
          | inr l ↦ elim l [ inl e ↦ inr (0, omega (arith, most), e) | inr none ↦ absurd none ]
        ]
      ]
    ] in
    let size = λ (x : ℕ) (i : In x (q.head.at ∷ full)). long m t keys n x g (spot x i) in
    record {
      holds = grid_holds m t keys n (q.head.at ∷ full) g (
        λ i. elim i [ inl e ↦ omega (arith, e, at) | inr j ↦ elim j [ inl e ↦ omega (arith, e, at) | inr k ↦ elim k [ inl e ↦ omega (arith, e, at) | inr none ↦ none ] ] ],
        (λ i. elim i [ inl e ↦ omega (arith, e) | inr j ↦ elim j [ inl e ↦ omega (arith, e) | inr none ↦ none ] ], (λ i. elim i [ inl e ↦ omega (arith, e) | inr none ↦ none ], (λ i. i, tt))),
      ) spot;
      room = record { head = omega (arith, size q.head.at (inl refl), word); entries = λ x i. omega (arith, size x (inr i)) };
    }
