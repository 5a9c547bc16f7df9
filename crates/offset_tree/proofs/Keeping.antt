-- For callers: what a change of other words leaves of a tree.
use Rattle.std.proofs.Common.{ℕ, ◌≡◌, ◌≢◌, ◌⊎◌, ◌+◌, ◌*◌, ◌/◌, ◌%◌, ◌^◌, ◌<◌, ◌≤◌, zero, suc, Bool, false, List, ◌∷◌, length, sym, ap, subst, ◌∙◌, refl, arith, inl, inr}
use Rattle.std.proofs.lemmas.Bool.{cases_eq}
use Rattle.zone_region.specs.Words.{Words, word_at}
use Rattle.offset_tree.specs.declared.tree.Tree.{Tree}
use Rattle.offset_tree.specs.declared.tree.Form.{Form}
use Rattle.zone_region.specs.Members.{In}
use Rattle.offset_tree.specs.Keys.{Rank, block_byte, bytes_of, key_len, key_of, rank_of, HoldsKey}
use Rattle.offset_tree.specs.Layout.{LaysPart, empty, red, black, IsContext, IsTree, CanInsert}
use Rattle.zone_region.specs.Granting.{GrantsWords, ReturnsWords}
use Rattle.zone_region.specs.Holding.{HoldsBlocks}
use Rattle.zone_region.proofs.GrantingLemmas.{granted_same, returned_same}
use Rattle.zone_region.proofs.HoldingLemmas.{holds_kept}
use Rattle.zone_region.proofs.MembersLemmas.{In-append_left, In-append_right, In-middle}
use Rattle.offset_tree.proofs.LiesLemmas.{same_word}
use Rattle.offset_tree.proofs.InsertLemmas.{ordered_same}

-- the links and the colour of a block stay
pub record KeepsNode (m n : Words) (z : ℕ) : Type 0 where
  pub left : word_at n z 1 ≡ word_at m z 1
  pub right : word_at n z 2 ≡ word_at m z 2
  pub parent : word_at n z 3 ≡ word_at m z 3
  pub colour : word_at n z 4 % 256 ≡ word_at m z 4 % 256

-- the context's root, and the lengths, the links, the colours, the hashes and the keys of these blocks stay
pub record KeepsTree (m n : Words) (t : Tree) (xs : List ℕ) : Type 0 where
  pub lengths : (z : ℕ) → In z (t.context.at ∷ xs) → length (n z) ≡ length (m z)
  pub root : word_at n t.context.at 0 ≡ word_at m t.context.at 0
  pub nodes : (z : ℕ) → In z xs → KeepsNode m n z
  pub keys : (z : ℕ) → In z xs → rank_of n t.form z ≡ rank_of m t.form z

kept_part : (m n : Words) (nil : ℕ) {xs : List ℕ} {o p : ℕ} {c : Bool} {h : ℕ} → ((z : ℕ) → In z xs → KeepsNode m n z) → LaysPart m nil xs o p c h → LaysPart n nil xs o p c h
kept_part m n nil same empty = empty
kept_part m n nil same (red {before = xs} {after = ys} {o = o} {h = h} parent colour left right) =
    let k = same o (In-middle xs o ys) in
    red (k.parent ∙ parent) (k.colour ∙ colour)
    (subst (λ (a : ℕ). LaysPart n nil xs a o false h) (sym k.left) (kept_part m n nil (λ z i. same z (In-append_left z xs (o ∷ ys) i)) left))
    (subst (λ (a : ℕ). LaysPart n nil ys a o false h) (sym k.right) (kept_part m n nil (λ z i. same z (In-append_right z xs (o ∷ ys) (inr i))) right))
kept_part m n nil same (black {before = xs} {after = ys} {o = o} {h = h} {l = l} {r = r} parent colour left right) =
    let k = same o (In-middle xs o ys) in
    black (k.parent ∙ parent) (k.colour ∙ colour)
    (subst (λ (a : ℕ). LaysPart n nil xs a o l h) (sym k.left) (kept_part m n nil (λ z i. same z (In-append_left z xs (o ∷ ys) i)) left))
    (subst (λ (a : ℕ). LaysPart n nil ys a o r h) (sym k.right) (kept_part m n nil (λ z i. same z (In-append_right z xs (o ∷ ys) (inr i))) right))

length-bytes_of : (m : Words) (x j len : ℕ) → length (bytes_of m x j len) ≡ len
length-bytes_of m x j zero = refl
length-bytes_of m x j (suc len) = ap (λ (k : ℕ). suc k) (length-bytes_of m x (j + 1) len)

-- the same key has the same length
key_len-rank : (m n : Words) (f : Form) (z : ℕ) → rank_of n f z ≡ rank_of m f z → key_len n f z ≡ key_len m f z
key_len-rank m n f z e =
    sym (length-bytes_of n z f.key_at (key_len n f z)) ∙ (ap (λ (r : Rank). length r.1) e ∙ length-bytes_of m z f.key_at (key_len m f z))

kept_room : (m n : Words) (f : Form) (z : ℕ) → length (n z) ≡ length (m z) → rank_of n f z ≡ rank_of m f z → HoldsKey m f z → HoldsKey n f z
kept_room m n f z same rank h = record { links = omega (arith, same, h.links); key = omega (arith, same, h.key, key_len-rank m n f z rank) }

pub kept_tree : (m n : Words) (t : Tree) (xs : List ℕ) → KeepsTree m n t xs → IsTree m t xs → IsTree n t xs
kept_tree m n t xs k h =
    let lies : LaysPart n (t.context.at + 24) xs (word_at m t.context.at 0) 0 false h.lays.height = kept_part m n (t.context.at + 24) k.nodes h.lays.lies in
    record {
      holds = holds_kept m n (t.context.at ∷ xs) k.lengths h.holds;
      room = record {
        context = omega (arith, k.lengths t.context.at (inl refl), h.room.context);
        nodes = λ x i. kept_room m n t.form x (k.lengths x (inr i)) (k.keys x i) (h.room.nodes x i);
      };
      lays = record {
        height = h.lays.height;
        lies = subst (λ (o : ℕ). LaysPart n (t.context.at + 24) xs o 0 false h.lays.height) (sym k.root) lies;
        ordered = ordered_same m n t.form xs k.keys h.lays.ordered;
      };
    }

-- A block can be put into a tree that stays, where no block of it had the block's hash and key.
pub can_insert : (m n : Words) (t : Tree) (b hash : ℕ) (key xs : List ℕ) → KeepsTree m n t xs → IsTree m t xs → ((x : ℕ) → In x xs → rank_of m t.form x ≢ (hash, key)) →
    HoldsBlocks n (t.context.at ∷ b ∷ xs) → HoldsKey n t.form b → rank_of n t.form b ≡ (hash, key) → CanInsert n t b key xs
can_insert m n t b hash key xs k h none holds room rank =
    let tree = kept_tree m n t xs k h in
    record {
      holds = holds;
      room = record {
        context = tree.room.context;
        nodes = λ x i. elim i [ inl e ↦ subst (λ (z : ℕ). HoldsKey n t.form z) (sym e) room | inr j ↦ tree.room.nodes x j ];
      };
      lays = tree.lays;
      key_is = ap (λ (r : Rank). r.1) rank;
      other = λ x i e. none x i (sym (k.keys x i) ∙ (e ∙ rank));
    }

-- a block whose words stay
pub same_block : (m n : Words) (f : Form) (z : ℕ) → n z ≡ m z → KeepsNode m n z × (rank_of n f z ≡ rank_of m f z)
same_block m n f z e =
    (record { left = same_word m n z 1 e; right = same_word m n z 2 e; parent = same_word m n z 3 e; colour = ap (λ w. w % 256) (same_word m n z 4 e) }, rank z e) where
      bytes : (j len : ℕ) → bytes_of n z j len ≡ bytes_of m z j len
      bytes j zero = refl
      bytes j (suc len) = ap (λ (b : ℕ). b ∷ bytes_of n z (j + 1) len) (ap (λ (w : ℕ). w / 2 ^ (8 * (j % 8)) % 256) (same_word m n z (j / 8) e)) ∙ ap (λ bs. block_byte m z j ∷ bs) (bytes (j + 1) len)

      rank : (y : ℕ) → n z ≡ m z → rank_of n f z ≡ rank_of m f z
      rank y e =
          let len : key_len n f z ≡ key_len m f z = ap (λ (w : ℕ). w / 2 ^ (8 * (f.len_at % 8)) % 2 ^ (8 * f.len_bytes)) (same_word m n z 4 e) in
          let key : key_of n f z ≡ key_of m f z = ap (λ (k : ℕ). bytes_of n z f.key_at k) len ∙ bytes f.key_at (key_len m f z) in
          ap (λ (h : ℕ). let p : Rank = (h, key_of n f z) in p) (same_word m n z 0 e) ∙ ap (λ (k : List ℕ). let p : Rank = (word_at m z 0, k) in p) key

-- all the words of the context and of these blocks stay
pub kept_blocks : (m n : Words) (t : Tree) (xs : List ℕ) → ((z : ℕ) → In z (t.context.at ∷ xs) → n z ≡ m z) → KeepsTree m n t xs
kept_blocks m n t xs same = record {
  lengths = λ z i. ap (λ ws. length ws) (same z i);
  root = same_word m n t.context.at 0 (same t.context.at (inl refl));
  nodes = λ z i. (same_block m n t.form z (same z (inr i))).0;
  keys = λ z i. (same_block m n t.form z (same z (inr i))).1;
}

-- a grant of a block leaves a tree
pub granted_tree : (m n : Words) (at count : ℕ) (t : Tree) (xs : List ℕ) → GrantsWords m n at count → IsTree m t xs → IsTree n t xs
granted_tree m n at count t xs g h =
    kept_tree m n t xs (kept_blocks m n t xs (granted_same m n at count (t.context.at ∷ xs) g h.holds.live)) h

-- and so does the return of a block that isn't the context or one of the tree
pub returned_tree : (m n : Words) (at : ℕ) (t : Tree) (xs : List ℕ) → ReturnsWords m n at → (In at (t.context.at ∷ xs) → ⊥) → IsTree m t xs → IsTree n t xs
returned_tree m n at t xs r out h =
    kept_tree m n t xs (kept_blocks m n t xs (returned_same m n at (t.context.at ∷ xs) r out)) h

-- a new block of eight words or more, above offset 0 and below 2^63, can be a context
pub granted_context : (m n : Words) (t : Tree) (count : ℕ) → GrantsWords m n t.context.at count → 8 ≤ count → 0 < t.context.at → t.context.at + 8 * count ≤ 2 ^ 63 → IsContext n t
granted_context m n t count g room above below = record {
  room = omega (arith, g.long, room);
  above = above;
  below = omega (arith, g.long, below);
}

-- the bytes of the key stay
key_bytes : (m n : Words) (z j len : ℕ) → ((k : ℕ) → j ≤ k → block_byte n z k ≡ block_byte m z k) → bytes_of n z j len ≡ bytes_of m z j len
key_bytes m n z j zero same = refl
key_bytes m n z j (suc len) same = ap (λ (b : ℕ). b ∷ bytes_of n z (j + 1) len) (same j (omega arith)) ∙ ap (λ bs. block_byte m z j ∷ bs) (key_bytes m n z (j + 1) len (λ k le. same k (omega (arith, le))))

-- a request node keeps its key where word 0, word 4 and the words from 10 on stay
pub rank_of-request : (m n : Words) (f : Form) (z : ℕ) → f.key_at ≡ 80 → word_at n z 0 ≡ word_at m z 0 → word_at n z 4 ≡ word_at m z 4 → ((i : ℕ) → 10 ≤ i → word_at n z i ≡ word_at m z i) → rank_of n f z ≡ rank_of m f z
rank_of-request m n f z at hash flags rest =
    let len : key_len n f z ≡ key_len m f z = ap (λ (w : ℕ). w / 2 ^ (8 * (f.len_at % 8)) % 2 ^ (8 * f.len_bytes)) flags in
    let bytes = key_bytes m n z f.key_at (key_len m f z) (λ k le. ap (λ (w : ℕ). w / 2 ^ (8 * (k % 8)) % 256) (rest (k / 8) (omega (arith, at, le)))) in
    let key : key_of n f z ≡ key_of m f z = ap (λ (k : ℕ). bytes_of n z f.key_at k) len ∙ bytes in
    ap (λ (h : ℕ). let p : Rank = (h, key_of n f z) in p) hash ∙ ap (λ (k : List ℕ). let p : Rank = (word_at m z 0, k) in p) key

-- In request nodes the words 5 to 9 may change: the links of a queue, and numbers that are no part of the key.
pub record KeepsRequestNodes (m n : Words) (t : Tree) (xs : List ℕ) : Type 0 where
  pub lengths : (z : ℕ) → In z (t.context.at ∷ xs) → length (n z) ≡ length (m z)
  pub root : word_at n t.context.at 0 ≡ word_at m t.context.at 0
  pub nodes : (z i : ℕ) → In z xs → (i ≤ 4) ⊎ (10 ≤ i) → word_at n z i ≡ word_at m z i

pub kept_request_nodes : (m n : Words) (t : Tree) (xs : List ℕ) → t.form.key_at ≡ 80 → KeepsRequestNodes m n t xs → KeepsTree m n t xs
kept_request_nodes m n t xs at k = record {
  lengths = k.lengths;
  root = k.root;
  nodes = λ z i. record {
    left = k.nodes z 1 i (inl (omega arith));
    right = k.nodes z 2 i (inl (omega arith));
    parent = k.nodes z 3 i (inl (omega arith));
    colour = ap (λ w. w % 256) (k.nodes z 4 i (inl (omega arith)));
  };
  keys = λ z i. rank_of-request m n t.form z at (k.nodes z 0 i (inl (omega arith))) (k.nodes z 4 i (inl (omega arith))) (λ j le. k.nodes z j i (inr le));
}

-- a byte of a word's upper half
upper : (v w k : ℕ) → v / 4294967296 ≡ w / 4294967296 → 4 ≤ k → k ≤ 7 → v / 2 ^ (8 * k) % 256 ≡ w / 2 ^ (8 * k) % 256
upper v w k e low high = elim (cases_eq k 4) [
  | inl four ↦ subst (λ (q : ℕ). v / 2 ^ (8 * q) % 256 ≡ w / 2 ^ (8 * q) % 256) (sym four) (ap (λ (q : ℕ). q % 256) e)
  | inr n4 ↦ elim (cases_eq k 5) [
    | inl five ↦ subst (λ (q : ℕ). v / 2 ^ (8 * q) % 256 ≡ w / 2 ^ (8 * q) % 256) (sym five) (ap (λ (q : ℕ). q % 256) (fifth v w e))
    | inr n5 ↦ elim (cases_eq k 6) [
      | inl six ↦ subst (λ (q : ℕ). v / 2 ^ (8 * q) % 256 ≡ w / 2 ^ (8 * q) % 256) (sym six) (ap (λ (q : ℕ). q % 256) (sixth v w e))
      | inr n6 ↦ let seven : k ≡ 7 = omega (arith, low, high, n4, n5, n6) in subst (λ (q : ℕ). v / 2 ^ (8 * q) % 256 ≡ w / 2 ^ (8 * q) % 256) (sym seven) (ap (λ (q : ℕ). q % 256) (seventh v w e))
    ]
  ]
] where
  fifth : (v w : ℕ) → v / 4294967296 ≡ w / 4294967296 → v / 1099511627776 ≡ w / 1099511627776
  fifth v w e = omega (arith, e)

  sixth : (v w : ℕ) → v / 4294967296 ≡ w / 4294967296 → v / 281474976710656 ≡ w / 281474976710656
  sixth v w e = omega (arith, e)

  seventh : (v w : ℕ) → v / 4294967296 ≡ w / 4294967296 → v / 72057594037927936 ≡ w / 72057594037927936
  seventh v w e = omega (arith, e)

-- a connection node keeps its key where word 0, the length's byte, the upper half of word 4 and the words from 5 on stay
pub rank_of-connection : (m n : Words) (f : Form) (z : ℕ) → f.len_at ≡ 33 → f.len_bytes ≡ 1 → f.key_at ≡ 36 → word_at n z 0 ≡ word_at m z 0 →
    word_at n z 4 / 256 % 256 ≡ word_at m z 4 / 256 % 256 → word_at n z 4 / 4294967296 ≡ word_at m z 4 / 4294967296 →
    ((i : ℕ) → 5 ≤ i → word_at n z i ≡ word_at m z i) → rank_of n f z ≡ rank_of m f z
rank_of-connection m n f z len_at len_bytes key_at hash short high rest =
    let len : key_len n f z ≡ key_len m f z =
    subst (λ (a : ℕ). word_at n z 4 / 2 ^ (8 * (a % 8)) % 2 ^ (8 * f.len_bytes) ≡ word_at m z 4 / 2 ^ (8 * (a % 8)) % 2 ^ (8 * f.len_bytes)) (sym len_at)
    (subst (λ (b : ℕ). word_at n z 4 / 2 ^ (8 * (33 % 8)) % 2 ^ (8 * b) ≡ word_at m z 4 / 2 ^ (8 * (33 % 8)) % 2 ^ (8 * b)) (sym len_bytes) short) in
    let byte = λ (k : ℕ) (le : f.key_at ≤ k). elim (cases_eq (k / 8) 4) as (λ _. block_byte n z k ≡ block_byte m z k) [
      | inl e ↦ subst (λ (q : ℕ). word_at n z q / 2 ^ (8 * (k % 8)) % 256 ≡ word_at m z q / 2 ^ (8 * (k % 8)) % 256) (sym e)
          (upper (word_at n z 4) (word_at m z 4) (k % 8) high (omega (arith, e, le, key_at)) (omega arith))
      | inr ne ↦ ap (λ (w : ℕ). w / 2 ^ (8 * (k % 8)) % 256) (rest (k / 8) (omega (arith, ne, le, key_at)))
    ] in
    let bytes = key_bytes m n z f.key_at (key_len m f z) byte in
    let key : key_of n f z ≡ key_of m f z = ap (λ (k : ℕ). bytes_of n z f.key_at k) len ∙ bytes in
    ap (λ (h : ℕ). let p : Rank = (h, key_of n f z) in p) hash ∙ ap (λ (k : List ℕ). let p : Rank = (word_at m z 0, k) in p) key
