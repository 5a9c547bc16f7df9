-- What a node's words tell of its entry, and which changes leave it.
use Rattle.std.proofs.Common.{ℕ, ◌≡◌, ◌≢◌, ◌⊎◌, ◌+◌, ◌*◌, ◌/◌, ◌%◌, ◌^◌, ◌<◌, ◌≤◌, List, [], ◌∷◌, ◌++◌, length, map, get_or, sym, ap, subst, ◌∙◌, refl, arith, inl, inr, length-append}
use Rattle.std.proofs.lemmas.List.{map-append, length-map}
use Rattle.std.proofs.lemmas.List.Elements.{All-nil, All-cons, All-head, All-tail}
use Rattle.std.specs.List.{All}
use Rattle.zone_region.specs.Words.{Words, word_at, SetsWord}
use Rattle.zone_region.specs.Members.{In}
use Rattle.zone_region.proofs.WordLemmas.{word_at-set_same, word_at-set_index, length-set_word}
use Rattle.zone_key.specs.Crc.{crc32_of}
use Rattle.block_bytes.specs.Bytes.{HoldsBytes, PutsBytes}
use Rattle.offset_tree.specs.Keys.{Rank, bytes_of, key_len, key_of, HoldsKey}
use Rattle.offset_table.specs.declared.table.Table.{Table}
use Rattle.offset_table.specs.Table.{request_form, rank_at, ChangesTable}
use Rattle.req_zone.specs.declared.state.ReqEntry.{ReqEntry}
use Rattle.req_zone.specs.declared.numbers.Numbers.{Numbers}
use Rattle.req_zone.specs.Words.{AreBytes, HoldsEntry, blocks_in}
use Rattle.req_zone.specs.Lays.{entry_with, with_numbers, SetsNumbers, SetsNode}
use Rattle.req_zone.proofs.ByteLemmas.{key_bytes}

-- ---- what a node is

-- the length of its key as the tree reads it
node_len : (m : Words) (e : ReqEntry) → HoldsEntry m e → key_len m request_form e.block ≡ length e.key
node_len m e h = omega (arith, h.size, h.short)

-- its hash and key are the entry's
pub entry_rank : (m : Words) (e : ReqEntry) → HoldsEntry m e → rank_at m e.block ≡ (crc32_of e.key, e.key)
entry_rank m e h =
    let key : key_of m request_form e.block ≡ e.key = ap (λ (n : ℕ). bytes_of m e.block 80 n) (node_len m e h) ∙ key_bytes m e.block e.key h.bytes h.key in
    ap (λ (n : ℕ). let p : Rank = (n, key_of m request_form e.block) in p) h.hash ∙ ap (λ (k : List ℕ). let p : Rank = (crc32_of e.key, k) in p) key

-- a block that is large enough has room for it
pub entry_room : (m : Words) (e : ReqEntry) → HoldsEntry m e → 80 + length e.key ≤ 8 * length (m e.block) → HoldsKey m request_form e.block
entry_room m e h room = record { links = omega (arith, room); key = omega (arith, room, node_len m e h) }

-- ---- what leaves it

-- the words but for links and the colour stay
pub record KeepsEntry (m n : Words) (at : ℕ) : Type 0 where
  pub words : (i : ℕ) → (i ≡ 0) ⊎ (7 ≤ i) → word_at n at i ≡ word_at m at i
  pub flags : word_at n at 4 / 256 ≡ word_at m at 4 / 256

pub kept_entry : (m n : Words) (e : ReqEntry) → KeepsEntry m n e.block → HoldsEntry m e → HoldsEntry n e
kept_entry m n e k h = record {
  bytes = h.bytes;
  short = h.short;
  hash = k.words 0 (inl refl) ∙ h.hash;
  size = k.flags ∙ h.size;
  last = k.words 7 (inr (omega arith)) ∙ h.last;
  excess = k.words 8 (inr (omega arith)) ∙ h.excess;
  count = k.words 9 (inr (omega arith)) ∙ h.count;
  key = λ i low. k.words (10 + i) (inr (omega arith)) ∙ h.key i low;
}

pub same_entry : (m n : Words) (at : ℕ) → n at ≡ m at → KeepsEntry m n at
same_entry m n at same = record {
  words = λ i k. ap (λ (ws : List ℕ). get_or ws i 0) same;
  flags = ap (λ (ws : List ℕ). get_or ws 4 0 / 256) same;
}

pub table_entry : (m n : Words) (t : Table) (xs : List ℕ) (at : ℕ) → at ≢ t.context.at → ChangesTable m n t xs → KeepsEntry m n at
table_entry m n t xs at ne c = record { words = λ i k. c.nodes at i ne k; flags = c.flags at ne }

-- the nodes of a list of entries
pub kept_entries : (m n : Words) (es : List ReqEntry) → ((at : ℕ) → In at (blocks_in es) → KeepsEntry m n at) → All (HoldsEntry m) es → All (HoldsEntry n) es
kept_entries m n [] k h = All-nil (HoldsEntry n)
kept_entries m n (e ∷ es) k h = All-cons (HoldsEntry n) e es (kept_entry m n e (k e.block (inl refl)) (All-head (HoldsEntry m) e es h)) (kept_entries m n es (λ at i. k at (inr i)) (All-tail (HoldsEntry m) e es h))

-- ---- what is written

-- three words are set, one after another
pub sets_numbers : (a b c d : Words) (at : ℕ) (numbers : Numbers) → 10 ≤ length (a at) → SetsWord a b at 7 numbers.last → SetsWord b c at 8 numbers.excess → SetsWord c d at 9 numbers.count → SetsNumbers a d at numbers
sets_numbers a b c d at numbers room x y z =
    let ab = length-set_word a b at 7 numbers.last at x in
    let bc = length-set_word b c at 8 numbers.excess at y in
    record {
      lengths = λ p. length-set_word c d at 9 numbers.count p z ∙ length-set_word b c at 8 numbers.excess p y ∙ length-set_word a b at 7 numbers.last p x;
      others = λ p ne. z.others p ne ∙ y.others p ne ∙ x.others p ne;
      last = word_at-set_index c d at 9 numbers.count at 7 z (λ e. omega (arith, e)) ∙ word_at-set_index b c at 8 numbers.excess at 7 y (λ e. omega (arith, e)) ∙ word_at-set_same a b at 7 numbers.last x (omega (arith, room));
      excess = word_at-set_index c d at 9 numbers.count at 8 z (λ e. omega (arith, e)) ∙ word_at-set_same b c at 8 numbers.excess y (omega (arith, room, ab));
      count = word_at-set_same c d at 9 numbers.count z (omega (arith, room, ab, bc));
      rest = λ i away.
          word_at-set_index c d at 9 numbers.count at i z (λ e. elim away [ inl low ↦ omega (arith, e, low) | inr high ↦ omega (arith, e, high) ])
          ∙ word_at-set_index b c at 8 numbers.excess at i y (λ e. elim away [ inl low ↦ omega (arith, e, low) | inr high ↦ omega (arith, e, high) ])
          ∙ word_at-set_index a b at 7 numbers.last at i x (λ e. elim away [ inl low ↦ omega (arith, e, low) | inr high ↦ omega (arith, e, high) ]);
    }

-- an entry's numbers are set
pub set_entry : (m n : Words) (e : ReqEntry) (numbers : Numbers) → SetsNumbers m n e.block numbers → HoldsEntry m e → HoldsEntry n (with_numbers numbers e)
set_entry m n e numbers s h = record {
  bytes = h.bytes;
  short = h.short;
  hash = s.rest 0 (inl (omega arith)) ∙ h.hash;
  size = ap (λ (v : ℕ). v / 2 ^ 8) (s.rest 4 (inl (omega arith))) ∙ h.size;
  last = s.last;
  excess = s.excess;
  count = s.count;
  key = λ i low. s.rest (10 + i) (inr (omega arith)) ∙ h.key i low;
}

-- the words of a new node are set, one after another
pub record WritesNode (a b c d f : Words) (e : ReqEntry) : Type 0 where
  pub bytes : AreBytes e.key
  pub short : length e.key < 2 ^ 16
  pub room : 80 + length e.key ≤ 8 * length (a e.block)
  pub hash : SetsWord a b e.block 0 (crc32_of e.key)
  pub size : SetsWord b c e.block 4 (length e.key * 65536)
  pub numbers : SetsNumbers c d e.block (record { excess = e.excess; last = e.last; count = e.count })
  pub key : PutsBytes d f e.block 10 e.key

pub sets_node : (a b c d f : Words) (e : ReqEntry) → WritesNode a b c d f e → SetsNode a f e
sets_node a b c d f e w =
    let ab = length-set_word a b e.block 0 (crc32_of e.key) e.block w.hash in
    let size : word_at f e.block 4 ≡ length e.key * 65536 = w.key.outside 4 (inl (omega arith)) ∙ w.numbers.rest 4 (inl (omega arith)) ∙ word_at-set_same b c e.block 4 (length e.key * 65536) w.size (omega (arith, w.room, ab)) in
    record {
      lengths = λ z. w.key.lengths z ∙ w.numbers.lengths z ∙ length-set_word b c e.block 4 (length e.key * 65536) z w.size ∙ length-set_word a b e.block 0 (crc32_of e.key) z w.hash;
      others = λ z ne. w.key.others z ne ∙ w.numbers.others z ne ∙ w.size.others z ne ∙ w.hash.others z ne;
      node = record {
        bytes = w.bytes;
        short = w.short;
        hash = w.key.outside 0 (inl (omega arith)) ∙ w.numbers.rest 0 (inl (omega arith)) ∙ word_at-set_index b c e.block 4 (length e.key * 65536) e.block 0 w.size (λ q. omega (arith, q)) ∙ word_at-set_same a b e.block 0 (crc32_of e.key) w.hash (omega (arith, w.room));
        size = omega (arith, size);
        last = w.key.outside 7 (inl (omega arith)) ∙ w.numbers.last;
        excess = w.key.outside 8 (inl (omega arith)) ∙ w.numbers.excess;
        count = w.key.outside 9 (inl (omega arith)) ∙ w.numbers.count;
        key = w.key.held;
      };
    }

-- ---- lists of entries

pub blocks_join : (xs : List ReqEntry) (e : ReqEntry) (ys : List ReqEntry) → blocks_in (xs ++ e ∷ ys) ≡ blocks_in xs ++ e.block ∷ blocks_in ys
blocks_join xs e ys = map-append (λ (entry : ReqEntry). entry.block) xs (e ∷ ys)

module _ (P : ReqEntry → Type 0) where
  pub all_before : (xs : List ReqEntry) (e : ReqEntry) (ys : List ReqEntry) → All P (xs ++ e ∷ ys) → All P xs
  all_before [] e ys h = All-nil P
  all_before (x ∷ xs) e ys h = All-cons P x xs (All-head P x (xs ++ e ∷ ys) h) (all_before xs e ys (All-tail P x (xs ++ e ∷ ys) h))

  pub all_from : (xs : List ReqEntry) (e : ReqEntry) (ys : List ReqEntry) → All P (xs ++ e ∷ ys) → All P (e ∷ ys)
  all_from [] e ys h = h
  all_from (x ∷ xs) e ys h = all_from xs e ys (All-tail P x (xs ++ e ∷ ys) h)

  pub all_at : (xs : List ReqEntry) (e : ReqEntry) (ys : List ReqEntry) → All P (xs ++ e ∷ ys) → P e
  all_at xs e ys h = All-head P e ys (all_from xs e ys h)

  pub all_behind : (xs : List ReqEntry) (e : ReqEntry) (ys : List ReqEntry) → All P (xs ++ e ∷ ys) → All P ys
  all_behind xs e ys h = All-tail P e ys (all_from xs e ys h)

-- a list of entries whose blocks end with this one
tail_of : List ℕ → List ℕ
tail_of [] = []
tail_of (x ∷ xs) = xs

pub last_entry : (es : List ReqEntry) (ys : List ℕ) (b : ℕ) → blocks_in es ≡ ys ++ b ∷ [] → (newer : List ReqEntry) × (e : ReqEntry) × (es ≡ newer ++ e ∷ []) × (e.block ≡ b)
unfolding tail_of
last_entry [] ys b is = absurd (omega (arith, ap (λ (xs : List ℕ). length xs) is, length-append ys (b ∷ [])))
last_entry (e ∷ []) [] b is = ([], e, refl, ap (λ (xs : List ℕ). get_or xs 0 0) is)
last_entry (e ∷ f ∷ es) [] b is = absurd (omega (arith, ap (λ (xs : List ℕ). length xs) is))
last_entry (e ∷ es) (y ∷ ys) b is = let r = last_entry es ys b (ap (λ (xs : List ℕ). tail_of xs) is) in (e ∷ r.0, r.1, ap (λ (xs : List ReqEntry). e ∷ xs) r.2, r.3)
