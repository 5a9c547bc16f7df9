-- The words of a node, and the key that a tree reads from them.
use Rattle.std.proofs.Common.{ℕ, ◌≡◌, ◌+◌, ◌-◌, ◌*◌, ◌/◌, ◌%◌, ◌^◌, ◌<◌, ◌≤◌, zero, suc, List, [], ◌∷◌, length, take, drop, get_or, ap, sym, ◌∙◌, refl, arith, inl, inr}
use Rattle.std.proofs.Math.Nat.{div-div-eq-div-mul}
use Rattle.std.proofs.lemmas.Bool.{cases_lt}
use Rattle.std.proofs.lemmas.Nat.{pow-add}
use Rattle.std.proofs.lemmas.List.{length-take, length-drop, get_or-take, get_or-drop}
use Rattle.std.proofs.lemmas.List.Elements.{All-head, All-tail, All-take, All-drop}
use Rattle.zone_key.specs.Crc.{crc32_of}
use Rattle.zone_key.specs.Word.{little_endian, key_word}
use Rattle.zone_region.specs.Words.{Words, word_at, SetsWord}
use Rattle.zone_region.proofs.WordLemmas.{word_at-set_same, word_at-set_index, length-set_word}
use Rattle.block_bytes.specs.Bytes.{PutsBytes}
use Rattle.offset_tree.specs.Keys.{Rank, block_byte, bytes_of, rank_of}
use Rattle.conn_zone.specs.declared.state.ConnEntry.{ConnEntry}
use Rattle.conn_zone.specs.Layout.{length_in, count_in, front_in, AreBytes, LaysNode, tree_at}
use Rattle.conn_zone.specs.Changes.{WritesNode}

-- ---- the bytes of a number

-- digit `k` of the number of some bytes is byte `k`
digit : (bs : List ℕ) (k : ℕ) → AreBytes bs → k < length bs → little_endian bs / 2 ^ (8 * k) % 256 ≡ get_or bs k 0
digit [] k bytes low = absurd (omega (arith, low))
digit (b ∷ bs) zero bytes low = let h = All-head (λ (b : ℕ). b < 256) b bs bytes in omega (arith, h)
digit (b ∷ bs) (suc k) bytes low =
    let h = All-head (λ (b : ℕ). b < 256) b bs bytes in
    let count : 8 * suc k ≡ 8 + 8 * k = omega arith in
    let power : 2 ^ (8 * suc k) ≡ 256 * 2 ^ (8 * k) = ap (λ (n : ℕ). 2 ^ n) count ∙ pow-add 2 8 (8 * k) in
    let rest : (b + 256 * little_endian bs) / 256 ≡ little_endian bs = omega (arith, h) in
    ap (λ (n : ℕ). (b + 256 * little_endian bs) / n % 256) power
    ∙ ap (λ (n : ℕ). n % 256) (sym (div-div-eq-div-mul (b + 256 * little_endian bs) 256 (2 ^ (8 * k))))
    ∙ ap (λ (n : ℕ). n / 2 ^ (8 * k) % 256) rest
    ∙ digit bs k (All-tail (λ (b : ℕ). b < 256) b bs bytes) (omega (arith, low))

-- and so it is in each word of them
word_byte : (bs : List ℕ) (i r : ℕ) → AreBytes bs → r < 8 → 8 * i + r < length bs → key_word bs i / 2 ^ (8 * r) % 256 ≡ get_or bs (8 * i + r) 0
word_byte bs i r bytes few low =
    let tail = drop (8 * i) bs in
    digit (take 8 tail) r (All-take (λ (b : ℕ). b < 256) 8 tail (All-drop (λ (b : ℕ). b < 256) (8 * i) bs bytes)) (omega (arith, length-take 8 tail, length-drop (8 * i) bs, few, low))
    ∙ get_or-take 8 tail r 0 few
    ∙ get_or-drop (8 * i) bs r 0

-- ---- the key in a node

node_byte : (m : Words) (e : ConnEntry) (i : ℕ) → LaysNode m e → i < length e.key → block_byte m e.block (36 + i) ≡ get_or e.key i 0
node_byte m e i n low = elim (cases_lt i 4) [
  | inl front ↦
      let word : (36 + i) / 8 ≡ 4 = omega (arith, front) in
      let place : (36 + i) % 8 ≡ 4 + i = omega (arith, front) in
      let count : 8 * (4 + i) ≡ 32 + 8 * i = omega arith in
      let power : 2 ^ (8 * (4 + i)) ≡ 4294967296 * 2 ^ (8 * i) = ap (λ (n : ℕ). 2 ^ n) count ∙ pow-add 2 32 (8 * i) in
      ap (λ (w : ℕ). word_at m e.block w / 2 ^ (8 * ((36 + i) % 8)) % 256) word
      ∙ ap (λ (p : ℕ). word_at m e.block 4 / 2 ^ (8 * p) % 256) place
      ∙ ap (λ (p : ℕ). word_at m e.block 4 / p % 256) power
      ∙ ap (λ (w : ℕ). w % 256) (sym (div-div-eq-div-mul (word_at m e.block 4) 4294967296 (2 ^ (8 * i))))
      ∙ ap (λ (w : ℕ). w / 2 ^ (8 * i) % 256) n.front
      ∙ digit (take 4 e.key) i (All-take (λ (b : ℕ). b < 256) 4 e.key n.bytes) (omega (arith, length-take 4 e.key, front, low))
      ∙ get_or-take 4 e.key i 0 front
  | inr behind ↦
      let j = i - 4 in
      let word : (36 + i) / 8 ≡ 5 + j / 8 = omega (arith, behind) in
      let place : (36 + i) % 8 ≡ j % 8 = omega (arith, behind) in
      let long = length-drop 4 e.key in
      let there : 8 * (j / 8) + j % 8 ≡ j = omega arith in
      let whole : 4 + j ≡ i = omega (arith, behind) in
      ap (λ (w : ℕ). word_at m e.block w / 2 ^ (8 * ((36 + i) % 8)) % 256) word
      ∙ ap (λ (p : ℕ). word_at m e.block (5 + j / 8) / 2 ^ (8 * p) % 256) place
      ∙ ap (λ (w : ℕ). w / 2 ^ (8 * (j % 8)) % 256) (n.rest (j / 8) (omega (arith, long, low, behind)))
      ∙ word_byte (drop 4 e.key) (j / 8) (j % 8) (All-drop (λ (b : ℕ). b < 256) 4 e.key n.bytes) (omega arith) (omega (arith, there, long, low, behind))
      ∙ ap (λ (k : ℕ). get_or (drop 4 e.key) k 0) there
      ∙ get_or-drop 4 e.key j 0
      ∙ ap (λ (k : ℕ). get_or e.key k 0) whole
]

bytes_are : (m : Words) (x j : ℕ) (bs : List ℕ) → ((i : ℕ) → i < length bs → block_byte m x (j + i) ≡ get_or bs i 0) → bytes_of m x j (length bs) ≡ bs
bytes_are m x j [] are = refl
bytes_are m x j (b ∷ bs) are =
    let here : j + 0 ≡ j = omega arith in
    let first : block_byte m x j ≡ b = sym (ap (λ (k : ℕ). block_byte m x k) here) ∙ are 0 (omega arith) in
    let rest : bytes_of m x (j + 1) (length bs) ≡ bs = bytes_are m x (j + 1) bs (λ i low. let next : j + 1 + i ≡ j + suc i = omega arith in ap (λ (k : ℕ). block_byte m x k) next ∙ are (suc i) (omega (arith, low))) in
    ap (λ (y : ℕ). y ∷ bytes_of m x (j + 1) (length bs)) first ∙ ap (λ (ys : List ℕ). b ∷ ys) rest

-- a tree reads the entry's hash and key from its node
pub node_rank : (m : Words) (e : ConnEntry) (context : ℕ) → LaysNode m e → rank_of m (tree_at context).form e.block ≡ (crc32_of e.key, e.key)
node_rank m e context n =
    let key : bytes_of m e.block 36 (length_in (word_at m e.block 4)) ≡ e.key = ap (λ (len : ℕ). bytes_of m e.block 36 len) n.length_is ∙ bytes_are m e.block 36 e.key (λ i low. node_byte m e i n low) in
    let hash : word_at m e.block 0 ≡ crc32_of e.key = n.hash in
    ap (λ (h : ℕ). let p : Rank = (h, bytes_of m e.block 36 (length_in (word_at m e.block 4))) in p) hash ∙ ap (λ (k : List ℕ). let p : Rank = (crc32_of e.key, k) in p) key

-- ---- what keeps a node

-- its links and its colour may change
pub node_kept : (m n : Words) (e : ConnEntry) → word_at n e.block 0 ≡ word_at m e.block 0 → word_at n e.block 4 / 256 ≡ word_at m e.block 4 / 256 → ((i : ℕ) → 5 ≤ i → word_at n e.block i ≡ word_at m e.block i) → LaysNode m e → LaysNode n e
node_kept m n e hash flags rest l = record {
  hash = hash ∙ l.hash;
  length_is = ap (λ (w : ℕ). w % 256) flags ∙ l.length_is;
  count_is = count (word_at n e.block 4) (word_at m e.block 4) flags ∙ l.count_is;
  front = front (word_at n e.block 4) (word_at m e.block 4) flags ∙ l.front;
  rest = λ i low. rest (5 + i) (omega arith) ∙ l.rest i low;
  bytes = l.bytes;
} where
  count : (v w : ℕ) → v / 256 ≡ w / 256 → v / 65536 % 65536 ≡ w / 65536 % 65536
  count v w e = omega (arith, e)

  front : (v w : ℕ) → v / 256 ≡ w / 256 → v / 4294967296 ≡ w / 4294967296
  front v w e = omega (arith, e)

-- its block has the same words
pub node_same : (m n : Words) (e : ConnEntry) → n e.block ≡ m e.block → LaysNode m e → LaysNode n e
node_same m n e same l =
    let word = λ (i : ℕ). let r : word_at n e.block i ≡ word_at m e.block i = ap (λ (ws : List ℕ). get_or ws i 0) same in r in
    node_kept m n e (word 0) (ap (λ (w : ℕ). w / 256) (word 4)) (λ i low. word i) l

-- word 4 has another count
pub node_recounted : (m n : Words) (e new : ConnEntry) → new.block ≡ e.block → new.key ≡ e.key → word_at n e.block 0 ≡ word_at m e.block 0 → count_in (word_at n e.block 4) ≡ new.count →
    word_at n e.block 4 % 65536 ≡ word_at m e.block 4 % 65536 → front_in (word_at n e.block 4) ≡ front_in (word_at m e.block 4) → ((i : ℕ) → 5 ≤ i → word_at n e.block i ≡ word_at m e.block i) → LaysNode m e → LaysNode n (record { key = e.key; block = e.block; count = new.count })
node_recounted m n e new block key hash count low front rest l = record {
  hash = hash ∙ l.hash;
  length_is = short (word_at n e.block 4) (word_at m e.block 4) low ∙ l.length_is;
  count_is = count;
  front = front ∙ l.front;
  rest = λ i low. rest (5 + i) (omega arith) ∙ l.rest i low;
  bytes = l.bytes;
} where
  short : (v w : ℕ) → v % 65536 ≡ w % 65536 → v / 256 % 256 ≡ w / 256 % 256
  short v w e = omega (arith, e)

-- ---- a node that is written

-- the first eight bytes, moved into the upper half of a word, leave the first four there
front_of : (key : List ℕ) → AreBytes key → little_endian (take 8 key) * 4294967296 % 18446744073709551616 ≡ little_endian (take 4 key) * 4294967296
front_of [] bytes = refl
front_of (a ∷ []) bytes = let ha = bytes 0 0 (omega arith) in omega (arith, ha)
front_of (a ∷ b ∷ []) bytes = let ha = bytes 0 0 (omega arith) in let hb = bytes 1 0 (omega arith) in omega (arith, ha, hb)
front_of (a ∷ b ∷ c ∷ []) bytes = let ha = bytes 0 0 (omega arith) in let hb = bytes 1 0 (omega arith) in let hc = bytes 2 0 (omega arith) in omega (arith, ha, hb, hc)
front_of (a ∷ b ∷ c ∷ d ∷ key) bytes =
    let ha = bytes 0 0 (omega arith) in
    let hb = bytes 1 0 (omega arith) in
    let hc = bytes 2 0 (omega arith) in
    let hd = bytes 3 0 (omega arith) in
    omega (arith, ha, hb, hc, hd)

few_bytes : (bs : List ℕ) → AreBytes bs → length bs ≤ 4 → little_endian bs < 4294967296
few_bytes [] bytes few = omega arith
few_bytes (a ∷ []) bytes few = let ha = bytes 0 0 (omega arith) in omega (arith, ha)
few_bytes (a ∷ b ∷ []) bytes few = let ha = bytes 0 0 (omega arith) in let hb = bytes 1 0 (omega arith) in omega (arith, ha, hb)
few_bytes (a ∷ b ∷ c ∷ []) bytes few = let ha = bytes 0 0 (omega arith) in let hb = bytes 1 0 (omega arith) in let hc = bytes 2 0 (omega arith) in omega (arith, ha, hb, hc)
few_bytes (a ∷ b ∷ c ∷ d ∷ []) bytes few =
    let ha = bytes 0 0 (omega arith) in
    let hb = bytes 1 0 (omega arith) in
    let hc = bytes 2 0 (omega arith) in
    let hd = bytes 3 0 (omega arith) in
    omega (arith, ha, hb, hc, hd)
few_bytes (a ∷ b ∷ c ∷ d ∷ e ∷ bs) bytes few = absurd (omega (arith, few))

-- the parts of word 4, as the code adds them up
pub record HasParts (word len count front : ℕ) : Type 0 where
  pub length_is : length_in word ≡ len
  pub count_is : count_in word ≡ count
  pub front_is : front_in word ≡ front

pub new_word : (key : List ℕ) (first : ℕ) → AreBytes key → length key < 256 → first ≡ key_word key 0 → HasParts (first * 4294967296 % 18446744073709551616 + 65536 + length key * 256) (length key) 1 (little_endian (take 4 key))
new_word key first bytes short is =
    let moved : first * 4294967296 % 18446744073709551616 ≡ little_endian (take 4 key) * 4294967296 = ap (λ (n : ℕ). n * 4294967296 % 18446744073709551616) is ∙ front_of key bytes in
    let few = few_bytes (take 4 key) (All-take (λ (b : ℕ). b < 256) 4 key bytes) (omega (arith, length-take 4 key)) in
    parts (first * 4294967296 % 18446744073709551616) (length key) (little_endian (take 4 key)) moved few short
  where
    parts : (moved len front : ℕ) → moved ≡ front * 4294967296 → front < 4294967296 → len < 256 → HasParts (moved + 65536 + len * 256) len 1 front
    parts moved len front e few short = record { length_is = omega (arith, e, few, short); count_is = omega (arith, e, few, short); front_is = omega (arith, e, few, short) }

-- no bytes, no change
pub puts_none : (m : Words) (at first : ℕ) (bytes : List ℕ) → length bytes ≡ 0 → PutsBytes m m at first bytes
puts_none m at first bytes none = record { lengths = λ z. refl; others = λ z ne. refl; held = λ i low. absurd (omega (arith, low, none)); outside = λ i side. refl }

-- the hash, word 4 and the rest of the key were written
pub written : (m n o p : Words) (at hash word : ℕ) (key : List ℕ) → SetsWord m n at 0 hash → SetsWord n o at 4 word → PutsBytes o p at 5 (drop 4 key) → 4 < length (m at)
    → hash ≡ crc32_of key → HasParts word (length key) 1 (little_endian (take 4 key)) → AreBytes key → WritesNode m p at key
written m n o p at hash word key first second puts room is parts bytes =
    let long = length-set_word m n at 0 hash at first in
    let fourth : word_at p at 4 ≡ word = puts.outside 4 (inl (omega arith)) ∙ word_at-set_same n o at 4 word second (omega (arith, room, long)) in
    record {
      lengths = λ z. puts.lengths z ∙ length-set_word n o at 4 word z second ∙ length-set_word m n at 0 hash z first;
      others = λ z ne. puts.others z ne ∙ second.others z ne ∙ first.others z ne;
      node = record {
        hash = puts.outside 0 (inl (omega arith)) ∙ word_at-set_index n o at 4 word at 0 second (λ e. omega (arith, e)) ∙ word_at-set_same m n at 0 hash first (omega (arith, room)) ∙ is;
        length_is = ap (λ (w : ℕ). length_in w) fourth ∙ parts.length_is;
        count_is = ap (λ (w : ℕ). count_in w) fourth ∙ parts.count_is;
        front = ap (λ (w : ℕ). front_in w) fourth ∙ parts.front_is;
        rest = puts.held;
        bytes = bytes;
      };
    }
