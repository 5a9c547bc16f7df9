-- A key that is written into the words of a node.
use Rattle.std.proofs.Common.{ℕ, ◌≡◌, ◌+◌, ◌*◌, ◌/◌, ◌%◌, ◌^◌, ◌<◌, ◌≤◌, zero, suc, List, ◌∷◌, length, take, slice_index, ap, subst, sym, ◌∙◌, refl, arith, inl, inr, ◌≢◌}
use Rattle.std.proofs.lemmas.List.{length-take}
use Rattle.std.specs.Int.{w64, byte_at, bytes_low_first, to_le_bytes}
use Rattle.zone_region.specs.Words.{Words, word_at, SetsWord}
use Rattle.zone_region.proofs.WordLemmas.{word_at-set_same, word_at-set_index, length-set_word}
use Rattle.offset_tree.specs.declared.tree.Form.{Form}
use Rattle.offset_tree.specs.Keys.{Rank, block_byte, bytes_of, key_len, key_of, rank_of, IsForm}
use Rattle.zone_key.specs.Crc.{crc32_of}
use Rattle.offset_tests.specs.declared.keys.Keys.{Keys}
use Rattle.offset_tests.specs.Grid.{place_of, key_at, rank_at}

take-low : (i n k v : ℕ) → n ≤ k → take n (bytes_low_first i k v) ≡ bytes_low_first i n v
take-low i zero k v le = refl
take-low i (suc n) zero v le = absurd (omega (arith, le))
take-low i (suc n) (suc k) v le = ap (λ bs. byte_at i v ∷ bs) (take-low (suc i) n k v (omega (arith, le)))

-- the block has the bytes of `v` from byte `start` on
abbrev pub HasBytes : Words → ℕ → ℕ → ℕ → Type 0
HasBytes m z start v = (j : ℕ) → j < 8 → block_byte m z (start + j) ≡ byte_at j v

low_bytes : (m : Words) (z start v i n : ℕ) → HasBytes m z start v → i + n ≤ 8 → bytes_of m z (start + i) n ≡ bytes_low_first i n v
low_bytes m z start v i zero has le = refl
low_bytes m z start v i (suc n) has le =
    let next : start + i + 1 ≡ start + suc i = omega arith in
    let rest : bytes_of m z (start + i + 1) n ≡ bytes_low_first (suc i) n v = subst (λ (p : ℕ). bytes_of m z p n ≡ bytes_low_first (suc i) n v) (sym next) (low_bytes m z start v (suc i) n has (omega (arith, le))) in
    ap (λ (b : ℕ). b ∷ bytes_of m z (start + i + 1) n) (has i (omega (arith, le))) ∙ ap (λ (bs : List ℕ). byte_at i v ∷ bs) rest

bytes_are : (m : Words) (z start v len : ℕ) → HasBytes m z start v → len ≤ 8 → bytes_of m z start len ≡ take len (to_le_bytes w64 v)
bytes_are m z start v len has le =
    let from : start + 0 ≡ start = omega arith in
    subst (λ (p : ℕ). bytes_of m z p len ≡ bytes_low_first 0 len v) from (low_bytes m z start v 0 len has (omega (arith, le))) ∙ sym (take-low 0 len 8 v le)

pub length-low : (len v : ℕ) → length (take len (to_le_bytes w64 v)) ≤ 8
length-low len v = omega (arith, length-take len (to_le_bytes w64 v))

-- a node of this form has the key of `v` where it has the key's length and bytes
pub rank_is : (m : Words) (f : Form) (z v len hash : ℕ) → word_at m z 0 ≡ hash → key_len m f z ≡ len → HasBytes m z f.key_at v → len ≤ 8 → rank_of m f z ≡ (hash, take len (to_le_bytes w64 v))
rank_is m f z v len hash h l has le =
    let key : key_of m f z ≡ take len (to_le_bytes w64 v) = ap (λ (n : ℕ). bytes_of m z f.key_at n) l ∙ bytes_are m z f.key_at v len has le in
    ap (λ (a : ℕ). let p : Rank = (a, key_of m f z) in p) h ∙ ap (λ (k : List ℕ). let p : Rank = (hash, k) in p) key

pub request_bytes : (m : Words) (z v : ℕ) → word_at m z 10 ≡ v → HasBytes m z 80 v
request_bytes m z v e zero l = omega (arith, e)
request_bytes m z v e (suc zero) l = omega (arith, e)
request_bytes m z v e (suc (suc zero)) l = omega (arith, e)
request_bytes m z v e (suc (suc (suc zero))) l = omega (arith, e)
request_bytes m z v e (suc (suc (suc (suc zero)))) l = omega (arith, e)
request_bytes m z v e (suc (suc (suc (suc (suc zero))))) l = omega (arith, e)
request_bytes m z v e (suc (suc (suc (suc (suc (suc zero)))))) l = omega (arith, e)
request_bytes m z v e (suc (suc (suc (suc (suc (suc (suc zero))))))) l = omega (arith, e)
request_bytes m z v e (suc (suc (suc (suc (suc (suc (suc (suc j)))))))) l = absurd (omega (arith, l))

pub connection_bytes : (m : Words) (z v len : ℕ) → len ≤ 8 → word_at m z 4 ≡ len * 256 + 196608 + v * 4294967296 % 18446744073709551616 → word_at m z 5 ≡ v / 4294967296 → HasBytes m z 36 v
connection_bytes m z v len le e f zero l = omega (arith, le, e)
connection_bytes m z v len le e f (suc zero) l = omega (arith, le, e)
connection_bytes m z v len le e f (suc (suc zero)) l = omega (arith, le, e)
connection_bytes m z v len le e f (suc (suc (suc zero))) l = omega (arith, le, e)
connection_bytes m z v len le e f (suc (suc (suc (suc zero)))) l = omega (arith, f)
connection_bytes m z v len le e f (suc (suc (suc (suc (suc zero))))) l = omega (arith, f)
connection_bytes m z v len le e f (suc (suc (suc (suc (suc (suc zero)))))) l = omega (arith, f)
connection_bytes m z v len le e f (suc (suc (suc (suc (suc (suc (suc zero))))))) l = omega (arith, f)
connection_bytes m z v len le e f (suc (suc (suc (suc (suc (suc (suc (suc j)))))))) l = absurd (omega (arith, l))

-- three words of a block of sixteen are set, one after the other
pub record SetsThree (n : Words) (z a u b v c w : ℕ) : Type 0 where
  pub first : word_at n z a ≡ u
  pub second : word_at n z b ≡ v
  pub third : word_at n z c ≡ w

pub sets_three : (l m n o : Words) (z a u b v c w : ℕ) → length (l z) ≡ 16 → a < b → b < c → c < 16 → SetsWord l m z a u → SetsWord m n z b v → SetsWord n o z c w → SetsThree o z a u b v c w
sets_three l m n o z a u b v c w room ab bc few x y q =
    let lm = length-set_word l m z a u z x in
    let mn = length-set_word m n z b v z y in
    record {
      first = word_at-set_index n o z c w z a q (λ e. omega (arith, e, ab, bc)) ∙ word_at-set_index m n z b v z a y (λ e. omega (arith, e, ab)) ∙ word_at-set_same l m z a u x (omega (arith, room, ab, bc, few));
      second = word_at-set_index n o z c w z b q (λ e. omega (arith, e, bc)) ∙ word_at-set_same m n z b v y (omega (arith, room, lm, bc, few));
      third = word_at-set_same n o z c w q (omega (arith, room, lm, mn, few));
    }

pub request_rank : (o : Words) (f : Form) (z v len hash : ℕ) → IsForm f → f.len_bytes ≡ 2 → len ≤ 8 → SetsThree o z 0 hash 4 (len * 65536) 10 v → rank_of o f z ≡ (hash, take len (to_le_bytes w64 v))
request_rank o f z v len hash form two le s = elim form.len_place [
  | inl r ↦
      let spot : f.len_at ≡ 34 = r.0 in
      let start : f.key_at ≡ 80 = r.2 in
      let short : key_len o f z ≡ len =
      subst (λ (a : ℕ). word_at o z 4 / 2 ^ (8 * (a % 8)) % 2 ^ (8 * f.len_bytes) ≡ len) (sym spot) (subst (λ (b : ℕ). word_at o z 4 / 2 ^ (8 * (34 % 8)) % 2 ^ (8 * b) ≡ len) (sym two) (omega (arith, s.second, le))) in
      rank_is o f z v len hash s.first short (subst (λ (a : ℕ). HasBytes o z a v) (sym start) (request_bytes o z v s.third)) le
  | inr c ↦ absurd (omega (arith, two, c.1))
]

pub connection_rank : (o : Words) (f : Form) (z v len hash : ℕ) → IsForm f → f.len_bytes ≢ 2 → len ≤ 8 → SetsThree o z 0 hash 4 (len * 256 + 196608 + v * 4294967296 % 18446744073709551616) 5 (v / 4294967296) → rank_of o f z ≡ (hash, take len (to_le_bytes w64 v))
connection_rank o f z v len hash form other le s = elim form.len_place [
  | inl r ↦ absurd (other r.1)
  | inr c ↦
      let spot : f.len_at ≡ 33 = c.0 in
      let one : f.len_bytes ≡ 1 = c.1 in
      let start : f.key_at ≡ 36 = c.2 in
      let short : key_len o f z ≡ len =
      subst (λ (a : ℕ). word_at o z 4 / 2 ^ (8 * (a % 8)) % 2 ^ (8 * f.len_bytes) ≡ len) (sym spot) (subst (λ (b : ℕ). word_at o z 4 / 2 ^ (8 * (33 % 8)) % 2 ^ (8 * b) ≡ len) (sym one) (omega (arith, s.second, le))) in
      rank_is o f z v len hash s.first short (subst (λ (a : ℕ). HasBytes o z a v) (sym start) (connection_bytes o z v len le s.second s.third)) le
]

-- the same at the values that the code has
pub rank_there : (o : Words) (f : Form) (keys : Keys) (z k v hash : ℕ) (key : List ℕ) → rank_of o f z ≡ (hash, take keys.len (to_le_bytes w64 v)) → z ≡ place_of k → v ≡ slice_index keys.numbers.items k → key ≡ key_at keys k → hash ≡ crc32_of key → rank_of o f (place_of k) ≡ rank_at keys k
rank_there o f keys z k v hash key r at number same crc =
    let there : rank_of o f (place_of k) ≡ (hash, take keys.len (to_le_bytes w64 v)) = subst (λ (y : ℕ). rank_of o f y ≡ (hash, take keys.len (to_le_bytes w64 v))) at r in
    let bytes : take keys.len (to_le_bytes w64 v) ≡ key_at keys k = ap (λ (n : ℕ). take keys.len (to_le_bytes w64 n)) number in
    let first : hash ≡ crc32_of (key_at keys k) = crc ∙ ap (λ bs. crc32_of bs) same in
    there ∙ (ap (λ (bs : List ℕ). let p : Rank = (hash, bs) in p) bytes ∙ ap (λ (h : ℕ). let p : Rank = (h, key_at keys k) in p) first)
