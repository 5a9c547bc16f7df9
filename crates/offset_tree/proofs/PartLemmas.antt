-- The order of keys, some bytes at a time.
use Rattle.std.proofs.Common.{ℕ, ◌≡◌, ◌⊎◌, ◌+◌, ◌-◌, ◌*◌, ◌/◌, ◌%◌, ◌^◌, ◌<◌, ◌≤◌, zero, suc, min, List, [], ◌∷◌, length, get_or, take, drop, sym, ap, subst, ◌∙◌, refl, arith, inl, inr}
use Rattle.std.proofs.lemmas.Bool.{cases_order, cases_lt}
use Rattle.std.proofs.lemmas.Grind.{common_steps}
use Rattle.std.proofs.lemmas.List.{drop-drop, get_or-drop, length-drop}
use Rattle.std.proofs.lemmas.Nat.{mod-pow-add, field_of, mod_low, shr-shr}
use Rattle.std.proofs.Math.Nat.{mul-le-mul_right, pow-suc, one-le-pow, div-div-eq-div-mul}
use Rattle.std.specs.Ordering.{nat_cmp, ordering_then}
use Rattle.std.specs.Int.{w64, swap_bytes, to_le_bytes, from_be_bytes, from_le_bytes, w32, bytes_low_first, byte_at}
use Rattle.std.specs.Cmp.Lexicographic.{slice_cmp}
use Rattle.std.specs.declared.cmp.Ordering.{Ordering}
use Rattle.std.specs.declared.cmp.Ordering.TheVariants.{Less, Equal, Greater}
use Rattle.zone_key.specs.Word.{little_endian}
use Rattle.zone_key.proofs.WordLemmas.{number_step}
use Rattle.zone_region.specs.Words.{Words, word_at}
use Rattle.offset_tree.specs.Keys.{block_byte, bytes_of}
use Rattle.offset_tree.proofs.KeyLemmas.{cmp_short, cmp_end}

-- the lowest `n` bytes of a number, the lowest first
abbrev pub low_bytes : ℕ → ℕ → List ℕ
low_bytes zero a = []
low_bytes (suc n) a = a % 256 ∷ low_bytes n (a / 256)

-- the number of the same bytes, the lowest one highest
abbrev pub turned : ℕ → ℕ → ℕ
turned zero a = 0
turned (suc n) a = a % 256 * 256 ^ n + turned n (a / 256)

low_from : (k i n v : ℕ) → v ≡ n / 256 ^ i → bytes_low_first i k n ≡ low_bytes k v
low_from zero i n v e = refl
low_from (suc k) i n v e =
    let here = byte_is i n ∙ ap (λ (z : ℕ). z % 256) (sym e) in
    let up : v / 256 ≡ n / 256 ^ suc i = ap (λ (z : ℕ). z / 256) e ∙ (div-div-eq-div-mul n (256 ^ i) 256 ∙ ap (λ (z : ℕ). n / z) (sym (pow-suc 256 i))) in
    ap (λ (b : ℕ). b ∷ bytes_low_first (suc i) k n) here ∙ ap (λ (bs : List ℕ). v % 256 ∷ bs) (low_from k (suc i) n (v / 256) up) where
      byte_is : (i n : ℕ) → byte_at i n ≡ n / 256 ^ i % 256
      byte_is zero n = omega arith
      byte_is (suc i) n = refl

bytes_are_low : (a : ℕ) → to_le_bytes w64 a ≡ low_bytes 8 a
bytes_are_low a = low_from 8 0 a a (omega arith)

swapped_is_turned : (a : ℕ) → swap_bytes w64 a ≡ turned 8 a
swapped_is_turned a = ap (λ (bs : List ℕ). from_be_bytes w64 bs) (bytes_are_low a) ∙ omega arith

turned_below : (n a : ℕ) → turned n a < 256 ^ n
turned_below zero a = omega arith
turned_below (suc n) a =
    let h = turned_below n (a / 256) in
    let e = pow-suc 256 n in
    let top = mul-le-mul_right (256 ^ n) (small a) in
    omega (arith, h, e, top) where
      small : (a : ℕ) → a % 256 ≤ 255
      small a = omega arith

cmp_less : (a b : ℕ) → a < b → nat_cmp a b ≡ Less
cmp_less a b l = grind (arith, common_steps)

cmp_same : (a b : ℕ) → a ≡ b → nat_cmp a b ≡ Equal
cmp_same a b e = grind (arith, common_steps)

cmp_greater : (a b : ℕ) → b < a → nat_cmp a b ≡ Greater
cmp_greater a b m = grind (arith, common_steps)

cmp_behind : (k a b : ℕ) → nat_cmp a b ≡ nat_cmp (k + a) (k + b)
cmp_behind k a b = grind (arith, common_steps)

apart : (x y r s p : ℕ) → r < p → x < y → x * p + r < y * p + s
apart x y r s p low l = let h : (x + 1) * p ≤ y * p = let up : x + 1 ≤ y = omega (arith, l) in mul-le-mul_right p up in omega (arith, h, low)

-- the higher digit decides first
higher_first : (x y r s p : ℕ) → r < p → s < p → ordering_then (nat_cmp x y) (nat_cmp r s) ≡ nat_cmp (x * p + r) (y * p + s)
higher_first x y r s p low down = elim (cases_order x y) [
  | inl e ↦ ap (λ (o : Ordering). ordering_then o (nat_cmp r s)) (cmp_same x y e) ∙ (cmp_behind (x * p) r s ∙ ap (λ (z : ℕ). nat_cmp (x * p + r) (z * p + s)) e)
  | inr o ↦ elim o [
    | inl l ↦ ap (λ (o : Ordering). ordering_then o (nat_cmp r s)) (cmp_less x y l) ∙ sym (cmp_less (x * p + r) (y * p + s) (apart x y r s p low l))
    | inr m ↦ ap (λ (o : Ordering). ordering_then o (nat_cmp r s)) (cmp_greater x y m) ∙ sym (cmp_greater (x * p + r) (y * p + s) (apart y x s r p down m))
  ]
]

pub turned_order : (n a b : ℕ) → nat_cmp (turned n a) (turned n b) ≡ slice_cmp nat_cmp (low_bytes n a) (low_bytes n b)
turned_order zero a b = refl
turned_order (suc n) a b = sym (higher_first (a % 256) (b % 256) (turned n (a / 256)) (turned n (b / 256)) (256 ^ n) (turned_below n (a / 256)) (turned_below n (b / 256)))
    ∙ ap (λ (o : Ordering). ordering_then (nat_cmp (a % 256) (b % 256)) o) (turned_order n (a / 256) (b / 256))

-- the order of words by their bytes is that of the words with their bytes turned round
pub word_order : (a b : ℕ) → nat_cmp (swap_bytes w64 a) (swap_bytes w64 b) ≡ slice_cmp nat_cmp (to_le_bytes w64 a) (to_le_bytes w64 b)
word_order a b =
    ap (λ (z : ℕ). nat_cmp z (swap_bytes w64 b)) (swapped_is_turned a)
    ∙ (ap (λ (z : ℕ). nat_cmp (turned 8 a) z) (swapped_is_turned b)
    ∙ (turned_order 8 a b
    ∙ (ap (λ (bs : List ℕ). slice_cmp nat_cmp bs (low_bytes 8 b)) (sym (bytes_are_low a))
    ∙ ap (λ (bs : List ℕ). slice_cmp nat_cmp (to_le_bytes w64 a) bs) (sym (bytes_are_low b)))))

then_then : (a b c : Ordering) → ordering_then a (ordering_then b c) ≡ ordering_then (ordering_then a b) c
then_then Less b c = refl
then_then Equal b c = refl
then_then Greater b c = refl

no_bytes : (c : ℕ) → slice_cmp nat_cmp (low_bytes c 0) (low_bytes c 0) ≡ Equal
no_bytes zero = refl
no_bytes (suc c) = no_bytes c

one_more : (k b l w a d c : ℕ) (behind rest : Ordering) → a % 256 ≡ k → a / 256 ≡ l → d % 256 ≡ b → d / 256 ≡ w → behind ≡ ordering_then (slice_cmp nat_cmp (low_bytes c l) (low_bytes c w)) rest →
    ordering_then (nat_cmp k b) behind ≡ ordering_then (slice_cmp nat_cmp (low_bytes (suc c) a) (low_bytes (suc c) d)) rest
one_more k b l w a d c behind rest ka la bd wd is =
    ap (λ (o : Ordering). ordering_then (nat_cmp k b) o) is
    ∙ (then_then (nat_cmp k b) (slice_cmp nat_cmp (low_bytes c l) (low_bytes c w)) rest
    ∙ (ap (λ (z : ℕ). ordering_then (ordering_then (nat_cmp z b) (slice_cmp nat_cmp (low_bytes c l) (low_bytes c w))) rest) (sym ka)
    ∙ (ap (λ (z : ℕ). ordering_then (ordering_then (nat_cmp (a % 256) z) (slice_cmp nat_cmp (low_bytes c l) (low_bytes c w))) rest) (sym bd)
    ∙ (ap (λ (z : ℕ). ordering_then (ordering_then (nat_cmp (a % 256) (d % 256)) (slice_cmp nat_cmp (low_bytes c z) (low_bytes c w))) rest) (sym la)
    ∙ ap (λ (z : ℕ). ordering_then (ordering_then (nat_cmp (a % 256) (d % 256)) (slice_cmp nat_cmp (low_bytes c (a / 256)) (low_bytes c z))) rest) (sym wd)))))

bottom : (v n : ℕ) → v % 2 ^ (8 * suc n) % 256 ≡ v % 256
bottom v n =
    let e : 8 * suc n ≡ 8 * n + 8 = omega arith in
    let low : v % 256 < 2 ^ 8 = omega arith in
    ap (λ (z : ℕ). v % 2 ^ z % 256) e ∙ (ap (λ (z : ℕ). z % 256) (mod-pow-add v (8 * n) 8) ∙ mod_low (v / 2 ^ 8 % 2 ^ (8 * n)) 8 (v % 256) low)

higher : (v n : ℕ) → v % 2 ^ (8 * suc n) / 256 ≡ v / 256 % 2 ^ (8 * n)
higher v n = let e : 8 * suc n ≡ 8 * n + 8 = omega arith in ap (λ (z : ℕ). v % 2 ^ z / 256) e ∙ field_of v (8 * n) 8

-- the lowest bytes of a shifted word `v` are those of the block from byte `j` on
abbrev pub Shows : Words → ℕ → ℕ → ℕ → ℕ → Type 0
Shows m x j n v = (i : ℕ) → i < n → block_byte m x (j + i) ≡ v / 2 ^ (8 * i) % 256

shows_behind : (m : Words) (x j n v : ℕ) → Shows m x j (suc n) v → Shows m x (j + 1) n (v / 256)
shows_behind m x j n v h i low =
    let there : j + 1 + i ≡ j + suc i = omega arith in
    let e : 8 * suc i ≡ 8 + 8 * i = omega arith in
    ap (λ (z : ℕ). block_byte m x z) there ∙ (h (suc i) (omega (arith, low)) ∙ (ap (λ (z : ℕ). v / 2 ^ z % 256) e ∙ ap (λ (w : ℕ). w % 256) (sym (shr-shr v 8 (8 * i)))))

shows_first : (m : Words) (x j n v : ℕ) → Shows m x j (suc n) v → block_byte m x j ≡ v % 256
shows_first m x j n v h = ap (λ (z : ℕ). block_byte m x z) (add_none j) ∙ (h 0 (omega arith) ∙ whole v) where
  add_none : (j : ℕ) → j ≡ j + 0
  add_none j = omega arith

  whole : (v : ℕ) → v / 2 ^ 0 % 256 ≡ v % 256
  whole v = omega arith

-- some bytes of both lists are compared as numbers, and then the rest
pub front : (n c : ℕ) (ks : List ℕ) (m : Words) (x j r v : ℕ) → n ≤ c → n ≤ length ks → ((i : ℕ) → get_or ks i 0 < 256) → n ≤ r → Shows m x j n v →
    slice_cmp nat_cmp ks (bytes_of m x j r) ≡ ordering_then (slice_cmp nat_cmp (low_bytes c (little_endian (take n ks))) (low_bytes c (v % 2 ^ (8 * n)))) (slice_cmp nat_cmp (drop n ks) (bytes_of m x (j + n) (r - n)))
front zero c ks m x j r v some long small deep h = sym (
    ap (λ (z : ℕ). ordering_then (slice_cmp nat_cmp (low_bytes c 0) (low_bytes c z)) (slice_cmp nat_cmp ks (bytes_of m x (j + 0) (r - 0)))) (nothing v)
    ∙ (ap (λ (o : Ordering). ordering_then o (slice_cmp nat_cmp ks (bytes_of m x (j + 0) (r - 0)))) (no_bytes c)
    ∙ (ap (λ (i : ℕ). slice_cmp nat_cmp ks (bytes_of m x i (r - 0))) (add_none j) ∙ ap (λ (i : ℕ). slice_cmp nat_cmp ks (bytes_of m x j i)) (take_none r)))) where
      nothing : (v : ℕ) → v % 2 ^ 0 ≡ 0
      nothing v = omega arith

      add_none : (j : ℕ) → j + 0 ≡ j
      add_none j = omega arith

      take_none : (r : ℕ) → r - 0 ≡ r
      take_none r = omega arith
front (suc n) c [] m x j r v some long small deep h = absurd (omega (arith, long))
front (suc n) zero (k ∷ ks) m x j r v some long small deep h = absurd (omega (arith, some))
front (suc n) (suc c) (k ∷ ks) m x j zero v some long small deep h = absurd (omega (arith, deep))
front (suc n) (suc c) (k ∷ ks) m x j (suc r) v some long small deep h =
    let ih = front n c ks m x (j + 1) r (v / 256) (omega (arith, some)) (omega (arith, long)) (λ i. small (suc i)) (omega (arith, deep)) (shows_behind m x j n v h) in
    let there : j + 1 + n ≡ j + suc n = omega arith in
    let left : r - n ≡ suc r - suc n = omega arith in
    let first : k < 256 = small 0 in
    let word = slice_cmp nat_cmp (low_bytes c (little_endian (take n ks))) (low_bytes c (v / 256 % 2 ^ (8 * n))) in
    one_more k (block_byte m x j) (little_endian (take n ks)) (v / 256 % 2 ^ (8 * n)) (k + 256 * little_endian (take n ks)) (v % 2 ^ (8 * suc n)) c
    (slice_cmp nat_cmp ks (bytes_of m x (j + 1) r)) (slice_cmp nat_cmp (drop n ks) (bytes_of m x (j + suc n) (suc r - suc n)))
    (omega (arith, first)) (omega (arith, first)) (bottom v n ∙ sym (shows_first m x j n v h)) (higher v n)
    (ih
    ∙ (ap (λ (z : ℕ). ordering_then word (slice_cmp nat_cmp (drop n ks) (bytes_of m x z (r - n)))) there
    ∙ ap (λ (z : ℕ). ordering_then word (slice_cmp nat_cmp (drop n ks) (bytes_of m x (j + suc n) z))) left))

-- the bytes of a word from byte `j` on
shows_word : (m : Words) (x j n : ℕ) → j % 8 + n ≤ 8 → Shows m x j n (word_at m x (j / 8) / 2 ^ (8 * (j % 8)))
shows_word m x j n within i low =
    let word : (j + i) / 8 ≡ j / 8 = omega (arith, within, low) in
    let byte : 8 * ((j + i) % 8) ≡ 8 * (j % 8) + 8 * i = omega (arith, within, low) in
    ap (λ (z : ℕ). word_at m x z / 2 ^ (8 * ((j + i) % 8)) % 256) word
    ∙ (ap (λ (z : ℕ). word_at m x (j / 8) / 2 ^ z % 256) byte
    ∙ ap (λ (z : ℕ). z % 256) (sym (shr-shr (word_at m x (j / 8)) (8 * (j % 8)) (8 * i))))

-- both lists go on with bytes that one word has
pub word_first : (n : ℕ) (ks : List ℕ) (m : Words) (x j r : ℕ) → j % 8 + n ≤ 8 → n ≤ length ks → ((i : ℕ) → get_or ks i 0 < 256) → n ≤ r →
    slice_cmp nat_cmp ks (bytes_of m x j r) ≡ ordering_then (slice_cmp nat_cmp (to_le_bytes w64 (little_endian (take n ks))) (to_le_bytes w64 (word_at m x (j / 8) / 2 ^ (8 * (j % 8)) % 2 ^ (8 * n))))
    (slice_cmp nat_cmp (drop n ks) (bytes_of m x (j + n) (r - n)))
word_first n ks m x j r within long small deep =
    let v = word_at m x (j / 8) / 2 ^ (8 * (j % 8)) in
    let rest = slice_cmp nat_cmp (drop n ks) (bytes_of m x (j + n) (r - n)) in
    front n 8 ks m x j r v (omega (arith, within)) long small deep (shows_word m x j n within)
    ∙ (ap (λ (bs : List ℕ). ordering_then (slice_cmp nat_cmp bs (low_bytes 8 (v % 2 ^ (8 * n)))) rest) (sym (bytes_are_low (little_endian (take n ks))))
    ∙ ap (λ (bs : List ℕ). ordering_then (slice_cmp nat_cmp (to_le_bytes w64 (little_endian (take n ks))) bs) rest) (sym (bytes_are_low (v % 2 ^ (8 * n)))))

-- the number of four bytes and some more
pub four_bytes : (bs : List ℕ) → 4 ≤ length bs → from_le_bytes w32 bs + 4294967296 * little_endian (drop 4 bs) ≡ little_endian bs
four_bytes bs l =
    omega (arith, number_step bs 0 (omega (arith, l)), number_step bs 1 (omega (arith, l)), number_step bs 2 (omega (arith, l)), number_step bs 3 (omega (arith, l)))

-- three bytes are less than 2 ^ 24
pub three_bytes : (bs : List ℕ) → length bs ≤ 3 → ((i : ℕ) → get_or bs i 0 < 256) → little_endian bs < 16777216
three_bytes bs l small = below 3 bs l small where
  below : (n : ℕ) (bs : List ℕ) → length bs ≤ n → ((i : ℕ) → get_or bs i 0 < 256) → little_endian bs < 256 ^ n
  below n [] l small = pow_some n where
    pow_some : (n : ℕ) → 0 < 256 ^ n
    pow_some n = one-le-pow n 256 (omega arith)
  below zero (b ∷ bs) l small = absurd (omega (arith, l))
  below (suc n) (b ∷ bs) l small =
      let rest = below n bs (omega (arith, l)) (λ i. small (suc i)) in
      let first : b < 256 = small 0 in
      let e = pow-suc 256 n in
      omega (arith, rest, first, e)

-- at first nothing is compared
pub at_start : (ks : List ℕ) (m : Words) (x at n r : ℕ) → n ≡ r → slice_cmp nat_cmp ks (bytes_of m x at n) ≡ slice_cmp nat_cmp ks (bytes_of m x (at + 0) r)
at_start ks m x at n r e =
    let none : at ≡ at + 0 = omega arith in
    ap (λ (i : ℕ). slice_cmp nat_cmp ks (bytes_of m x i n)) none ∙ ap (λ (i : ℕ). slice_cmp nat_cmp ks (bytes_of m x (at + 0) i)) e

-- the bytes `done` to `done + n - 1` decide, or the rest does
pub part_first : (bs ks : List ℕ) (m : Words) (x at done n len part word there : ℕ) (by_part all : Ordering) → bs ≡ ks → ((i : ℕ) → get_or ks i 0 < 256) → (at + done) % 8 + n ≤ 8 → done + n ≤ length ks → done + n ≤ len →
    part ≡ little_endian (take (done + n - done) (drop done bs)) → word ≡ word_at m x ((at + done) / 8) → there ≡ word / 2 ^ (8 * ((at + done) % 8)) % 2 ^ (8 * n) → by_part ≡ slice_cmp nat_cmp (to_le_bytes w64 part) (to_le_bytes w64 there) →
    ((r : ℕ) → done + r ≡ len → all ≡ slice_cmp nat_cmp (drop done ks) (bytes_of m x (at + done) r)) →
    (r : ℕ) → done + n + r ≡ len → all ≡ ordering_then by_part (slice_cmp nat_cmp (drop (done + n) ks) (bytes_of m x (at + (done + n)) r))
part_first bs ks m x at done n len part word there by_part all same small within long deep part_is word_is there_is by_is before r e =
    let rest = drop done ks in
    let fits : (i : ℕ) → get_or rest i 0 < 256 = λ i. subst (λ (b : ℕ). b < 256) (sym (get_or-drop done ks i 0)) (small (done + i)) in
    let left = length-drop done ks in
    let count : done + n - done ≡ n = omega arith in
    let key_part : part ≡ little_endian (take n rest) =
    part_is ∙ (ap (λ (l : List ℕ). little_endian (take (done + n - done) (drop done l))) same ∙ ap (λ (z : ℕ). little_endian (take z rest)) count) in
    let node_part : there ≡ word_at m x ((at + done) / 8) / 2 ^ (8 * ((at + done) % 8)) % 2 ^ (8 * n) = there_is ∙ ap (λ (w : ℕ). w / 2 ^ (8 * ((at + done) % 8)) % 2 ^ (8 * n)) word_is in
    let order : by_part ≡ slice_cmp nat_cmp (to_le_bytes w64 (little_endian (take n rest))) (to_le_bytes w64 (word_at m x ((at + done) / 8) / 2 ^ (8 * ((at + done) % 8)) % 2 ^ (8 * n))) =
    by_is ∙ (ap (λ (z : ℕ). slice_cmp nat_cmp (to_le_bytes w64 z) (to_le_bytes w64 there)) key_part ∙ ap (λ (z : ℕ). slice_cmp nat_cmp (to_le_bytes w64 (little_endian (take n rest))) (to_le_bytes w64 z)) node_part) in
    let next : at + done + n ≡ at + (done + n) = omega arith in
    let behind : n + r - n ≡ r = omega arith in
    before (n + r) (omega (arith, e))
    ∙ (word_first n rest m x (at + done) (n + r) within (omega (arith, long, left)) fits (omega arith)
    ∙ (ap (λ (o : Ordering). ordering_then o (slice_cmp nat_cmp (drop n rest) (bytes_of m x (at + done + n) (n + r - n)))) (sym order)
    ∙ (ap (λ (l : List ℕ). ordering_then by_part (slice_cmp nat_cmp l (bytes_of m x (at + done + n) (n + r - n)))) (drop-drop n done ks)
    ∙ (ap (λ (z : ℕ). ordering_then by_part (slice_cmp nat_cmp (drop (done + n) ks) (bytes_of m x z (n + r - n)))) next
    ∙ ap (λ (z : ℕ). ordering_then by_part (slice_cmp nat_cmp (drop (done + n) ks) (bytes_of m x (at + (done + n)) z))) behind))))

-- at last one of them is used up, or both are
pub one_ends : (ks : List ℕ) (m : Words) (x at done len : ℕ) (all : Ordering) → done ≡ min (length ks) len → ((r : ℕ) → done + r ≡ len → all ≡ slice_cmp nat_cmp (drop done ks) (bytes_of m x (at + done) r)) → all ≡ nat_cmp (length ks) len
one_ends ks m x at done len all both before = elim (cases_lt (length ks) len) [
  | inl l ↦ let end : done ≡ length ks = omega (arith, both, l) in
      before (suc (len - length ks - 1)) (omega (arith, end, l)) ∙ (cmp_short ks done m x (at + done) (len - length ks - 1) (omega (arith, end)) ∙ sym (cmp_less (length ks) len l))
  | inr g ↦ let end : done ≡ len = omega (arith, both, g) in
      before 0 (omega (arith, end)) ∙ (cmp_end ks done (omega (arith, end, g)) ∙ ap (λ (z : ℕ). nat_cmp (length ks) z) end)
]

-- a part goes on to the end of its word, or to the end of both
pub part_ends : (at done both n : ℕ) → n ≡ min (8 - (at + done) % 8) (both - done) → done < both → (done + n ≡ 0) ⊎ (((at + (done + n)) % 8 ≡ 0) ⊎ (done + n ≡ both))
part_ends at done both n is low = elim (cases_lt (both - done) (8 - (at + done) % 8)) [
  | inl l ↦ inr (inr (omega (arith, is, l, low)))
  | inr g ↦ inr (inl (omega (arith, is, g, low)))
]

-- a word is read for each part
pub part_read : (at done both n start old new : ℕ) → new ≡ old + 1 → 0 < n → done < both → (done ≡ 0) ⊎ (((at + done) % 8 ≡ 0) ⊎ (done ≡ both)) → (done ≡ 0 → old ≤ start) → old ≤ start + ((at + done + 7) / 8 - at / 8) →
    new ≤ start + ((at + (done + n) + 7) / 8 - at / 8)
part_read at done both n start old new one some low whole first cost = elim whole [
  | inl z ↦ omega (arith, one, some, z, first z)
  | inr o ↦ elim o [ inl w ↦ omega (arith, one, some, w, cost) | inr e ↦ absurd (omega (arith, low, e)) ]
]

-- so many words are read
pub reads : (at done len before start new : ℕ) → (at ≡ 80) ⊎ (at ≡ 36) → start ≡ before + 1 → done ≤ len → new ≤ start + ((at + done + 7) / 8 - at / 8) → new ≤ before + (3 + len / 8)
reads at done len before start new place one within cost = elim place [ inl e ↦ omega (arith, one, within, cost, e) | inr e ↦ omega (arith, one, within, cost, e) ]
