-- A page's bits, for all three kinds at once.
use Rattle.std.proofs.Common.{ℕ, ◌≡◌, ◌≢◌, ◌⊎◌, ◌↔◌, ◌+◌, ◌*◌, ◌/◌, ◌%◌, ◌^◌, ◌<◌, ◌≤◌, true, not, ◌&&◌, ◌||◌, eqb, IsBitSet, bit_and, bit_or, List, get_or, sym, ap, subst, ◌∙◌, refl, arith, inl, inr}
use Rattle.std.specs.Int.{bit_at, bit_not, w64}
use Rattle.std.proofs.lemmas.Bool.{cases_lt, cases_eq}
use Rattle.std.proofs.lemmas.Grind.{common_steps}
use Rattle.std.proofs.lemmas.Nat.Bits.{bit_at_above, bit_at_set_same, bit_at_set_other, bit_at_clear_same, bit_at_clear_other}
use Rattle.slab_model.specs.declared.shape.Shape.{Shape}
use Rattle.slab_model.specs.Geometry.{Kind, small, exact, big, kind_of, first_index, blocks_in_page}
use Rattle.slab_model.specs.Numbers.{is_member}
use Rattle.zone_region.specs.Members.{In}
use Rattle.slab_model.proofs.NumberLemmas.{member}
use Rattle.slab_pages.specs.Places.{page_word, bitmap_words}
use Rattle.slab_pages.specs.SlabLayout.{LaysBits, LaysSmallBits}
use Rattle.slab_pool.specs.Bits.{bits_word, bits_limit, HasShift, IsBitsWord, HasBits}
use Rattle.slab_pool.proofs.WordLemmas.{bit_set}
use Rattle.slab_pool.proofs.KindLemmas.{kind-small, kind-exact, kind-big, numbers, small_words, one_word}

-- ---- the kinds of the classes

pub data KindAt (shape : Shape) (class : ℕ) : Type 0 where
  at_small : class < 3 → kind_of shape class ≡ small → KindAt shape class
  at_exact : class ≡ 3 → kind_of shape class ≡ exact → KindAt shape class
  at_big : 3 < class → kind_of shape class ≡ big → KindAt shape class

pub kind_at : (shape : Shape) (class : ℕ) → class < 9 → KindAt shape class
kind_at shape class known = elim (cases_lt class 3) [
  | inl low ↦ at_small low (kind-small shape class low)
  | inr high ↦ elim (cases_eq class 3) [
    | inl same ↦ at_exact same (kind-exact shape class same)
    | inr other ↦ at_big (omega (arith, other)) (kind-big shape class (omega (arith, other)) known)
  ]
]

as_member : (first index : ℕ) (used : List ℕ) → (index < first) ⊎ In index used → (index < first) ⊎ (is_member index used ≡ true)
as_member first index used h = elim h [ inl own ↦ inl own | inr there ↦ inr ((member index used).1 there) ]

-- ---- from the layout to a word

pub small_word : (words : List ℕ) (shape : Shape) (page class j : ℕ) (used : List ℕ) → class < 3 → LaysSmallBits words shape page class used → j < bitmap_words shape class → IsBitsWord shape class j used (get_or words (page_word shape page + j) 0)
small_word words shape page class j used low laid below = record {
  set = λ k in_word one. as_member _ _ _ ((laid.bits (64 * j + k) (fits k in_word)).0 ((bit_set _ _).1 (at k in_word one)));
  own = λ k in_word first. back k in_word ((bit_set _ _).0 ((laid.bits (64 * j + k) (fits k in_word)).1 (inl first)));
  used_set = λ k in_word there. back k in_word ((bit_set _ _).0 ((laid.bits (64 * j + k) (fits k in_word)).1 (inr ((member _ _).0 there))));
} where
  fits : (k : ℕ) → k < 64 → 64 * j + k < blocks_in_page shape class
  fits k in_word = omega (arith, small_words shape class (omega arith))

  place : (k : ℕ) → k < 64 → ((64 * j + k) / 64 ≡ j) × ((64 * j + k) % 64 ≡ k)
  place k in_word = (omega arith, omega arith)

  at : (k : ℕ) → k < 64 → bit_at (get_or words (page_word shape page + j) 0) k ≡ 1 → bit_at (get_or words (page_word shape page + (64 * j + k) / 64) 0) ((64 * j + k) % 64) ≡ 1
  at k in_word one = let p = place k in_word in ap (λ i. bit_at (get_or words (page_word shape page + i) 0) ((64 * j + k) % 64)) p.0 ∙ ap (λ i. bit_at (get_or words (page_word shape page + j) 0) i) p.1 ∙ one

  back : (k : ℕ) → k < 64 → bit_at (get_or words (page_word shape page + (64 * j + k) / 64) 0) ((64 * j + k) % 64) ≡ 1 → bit_at (get_or words (page_word shape page + j) 0) k ≡ 1
  back k in_word one = let p = place k in_word in ap (λ i. bit_at (get_or words (page_word shape page + j) 0) i) (sym p.1) ∙ ap (λ i. bit_at (get_or words (page_word shape page + i) 0) ((64 * j + k) % 64)) (sym p.0) ∙ one

-- the bits of the only word, up to where the blocks end
only_word : (shape : Shape) (class limit : ℕ) (used : List ℕ) (v : ℕ) → first_index shape class ≡ 0 → v < 2 ^ limit → ((k : ℕ) → In k used → k < limit) → ((k : ℕ) → k < limit → IsBitSet v k ↔ In k used) → IsBitsWord shape class 0 used v
only_word shape class limit used v none fits within bits = record {
  set = λ k in_word one. inr ((member _ _).1 (subst (λ (i : ℕ). In i used) (index k) ((bits k (below k one)).0 ((bit_set v k).1 one))));
  own = λ k in_word first. absurd (omega (arith, first, none));
  used_set = λ k in_word there. let m = subst (λ (i : ℕ). In i used) (sym (index k)) ((member _ _).0 there) in (bit_set v k).0 ((bits k (within k m)).1 m);
} where
  index : (k : ℕ) → k ≡ 64 * 0 + k
  index k = omega arith

  below : (k : ℕ) → bit_at v k ≡ 1 → k < limit
  below k one = elim (cases_lt k limit) [ inl l ↦ l | inr g ↦ absurd (omega (arith, one, bit_at_above v limit k fits g)) ]

word_of : (kind : Kind) (words : List ℕ) (shape : Shape) (page class j : ℕ) (used : List ℕ) (v : ℕ) → class < 9 → kind_of shape class ≡ kind → ((index : ℕ) → In index used → (first_index shape class ≤ index) × (index < blocks_in_page shape class)) → LaysBits kind words shape page class used → j < bitmap_words shape class → v ≡ bits_word kind words shape page j → v < bits_limit kind → IsBitsWord shape class j used v
word_of small words shape page class j used v known kind usable laid below is fits = subst (λ (n : ℕ). IsBitsWord shape class j used n) (sym is) (small_word words shape page class j used (low class known kind) laid below) where
  low : (class : ℕ) → class < 9 → kind_of shape class ≡ small → class < 3
  low class known kind = elim (kind_at shape class known) [ at_small l k ↦ l | at_exact l k ↦ absurd (cc) | at_big l k ↦ absurd (cc) ]
word_of exact words shape page class j used v known kind usable laid below is fits =
    let at = eq class known kind in
    let one = one_word shape class (omega (arith, at)) known in
    let first : j ≡ 0 = omega (arith, below, one.0) in
    subst (λ (i : ℕ). IsBitsWord shape class i used v) (sym first)
    (only_word shape class 64 used v one.1 fits (λ k m. omega (arith, (usable k m).1, one.2)) (subst (λ (n : ℕ). (k : ℕ) → k < 64 → IsBitSet n k ↔ In k used) (sym is) laid)) where
      eq : (class : ℕ) → class < 9 → kind_of shape class ≡ exact → class ≡ 3
      eq class known kind = elim (kind_at shape class known) [ at_small l k ↦ absurd (cc) | at_exact l k ↦ l | at_big l k ↦ absurd (cc) ]
word_of big words shape page class j used v known kind usable laid below is fits =
    let at = high class known kind in
    let one = one_word shape class (omega (arith, at)) known in
    let first : j ≡ 0 = omega (arith, below, one.0) in
    subst (λ (i : ℕ). IsBitsWord shape class i used v) (sym first)
    (only_word shape class 32 used v one.1 fits (λ k m. omega (arith, (usable k m).1, one.3 at)) (subst (λ (n : ℕ). (k : ℕ) → k < 32 → IsBitSet n k ↔ In k used) (sym is) laid.bits)) where
      high : (class : ℕ) → class < 9 → kind_of shape class ≡ big → 3 < class
      high class known kind = elim (kind_at shape class known) [ at_small l k ↦ absurd (cc) | at_exact l k ↦ absurd (cc) | at_big l k ↦ l ]

pub bits_word-is : (words : List ℕ) (shape : Shape) (page class j : ℕ) (used : List ℕ) (v : ℕ) → HasBits words shape page class used → j < bitmap_words shape class → v ≡ bits_word (kind_of shape class) words shape page j → v < bits_limit (kind_of shape class) → IsBitsWord shape class j used v
bits_word-is words shape page class j used v h = word_of (kind_of shape class) words shape page class j used v h.known refl h.usable h.bits

-- ---- and back

laid_of : (kind : Kind) (words : List ℕ) (shape : Shape) (page class : ℕ) (used : List ℕ) → class < 9 → kind_of shape class ≡ kind → HasShift kind words page class → ((j : ℕ) → j < bitmap_words shape class → IsBitsWord shape class j used (bits_word kind words shape page j)) → LaysBits kind words shape page class used
laid_of small words shape page class used known kind shift bits = record {
  shift = shift;
  bits = λ index below. let b = bits (index / 64) (word_in index below) in let place : 64 * (index / 64) + index % 64 ≡ index = omega arith in (
    λ s. elim (b.set (index % 64) (omega arith) ((bit_set _ _).0 s)) [ inl own ↦ inl (omega (arith, own, place)) | inr there ↦ inr (subst (λ (i : ℕ). In i used) place ((member _ _).0 there)) ],
    λ m. elim m [
      | inl own ↦ (bit_set _ _).1 (b.own (index % 64) (omega arith) (omega (arith, own, place)))
      | inr there ↦ (bit_set _ _).1 (b.used_set (index % 64) (omega arith) ((member _ _).1 (subst (λ (i : ℕ). In i used) (sym place) there)))
    ],
  );
} where
  word_in : (index : ℕ) → index < blocks_in_page shape class → index / 64 < bitmap_words shape class
  word_in index below = let n = numbers shape class known in omega (arith, n.holds, below)
laid_of exact words shape page class used known kind shift bits =
    let at = eq class known kind in
    let one = one_word shape class (omega (arith, at)) known in
    let b = bits 0 (omega (arith, one.0)) in
    λ index below. (
      λ s. elim (b.set index below ((bit_set _ _).0 s)) [ inl own ↦ absurd (omega (arith, own, one.1)) | inr there ↦ subst (λ (i : ℕ). In i used) (index_is index) ((member _ _).0 there) ],
      λ m. (bit_set _ _).1 (b.used_set index below ((member _ _).1 (subst (λ (i : ℕ). In i used) (sym (index_is index)) m))),
    ) where
      eq : (class : ℕ) → class < 9 → kind_of shape class ≡ exact → class ≡ 3
      eq class known kind = elim (kind_at shape class known) [ at_small l k ↦ absurd (cc) | at_exact l k ↦ l | at_big l k ↦ absurd (cc) ]

      index_is : (index : ℕ) → 64 * 0 + index ≡ index
      index_is index = omega arith
laid_of big words shape page class used known kind shift bits =
    let at = high class known kind in
    let one = one_word shape class (omega (arith, at)) known in
    let b = bits 0 (omega (arith, one.0)) in
    record {
      shift = shift;
      bits = λ index below. (
        λ s. elim (b.set index (omega (arith, below)) ((bit_set _ _).0 s)) [ inl own ↦ absurd (omega (arith, own, one.1)) | inr there ↦ subst (λ (i : ℕ). In i used) (index_is index) ((member _ _).0 there) ],
        λ m. (bit_set _ _).1 (b.used_set index (omega (arith, below)) ((member _ _).1 (subst (λ (i : ℕ). In i used) (sym (index_is index)) m))),
      );
    } where
      high : (class : ℕ) → class < 9 → kind_of shape class ≡ big → 3 < class
      high class known kind = elim (kind_at shape class known) [ at_small l k ↦ absurd (cc) | at_exact l k ↦ absurd (cc) | at_big l k ↦ l ]

      index_is : (index : ℕ) → 64 * 0 + index ≡ index
      index_is index = omega arith

pub bits_word-all : (words : List ℕ) (shape : Shape) (page class : ℕ) (used : List ℕ) → class < 9 → HasShift (kind_of shape class) words page class → ((j : ℕ) → j < bitmap_words shape class → IsBitsWord shape class j used (bits_word (kind_of shape class) words shape page j)) → LaysBits (kind_of shape class) words shape page class used
bits_word-all words shape page class used known shift bits = laid_of (kind_of shape class) words shape page class used known refl shift bits

-- ---- one bit that changes

-- another word of the bits
pub IsBitsWord-kept : (shape : Shape) (class j : ℕ) (used now : List ℕ) (v : ℕ) → ((k : ℕ) → k < 64 → is_member (64 * j + k) now ≡ is_member (64 * j + k) used) → IsBitsWord shape class j used v → IsBitsWord shape class j now v
IsBitsWord-kept shape class j used now v same b = record {
  set = λ k l one. elim (b.set k l one) [ inl own ↦ inl own | inr there ↦ inr (same k l ∙ there) ];
  own = b.own;
  used_set = λ k l there. b.used_set k l (sym (same k l) ∙ there);
}

pub IsBitsWord-mark : (shape : Shape) (class j i : ℕ) (used now : List ℕ) (v : ℕ) → i < 64 → ((n : ℕ) → is_member n now ≡ (eqb n (64 * j + i) || is_member n used)) → IsBitsWord shape class j used v → IsBitsWord shape class j now (bit_or v (1 * 2 ^ i % 2 ^ 64))
IsBitsWord-mark shape class j i used now v low members b = record {
  set = λ k l one. set k l one (cases_eq k i);
  own = λ k l first. own k (b.own k l first) (cases_eq k i);
  used_set = λ k l there. used_set k l there (cases_eq k i);
} where
  set : (k : ℕ) → k < 64 → bit_at (bit_or v (1 * 2 ^ i % 2 ^ 64)) k ≡ 1 → (k ≡ i) ⊎ (k ≢ i) → (64 * j + k < first_index shape class) ⊎ (is_member (64 * j + k) now ≡ true)
  set k l one (inl e) = inr (members (64 * j + k) ∙ grind (arith, common_steps, e))
  set k l one (inr ne) = elim (b.set k l (sym (bit_at_set_other w64 v i low k ne) ∙ one)) [
    | inl own ↦ inl own
    | inr there ↦ inr (members (64 * j + k) ∙ grind (arith, common_steps, there))
  ]

  own : (k : ℕ) → bit_at v k ≡ 1 → (k ≡ i) ⊎ (k ≢ i) → bit_at (bit_or v (1 * 2 ^ i % 2 ^ 64)) k ≡ 1
  own k was (inl e) = ap (bit_at (bit_or v (1 * 2 ^ i % 2 ^ 64))) e ∙ bit_at_set_same w64 v i low
  own k was (inr ne) = bit_at_set_other w64 v i low k ne ∙ was

  used_set : (k : ℕ) → k < 64 → is_member (64 * j + k) now ≡ true → (k ≡ i) ⊎ (k ≢ i) → bit_at (bit_or v (1 * 2 ^ i % 2 ^ 64)) k ≡ 1
  used_set k l there (inl e) = ap (bit_at (bit_or v (1 * 2 ^ i % 2 ^ 64))) e ∙ bit_at_set_same w64 v i low
  used_set k l there (inr ne) = let m = members (64 * j + k) in let was : is_member (64 * j + k) used ≡ true = grind (arith, common_steps, m, there, ne) in bit_at_set_other w64 v i low k ne ∙ b.used_set k l was

pub IsBitsWord-clear : (shape : Shape) (class j i : ℕ) (used now : List ℕ) (v : ℕ) → i < 64 → first_index shape class ≤ 64 * j + i → ((n : ℕ) → is_member n now ≡ (is_member n used && not (eqb (64 * j + i) n))) → IsBitsWord shape class j used v → IsBitsWord shape class j now (bit_and v (bit_not w64 (1 * 2 ^ i % 2 ^ 64)))
IsBitsWord-clear shape class j i used now v low usable members b = record {
  set = λ k l one. set k l one (cases_eq k i);
  own = λ k l first. bit_at_clear_other w64 v i low k l (λ e. omega (arith, e, first, usable)) ∙ b.own k l first;
  used_set = λ k l there. used_set k l there (members (64 * j + k)) (cases_eq k i);
} where
  set : (k : ℕ) → k < 64 → bit_at (bit_and v (bit_not w64 (1 * 2 ^ i % 2 ^ 64))) k ≡ 1 → (k ≡ i) ⊎ (k ≢ i) → (64 * j + k < first_index shape class) ⊎ (is_member (64 * j + k) now ≡ true)
  set k l one (inl e) = absurd (omega (arith, sym one ∙ ap (bit_at (bit_and v (bit_not w64 (1 * 2 ^ i % 2 ^ 64)))) e ∙ bit_at_clear_same w64 v i low))
  set k l one (inr ne) = elim (b.set k l (sym (bit_at_clear_other w64 v i low k l ne) ∙ one)) [
    | inl own ↦ inl own
    | inr there ↦ inr (members (64 * j + k) ∙ grind (arith, common_steps, there, ne))
  ]

  used_set : (k : ℕ) → k < 64 → is_member (64 * j + k) now ≡ true → is_member (64 * j + k) now ≡ (is_member (64 * j + k) used && not (eqb (64 * j + i) (64 * j + k))) → (k ≡ i) ⊎ (k ≢ i) → bit_at (bit_and v (bit_not w64 (1 * 2 ^ i % 2 ^ 64))) k ≡ 1
  used_set k l there m (inl e) = absurd (gone m there e) where
    gone : is_member (64 * j + k) now ≡ (is_member (64 * j + k) used && not (eqb (64 * j + i) (64 * j + k))) → is_member (64 * j + k) now ≡ true → k ≡ i → ⊥
    gone m there e = grind (arith, common_steps)
  used_set k l there m (inr ne) = let was : is_member (64 * j + k) used ≡ true = grind (arith, common_steps, m, there) in bit_at_clear_other w64 v i low k l ne ∙ b.used_set k l was
