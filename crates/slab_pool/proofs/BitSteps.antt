-- What the steps on a page's bits read and write.
use Rattle.std.proofs.Common.{ℕ, ◌≡◌, ◌≢◌, ◌⊎◌, ◌+◌, ◌-◌, ◌*◌, ◌/◌, ◌%◌, ◌^◌, ◌<◌, ◌≤◌, true, ◌&&◌, ◌||◌, not, eqb, bit_and, bit_or, Bool, List, [], ◌∷◌, length, get_or, set, sym, ap, subst, ◌∙◌, refl, arith, inl, inr}
use Rattle.std.specs.Int.{bit_at, bit_not, w64}
use Rattle.std.proofs.lemmas.Bool.{cases_lt, cases_eq, cases_Bool}
use Rattle.std.proofs.lemmas.Grind.{common_steps}
use Rattle.std.proofs.lemmas.Nat.{one_shl, or_lt, pow_below, pow_pos}
use Rattle.std.proofs.lemmas.Nat.Bits.{bit_at-lt, bit_at-zero, bit_at_ones, bit_at_ones_above, same_from_bits_below}
use Rattle.zone_region.specs.Members.{In}
use Rattle.slab_model.specs.declared.shape.Shape.{Shape}
use Rattle.slab_model.specs.Geometry.{Kind, small, kind_of, pages_of, first_index, blocks_in_page}
use Rattle.slab_model.specs.Numbers.{is_member, with_number, without}
use Rattle.slab_model.proofs.ClassLemmas.{zone}
use Rattle.slab_model.proofs.NumberLemmas.{member, is_member-with, is_member-without, In-without}
use Rattle.slab_pages.specs.Places.{Image, descriptor_word, page_word, bitmap_words, descriptor, slab_at}
use Rattle.slab_pages.specs.Layout.{MaySet}
use Rattle.slab_pages.specs.SlabLayout.{LaysBits}
use Rattle.slab_pages.proofs.PlaceLemmas.{descriptor-word}
use Rattle.slab_pages.proofs.SetLemmas.{may_set-past, may_set-used}
use Rattle.slab_pages.proofs.WriteLemmas.{get-written, get-read, length-written}
use Rattle.slab_pool.specs.WordBits.{IsLowestClear}
use Rattle.slab_pool.specs.Bits.{bits_word, bits_limit, HasShift, IsBitsWord, HasBits}
use Rattle.slab_pool.specs.PoolSteps.{IsTaken, ChangesBits, SetsBits, IsFirstUnused}
use Rattle.slab_pool.proofs.KindLemmas.{kind-small, kind-exact, kind-big, numbers, one_word}
use Rattle.slab_pool.proofs.BitLemmas.{KindAt, at_small, at_exact, at_big, kind_at, small_word, bits_word-is, bits_word-all, IsBitsWord-kept, IsBitsWord-mark, IsBitsWord-clear}
use Rattle.slab_pool.proofs.ListLemmas.{taken-room}

-- ---- places

pub bitmap-room : (image : Image) (class page j n : ℕ) → IsTaken image page → class < 9 → n ≡ page_word image.shape page → j < bitmap_words image.shape class → (n + j < length image.words) × (descriptor_word (pages_of image.shape) ≤ n + j) × (n + j < 2 ^ 64)
bitmap-room image class page j n t known is low =
    let z = zone image.shape t.limits in
    let few = (numbers image.shape class known).words in
    let sized = t.laid.sized in
    (omega (arith, is, low, few, t.below, z.last, z.eights, sized), omega (arith, is, z.behind), omega (arith, is, low, few, t.below, z.last, t.limits.small))

pub bitmap-may_set : (image : Image) (class page j n : ℕ) → IsTaken image page → class < 9 → n ≡ page_word image.shape page → j < bitmap_words image.shape class → MaySet image (n + j)
bitmap-may_set image class page j n t known is low = let r = bitmap-room image class page j n t known is low in may_set-past image t.runs (n + j) t.laid r.0 r.1

pub slab-room : (image : Image) (page o : ℕ) → IsTaken image page → o ≡ descriptor page → o / 8 < length image.words
slab-room image page o t is = omega (arith, (taken-room image page t).1, ap (λ n. n / 8) is)

pub slab-may_set : (image : Image) (page o : ℕ) → IsTaken image page → o ≡ descriptor page → MaySet image (o / 8)
slab-may_set image page o t is =
    let at = descriptor-word page in
    let eight = ap (λ n. n / 8) is in
    may_set-used image t.runs page (o / 8) t.laid (slab-room image page o t is) t.free (omega (arith, at, eight)) (omega (arith, at, eight))

-- ---- a word of the bits is read

pub value-small : (words : List ℕ) (shape : Shape) (page class j n r : ℕ) → class < 3 → n ≡ page_word shape page → r ≡ get_or words (n + j) 0 → r ≡ bits_word (kind_of shape class) words shape page j
value-small words shape page class j n r low is read = read ∙ ap (λ i. get_or words (i + j) 0) is ∙ ap (λ k. bits_word k words shape page j) (sym (kind-small shape class low))

pub value-exact : (words : List ℕ) (shape : Shape) (page class j o r : ℕ) → class ≡ 3 → o ≡ descriptor page → r ≡ slab_at words o → r ≡ bits_word (kind_of shape class) words shape page j
value-exact words shape page class j o r at is read = read ∙ ap (λ i. slab_at words i) is ∙ ap (λ k. bits_word k words shape page j) (sym (kind-exact shape class at))

above-exact : (class : ℕ) → 3 ≤ class → class ≢ 3 → 3 < class
above-exact class high ne = omega (arith, ne)

pub value-big : (words : List ℕ) (shape : Shape) (page class j o r s : ℕ) → 3 ≤ class → class ≢ 3 → class < 9 → o ≡ descriptor page → s ≡ slab_at words o → r ≡ s / 2 ^ 32 → r ≡ bits_word (kind_of shape class) words shape page j
value-big words shape page class j o r s high ne known is read shifted = shifted ∙ ap (λ i. i / 2 ^ 32) (read ∙ ap (λ i. slab_at words i) is) ∙ ap (λ k. bits_word k words shape page j) (sym (kind-big shape class (above-exact class high ne) known))

pub limit-small : (shape : Shape) (class r : ℕ) → class < 3 → r < 2 ^ 64 → r < bits_limit (kind_of shape class)
limit-small shape class r low fits = subst (λ (k : Kind). r < bits_limit k) (sym (kind-small shape class low)) fits

pub limit-exact : (shape : Shape) (class r : ℕ) → class ≡ 3 → r < 2 ^ 64 → r < bits_limit (kind_of shape class)
limit-exact shape class r at fits = subst (λ (k : Kind). r < bits_limit k) (sym (kind-exact shape class at)) fits

below-big : (shape : Shape) (class r : ℕ) → 3 < class → class < 9 → r < bits_limit (kind_of shape class) → r < 2 ^ 32
below-big shape class r high known fits = subst (λ (k : Kind). r < bits_limit k) (kind-big shape class high known) fits

limit-any : (shape : Shape) (class r : ℕ) → class < 9 → r < bits_limit (kind_of shape class) → r < 2 ^ 64
limit-any shape class r known fits = elim (kind_at shape class known) [
  | at_small low kind ↦ subst (λ (k : Kind). r < bits_limit k) kind fits
  | at_exact at kind ↦ subst (λ (k : Kind). r < bits_limit k) kind fits
  | at_big high kind ↦ let h = subst (λ (k : Kind). r < bits_limit k) kind fits in omega (arith, h)
]

pub not-small : (shape : Shape) (class : ℕ) → 3 ≤ class → class < 9 → kind_of shape class ≡ small → ⊥
not-small shape class high known kind = elim (kind_at shape class known) [ at_small low k ↦ omega (arith, low, high) | at_exact at k ↦ absurd (cc) | at_big h k ↦ absurd (cc) ]

-- ---- a word of the bits is written

pub changes-small : (shape : Shape) (class page j n v : ℕ) (old new : Image) → class < 3 → j < bitmap_words shape class → n ≡ page_word shape page → new ≡ record { shape = old.shape; words = set old.words (n + j) v } → ChangesBits shape class page old.words new.words
changes-small shape class page j n v old new low inside is written =
    let one = ap (λ (i : Image). i.words) written in
    record {
      same_length = length-written old.words new.words _ _ one;
      others = λ w ne out. get-written old.words new.words _ _ w one (λ e. elim (out (kind-small shape class low)) [ inl l ↦ omega (arith, l, e, is) | inr g ↦ omega (arith, g, e, is, inside) ]);
    }

pub changes-slab : (shape : Shape) (class page o v : ℕ) (old new : Image) → o ≡ descriptor page → new ≡ record { shape = old.shape; words = set old.words (o / 8) v } → ChangesBits shape class page old.words new.words
changes-slab shape class page o v old new is written =
    let one = ap (λ (i : Image). i.words) written in
    let at = descriptor-word page in
    record {
      same_length = length-written old.words new.words _ _ one;
      others = λ w ne out. get-written old.words new.words _ _ w one (λ e. ne (omega (arith, e, ap (λ n. n / 8) is, at)));
    }

pub sets-small : (class page j n v : ℕ) (old new : Image) → class < 3 → IsTaken old page → j < bitmap_words old.shape class → n ≡ page_word old.shape page → new ≡ record { shape = old.shape; words = set old.words (n + j) v } → SetsBits old.shape class page j v old.words new.words
sets-small class page j n v old new low t inside is written =
    let one = ap (λ (i : Image). i.words) written in
    let kind = kind-small old.shape class low in
    let r = bitmap-room old class page j n t (omega (arith, low)) is inside in
    record {
      set = ap (λ k. bits_word k new.words old.shape page j) kind ∙ ap (λ i. get_or new.words (i + j) 0) (sym is) ∙ get-read old.words new.words _ _ one r.0;
      others = λ i ne below. ap (λ k. bits_word k new.words old.shape page i) kind ∙ get-written old.words new.words _ _ (page_word old.shape page + i) one (λ e. ne (omega (arith, e, is))) ∙ ap (λ k. bits_word k old.words old.shape page i) (sym kind);
      shift = λ was. subst (λ (k : Kind). HasShift k new.words page class) (sym kind) (get-written old.words new.words _ _ (descriptor page / 8) one (λ e. omega (arith, e, r.1, t.below, descriptor-word page)) ∙ was kind);
    }

pub sets-exact : (class page j o v : ℕ) (old new : Image) → class ≡ 3 → IsTaken old page → j < bitmap_words old.shape class → o ≡ descriptor page → new ≡ record { shape = old.shape; words = set old.words (o / 8) v } → SetsBits old.shape class page j v old.words new.words
sets-exact class page j o v old new at t inside is written =
    let one = ap (λ (i : Image). i.words) written in
    let kind = kind-exact old.shape class at in
    let only = one_word old.shape class (omega (arith, at)) (omega (arith, at)) in
    record {
      set = ap (λ k. bits_word k new.words old.shape page j) kind ∙ ap (λ i. slab_at new.words i) (sym is) ∙ get-read old.words new.words _ _ one (slab-room old page o t is);
      others = λ i ne below. absurd (ne (omega (arith, below, inside, only.0)));
      shift = λ was. subst (λ (k : Kind). HasShift k new.words page class) (sym kind) tt;
    }

big_parts : (v class : ℕ) → v < 2 ^ 32 → class < 9 → ((v * 2 ^ 32 % 2 ^ 64 + 3 + class) / 2 ^ 32 ≡ v) × ((v * 2 ^ 32 % 2 ^ 64 + 3 + class) % 2 ^ 32 ≡ 3 + class)
big_parts v class fits known = (omega (arith, fits, known), omega (arith, fits, known))

pub sets-big : (class page j o v : ℕ) (old new : Image) → 3 ≤ class → class ≢ 3 → class < 9 → IsTaken old page → j < bitmap_words old.shape class → v < bits_limit (kind_of old.shape class) → o ≡ descriptor page → new ≡ record { shape = old.shape; words = set old.words (o / 8) (v * 2 ^ 32 % 2 ^ 64 + 3 + class) } → SetsBits old.shape class page j v old.words new.words
sets-big class page j o v old new more ne3 known t inside fits is written =
    let high = above-exact class more ne3 in
    let one = ap (λ (i : Image). i.words) written in
    let kind = kind-big old.shape class high known in
    let only = one_word old.shape class more known in
    let parts = big_parts v class (below-big old.shape class v high known fits) known in
    let read = ap (λ i. slab_at new.words i) (sym is) ∙ get-read old.words new.words _ _ one (slab-room old page o t is) in
    record {
      set = ap (λ k. bits_word k new.words old.shape page j) kind ∙ ap (λ i. i / 2 ^ 32) read ∙ parts.0;
      others = λ i ne below. absurd (ne (omega (arith, below, inside, only.0)));
      shift = λ was. subst (λ (k : Kind). HasShift k new.words page class) (sym kind) (ap (λ i. i % 2 ^ 32) read ∙ parts.1);
    }

-- ---- a step after another

pub changes-both : (shape : Shape) (class page : ℕ) (old mid new : List ℕ) → ChangesBits shape class page old mid → ChangesBits shape class page mid new → ChangesBits shape class page old new
changes-both shape class page old mid new h k = record { same_length = k.same_length ∙ h.same_length; others = λ w ne out. k.others w ne out ∙ h.others w ne out }

-- ---- a bit is set, and is cleared

old-shift : (words : List ℕ) (shape : Shape) (page class : ℕ) (used : List ℕ) → HasBits words shape page class used → kind_of shape class ≡ small → HasShift small words page class
old-shift words shape page class used h kind = (subst (λ (k : Kind). LaysBits k words shape page class used) kind h.bits).shift

-- a word other than the only one is a small class's
other-word : (words : List ℕ) (shape : Shape) (page class i j : ℕ) (used : List ℕ) → HasBits words shape page class used → i ≢ j → i < bitmap_words shape class → j < bitmap_words shape class → IsBitsWord shape class i used (bits_word (kind_of shape class) words shape page i)
other-word words shape page class i j used h ne li lj = elim (cases_lt class 3) [
  | inl low ↦ let kind = kind-small shape class low in subst (λ (k : Kind). IsBitsWord shape class i used (bits_word k words shape page i)) (sym kind) (small_word words shape page class i used low (subst (λ (k : Kind). LaysBits k words shape page class used) kind h.bits) li)
  | inr high ↦ absurd (ne (omega (arith, li, lj, (one_word shape class high h.known).0)))
]

pub word-in : (shape : Shape) (class index : ℕ) → class < 9 → index < blocks_in_page shape class → index / 64 < bitmap_words shape class
word-in shape class index known low = let n = numbers shape class known in omega (arith, n.holds, low)

-- the bits of a page with one word written
written : (words now : List ℕ) (shape : Shape) (page class j v : ℕ) (used more : List ℕ) → HasBits words shape page class used → j < bitmap_words shape class → SetsBits shape class page j v words now → IsBitsWord shape class j more v → ((i : ℕ) → i ≢ j → (k : ℕ) → k < 64 → is_member (64 * i + k) more ≡ is_member (64 * i + k) used) → ((i : ℕ) → In i more → (first_index shape class ≤ i) × (i < blocks_in_page shape class)) → HasBits now shape page class more
written words now shape page class j v used more h lj s own same usable = record {
  known = h.known;
  bits = bits_word-all now shape page class more h.known (s.shift (old-shift words shape page class used h)) (λ i li. elim (cases_eq i j) [
    | inl e ↦ subst (λ (n : ℕ). IsBitsWord shape class n more (bits_word (kind_of shape class) now shape page n)) (sym e) (subst (λ (n : ℕ). IsBitsWord shape class j more n) (sym s.set) own)
    | inr ne ↦ subst (λ (n : ℕ). IsBitsWord shape class i more n) (sym (s.others i ne li)) (IsBitsWord-kept shape class i used more _ (same i ne) (other-word words shape page class i j used h ne li lj))
  ]);
  usable = usable;
}

pub marked : (words now : List ℕ) (shape : Shape) (page class index v w : ℕ) (used : List ℕ) → HasBits words shape page class used → first_index shape class ≤ index → index < blocks_in_page shape class → v ≡ bits_word (kind_of shape class) words shape page (index / 64) → v < bits_limit (kind_of shape class) → w ≡ bit_or v (1 * 2 ^ (index % 64) % 2 ^ 64) → SetsBits shape class page (index / 64) w words now → HasBits now shape page class (with_number index used)
marked words now shape page class index v w used h first below v_is fits w_is s =
    let low = word-in shape class index h.known below in
    let was = bits_word-is words shape page class (index / 64) used v h low v_is fits in
    let place : 64 * (index / 64) + index % 64 ≡ index = omega arith in
    written words now shape page class (index / 64) w used (with_number index used) h low s
    (subst (λ (n : ℕ). IsBitsWord shape class (index / 64) (with_number index used) n) (sym w_is) (IsBitsWord-mark shape class (index / 64) (index % 64) used (with_number index used) v (omega arith) (λ n. is_member-with n index used ∙ ap (λ m. eqb n m || is_member n used) (sym place)) was))
    (λ i ne k lk. is_member-with (64 * i + k) index used ∙ other (64 * i + k) index (is_member (64 * i + k) used) (λ e. ne (omega (arith, e, lk))))
    (λ i m. elim (cases_eq i index) [
      | inl e ↦ (omega (arith, e, first), omega (arith, e, below))
      | inr ne ↦ h.usable i ((member i used).0 (sym (other i index (is_member i used) ne) ∙ sym (is_member-with i index used) ∙ (member i (with_number index used)).1 m))
    ]) where
      other : (a b : ℕ) (t : Bool) → a ≢ b → (eqb a b || t) ≡ t
      other a b t ne = grind (arith, common_steps, ne)

pub mark-fits : (shape : Shape) (class index v : ℕ) → class < 9 → index < blocks_in_page shape class → v < bits_limit (kind_of shape class) → bit_or v (1 * 2 ^ (index % 64) % 2 ^ 64) < bits_limit (kind_of shape class)
mark-fits shape class index v known below fits = subst (λ (m : ℕ). bit_or v m < bits_limit (kind_of shape class)) (sym (one_shl (index % 64) 64 (omega arith))) (go (kind_at shape class known)) where
  go : KindAt shape class → bit_or v (2 ^ (index % 64)) < bits_limit (kind_of shape class)
  go (at_small low kind) = subst (λ (k : Kind). bit_or v (2 ^ (index % 64)) < bits_limit k) (sym kind) (or_lt 64 v (2 ^ (index % 64)) (limit-any shape class v known fits) (pow_below (index % 64) 64 (omega arith)))
  go (at_exact at kind) = subst (λ (k : Kind). bit_or v (2 ^ (index % 64)) < bits_limit k) (sym kind) (or_lt 64 v (2 ^ (index % 64)) (limit-any shape class v known fits) (pow_below (index % 64) 64 (omega arith)))
  go (at_big high kind) = subst (λ (k : Kind). bit_or v (2 ^ (index % 64)) < bits_limit k) (sym kind) (or_lt 32 v (2 ^ (index % 64)) (below-big shape class v high known fits) (pow_below (index % 64) 32 (omega (arith, below, (one_word shape class (omega (arith, high)) known).3 high))))

pub cleared : (words now : List ℕ) (shape : Shape) (page class index v w : ℕ) (used : List ℕ) → HasBits words shape page class used → first_index shape class ≤ index → index < blocks_in_page shape class → v ≡ bits_word (kind_of shape class) words shape page (index / 64) → v < bits_limit (kind_of shape class) → w ≡ bit_and v (bit_not w64 (1 * 2 ^ (index % 64) % 2 ^ 64)) → SetsBits shape class page (index / 64) w words now → HasBits now shape page class (without index used)
cleared words now shape page class index v w used h first below v_is fits w_is s =
    let low = word-in shape class index h.known below in
    let was = bits_word-is words shape page class (index / 64) used v h low v_is fits in
    let place : 64 * (index / 64) + index % 64 ≡ index = omega arith in
    written words now shape page class (index / 64) w used (without index used) h low s
    (subst (λ (n : ℕ). IsBitsWord shape class (index / 64) (without index used) n) (sym w_is) (IsBitsWord-clear shape class (index / 64) (index % 64) used (without index used) v (omega arith) (omega (arith, first, place)) (λ n. is_member-without n index used ∙ ap (λ m. is_member n used && not (eqb m n)) (sym place)) was))
    (λ i ne k lk. is_member-without (64 * i + k) index used ∙ other index (64 * i + k) (is_member (64 * i + k) used) (λ e. ne (omega (arith, e, lk))))
    (λ i m. h.usable i (In-without i index used m)) where
      other : (a b : ℕ) (t : Bool) → a ≢ b → (t && not (eqb a b)) ≡ t
      other a b t ne = grind (arith, common_steps, ne)

-- ---- the bits of a page without a used index

pub own-first : (shape : Shape) (class j n : ℕ) → class < 9 → j ≡ 0 → n ≡ first_index shape class → (n < 64) × (1 ≤ 1 * 2 ^ n % 2 ^ 64) × IsBitsWord shape class j [] (1 * 2 ^ n % 2 ^ 64 - 1) × (1 * 2 ^ n % 2 ^ 64 - 1 < bits_limit (kind_of shape class))
own-first shape class j n known zero is =
    let low : n < 64 = omega (arith, is, (numbers shape class known).first) in
    let one = one_shl n 64 low in
    let p = pow_pos n in (
      low,
      omega (arith, one, p),
      subst (λ (m : ℕ). IsBitsWord shape class j [] (m - 1)) (sym one) (record {
        set = λ k in_word b. elim (cases_lt k n) [ inl l ↦ inl (omega (arith, l, is, zero)) | inr g ↦ absurd (omega (arith, b, bit_at_ones_above n k g)) ];
        own = λ k in_word first. bit_at_ones n k (omega (arith, first, zero, is));
        used_set = λ k in_word there. absurd (cc);
      }),
      subst (λ (m : ℕ). m - 1 < bits_limit (kind_of shape class)) (sym one) (fits (kind_at shape class known) low),
    )
  where
    fits : KindAt shape class → n < 64 → 2 ^ n - 1 < bits_limit (kind_of shape class)
    fits (at_small l kind) low = subst (λ (k : Kind). 2 ^ n - 1 < bits_limit k) (sym kind) (omega (arith, pow_below n 64 low))
    fits (at_exact l kind) low = subst (λ (k : Kind). 2 ^ n - 1 < bits_limit k) (sym kind) (omega (arith, pow_below n 64 low))
    fits (at_big l kind) low =
        let none : n ≡ 0 = omega (arith, is, (one_word shape class (omega (arith, l)) known).1) in
        subst (λ (k : Kind). 2 ^ n - 1 < bits_limit k) (sym kind) (subst (λ (m : ℕ). 2 ^ m - 1 < 2 ^ 32) (sym none) (omega arith))

pub own-later : (shape : Shape) (class j : ℕ) → class < 9 → j ≢ 0 → IsBitsWord shape class j [] 0
own-later shape class j known ne = record {
  set = λ k in_word b. absurd (omega (arith, b, bit_at-zero k));
  own = λ k in_word first. absurd (omega (arith, first, ne, (numbers shape class known).first));
  used_set = λ k in_word there. absurd (cc);
}

-- ---- whether an index is used

-- the words before this one have no used index
abbrev pub NoneBefore : List ℕ → Shape → ℕ → ℕ → ℕ → Type 0
NoneBefore words shape page class j = (used : List ℕ) → HasBits words shape page class used → (k : ℕ) → k < 64 * j → is_member k used ≡ true → ⊥

pub none-more : (words : List ℕ) (shape : Shape) (page class j v r : ℕ) → NoneBefore words shape page class j → j < bitmap_words shape class → v ≡ bits_word (kind_of shape class) words shape page j → v < bits_limit (kind_of shape class) → v ≡ r → IsBitsWord shape class j [] r → NoneBefore words shape page class (j + 1)
none-more words shape page class j v r before low v_is fits same own used h k below there = elim (cases_lt k (64 * j)) [
  | inl l ↦ before used h k l there
  | inr g ↦
      let place : 64 * j + (k - 64 * j) ≡ k = omega (arith, g) in
      let in_word : k - 64 * j < 64 = omega (arith, g, below) in
      let was = bits_word-is words shape page class j used v h low v_is fits in
      let bit = was.used_set (k - 64 * j) in_word (ap (λ n. is_member n used) place ∙ there) in
      elim (own.set (k - 64 * j) in_word (ap (λ n. bit_at n (k - 64 * j)) (sym same) ∙ bit)) [
        | inl first ↦ omega (arith, first, place, (h.usable k ((member k used).0 there)).0)
        | inr none ↦ absurd (cc)
      ]
]

pub none-all : (words : List ℕ) (shape : Shape) (page class j : ℕ) (used : List ℕ) → NoneBefore words shape page class j → bitmap_words shape class ≤ j → HasBits words shape page class used → used ≡ []
none-all words shape page class j used before past h = go used refl where
  go : (more : List ℕ) → used ≡ more → used ≡ []
  go [] e = e
  go (x ∷ xs) e =
      let m : In x used = subst (λ (us : List ℕ). In x us) (sym e) (inl refl) in
      absurd (before used h x (omega (arith, (h.usable x m).1, (numbers shape class h.known).holds, past)) ((member x used).1 m))

-- a word other than that of no used index
pub some-used : (words : List ℕ) (shape : Shape) (page class j v r : ℕ) (used : List ℕ) → HasBits words shape page class used → j < bitmap_words shape class → v ≡ bits_word (kind_of shape class) words shape page j → v < bits_limit (kind_of shape class) → r < bits_limit (kind_of shape class) → v ≢ r → IsBitsWord shape class j [] r → used ≡ [] → ⊥
some-used words shape page class j v r used h low v_is fits r_fits ne own none =
    let was = subst (λ (us : List ℕ). IsBitsWord shape class j us v) none (bits_word-is words shape page class j used v h low v_is fits) in
    ne (same_from_bits_below 64 v r (limit-any shape class v h.known fits) (limit-any shape class r h.known r_fits) (λ k in_word. same k in_word was own))
  where
    same : (k : ℕ) → k < 64 → IsBitsWord shape class j [] v → IsBitsWord shape class j [] r → bit_at v k ≡ bit_at r k
    same k in_word a b = elim (cases_eq (bit_at v k) 1) [
      | inl one ↦ one ∙ sym (elim (a.set k in_word one) [ inl first ↦ b.own k in_word first | inr there ↦ absurd (cc) ])
      | inr zero ↦ elim (cases_eq (bit_at r k) 1) [
        | inl one ↦ absurd (zero (elim (b.set k in_word one) [ inl first ↦ a.own k in_word first | inr there ↦ absurd (cc) ]))
        | inr none ↦ omega (arith, bit_at-lt v k, bit_at-lt r k, zero, none)
      ]
    ]

-- ---- the first unused index

-- all indexes from `from` on that stand before this word are used
abbrev pub AllBefore : List ℕ → Shape → ℕ → ℕ → ℕ → ℕ → Type 0
AllBefore words shape page class from j = (used : List ℕ) → HasBits words shape page class used → (k : ℕ) → from ≤ k → k < 64 * j → is_member k used ≡ true

-- what was found in word `j`
word-ones : (words : List ℕ) (shape : Shape) (page class from j v s r k : ℕ) (used : List ℕ) → HasBits words shape page class used → AllBefore words shape page class from j → first_index shape class ≤ from → j < bitmap_words shape class → v ≡ bits_word (kind_of shape class) words shape page j → v < bits_limit (kind_of shape class) → s ≡ from - 64 * j → IsLowestClear v s r → from ≤ k → k < 64 * j + r → is_member k used ≡ true
word-ones words shape page class from j v s r k used h before first low v_is fits s_is l above below = elim (cases_lt k (64 * j)) [
  | inl less ↦ before used h k above less
  | inr more ↦
      let place : 64 * j + (k - 64 * j) ≡ k = omega (arith, more) in
      let bit = l.ones (k - 64 * j) (omega (arith, s_is, above, more)) (omega (arith, below, more)) in
      elim ((bits_word-is words shape page class j used v h low v_is fits).set (k - 64 * j) (omega (arith, below, more, l.high)) bit) [
        | inl own ↦ absurd (omega (arith, own, place, above, first))
        | inr there ↦ ap (λ n. is_member n used) (sym place) ∙ there
      ]
]

pub all-more : (words : List ℕ) (shape : Shape) (page class from j v s r : ℕ) → AllBefore words shape page class from j → first_index shape class ≤ from → j < bitmap_words shape class → v ≡ bits_word (kind_of shape class) words shape page j → v < bits_limit (kind_of shape class) → s ≡ from - 64 * j → IsLowestClear v s r → 64 ≤ r → AllBefore words shape page class from (j + 1)
all-more words shape page class from j v s r before first low v_is fits s_is l past used h k above below = word-ones words shape page class from j v s r k used h before first low v_is fits s_is l above (omega (arith, below, past))

pub all-found : (words : List ℕ) (shape : Shape) (page class from j v s r : ℕ) (used : List ℕ) → AllBefore words shape page class from j → first_index shape class ≤ from → from ≤ blocks_in_page shape class → from / 64 ≤ j → j < bitmap_words shape class → v ≡ bits_word (kind_of shape class) words shape page j → v < bits_limit (kind_of shape class) → s ≡ from - 64 * j → IsLowestClear v s r → r < 64 → HasBits words shape page class used → IsFirstUnused shape class from used (64 * j + r)
all-found words shape page class from j v s r used before first room begins low v_is fits s_is l in_word h =
    let ones = λ (k : ℕ) (above : from ≤ k) (below : k < 64 * j + r). word-ones words shape page class from j v s r k used h before first low v_is fits s_is l above below in
    let was = bits_word-is words shape page class j used v h low v_is fits in
    let from_low : from ≤ 64 * j + r = omega (arith, l.low, s_is) in
    record {
      low = from_low;
      high = high from_low ones (cases_lt (blocks_in_page shape class) (64 * j + r));
      between = ones;
      unused = λ _. elim (cases_Bool (is_member (64 * j + r) used)) [
        | inl there ↦ absurd (omega (arith, was.used_set r in_word there, l.zero in_word))
        | inr none ↦ none
      ];
    } where
      high : from ≤ 64 * j + r → ((k : ℕ) → from ≤ k → k < 64 * j + r → is_member k used ≡ true) → (blocks_in_page shape class < 64 * j + r) ⊎ (64 * j + r ≤ blocks_in_page shape class) → 64 * j + r ≤ blocks_in_page shape class
      high low ones (inr g) = g
      high low ones (inl over) = absurd (omega (arith, (h.usable (blocks_in_page shape class) ((member (blocks_in_page shape class) used).0 (ones (blocks_in_page shape class) room over))).1))

-- ---- the bits of a page are begun

-- the words before this one are those of a page without a used index
pub record Begun (shape : Shape) (class page j : ℕ) (words : List ℕ) : Type 0 where
  pub bits : (i : ℕ) → i < j → IsBitsWord shape class i [] (bits_word (kind_of shape class) words shape page i)
  pub small_shift : kind_of shape class ≡ small → HasShift small words page class
  pub shift : 0 < j → HasShift (kind_of shape class) words page class

pub begun-more : (shape : Shape) (class page j v : ℕ) (old new : List ℕ) → j < bitmap_words shape class → Begun shape class page j old → SetsBits shape class page j v old new → IsBitsWord shape class j [] v → Begun shape class page (j + 1) new
begun-more shape class page j v old new low b s own = record {
  bits = λ i li. elim (cases_eq i j) [
    | inl e ↦ subst (λ (n : ℕ). IsBitsWord shape class n [] (bits_word (kind_of shape class) new shape page n)) (sym e) (subst (λ (n : ℕ). IsBitsWord shape class j [] n) (sym s.set) own)
    | inr ne ↦ subst (λ (n : ℕ). IsBitsWord shape class i [] n) (sym (s.others i ne (omega (arith, li, ne, low)))) (b.bits i (omega (arith, li, ne)))
  ];
  small_shift = λ kind. subst (λ (k : Kind). HasShift k new page class) kind (s.shift b.small_shift);
  shift = λ _. s.shift b.small_shift;
}

pub begun-all : (shape : Shape) (class page j : ℕ) (words : List ℕ) → class < 9 → bitmap_words shape class ≤ j → Begun shape class page j words → HasBits words shape page class []
begun-all shape class page j words known past b =
    let n = numbers shape class known in
    record {
      known = known;
      bits = bits_word-all words shape page class [] known (b.shift (omega (arith, past, n.holds, n.two, n.sum))) (λ i low. b.bits i (omega (arith, low, past)));
      usable = λ i none. absurd none;
    }
