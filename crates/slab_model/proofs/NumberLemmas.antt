-- Members of lists, ascending lists, and the lowest number that is not in one.
use Rattle.std.proofs.Common.{ℕ, ◌≡◌, ◌≢◌, ◌↔◌, ◌+◌, ◌<◌, ◌≤◌, zero, suc, Bool, true, false, not, ◌&&◌, ◌||◌, List, [], ◌∷◌, ◌++◌, length, take, drop, get_or, cond, ap, sym, ◌∙◌, refl, arith, eqb, ltb, inl, inr}
use Rattle.std.proofs.lemmas.Bool.{cases_Bool, cases_eq}
use Rattle.std.proofs.lemmas.Grind.{common_steps}
use Rattle.std.specs.List.{list_any}
use Rattle.zone_region.specs.Members.{In, IsDistinct}
use Rattle.slab_model.specs.Numbers.{is_member, AscendsFrom, with_number, without}
use Rattle.slab_model.specs.Inside.{place_in}
use Rattle.slab_model.specs.Blocks.{first_unused}

-- ---- members

-- the test of membership
pub member : (n : ℕ) (ns : List ℕ) → (is_member n ns ≡ true) ↔ In n ns
member n ns = (there n ns, back n ns) where
  there : (n : ℕ) (ns : List ℕ) → is_member n ns ≡ true → In n ns
  there n [] h = absurd (cc)
  there n (m ∷ ms) h = let ih = there n ms in elim (cases_eq n m) [ inl e ↦ inl e | inr ne ↦ inr (ih (rest ne h)) ] where
    rest : n ≢ m → is_member n (m ∷ ms) ≡ true → is_member n ms ≡ true
    rest ne h = grind (arith, common_steps)

  back : (n : ℕ) (ns : List ℕ) → In n ns → is_member n ns ≡ true
  back n [] h = absurd h
  back n (m ∷ ms) h = elim h [ inl e ↦ first e | inr t ↦ later (back n ms t) ] where
    first : n ≡ m → is_member n (m ∷ ms) ≡ true
    first e = grind (arith, common_steps)

    later : is_member n ms ≡ true → is_member n (m ∷ ms) ≡ true
    later t = grind (arith, common_steps)

pub member_not : (n : ℕ) (ns : List ℕ) → (In n ns → ⊥) → is_member n ns ≡ false
member_not n ns not_in = elim (cases_Bool (is_member n ns)) [ inl there ↦ absurd (not_in ((member n ns).0 there)) | inr none ↦ none ]

pub not_member : (n : ℕ) (ns : List ℕ) → is_member n ns ≡ false → In n ns → ⊥
not_member n ns none here = both none ((member n ns).1 here) where
  both : is_member n ns ≡ false → is_member n ns ≡ true → ⊥
  both f t = cc

pub is_member-without : (i n : ℕ) (ns : List ℕ) → is_member i (without n ns) ≡ (is_member i ns && not (eqb n i))
is_member-without i n [] = refl
is_member-without i n (m ∷ ms) = let ih = is_member-without i n ms in grind (arith, common_steps, ih)

pub In-without : (i n : ℕ) (ns : List ℕ) → In i (without n ns) → In i ns
In-without i n ns h = (member i ns).0 (was (is_member-without i n ns) ((member i (without n ns)).1 h)) where
  was : is_member i (without n ns) ≡ (is_member i ns && not (eqb n i)) → is_member i (without n ns) ≡ true → is_member i ns ≡ true
  was mem there = grind (arith, common_steps, mem)

-- a number that is not there
pub without-none : (n : ℕ) (ns : List ℕ) → is_member n ns ≡ false → without n ns ≡ ns
without-none n [] none = refl
without-none n (m ∷ ms) none = let ih = without-none n ms in grind (arith, common_steps, ih)

pub IsDistinct-without : (n : ℕ) (ns : List ℕ) → IsDistinct ns → IsDistinct (without n ns)
IsDistinct-without n [] once = tt
IsDistinct-without n (m ∷ ms) once = choose (not (eqb n m)) (IsDistinct-without n ms once.1) where
  choose : (kept : Bool) → IsDistinct (without n ms) → IsDistinct (cond kept (m ∷ without n ms) (without n ms))
  choose true rest = (λ h. once.0 (In-without m n ms h), rest)
  choose false rest = rest

pub length-without : (n : ℕ) (ns : List ℕ) → IsDistinct ns → is_member n ns ≡ true → length (without n ns) + 1 ≡ length ns
length-without n [] once there = absurd (cc)
length-without n (m ∷ ms) once there =
    let ih = length-without n ms once.1 in
    let none = without-none n ms in
    let alone = member_not m ms once.0 in
    grind (arith, common_steps, ih, none, alone)

-- membership as std's search for one element
pub is_member_any : (n : ℕ) (ns : List ℕ) → is_member n ns ≡ list_any (λ m. eqb m n) ns
is_member_any n [] = refl
is_member_any n (m ∷ ms) = let ih = is_member_any n ms in grind (arith, common_steps, ih)

-- ---- ascending lists

pub AscendsFrom-less : (low high : ℕ) (ns : List ℕ) → low ≤ high → AscendsFrom high ns → AscendsFrom low ns
AscendsFrom-less low high [] le up = tt
AscendsFrom-less low high (n ∷ ns) le up = (omega (arith, up.0), up.1)

-- the members are at least as great as the bound
pub In-from : (low n : ℕ) (ns : List ℕ) → AscendsFrom low ns → In n ns → low ≤ n
In-from low n [] up h = absurd h
In-from low n (m ∷ ms) up h = elim h [ inl e ↦ omega (arith, up.0) | inr t ↦ let ih = In-from (suc m) n ms up.1 t in omega (arith, up.0, ih) ]

pub IsDistinct-ascending : (low : ℕ) (ns : List ℕ) → AscendsFrom low ns → IsDistinct ns
IsDistinct-ascending low [] up = tt
IsDistinct-ascending low (n ∷ ns) up = (λ h. let le = In-from (suc n) n ns up.1 h in absurd (omega (arith, le)), IsDistinct-ascending (suc n) ns up.1)

pub AscendsFrom-without : (low n : ℕ) (ns : List ℕ) → AscendsFrom low ns → AscendsFrom low (without n ns)
AscendsFrom-without low n [] up = tt
AscendsFrom-without low n (m ∷ ms) up = choose (not (eqb n m)) (AscendsFrom-without (suc m) n ms up.1) where
  choose : (kept : Bool) → AscendsFrom (suc m) (without n ms) → AscendsFrom low (cond kept (m ∷ without n ms) (without n ms))
  choose true rest = (up.0, rest)
  choose false rest = AscendsFrom-less low (suc m) (without n ms) (omega (arith, up.0)) rest

pub AscendsFrom-with : (low n : ℕ) (ns : List ℕ) → low ≤ n → AscendsFrom low ns → (In n ns → ⊥) → AscendsFrom low (with_number n ns)
AscendsFrom-with low n [] le up none = (le, tt)
AscendsFrom-with low n (m ∷ ms) le up none = choose (ltb n m) refl (λ more. AscendsFrom-with (suc m) n ms more up.1 (λ h. none (inr h))) where
  choose : (before : Bool) → ltb n m ≡ before → (suc m ≤ n → AscendsFrom (suc m) (with_number n ms)) → AscendsFrom low (cond before (n ∷ m ∷ ms) (m ∷ with_number n ms))
  choose true is rest = let less : n < m = grind (arith, common_steps) in (le, (less, up.1))
  choose false is rest = let more : m ≤ n = grind (arith, common_steps) in let ne : n ≢ m = λ e. none (inl e) in (up.0, rest (omega (arith, more, ne)))

pub is_member-with : (i n : ℕ) (ns : List ℕ) → is_member i (with_number n ns) ≡ (eqb i n || is_member i ns)
is_member-with i n [] = refl
is_member-with i n (m ∷ ms) = let ih = is_member-with i n ms in grind (arith, common_steps, ih)

pub length-with : (n : ℕ) (ns : List ℕ) → length (with_number n ns) ≡ length ns + 1
length-with n [] = refl
length-with n (m ∷ ms) = let ih = length-with n ms in grind (arith, common_steps, ih)

-- where a number goes in
pub with_place : (n : ℕ) (ns : List ℕ) → with_number n ns ≡ take (place_in n ns) ns ++ n ∷ drop (place_in n ns) ns
with_place n [] = refl
with_place n (m ∷ ms) = let ih = with_place n ms in choose (ltb n m) ih where
  choose : (before : Bool) → with_number n ms ≡ take (place_in n ms) ms ++ n ∷ drop (place_in n ms) ms → cond before (n ∷ m ∷ ms) (m ∷ with_number n ms) ≡ take (cond before 0 (1 + place_in n ms)) (m ∷ ms) ++ n ∷ drop (cond before 0 (1 + place_in n ms)) (m ∷ ms)
  choose true ih = refl
  choose false ih = let suc_is : 1 + place_in n ms ≡ suc (place_in n ms) = omega arith in ap (λ k. m ∷ k) ih ∙ ap (λ k. take k (m ∷ ms) ++ n ∷ drop k (m ∷ ms)) (sym suc_is)

pub place_in_le : (n : ℕ) (ns : List ℕ) → place_in n ns ≤ length ns
place_in_le n [] = omega arith
place_in_le n (m ∷ ms) = let ih = place_in_le n ms in grind (arith, common_steps, ih)

-- a number that goes in and out again
pub without-with : (n : ℕ) (ns : List ℕ) → is_member n ns ≡ false → without n (with_number n ns) ≡ ns
without-with n [] none = grind (arith, common_steps)
without-with n (m ∷ ms) none = let ih = without-with n ms in let old = without-none n (m ∷ ms) in grind (arith, common_steps, ih, old)

-- a set in a range has no more numbers than the range
pub length-ascending : (low high : ℕ) (ns : List ℕ) → AscendsFrom low ns → low ≤ high → ((n : ℕ) → In n ns → n < high) → low + length ns ≤ high
length-ascending low high [] up le below = omega (arith, le)
length-ascending low high (n ∷ ns) up le below = let ih = length-ascending (suc n) high ns up.1 (below n (inl refl)) (λ m h. below m (inr h)) in omega (arith, up.0, ih)

-- two ascending lists with the same members are one
pub ascending_same : (low : ℕ) (ns ms : List ℕ) → AscendsFrom low ns → AscendsFrom low ms → ((n : ℕ) → In n ns ↔ In n ms) → ns ≡ ms
ascending_same low [] [] up other same = refl
ascending_same low [] (m ∷ ms) up other same = absurd ((same m).1 (inl refl))
ascending_same low (n ∷ ns) [] up other same = absurd ((same n).0 (inl refl))
ascending_same low (n ∷ ns) (m ∷ ms) up other same = ap (λ k. k ∷ ns) first ∙ ap (λ k. m ∷ k) (ascending_same (suc n) ns ms up.1 (raise first) (λ k. (later k, back k))) where
  least : (a b : ℕ) (rest : List ℕ) → AscendsFrom (suc a) rest → In b (a ∷ rest) → a ≤ b
  least a b rest h is = elim is [ inl e ↦ omega arith | inr t ↦ let le = In-from (suc a) b rest h t in omega (arith, le) ]

  first : n ≡ m
  first = let one = least n m ns up.1 ((same m).1 (inl refl)) in let two = least m n ms other.1 ((same n).0 (inl refl)) in omega (arith, one, two)

  raise : n ≡ m → AscendsFrom (suc n) ms
  raise e = AscendsFrom-less (suc n) (suc m) ms (omega (arith, e)) other.1

  later : (k : ℕ) → In k ns → In k ms
  later k h = elim ((same k).0 (inr h)) [ inl e ↦ let le = In-from (suc n) k ns up.1 h in absurd (omega (arith, le, e, first)) | inr t ↦ t ]

  back : (k : ℕ) → In k ms → In k ns
  back k h = elim ((same k).1 (inr h)) [ inl e ↦ let le = In-from (suc m) k ms other.1 h in absurd (omega (arith, le, e, first)) | inr t ↦ t ]

-- ---- the lowest number that is not in a list

pub first_unused-low : (count index : ℕ) (used : List ℕ) → index ≤ first_unused count index used
first_unused-low zero index used = omega arith
first_unused-low (suc count) index used = let ih = first_unused-low count (index + 1) used in grind (arith, common_steps, ih)

pub first_unused-high : (count index : ℕ) (used : List ℕ) → first_unused count index used ≤ index + count
first_unused-high zero index used = omega arith
first_unused-high (suc count) index used = let ih = first_unused-high count (index + 1) used in grind (arith, common_steps, ih)

pub first_unused-unused : (count index : ℕ) (used : List ℕ) → first_unused count index used < index + count → is_member (first_unused count index used) used ≡ false
first_unused-unused zero index used low = absurd (omega arith)
first_unused-unused (suc count) index used low = let ih = first_unused-unused count (index + 1) used in grind (arith, common_steps, ih)

-- all below it are used
pub first_unused-below : (count index i : ℕ) (used : List ℕ) → index ≤ i → i < first_unused count index used → is_member i used ≡ true
first_unused-below zero index i used low high = absurd (omega arith)
first_unused-below (suc count) index i used low high = let ih = first_unused-below count (index + 1) i used in grind (arith, common_steps, ih)

-- what is below every index that is tried doesn't count
first_unused-past : (count index n : ℕ) (ns : List ℕ) → n < index → first_unused count index (n ∷ ns) ≡ first_unused count index ns
first_unused-past zero index n ns low = refl
first_unused-past (suc count) index n ns low = let ih = first_unused-past count (index + 1) n ns in grind (arith, common_steps, ih)

-- the lowest number from `low` on that isn't in this ascending list of such numbers, in one pass
pub first_gap : ℕ → List ℕ → ℕ
first_gap low [] = low
first_gap low (n ∷ ns) = cond (eqb n low) (first_gap (low + 1) ns) low

pub first_gap-is : (count low : ℕ) (ns : List ℕ) → AscendsFrom low ns → ((n : ℕ) → In n ns → n < low + count) → first_gap low ns ≡ first_unused count low ns
unfolding first_gap
first_gap-is zero low [] up below = refl
first_gap-is zero low (n ∷ ns) up below = let high = below n (inl refl) in absurd (omega (arith, high, up.0))
first_gap-is (suc count) low [] up below = refl
first_gap-is (suc count) low (n ∷ ns) up below = elim (cases_eq n low) [
  | inl e ↦
      let rest : AscendsFrom (low + 1) ns = AscendsFrom-less (low + 1) (suc n) ns (omega (arith, e)) up.1 in
      let ih = first_gap-is count (low + 1) ns rest (λ m h. let high = below m (inr h) in omega (arith, high)) in
      let past = first_unused-past count (low + 1) n ns (omega (arith, e)) in
      grind (arith, common_steps, ih, past, e)
  | inr ne ↦ here ne (member_not low ns (λ h. let le = In-from (suc n) low ns up.1 h in absurd (omega (arith, le, up.0))))
] where
  here : n ≢ low → is_member low ns ≡ false → first_gap low (n ∷ ns) ≡ first_unused (suc count) low (n ∷ ns)
  here ne none = grind (arith, common_steps)

first_gap-high : (low : ℕ) (ns : List ℕ) → first_gap low ns ≤ low + length ns
unfolding first_gap
first_gap-high low [] = omega arith
first_gap-high low (n ∷ ns) = let ih = first_gap-high (low + 1) ns in grind (arith, common_steps, ih)

-- a list that fills its range has no gap
first_gap-packed : (low : ℕ) (ns : List ℕ) → AscendsFrom low ns → ((n : ℕ) → In n ns → n < low + length ns) → first_gap low ns ≡ low + length ns
unfolding first_gap
first_gap-packed low [] up below = omega arith
first_gap-packed low (n ∷ ns) up below = elim (cases_eq n low) [
  | inl e ↦
      let rest : AscendsFrom (low + 1) ns = AscendsFrom-less (low + 1) (suc n) ns (omega (arith, e)) up.1 in
      let ih = first_gap-packed (low + 1) ns rest (λ m h. let high = below m (inr h) in omega (arith, high)) in
      grind (arith, common_steps, ih, e)
  | inr ne ↦
      let high = below n (inl refl) in
      let few = length-ascending (suc n) (low + suc (length ns)) ns up.1 (omega (arith, high)) (λ m h. below m (inr h)) in
      absurd (omega (arith, few, up.0, ne))
]

-- an ascending list fills a range exactly where it has as many numbers
pub first_gap-full : (count low : ℕ) (ns : List ℕ) → AscendsFrom low ns → ((n : ℕ) → In n ns → n < low + count) → eqb (first_gap low ns) (low + count) ≡ eqb (length ns) count
first_gap-full count low ns up below =
    let few = length-ascending low (low + count) ns up (omega arith) below in
    let high = first_gap-high low ns in
    elim (cases_eq (length ns) count) [
      | inl e ↦ let packed = first_gap-packed low ns up (λ n h. let le = below n h in omega (arith, le, e)) in grind (arith, common_steps, packed, e)
      | inr ne ↦ grind (arith, common_steps, few, high, ne)
    ]

-- a pass that has come to place `k`
pub gap_step : (k index : ℕ) (ns : List ℕ) → k < length ns → get_or ns k 0 ≡ index → first_gap index (drop k ns) ≡ first_gap (index + 1) (drop (k + 1) ns)
unfolding first_gap
gap_step k index [] low is = absurd (omega arith)
gap_step zero index (n ∷ ns) low is = grind (arith, common_steps, is)
gap_step (suc k) index (n ∷ ns) low is = let e : suc k + 1 ≡ suc (k + 1) = omega arith in gap_step k index ns (omega arith) is ∙ ap (λ j. first_gap (index + 1) (drop j (n ∷ ns))) (sym e)

pub gap_here : (k index : ℕ) (ns : List ℕ) → k < length ns → get_or ns k 0 ≢ index → first_gap index (drop k ns) ≡ index
unfolding first_gap
gap_here k index [] low ne = absurd (omega arith)
gap_here zero index (n ∷ ns) low ne = grind (arith, common_steps, ne)
gap_here (suc k) index (n ∷ ns) low ne = gap_here k index ns (omega arith) ne

pub gap_end : (k index : ℕ) (ns : List ℕ) → length ns ≤ k → first_gap index (drop k ns) ≡ index
unfolding first_gap
gap_end k index [] past = grind (arith, common_steps)
gap_end zero index (n ∷ ns) past = absurd (omega arith)
gap_end (suc k) index (n ∷ ns) past = gap_end k index ns (omega arith)
