-- What single writes to descriptors come to.
use Rattle.std.proofs.Common.{ℕ, ◌≡◌, ◌≢◌, ◌+◌, ◌-◌, ◌/◌, ◌<◌, ◌≤◌, List, length, get_or, set, sym, ap, subst, ◌∙◌, refl, arith, inl, inr, get_or-set_same, get_or-set_other}
use Rattle.std.proofs.lemmas.List.{length-set}
use Rattle.std.proofs.lemmas.Bool.{cases_eq}
use Rattle.slab_model.specs.declared.runs.Run.{Run}
use Rattle.slab_pages.specs.Places.{free_head, descriptor, HasWords, IsDescriptorOffset, descriptor_word}
use Rattle.slab_pages.specs.RunSteps.{Links, SetsWords, FillsRun, BeginsRun}
use Rattle.slab_pages.proofs.PlaceLemmas.{descriptor-word, descriptor-other, places_apart, HasWords-kept, SetsWords-other}

-- a word that isn't written stays
pub get-written : (old new : List ℕ) (i v w : ℕ) → new ≡ set old i v → w ≢ i → get_or new w 0 ≡ get_or old w 0
get-written old new i v w e ne = ap (λ ws. get_or ws w 0) e ∙ get_or-set_other old i w v 0 ne

-- the written one is read again
pub get-read : (old new : List ℕ) (i v : ℕ) → new ≡ set old i v → i < length old → get_or new i 0 ≡ v
get-read old new i v e h = ap (λ ws. get_or ws i 0) e ∙ get_or-set_same old i v 0 h

pub length-written : (old new : List ℕ) (i v : ℕ) → new ≡ set old i v → length new ≡ length old
length-written old new i v e = ap (λ ws. length ws) e ∙ length-set old i v

pub link_to_head : (old new : List ℕ) (a b : ℕ) → a / 8 + 1 < length old → b ≡ free_head → IsDescriptorOffset a → new ≡ set old (a / 8 + 1) b → Links old new a b
link_to_head old new a b fits e pa is = record {
  same_length = length-written old new (a / 8 + 1) b is;
  next = get-read old new (a / 8 + 1) b is fits;
  prev = λ ne. absurd (ne e);
  head = λ h. get-written old new (a / 8 + 1) b (b / 8 + 2) is (apart a b pa (inl e));
  others = λ w n1 n2. get-written old new (a / 8 + 1) b w is n1;
} where
  apart : (a b : ℕ) → IsDescriptorOffset a → IsDescriptorOffset b → b / 8 + 2 ≢ a / 8 + 1
  apart a b pa pb e = elim (cases_eq b a) [
    | inl same ↦ let w = ap (λ o. o / 8) same in omega (arith, w, e)
    | inr ne ↦ elim (places_apart b a pb pa ne) [ inl l ↦ omega (arith, l, e) | inr g ↦ omega (arith, g, e) ]
  ]

pub link_to_page : (old mid new : List ℕ) (a b : ℕ) → a / 8 + 1 < length old → b / 8 + 2 < length old → b ≢ free_head → IsDescriptorOffset a → IsDescriptorOffset b → mid ≡ set old (a / 8 + 1) b → new ≡ set mid (b / 8 + 2) a → Links old new a b
link_to_page old mid new a b fits fits2 nh pa pb is is2 = record {
  same_length = length-written mid new (b / 8 + 2) a is2 ∙ length-written old mid (a / 8 + 1) b is;
  next = get-written mid new (b / 8 + 2) a (a / 8 + 1) is2 (λ e. apart a b pa pb (sym e)) ∙ get-read old mid (a / 8 + 1) b is fits;
  prev = λ _. get-read mid new (b / 8 + 2) a is2 (omega (arith, fits2, length-written old mid (a / 8 + 1) b is));
  head = λ e. absurd (nh e);
  others = λ w n1 n2. get-written mid new (b / 8 + 2) a w is2 n2 ∙ get-written old mid (a / 8 + 1) b w is n1;
} where
  apart : (a b : ℕ) → IsDescriptorOffset a → IsDescriptorOffset b → b / 8 + 2 ≢ a / 8 + 1
  apart a b pa pb e = elim (cases_eq b a) [
    | inl same ↦ let w = ap (λ o. o / 8) same in omega (arith, w, e)
    | inr ne ↦ elim (places_apart b a pb pa ne) [ inl l ↦ omega (arith, l, e) | inr g ↦ omega (arith, g, e) ]
  ]

-- one more descriptor is filled
pub fills_more : (old mid new : List ℕ) (first count slab page : ℕ) → page ≡ first + count → FillsRun old mid first count slab → SetsWords mid new (descriptor page) slab 0 0 → FillsRun old new first (count + 1) slab
fills_more old mid new first count slab page at filled sets = record {
  same_length = sets.same_length ∙ filled.same_length;
  filled = λ p low high. elim (cases_eq p page) [
    | inl e ↦ subst (λ (k : ℕ). HasWords new (descriptor k) slab 0 0) (sym e) sets.has
    | inr ne ↦ HasWords-kept mid new (descriptor p) slab 0 0 (SetsWords-other mid new (descriptor page) slab 0 0 (descriptor p) (inr (page, refl)) (inr (p, refl)) (other p page ne) sets) (filled.filled p low (omega (arith, high, ne, at)))
  ];
  others = λ w far. sets.others w (elim far [ inl l ↦ inl (omega (arith, l, at, descriptor-word page)) | inr g ↦ inr (omega (arith, g, at, descriptor-word page)) ]) ∙ filled.others w (elim far [ inl l ↦ inl l | inr g ↦ inr (omega (arith, g)) ]);
} where
  other : (p page : ℕ) → p ≢ page → descriptor p ≢ descriptor page
  other p page ne e = descriptor-other p page ne e

-- a run's first and last descriptor
pub begun : (old mid new : List ℕ) (run : Run) → 0 < run.pages → descriptor_word (run.first + run.pages) ≤ length old → mid ≡ set old (descriptor (run.first + run.pages - 1) / 8 + 2) (descriptor run.first) → new ≡ set mid (descriptor run.first / 8) run.pages → BeginsRun old new run
begun old mid new run some room is is2 =
    let first = descriptor-word run.first in
    let last = descriptor-word (run.first + run.pages - 1) in
    let same = λ (w : ℕ) (n1 : w ≢ descriptor (run.first + run.pages - 1) / 8 + 2) (n2 : w ≢ descriptor run.first / 8). get-written mid new (descriptor run.first / 8) run.pages w is2 n2 ∙ get-written old mid (descriptor (run.first + run.pages - 1) / 8 + 2) (descriptor run.first) w is n1 in
    record {
      same_length = length-written mid new _ _ is2 ∙ length-written old mid _ _ is;
      slab = get-read mid new (descriptor run.first / 8) run.pages is2 (omega (arith, room, some, first, length-written old mid _ _ is));
      next = same (descriptor run.first / 8 + 1) (λ e. omega (arith, e, first, last)) (λ e. omega (arith, e));
      tail = λ blank. record {
        between = λ page low high. let at = descriptor-word page in record {
          slab_is = same (descriptor page / 8) (λ e. omega (arith, e, at, last, high)) (λ e. omega (arith, e, at, first, low)) ∙ blank.slabs page low (omega (arith, high));
          next_is = same (descriptor page / 8 + 1) (λ e. omega (arith, e, at, last, high)) (λ e. omega (arith, e, at, first, low)) ∙ blank.nexts page low (omega (arith, high));
          prev_is = same (descriptor page / 8 + 2) (λ e. omega (arith, e, at, last, high)) (λ e. omega (arith, e, at, first, low)) ∙ blank.prevs page low high;
        };
        last = λ many. let page = run.first + run.pages - 1 in record {
          slab_is = same (descriptor page / 8) (λ e. omega (arith, e)) (λ e. omega (arith, e, last, first, many)) ∙ blank.slabs page (omega (arith, many)) (omega (arith, many));
          next_is = same (descriptor page / 8 + 1) (λ e. omega (arith, e)) (λ e. omega (arith, e, last, first, many)) ∙ blank.nexts page (omega (arith, many)) (omega (arith, many));
          prev_is = get-written mid new (descriptor run.first / 8) run.pages (descriptor page / 8 + 2) is2 (λ e. omega (arith, e, last, first, many)) ∙ get-read old mid (descriptor page / 8 + 2) (descriptor run.first) is (omega (arith, room, some, last));
        };
      };
      others = λ w far. elim far [
        | inl l ↦ same w (λ e. omega (arith, e, l, last, some)) (λ e. omega (arith, e, l, first))
        | inr g ↦ same w (λ e. omega (arith, e, g, last, some)) (λ e. omega (arith, e, g, first, some))
      ];
    }
