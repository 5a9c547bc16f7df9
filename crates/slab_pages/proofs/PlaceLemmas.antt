-- The words of descriptors at different places are different.
use Rattle.std.proofs.Common.{ℕ, ◌≡◌, ◌≢◌, ◌⊎◌, ◌+◌, ◌/◌, ◌≤◌, List, sym, ap, subst, ◌∙◌, refl, arith, inl, inr}
use Rattle.std.proofs.lemmas.Bool.{cases_lt, cases_eq}
use Rattle.slab_pages.specs.Frames.{SameWords}
use Rattle.slab_pages.specs.RunSteps.{Links, SetsWords}
use Rattle.slab_pages.specs.Places.{free_head, descriptor, slab_at, next_at, prev_at, HasWords, IsDescriptorOffset, descriptor_word}

pub descriptor-word : (page : ℕ) → descriptor page / 8 ≡ descriptor_word page
unfolding descriptor
descriptor-word page = omega arith

pub descriptor-head : (page : ℕ) → descriptor page ≢ free_head
unfolding descriptor
descriptor-head page e = omega arith

pub descriptor-zero : (page : ℕ) → descriptor page ≢ 0
unfolding descriptor
descriptor-zero page e = omega arith

pub descriptor-injective : (m n : ℕ) → descriptor m ≡ descriptor n → m ≡ n
unfolding descriptor
descriptor-injective m n e = omega arith

pub descriptor-other : (m n : ℕ) → m ≢ n → descriptor m ≢ descriptor n
descriptor-other m n ne e = ne (descriptor-injective m n e)

-- two places have three words each
pub places_apart : (x y : ℕ) → IsDescriptorOffset x → IsDescriptorOffset y → x ≢ y → (x / 8 + 3 ≤ y / 8) ⊎ (y / 8 + 3 ≤ x / 8)
places_apart x y px py ne = elim px [
  | inl ex ↦ elim py [
    | inl ey ↦ absurd (ne (ex ∙ sym ey))
    | inr my ↦ let w = ap (λ o. o / 8) my.1 ∙ descriptor-word my.0 in let v = ap (λ o. o / 8) ex in inl (omega (arith, w, v))
  ]
  | inr mx ↦ elim py [
    | inl ey ↦ let w = ap (λ o. o / 8) mx.1 ∙ descriptor-word mx.0 in let v = ap (λ o. o / 8) ey in inr (omega (arith, w, v))
    | inr my ↦
        let w = ap (λ o. o / 8) mx.1 ∙ descriptor-word mx.0 in
        let v = ap (λ o. o / 8) my.1 ∙ descriptor-word my.0 in
        let other : mx.0 ≢ my.0 = λ e. ne (mx.1 ∙ ap (λ n. descriptor n) e ∙ sym my.1) in
        elim (cases_lt mx.0 my.0) [
          | inl l ↦ inl (omega (arith, w, v, l))
          | inr g ↦ inr (omega (arith, w, v, g, other))
        ]
  ]
]

pub HasWords-kept : (old new : List ℕ) (o slab next prev : ℕ) → SameWords old new o → HasWords old o slab next prev → HasWords new o slab next prev
HasWords-kept old new o slab next prev same h = record { slab_is = same.slab ∙ h.slab_is; next_is = same.next ∙ h.next_is; prev_is = same.prev ∙ h.prev_is }

pub SameWords-then : (a b c : List ℕ) (o : ℕ) → SameWords a b o → SameWords b c o → SameWords a c o
SameWords-then a b c o first second = record { slab = second.slab ∙ first.slab; next = second.next ∙ first.next; prev = second.prev ∙ first.prev }

-- a new link changes one next and one prev
pub Links-slab : (old new : List ℕ) (a b x : ℕ) → IsDescriptorOffset a → IsDescriptorOffset b → IsDescriptorOffset x → Links old new a b → slab_at new x ≡ slab_at old x
Links-slab old new a b x pa pb px h = h.others (x / 8) (λ e. one_of x a px pa e) (λ e. two_of x b px pb e) where
  one_of : (x a : ℕ) → IsDescriptorOffset x → IsDescriptorOffset a → x / 8 ≢ a / 8 + 1
  one_of x a px pa e = elim (cases_eq x a) [
    | inl same ↦ let w = ap (λ o. o / 8) same in omega (arith, w, e)
    | inr ne ↦ let apart = places_apart x a px pa ne in elim apart [ inl l ↦ omega (arith, l, e) | inr g ↦ omega (arith, g, e) ]
  ]

  two_of : (x a : ℕ) → IsDescriptorOffset x → IsDescriptorOffset a → x / 8 ≢ a / 8 + 2
  two_of x a px pa e = elim (cases_eq x a) [
    | inl same ↦ let w = ap (λ o. o / 8) same in omega (arith, w, e)
    | inr ne ↦ let apart = places_apart x a px pa ne in elim apart [ inl l ↦ omega (arith, l, e) | inr g ↦ omega (arith, g, e) ]
  ]

pub Links-next : (old new : List ℕ) (a b x : ℕ) → IsDescriptorOffset a → IsDescriptorOffset b → IsDescriptorOffset x → x ≢ a → Links old new a b → next_at new x ≡ next_at old x
Links-next old new a b x pa pb px ne h =
    h.others (x / 8 + 1)
    (λ e. let apart = places_apart x a px pa ne in elim apart [ inl l ↦ omega (arith, l, e) | inr g ↦ omega (arith, g, e) ])
    (λ e. one_two x b px pb e) where
      one_two : (x a : ℕ) → IsDescriptorOffset x → IsDescriptorOffset a → x / 8 + 1 ≢ a / 8 + 2
      one_two x a px pa e = elim (cases_eq x a) [
        | inl same ↦ let w = ap (λ o. o / 8) same in omega (arith, w, e)
        | inr ne ↦ let apart = places_apart x a px pa ne in elim apart [ inl l ↦ omega (arith, l, e) | inr g ↦ omega (arith, g, e) ]
      ]

pub Links-prev : (old new : List ℕ) (a b x : ℕ) → IsDescriptorOffset a → IsDescriptorOffset b → IsDescriptorOffset x → x ≢ b → Links old new a b → prev_at new x ≡ prev_at old x
Links-prev old new a b x pa pb px ne h =
    h.others (x / 8 + 2)
    (λ e. two_one x a px pa e)
    (λ e. let apart = places_apart x b px pb ne in elim apart [ inl l ↦ omega (arith, l, e) | inr g ↦ omega (arith, g, e) ]) where
      two_one : (x a : ℕ) → IsDescriptorOffset x → IsDescriptorOffset a → x / 8 + 2 ≢ a / 8 + 1
      two_one x a px pa e = elim (cases_eq x a) [
        | inl same ↦ let w = ap (λ o. o / 8) same in omega (arith, w, e)
        | inr ne ↦ let apart = places_apart x a px pa ne in elim apart [ inl l ↦ omega (arith, l, e) | inr g ↦ omega (arith, g, e) ]
      ]

-- the head keeps its prev
pub Links-prev_head : (old new : List ℕ) (a b : ℕ) → IsDescriptorOffset a → IsDescriptorOffset b → Links old new a b → prev_at new free_head ≡ prev_at old free_head
Links-prev_head old new a b pa pb h = elim (cases_eq b free_head) [
  | inl e ↦ subst (λ (o : ℕ). prev_at new o ≡ prev_at old o) e (h.head e)
  | inr ne ↦ Links-prev old new a b free_head pa pb (inl refl) (λ e. ne (sym e)) h
]

-- a written descriptor leaves the others
pub SetsWords-other : (old new : List ℕ) (o slab next prev x : ℕ) → IsDescriptorOffset o → IsDescriptorOffset x → x ≢ o → SetsWords old new o slab next prev → SameWords old new x
SetsWords-other old new o slab next prev x po px ne h =
    let apart = places_apart x o px po ne in
    record {
      slab = h.others (x / 8) (elim apart [ inl l ↦ inl (omega (arith, l)) | inr g ↦ inr (omega (arith, g)) ]);
      next = h.others (x / 8 + 1) (elim apart [ inl l ↦ inl (omega (arith, l)) | inr g ↦ inr (omega (arith, g)) ]);
      prev = h.others (x / 8 + 2) (elim apart [ inl l ↦ inl (omega (arith, l)) | inr g ↦ inr (omega (arith, g)) ]);
    }
