-- Members of lists that are joined and split.
use Rattle.std.proofs.Common.{ℕ, ◌≡◌, ◌⊎◌, List, [], ◌∷◌, ◌++◌, length, sym, ap, subst, refl, inl, inr, arith}
use Rattle.std.proofs.lemmas.List.{length-append}
use Rattle.zone_region.specs.Members.{In, IsDistinct}

pub In-append_left : (a : ℕ) (xs ys : List ℕ) → In a xs → In a (xs ++ ys)
In-append_left a [] ys h = absurd h
In-append_left a (x ∷ xs) ys h = elim h [ inl e ↦ inl e | inr t ↦ inr (In-append_left a xs ys t) ]

pub In-append_right : (a : ℕ) (xs ys : List ℕ) → In a ys → In a (xs ++ ys)
In-append_right a [] ys h = h
In-append_right a (x ∷ xs) ys h = inr (In-append_right a xs ys h)

pub In-append_cases : (a : ℕ) (xs ys : List ℕ) → In a (xs ++ ys) → In a xs ⊎ In a ys
In-append_cases a [] ys h = inr h
In-append_cases a (x ∷ xs) ys h = elim h [
  | inl e ↦ inl (inl e)
  | inr t ↦ elim (In-append_cases a xs ys t) [ inl l ↦ inl (inr l) | inr r ↦ inr r ]
]

pub In-middle : (ys : List ℕ) (b : ℕ) (zs : List ℕ) → In b (ys ++ b ∷ zs)
In-middle ys b zs = In-append_right b ys (b ∷ zs) (inl refl)

-- a member of a list is one with one element more
pub In-more : (a : ℕ) (xs : List ℕ) (b : ℕ) (ys : List ℕ) → In a (xs ++ ys) → In a (xs ++ b ∷ ys)
In-more a xs b ys h = elim (In-append_cases a xs ys h) [ inl l ↦ In-append_left a xs (b ∷ ys) l | inr r ↦ In-append_right a xs (b ∷ ys) (inr r) ]

-- a member of a list with one element more is that element or another
pub In-one_more : (a : ℕ) (xs : List ℕ) (b : ℕ) (ys : List ℕ) → In a (xs ++ b ∷ ys) → (a ≡ b) ⊎ In a (xs ++ ys)
In-one_more a xs b ys h = elim (In-append_cases a xs (b ∷ ys) h) [
  | inl l ↦ inr (In-append_left a xs ys l)
  | inr r ↦ elim r [ inl e ↦ inl e | inr t ↦ inr (In-append_right a xs ys t) ]
]

-- a member splits the list
pub In-split : (a : ℕ) (xs : List ℕ) → In a xs → (ys : List ℕ) × (zs : List ℕ) × (xs ≡ ys ++ a ∷ zs)
In-split a [] h = absurd h
In-split a (x ∷ xs) h = elim h [
  | inl e ↦ ([], xs, ap (λ y. y ∷ xs) (sym e))
  | inr t ↦ let s = In-split a xs t in (x ∷ s.0, s.1, ap (λ ys. x ∷ ys) s.2)
]

pub IsDistinct-split : (xs : List ℕ) (a : ℕ) (ys : List ℕ) → IsDistinct (xs ++ a ∷ ys) → IsDistinct (xs ++ ys) × (In a (xs ++ ys) → ⊥)
IsDistinct-split [] a ys d = (d.1, d.0)
IsDistinct-split (x ∷ xs) a ys d =
    let r = IsDistinct-split xs a ys d.1 in
    ((λ h. d.0 (In-more x xs a ys h), r.0), λ h. elim h [ inl e ↦ d.0 (In-append_right x xs (a ∷ ys) (inl (sym e))) | inr t ↦ r.1 t ])

pub IsDistinct-join : (xs : List ℕ) (a : ℕ) (ys : List ℕ) → IsDistinct (xs ++ ys) → (In a (xs ++ ys) → ⊥) → IsDistinct (xs ++ a ∷ ys)
IsDistinct-join [] a ys d n = (n, d)
IsDistinct-join (x ∷ xs) a ys d n =
    (λ h. elim (In-one_more x xs a ys h) [ inl e ↦ n (inl (sym e)) | inr i ↦ d.0 i ], IsDistinct-join xs a ys d.1 (λ h. n (inr h)))

-- an element that is moved to the front is a member as before
pub In-moved : (a : ℕ) (xs : List ℕ) (b : ℕ) (ys : List ℕ) → In a (b ∷ xs ++ ys) → In a (xs ++ b ∷ ys)
In-moved a xs b ys h = elim h [ inl e ↦ In-append_right a xs (b ∷ ys) (inl e) | inr t ↦ In-more a xs b ys t ]

pub IsDistinct-moved : (xs : List ℕ) (b : ℕ) (ys : List ℕ) → IsDistinct (xs ++ b ∷ ys) → IsDistinct (b ∷ xs ++ ys)
IsDistinct-moved xs b ys d = let s = IsDistinct-split xs b ys d in (s.1, s.0)

-- two distinct lists with the same members are equally long
pub same_length : (xs ys : List ℕ) → IsDistinct xs → IsDistinct ys → ((x : ℕ) → In x xs → In x ys) → ((x : ℕ) → In x ys → In x xs) → length xs ≡ length ys
same_length [] [] dx dy to back = refl
same_length [] (y ∷ ys) dx dy to back = absurd (back y (inl refl))
same_length (x ∷ xs) ys dx dy to back =
    let s = In-split x ys (to x (inl refl)) in
    let d = IsDistinct-split s.0 x s.1 (subst (λ (zs : List ℕ). IsDistinct zs) s.2 dy) in
    let rest = same_length xs (s.0 ++ s.1) dx.1 d.0
    (λ z i. elim (In-one_more z s.0 x s.1 (subst (λ (zs : List ℕ). In z zs) s.2 (to z (inr i)))) [ inl e ↦ absurd (dx.0 (subst (λ (w : ℕ). In w xs) e i)) | inr j ↦ j ])
    (λ z i. elim (back z (subst (λ (zs : List ℕ). In z zs) (sym s.2) (In-more z s.0 x s.1 i))) [ inl e ↦ absurd (d.1 (subst (λ (w : ℕ). In w (s.0 ++ s.1)) e i)) | inr j ↦ j ]) in
    omega (arith, rest, ap (λ zs. length zs) s.2, length-append s.0 (x ∷ s.1), length-append s.0 s.1)
