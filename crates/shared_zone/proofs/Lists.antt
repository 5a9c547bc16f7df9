-- Beginnings of histories, and lists of views.
use Rattle.std.proofs.Common.{◌≡◌, ◌≢◌, ℕ, zero, suc, ◌+◌, ◌<◌, ◌≤◌, ◌⊎◌, Bool, true, false, List, [], ◌∷◌, ◌++◌, length, set, sym, refl, ap, ◌∙◌, subst, inl, inr, ⊎_elim, append_assoc, arith, length-append}
use Rattle.std.specs.Prelude.{map, slice_get, Some, All, nat_le, if◌then◌else◌}
use Rattle.std.proofs.lemmas.List.{append-nil}
use Rattle.std.proofs.lemmas.Bool.Decides.{nat_tests}
use mathlib.Core.Option.{some, some-ne-none, some-injective}
use lib.ListN.{get_elem?}
use Rattle.crossbeam_queue.proofs.Lists.{at_set}
use Rattle.zone_object.specs.declared.object.Entry.{Entry}
use Rattle.zone_object.specs.History.{own}
use Rattle.zone_object.proofs.Own.{own-append}
use Rattle.shared_zone.specs.Callers.{StartsWith, longer}

pub either_le : (m n : ℕ) → (m ≤ n) ⊎ (n ≤ m)
either_le m n =
    let f : (t : Bool) → nat_le m n ≡ t → (m ≤ n) ⊎ (n ≤ m) = elim [ true ↦ λ e. inl (grind (arith, nat_tests)) | false ↦ λ e. inr (grind (arith, nat_tests)) ] in
    f (nat_le m n) refl

module _ {E : Type 0} where
  pub starts_refl : (xs : List E) → StartsWith xs xs
  starts_refl xs = ([], sym (append-nil xs))

  pub starts_nil : (xs : List E) → StartsWith xs []
  starts_nil xs = (xs, refl)

  pub starts_more : (log seen more : List E) → StartsWith log seen → StartsWith (log ++ more) seen
  starts_more log seen more h = (h.0 ++ more, ap (λ l. l ++ more) h.1 ∙ append_assoc seen h.0 more)

  starts_of : (a b r s : List E) → a ++ r ≡ b ++ s → length a ≤ length b → StartsWith b a
  starts_of [] b r s e le = starts_nil b
  starts_of (x ∷ xs) [] r s e le = absurd (omega arith)
  starts_of (x ∷ xs) (y ∷ ys) r s e le =
      let t : xs ++ r ≡ ys ++ s = cc in
      let h = starts_of xs ys r s t (omega arith) in
      let head : x ≡ y = cc in (h.0, λ i. sym head i ∷ h.1 i)

  -- of two beginnings of one list the shorter begins the longer
  pub starts_both : (log a b : List E) → StartsWith log a → StartsWith log b → length a ≤ length b → StartsWith b a
  starts_both log a b ha hb le = starts_of a b ha.0 hb.0 (sym ha.1 ∙ hb.1) le

  pub longer_cases : (P : List E → Type 0) (a b : List E) → P a → (length a ≤ length b → P b) → P (longer a b)
  longer_cases P a b pa pb =
      let f : (t : Bool) → nat_le (length a) (length b) ≡ t → P (if t then b else a) = elim [ true ↦ λ e. pb (grind (arith, nat_tests)) | false ↦ λ e. pa ] in
      f (nat_le (length a) (length b)) refl

module _ {E : Type 0} where
  -- of two lists of which one begins the other, both begin the longer
  pub longer_begins : (a b : List E) → StartsWith a b ⊎ StartsWith b a → StartsWith (longer a b) a × StartsWith (longer a b) b
  longer_begins a b either =
      let f : (t : Bool) → nat_le (length a) (length b) ≡ t → StartsWith (if t then b else a) a × StartsWith (if t then b else a) b = elim [
        | true ↦ λ e. let le : length a ≤ length b = grind (arith, nat_tests) in (⊎_elim (λ h. starts_both a a b (starts_refl a) h le) (λ h. h) either, starts_refl b)
        | false ↦ λ e. let le : length b ≤ length a = grind (arith, nat_tests) in (starts_refl a, ⊎_elim (λ h. h) (λ h. starts_both b b a (starts_refl b) h le) either)
      ] in
      f (nat_le (length a) (length b)) refl

is_last : (k n : ℕ) → k < n + 1 → (k ≡ n) ⊎ (k < n)
is_last k n lt =
    let f : (t : Bool) → nat_le n k ≡ t → (k ≡ n) ⊎ (k < n) = elim [ true ↦ λ e. inl (grind (arith, nat_tests)) | false ↦ λ e. inr (grind (arith, nat_tests)) ] in
    f (nat_le n k) refl

module _ {A : Type 0} where
  pub all_nil : (P : A → Type 0) → All P []
  all_nil P k d h = absurd (omega arith)

  pub all_cons : (P : A → Type 0) (x : A) (xs : List A) → P x → All P xs → All P (x ∷ xs)
  all_cons P x xs here there zero d h = here
  all_cons P x xs here there (suc k) d h = there k d (omega arith)

  pub all_mid : (P : A → Type 0) (xs : List A) (x : A) (ys : List A) → All P ((xs ++ x ∷ []) ++ ys) → P x
  all_mid P [] x ys h = h 0 x (omega arith)
  all_mid P (z ∷ zs) x ys h = all_mid P zs x ys (λ k d lt. h (suc k) d (omega arith))

  get_here : (xs : List A) (x : A) → slice_get (xs ++ x ∷ []) (length xs) ≡ Some x
  get_here [] x = refl
  get_here (y ∷ ys) x = get_here ys x

  get_before : (xs : List A) (x : A) (k : ℕ) → k < length xs → slice_get (xs ++ x ∷ []) k ≡ slice_get xs k
  get_before [] x k h = absurd (omega arith)
  get_before (y ∷ ys) x zero h = refl
  get_before (y ∷ ys) x (suc k) h = get_before ys x k (omega arith)

  -- one element more of a list that a function gives
  pub get_more : (f : ℕ → A) (xs : List A) (x : A) (n : ℕ) → length xs ≡ n → ((k : ℕ) → k < n → slice_get xs k ≡ Some (f k)) → x ≡ f n → (k : ℕ) → k < n + 1 → slice_get (xs ++ x ∷ []) k ≡ Some (f k)
  get_more f xs x n len made is k lt =
      ⊎_elim (λ (e : k ≡ n). ap (λ j. slice_get (xs ++ x ∷ []) j) (e ∙ sym len) ∙ get_here xs x ∙ ap Some (is ∙ ap f (sym e)))
      (λ (l : k < n). let within : k < length xs = omega arith in get_before xs x k within ∙ made k l) (is_last k n lt)

  pub all_last : (P : A → Type 0) (xs : List A) (x : A) → All P (xs ++ x ∷ []) → P x
  all_last P [] x h = h 0 x (omega arith)
  all_last P (z ∷ zs) x h = all_last P zs x (λ k d lt. h (suc k) d (omega arith))

  pub all_same : (P Q : A → Type 0) (xs : List A) → ((x : A) → P x → Q x) → All P xs → All Q xs
  all_same P Q xs f h k d lt = f _ (h k d lt)

  pub nil_list : (xs : List A) → length xs ≡ 0 → xs ≡ []
  nil_list [] e = refl
  nil_list (x ∷ xs) e = absurd (omega arith)

module _ {A B : Type 0} where
  pub all_unmap : (f : A → B) (Q : B → Type 0) (xs : List A) → All Q (map f xs) → All (λ x. Q (f x)) xs
  all_unmap f Q [] h = all_nil (λ x. Q (f x))
  all_unmap f Q (x ∷ xs) h = all_cons (λ x. Q (f x)) x xs (h 0 (f x) (omega arith)) (all_unmap f Q xs (λ k d lt. h (suc k) d (omega arith)))

module _ {V : Type 0} where
  -- what holds of each place of a list
  abbrev pub Each : (ℕ → V → Type 0) → List V → Type 0
  Each F views = (place : ℕ) (v : V) → get_elem? views place ≡ some v → F place v

  pub each_set : (F : ℕ → V → Type 0) (views : List V) (place : ℕ) (w : V) → F place w → ((j : ℕ) (u : V) → j ≢ place → get_elem? views j ≡ some u → F j u) → Each F (set views place w)
  each_set F views place w mine others j u e =
      ⊎_elim (λ (x : (j ≡ place) × (w ≡ u)). subst (λ (y : ℕ × V). F y.0 y.1) (λ i. (sym x.0 i, x.1 i)) mine)
      (λ (x : (j ≢ place) × (get_elem? views j ≡ some u)). others j u x.0 x.1) (at_set views place j w u e)

  at_more : (l : List V) (a b : V) (j : ℕ) → get_elem? (l ++ a ∷ []) j ≡ some b → (get_elem? l j ≡ some b) ⊎ ((j ≡ length l) × (a ≡ b))
  at_more [] a b zero e = inr (refl, some-injective a b e)
  at_more [] a b (suc j) e = absurd (some-ne-none b (sym e))
  at_more (x ∷ xs) a b zero e = inl e
  at_more (x ∷ xs) a b (suc j) e = ⊎_elim (λ t. inl t) (λ t. inr (ap suc t.0, t.1)) (at_more xs a b j e)

  pub each_more : (F : ℕ → V → Type 0) (views : List V) (w : V) → Each F views → F (length views) w → Each F (views ++ w ∷ [])
  each_more F views w all mine j u e =
      ⊎_elim (λ (x : get_elem? views j ≡ some u). all j u x)
      (λ (x : (j ≡ length views) × (w ≡ u)). subst (λ (y : ℕ × V). F y.0 y.1) (λ i. (sym x.0 i, x.1 i)) mine) (at_more views w u j e)

  pub at_here : (l : List V) (i : ℕ) (a b : V) → get_elem? l i ≡ some a → get_elem? (set l i b) i ≡ some b
  at_here [] i a b e = absurd (some-ne-none a (sym e))
  at_here (x ∷ xs) zero a b e = refl
  at_here (x ∷ xs) (suc i) a b e = at_here xs i a b e

  pub at_one : (a b : V) (j : ℕ) → get_elem? (a ∷ []) j ≡ some b → a ≡ b
  at_one a b zero e = some-injective a b e
  at_one a b (suc j) e = absurd (some-ne-none b (sym e))

module _ {X St C R : Type 0} where
  nil_of : (l : List (Entry X St C R)) → length l ≡ 0 → l ≡ []
  nil_of [] e = refl
  nil_of (x ∷ xs) e = absurd (omega arith)

  -- a history between one and its beginning has no other entries of a caller, if the beginning has them all
  pub own_between : (log b a : List (Entry X St C R)) (who : ℕ) → StartsWith log b → StartsWith b a → own log who ≡ own a who → own log who ≡ own b who
  own_between log b a who hb ha is =
      let e : own log who ≡ own b who ++ own hb.0 who = ap (λ l. own l who) hb.1 ∙ own-append b hb.0 who in
      let f : own b who ≡ own a who ++ own ha.0 who = ap (λ l. own l who) ha.1 ∙ own-append a ha.0 who in
      let n : length (own hb.0 who) ≡ 0 = omega (arith, ap length e, ap length f, ap length is, length-append (own b who) (own hb.0 who), length-append (own a who) (own ha.0 who)) in
      e ∙ ap (λ l. own b who ++ l) (nil_of (own hb.0 who) n) ∙ append-nil (own b who)
