-- Rows and columns change places.
use Rattle.std.proofs.Common.{ℕ, zero, suc, ◌≡◌, ◌+◌, ◌<◌, ◌≤◌, ◌⊎◌, inl, inr, Bool, true, false, List, [], ◌∷◌, ◌++◌, length, map, replicate, get_or, set, subst, sym, ap, refl, ◌∙◌, arith}
use Rattle.std.specs.Prelude.{Option, Some, None, slice_get, nat_lt}
use Rattle.std.specs.List.{All}
use Rattle.std.proofs.lemmas.Bool.Decides.{nat_tests}
use Rattle.std.proofs.lemmas.List.{map-set, length-append, length-replicate}
use Rattle.std.proofs.lemmas.List.Elements.{All-head, All-tail}
use Rattle.std.proofs.lemmas.Option.{slice_get-get_or, slice_get_past, slice_get_within, slice_get-map}
use Rattle.std.specs.Option.{option_map}
use Rattle.replay_workers.specs.Transposing.{added, filled, at_place, cell, IsTransposed}

low_or : (m n : ℕ) → (m < n) ⊎ (n ≤ m)
low_or m n =
    let f : (t : Bool) → nat_lt m n ≡ t → (m < n) ⊎ (n ≤ m) = elim [ true ↦ λ e. inl (grind (arith, nat_tests)) | false ↦ λ e. inr (grind (arith, nat_tests)) ] in
    f (nat_lt m n) refl

module _ {X : Type 0} where
  some_at : (xs : List X) (j : ℕ) → j < length xs → (x : X) × (slice_get xs j ≡ Some x)
  some_at (x ∷ xs) zero low = (x, refl)
  some_at (x ∷ xs) (suc j) low = some_at xs j (omega (arith, low))
  some_at [] j low = absurd (omega (arith, low))

  -- ---- one row

  -- the last element of a row first
  added-last : (columns : List (List X)) (row : List X) (x : X) (column : List X) → slice_get columns (length row) ≡ Some column
      → added (set columns (length row) (column ++ x ∷ [])) row ≡ added columns (row ++ x ∷ [])
  added-last (c ∷ cs) [] x column is = cc
  added-last (c ∷ cs) (y ∷ row) x column is = ap (λ l. (c ++ y ∷ []) ∷ l) (added-last cs row x column is)
  added-last [] [] x column is = absurd (omega (arith, slice_get_within [] 0 column is))
  added-last [] (y ∷ row) x column is = absurd (omega (arith, slice_get_within [] (suc (length row)) column is))

  added-length : (columns : List (List X)) (row : List X) → length row ≡ length columns → length (added columns row) ≡ length columns
  added-length [] [] is = refl
  added-length (c ∷ cs) (x ∷ row) is = ap suc (added-length cs row (omega (arith, is)))
  added-length [] (x ∷ row) is = absurd (omega (arith, is))
  added-length (c ∷ cs) [] is = refl

  -- a column after a row
  added-column : (columns : List (List X)) (row : List X) (j : ℕ) (column : List X) (x : X) → slice_get columns j ≡ Some column → slice_get row j ≡ Some x → slice_get (added columns row) j ≡ Some (column ++ x ∷ [])
  added-column (c ∷ cs) (y ∷ row) zero column x at is = cc
  added-column (c ∷ cs) (y ∷ row) (suc j) column x at is = added-column cs row j column x at is
  added-column [] row j column x at is = absurd (omega (arith, slice_get_within [] j column at))
  added-column (c ∷ cs) [] j column x at is = absurd (omega (arith, slice_get_within [] j x is))

  -- ---- all rows

  abbrev pub AreWide : ℕ → List (List X) → Type 0
  AreWide n [] = Unit {0}
  AreWide n (row ∷ rows) = (length row ≡ n) × AreWide n rows

  pub filled-length : (columns rows : List (List X)) (n : ℕ) → length columns ≡ n → AreWide n rows → length (filled columns rows) ≡ n
  filled-length columns [] n is all = is
  filled-length columns (row ∷ rows) n is all = filled-length (added columns row) rows n (added-length columns row (all.0 ∙ sym is) ∙ is) all.1

  snoc-at : (xs : List X) (x : X) → slice_get (xs ++ x ∷ []) (length xs) ≡ Some x
  snoc-at [] x = refl
  snoc-at (y ∷ xs) x = snoc-at xs x

  snoc-before : (xs : List X) (x y : X) (i : ℕ) → slice_get xs i ≡ Some y → slice_get (xs ++ x ∷ []) i ≡ Some y
  snoc-before (z ∷ xs) x y zero is = is
  snoc-before (z ∷ xs) x y (suc i) is = snoc-before xs x y i is
  snoc-before [] x y i is = absurd (omega (arith, slice_get_within [] i y is))

  -- what stood in a column stays there
  filled-before : (columns rows : List (List X)) (n j i : ℕ) (column : List X) (x : X) → length columns ≡ n → AreWide n rows → slice_get columns j ≡ Some column → slice_get column i ≡ Some x → cell (filled columns rows) j i ≡ Some x
  filled-before columns [] n j i column x is all at there = ap (λ (o : Option (List X)). at_place o i) at ∙ there
  filled-before columns (row ∷ rows) n j i column x is all at there =
      let low : j < length row = omega (arith, all.0, is, slice_get_within columns j column at) in
      let y = some_at row j low in
      filled-before (added columns row) rows n j i (column ++ y.0 ∷ []) x (added-length columns row (all.0 ∙ sym is) ∙ is) all.1 (added-column columns row j column y.0 at y.1) (snoc-before column y.0 x i there)

  -- a column that had no element has one of each row
  filled-cell : (columns rows : List (List X)) (n j i : ℕ) (column : List X) → length columns ≡ n → AreWide n rows → slice_get columns j ≡ Some column → cell (filled columns rows) j (length column + i) ≡ cell rows i j
  filled-cell columns [] n j i column is all at = ap (λ (o : Option (List X)). at_place o (length column + i)) at ∙ slice_get_past column (length column + i) (omega arith)
  filled-cell columns (row ∷ rows) n j zero column is all at =
      let low : j < length row = omega (arith, all.0, is, slice_get_within columns j column at) in
      let y = some_at row j low in
      let now : slice_get (column ++ y.0 ∷ []) (length column + 0) ≡ Some y.0 = subst (λ (k : ℕ). slice_get (column ++ y.0 ∷ []) k ≡ Some y.0) (omega arith) (snoc-at column y.0) in
      filled-before (added columns row) rows n j (length column + 0) (column ++ y.0 ∷ []) y.0 (added-length columns row (all.0 ∙ sym is) ∙ is) all.1 (added-column columns row j column y.0 at y.1) now ∙ sym y.1
  filled-cell columns (row ∷ rows) n j (suc i) column is all at =
      let low : j < length row = omega (arith, all.0, is, slice_get_within columns j column at) in
      let y = some_at row j low in
      let longer : length (column ++ y.0 ∷ []) ≡ length column + 1 = length-append column (y.0 ∷ []) in
      let same : length column + suc i ≡ length (column ++ y.0 ∷ []) + i = omega (arith, longer) in
      ap (cell (filled (added columns row) rows) j) same ∙ filled-cell (added columns row) rows n j i (column ++ y.0 ∷ []) (added-length columns row (all.0 ∙ sym is) ∙ is) all.1 (added-column columns row j column y.0 at y.1)

  -- ---- the whole

  blank : (n j : ℕ) → j < n → slice_get {X = List X} (replicate n []) j ≡ Some []
  blank (suc n) zero low = refl
  blank (suc n) (suc j) low = blank n j (omega (arith, low))
  blank zero j low = absurd (omega (arith, low))

  wide_row : (rows : List (List X)) (n i j : ℕ) → AreWide n rows → n ≤ j → cell rows i j ≡ None
  wide_row [] n i j all past = refl
  wide_row (row ∷ rows) n zero j all past = slice_get_past row j (omega (arith, all.0, past))
  wide_row (row ∷ rows) n (suc i) j all past = wide_row rows n i j all.1 past

  pub is_transposed : (rows columns : List (List X)) (n : ℕ) → AreWide n rows → columns ≡ filled (replicate n []) rows → IsTransposed rows columns
  is_transposed rows columns n all is i j =
      let start : length (replicate n []) ≡ n = length-replicate n [] in
      let long : length columns ≡ n = ap length is ∙ filled-length (replicate n []) rows n start all in
      elim (low_or j n) [
        | inl low ↦ ap (λ (l : List (List X)). cell l j i) is ∙ ap (cell (filled (replicate n []) rows) j) (omega arith) ∙ filled-cell (replicate n []) rows n j i [] start all (blank n j low)
        | inr past ↦ ap (λ (o : Option (List X)). at_place o i) (slice_get_past columns j (omega (arith, long, past))) ∙ sym (wide_row rows n i j all past)
      ]

-- ---- lists that have such a value for each of their elements

module _ {V X : Type 0} (f : V → List X) where
  pub added-step : (columns : List V) (old row : List X) (x : X) (v w : V) (place : ℕ) → old ≡ row ++ x ∷ [] → length row ≡ place → place < length columns → v ≡ get_or columns place v → f w ≡ f v ++ x ∷ []
      → added (map f (set columns place w)) row ≡ added (map f columns) old
  added-step columns old row x v w place old_is length_is low v_is w_is =
      let at : slice_get (map f columns) (length row) ≡ Some (f v) = ap (slice_get (map f columns)) length_is ∙ slice_get-map f columns place ∙ ap (option_map f) (slice_get-get_or columns place v low ∙ ap Some (sym v_is)) in
      ap (λ (l : List (List X)). added l row) (map-set f columns place w ∙ ap (λ (l : List X). set (map f columns) place l) w_is ∙ ap (λ (k : ℕ). set (map f columns) k (f v ++ x ∷ [])) (sym length_is))
      ∙ added-last (map f columns) row x (f v) at ∙ ap (added (map f columns)) (sym old_is)

  pub wide : (xs : List V) (n : ℕ) → All (λ (v : V). length (f v) ≡ n) xs → AreWide n (map f xs)
  wide [] n all = tt
  wide (v ∷ xs) n all = (All-head (λ (w : V). length (f w) ≡ n) v xs all, wide xs n (All-tail (λ (w : V). length (f w) ≡ n) v xs all))

pub no_rows : {V : Type 0} → (xs : List V) → length xs ≡ 0 → xs ≡ []
no_rows [] is = refl
no_rows (x ∷ xs) is = absurd (omega (arith, is))
