-- Tables that are split and put in another order.
use Rattle.std.proofs.Common.{rules, ℕ, ◌≡◌, ◌+◌, ◌-◌, ◌<◌, ◌≤◌, Bool, true, false, cond, eqb, List, [], ◌∷◌, ◌++◌, length, take, drop, get_or, reverse, Some, None, refl, sym, ap, subst, ◌∙◌, inl, inr, arith}
use Rattle.std.proofs.lemmas.List.{reverse-append, take-append-drop}
use Rattle.std.proofs.lemmas.List.Folds.{find_at}
use Rattle.std.proofs.lemmas.List.Sums.{sum_by-cons, sum_by-append, get_or-le-sum_by}
use Rattle.std.proofs.lemmas.List.Sorted.{IsPermutation-remove, IsPermutation-append_right, IsPermutation-reverse, sum_by-IsPermutation}
use Rattle.std.proofs.lemmas.Option.{slice_get-get_or, slice_get_past}
use Rattle.std.proofs.lemmas.Slice.Eq.{bytes_eq-Decides}
use Rattle.std.proofs.lemmas.Bool.{cases_lt}
use Rattle.std.proofs.lemmas.Grind.{common_steps}
use Rattle.std.specs.List.{position_or_len}
use Rattle.std.specs.List.Sorted.{IsPermutation}
use Rattle.std.specs.Str.{bytes_eq}
use Rattle.slab_model.proofs.LiveLemmas.{once_here}
use Rattle.req_zone.specs.declared.state.ReqEntry.{ReqEntry}
use Rattle.req_zone.specs.Table.{has_key, entry_of, others}
use Rattle.req_zone.specs.Expiry.{without_oldest}
use Rattle.req_zone.specs.Object.{holds_at, once_at}
use Rattle.req_zone.specs.Holding.{entries_of, nodes_at}

pub some_same : {A : Type 0} (x y : A) → Some x ≡ Some y → x ≡ y
some_same x y h = ap (elim [ Some z ↦ z | None ↦ x ]) h

-- the entry of a key before the others is the table in another order
pub found_permutes : (key : List ℕ) (table : List ReqEntry) (e : ReqEntry) → entry_of key table ≡ Some e → IsPermutation table (e ∷ others key table)
found_permutes key table e found = elim (cases_lt (position_or_len (has_key key) table) (length table)) [
  | inl below ↦ IsPermutation-remove table (position_or_len (has_key key) table) e below
      (some_same e (get_or table (position_or_len (has_key key) table) e) (sym found ∙ find_at (has_key key) table ∙ slice_get-get_or table (position_or_len (has_key key) table) e below))
  | inr past ↦ none (sym found ∙ find_at (has_key key) table ∙ slice_get_past table (position_or_len (has_key key) table) past)
] where
  none : Some e ≡ None → IsPermutation table (e ∷ others key table)
  none h = absurd (cc)

-- the entry of a key has the key
pub found_key : (key : List ℕ) (table : List ReqEntry) (e : ReqEntry) → entry_of key table ≡ Some e → has_key key e ≡ true
found_key key [] e found = absurd (cc)
found_key key (x ∷ xs) e found = go (has_key key x) refl found (λ h. found_key key xs e h) where
  go : (b : Bool) → has_key key x ≡ b → cond b (Some x) (entry_of key xs) ≡ Some e → (entry_of key xs ≡ Some e → has_key key e ≡ true) → has_key key e ≡ true
  go true is h rest = subst (λ (y : ReqEntry). has_key key y ≡ true) (some_same x e h) is
  go false is h rest = rest h

-- a key without an entry has none
pub missing_none : (key : List ℕ) (table : List ReqEntry) → entry_of key table ≡ None → entries_of key table ≡ 0
missing_none key [] none = refl
missing_none key (x ∷ xs) none = go (has_key key x) refl none (λ h. missing_none key xs h) where
  go : (b : Bool) → has_key key x ≡ b → cond b (Some x) (entry_of key xs) ≡ None → (entry_of key xs ≡ None → entries_of key xs ≡ 0) → entries_of key (x ∷ xs) ≡ 0
  go true is h rest = absurd (cc)
  go false is h rest = let now : cond (has_key key x) 1 0 ≡ 0 = ap {B = ℕ} (λ (b : Bool). cond b 1 0) is in let later = rest h in sum_by-cons (λ (entry : ReqEntry). cond (has_key key entry) 1 0) x xs ∙ omega (arith, now, later)

-- how the oldest leave: those that stay before those that leave are the table in another order
pub evicted_permutes : (n : ℕ) (table : List ReqEntry) → n ≤ length table → IsPermutation table (without_oldest n table ++ take n (reverse table))
evicted_permutes n table h =
    let stay = take (length table - n) table in
    let gone = drop (length table - n) table in
    let split : stay ++ gone ≡ table = take-append-drop (length table - n) table in
    let turned : reverse table ≡ reverse gone ++ reverse stay = ap (λ (xs : List ReqEntry). reverse xs) (sym split) ∙ reverse-append stay gone in
    let size : length (reverse gone) ≡ n = grind (arith, common_steps) in
    let front : take n (reverse table) ≡ reverse gone = ap (λ (xs : List ReqEntry). take n xs) turned ∙ front_of n (reverse gone) (reverse stay) size in
    subst (λ (xs : List ReqEntry). IsPermutation table (stay ++ xs)) (sym front)
    (subst (λ (xs : List ReqEntry). IsPermutation xs (stay ++ reverse gone)) split (IsPermutation-append_right stay gone (reverse gone) (IsPermutation-reverse gone)))
  where
    front_of : (n : ℕ) (xs ys : List ReqEntry) → length xs ≡ n → take n (xs ++ ys) ≡ xs
    front_of n xs ys h = grind (arith, common_steps)

-- a key is another one, or it is this one
pub same_key : (key other : List ℕ) → bytes_eq key other ≡ true → key ≡ other
same_key key other is = search (rules, bytes_eq-Decides)

-- ---- the weights of a table

pub holds_more : (at : ℕ) (e : ReqEntry) (es : List ReqEntry) → holds_at at (e ∷ es) ≡ (cond (eqb e.block at) e.count 0) + holds_at at es
holds_more at e es = sum_by-cons (λ (entry : ReqEntry). cond (eqb entry.block at) entry.count 0) e es

pub nodes_more : (at : ℕ) (e : ReqEntry) (es : List ReqEntry) → nodes_at at (e ∷ es) ≡ once_at at e.block + nodes_at at es
nodes_more at e es = sum_by-cons (λ (entry : ReqEntry). once_at at entry.block) e es

pub keys_more : (key : List ℕ) (e : ReqEntry) (es : List ReqEntry) → entries_of key (e ∷ es) ≡ (cond (has_key key e) 1 0) + entries_of key es
keys_more key e es = sum_by-cons (λ (entry : ReqEntry). cond (has_key key entry) 1 0) e es

pub holds_permute : (at : ℕ) (xs ys : List ReqEntry) → IsPermutation xs ys → holds_at at ys ≡ holds_at at xs
holds_permute at xs ys p = sum_by-IsPermutation (λ (entry : ReqEntry). cond (eqb entry.block at) entry.count 0) xs ys p

pub nodes_permute : (at : ℕ) (xs ys : List ReqEntry) → IsPermutation xs ys → nodes_at at ys ≡ nodes_at at xs
nodes_permute at xs ys p = sum_by-IsPermutation (λ (entry : ReqEntry). once_at at entry.block) xs ys p

pub keys_permute : (key : List ℕ) (xs ys : List ReqEntry) → IsPermutation xs ys → entries_of key ys ≡ entries_of key xs
keys_permute key xs ys p = sum_by-IsPermutation (λ (entry : ReqEntry). cond (has_key key entry) 1 0) xs ys p

pub holds_join : (at : ℕ) (xs ys : List ReqEntry) → holds_at at (xs ++ ys) ≡ holds_at at xs + holds_at at ys
holds_join at xs ys = sum_by-append (λ (entry : ReqEntry). cond (eqb entry.block at) entry.count 0) xs ys

pub nodes_join : (at : ℕ) (xs ys : List ReqEntry) → nodes_at at (xs ++ ys) ≡ nodes_at at xs + nodes_at at ys
nodes_join at xs ys = sum_by-append (λ (entry : ReqEntry). once_at at entry.block) xs ys

pub keys_join : (key : List ℕ) (xs ys : List ReqEntry) → entries_of key (xs ++ ys) ≡ entries_of key xs + entries_of key ys
keys_join key xs ys = sum_by-append (λ (entry : ReqEntry). cond (has_key key entry) 1 0) xs ys

-- each entry of a table is one of its nodes
pub each_named : (table : List ReqEntry) (i : ℕ) (d : ReqEntry) → i < length table → 0 < nodes_at (get_or table i d).block table
each_named table i d low =
    let h = get_or-le-sum_by (λ (entry : ReqEntry). once_at (get_or table i d).block entry.block) table i d low in
    let one = once_here (get_or table i d).block in
    omega (arith, h, one)
