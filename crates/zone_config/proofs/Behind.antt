-- Items with names of their own, that stand behind other names.
use Rattle.std.proofs.Common.{◌≡◌, ◌≢◌, ℕ, ◌-◌, ◌<◌, ◌≤◌, Bool, false, List, [], ◌∷◌, ◌++◌, Option, None, Some, length, refl, sym, ◌∙◌, arith, length-append, true≢false}
use Rattle.std.specs.List.{All, AllPairs, list_any}
use Rattle.std.specs.Cmp.Lexicographic.{bytes_decides}
use Rattle.std.proofs.lemmas.List.Elements.{All-nil, All-cons, All-weaker}
use Rattle.std.proofs.lemmas.List.Kept.{AllPairs-cons}
use Rattle.zone_key.specs.Expr.{is_same}
use Rattle.config_rules.specs.Rules.{and_then_one}
use Rattle.config_rules.proofs.Fits.{or_false}

-- what no item passes, none of the items before does
none_in_front : {X : Type 0} (test : X → Bool) (xs ys : List X) → list_any test (xs ++ ys) ≡ false → (list_any test xs ≡ false) × (list_any test ys ≡ false)
none_in_front test [] ys e = (refl, e)
none_in_front test (x ∷ xs) ys e =
    let both = or_false (test x) (list_any test (xs ++ ys)) e in
    let rest = none_in_front test xs ys both.1 in
    (rw both.0 rest.0, rest.1)

not_same : (a b : List ℕ) → is_same a b ≡ false → b ≢ a
not_same a b e same = true≢false (sym ((bytes_decides a b).1 (sym same)) ∙ e)

-- at most so many items as there is room behind these names, and no name twice
pub record Behind {X : Type 0} (name : X → List ℕ) (most : ℕ) (names : List (List ℕ)) (xs : List X) : Type 0 where
  pub count : length xs ≤ most - length names
  pub fresh : All (λ x. list_any (is_same (name x)) names ≡ false) xs
  pub apart : AllPairs (λ a b. name a ≢ name b) xs

pub behind_none : {X : Type 0} (name : X → List ℕ) (most : ℕ) (names : List (List ℕ)) → Behind name most names []
behind_none name most names = record {
  count = omega arith;
  fresh = All-nil (λ x. list_any (is_same (name x)) names ≡ false);
  apart = λ i j d below in_range. absurd (omega arith);
}

-- behind more names there is less room
pub behind_more : {X : Type 0} (name : X → List ℕ) (most : ℕ) (names : List (List ℕ)) (said : Option (List ℕ)) (xs : List X) →
    Behind name most (and_then_one names said) xs → Behind name most names xs
behind_more name most names None xs b = b
behind_more name most names (Some n) xs b = record {
  count = omega (arith, b.count, length-append names (n ∷ []));
  fresh = All-weaker (λ x. list_any (is_same (name x)) (names ++ n ∷ []) ≡ false) (λ x. list_any (is_same (name x)) names ≡ false)
      (λ x e. (none_in_front (is_same (name x)) names (n ∷ []) e).0) xs b.fresh;
  apart = b.apart;
}

-- one item in front
pub behind_one : {X : Type 0} (name : X → List ℕ) (most : ℕ) (names : List (List ℕ)) (x : X) (xs : List X) →
    length names < most → list_any (is_same (name x)) names ≡ false →
    Behind name most (names ++ name x ∷ []) xs → Behind name most names (x ∷ xs)
behind_one name most names x xs room new b = record {
  count = omega (arith, b.count, length-append names (name x ∷ []));
  fresh = All-cons (λ y. list_any (is_same (name y)) names ≡ false) x xs new
      (All-weaker (λ y. list_any (is_same (name y)) (names ++ name x ∷ []) ≡ false) (λ y. list_any (is_same (name y)) names ≡ false)
      (λ y e. (none_in_front (is_same (name y)) names (name x ∷ []) e).0) xs b.fresh);
  apart = AllPairs-cons (λ a c. name a ≢ name c) x xs
      (All-weaker (λ y. list_any (is_same (name y)) (names ++ name x ∷ []) ≡ false) (λ y. name x ≢ name y)
      (λ y e. not_same (name y) (name x) (or_false (is_same (name y) (name x)) false (none_in_front (is_same (name y)) names (name x ∷ []) e).1).0) xs b.fresh)
      b.apart;
}
