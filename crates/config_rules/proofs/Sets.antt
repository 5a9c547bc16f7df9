-- An ordered set of bytes, with one key more.
use Rattle.std.proofs.Common.{ℕ, ◌≡◌, Bool, true, false, ◌||◌, List, [], ◌∷◌, ◌++◌, map, Vec, refl, sym, ◌∙◌, ap}
use Rattle.std.specs.List.{list_any}
use Rattle.std.specs.Ordering.{is_eq, match_ordering, nat_cmp}
use Rattle.std.specs.declared.cmp.Ordering.{Ordering}
use Rattle.std.specs.declared.cmp.Ordering.TheVariants.{Less, Equal, Greater}
use Rattle.std.specs.Cmp.Lexicographic.{slice_cmp}
use Rattle.std.specs.BTreeSet.{BTreeSet, insert_key}
use Rattle.std.specs.Str.{str_to_ascii_lowercase}
use Rattle.std.proofs.lemmas.List.Folds.{list_any-append}
use Rattle.std.proofs.lemmas.Map.Text.{is_eq-slice_cmp}
use Rattle.std.proofs.lemmas.Slice.Eq.{bytes_eq-Decides}
use Rattle.zone_key.specs.Expr.{is_same}
use Rattle.config_rules.specs.Names.{HasJust, has_bytes}
use Rattle.config_rules.specs.Words.{is_same_name}

or_twice : (a b : Bool) (c : Bool) → b ≡ a → (b || c) ≡ (a || (b || c))
or_twice true b c e = ap (λ x. x || c) e
or_twice false b c e = refl

or_swap : (a b c : Bool) → (b || (a || c)) ≡ (a || (b || c))
or_swap true true c = refl
or_swap true false c = refl
or_swap false b c = refl

or_last : (a b : Bool) → (a || b) ≡ (b || (a || false))
or_last true true = refl
or_last true false = refl
or_last false true = refl
or_last false false = refl

module _ {A : Type 0} where
  -- the order of keys
  abbrev pub key_cmp : Vec ℕ A → Vec ℕ A → Ordering
  key_cmp x y = slice_cmp nat_cmp x.items y.items

  -- whether a key has these bytes
  abbrev pub is_key : List ℕ → Vec ℕ A → Bool
  is_key bytes k = is_eq (slice_cmp nat_cmp bytes k.items)

  -- equal keys have the same bytes
  same_key : (bytes : List ℕ) (k x : Vec ℕ A) → key_cmp k x ≡ Equal → is_key bytes x ≡ is_key bytes k
  same_key bytes k x e =
      ap (λ (word : List ℕ). is_eq (slice_cmp nat_cmp bytes word))
      (sym ((bytes_eq-Decides k.items x.items).0 (sym (is_eq-slice_cmp k.items x.items) ∙ ap is_eq e)))

  -- a key more is found, and so are those before
  pub has_inserted : (bytes : List ℕ) (ks : List (Vec ℕ A)) (k : Vec ℕ A) → list_any (is_key bytes) (insert_key key_cmp ks k) ≡ (is_key bytes k || list_any (is_key bytes) ks)
  has_inserted bytes [] k = refl
  has_inserted bytes (x ∷ xs) k = by (key_cmp k x) refl (has_inserted bytes xs k)
    where
      by : (r : Ordering) → key_cmp k x ≡ r → list_any (is_key bytes) (insert_key key_cmp xs k) ≡ (is_key bytes k || list_any (is_key bytes) xs)
          → list_any (is_key bytes) (match_ordering r (k ∷ x ∷ xs) (x ∷ xs) (x ∷ insert_key key_cmp xs k)) ≡ (is_key bytes k || (is_key bytes x || list_any (is_key bytes) xs))
      by Less e rest = refl
      by Equal e rest = or_twice (is_key bytes k) (is_key bytes x) (list_any (is_key bytes) xs) (same_key bytes k x e)
      by Greater e rest = ap (λ b. is_key bytes x || b) rest ∙ or_swap (is_key bytes k) (is_key bytes x) (list_any (is_key bytes) xs)

  -- a set with a key more has just the names and that one
  pub has_one_more : (known new : BTreeSet (Vec ℕ A)) (k : Vec ℕ A) (names : List (List ℕ)) → new.keys ≡ insert_key key_cmp known.keys k → HasJust known names
      → (bytes : List ℕ) → has_bytes bytes new ≡ list_any (is_same bytes) (names ++ k.items ∷ [])
  has_one_more known new k names is just bytes =
      ap (list_any (is_key bytes)) is
      ∙ has_inserted bytes known.keys k
      ∙ ap (λ b. b || has_bytes bytes known) (is_eq-slice_cmp bytes k.items)
      ∙ ap (λ b. is_same bytes k.items || b) (just bytes)
      ∙ or_last (is_same bytes k.items) (list_any (is_same bytes) names)
      ∙ sym (list_any-append (is_same bytes) names (k.items ∷ []))

-- a name is among names but for case where its lower case is among theirs
pub caseless : (name : List ℕ) (names : List (List ℕ)) → list_any (is_same (str_to_ascii_lowercase name)) (map str_to_ascii_lowercase names) ≡ list_any (is_same_name name) names
caseless name [] = refl
caseless name (n ∷ ns) = ap (λ b. is_same_name name n || b) (caseless name ns)
