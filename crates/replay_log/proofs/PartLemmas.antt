-- The parts of a text between equal bytes.
use Rattle.std.proofs.Common.{ℕ, ◌≡◌, ◌+◌, ◌<◌, ◌≤◌, Bool, true, false, cond, ◌&&◌, eqb, List, [], ◌∷◌, length, take, drop, Some, None, arith, ap, ◌∙◌, refl}
use Rattle.std.specs.List.{All, list_all, onto_first, position, position_or_len}
use Rattle.std.proofs.lemmas.Bool.{ltb-false}
use Rattle.std.proofs.lemmas.List.Splits.{slice_split_none, slice_split_first}
use Rattle.std.proofs.lemmas.List.Sums.{position_or_len_is, fails_before_first}
use Rattle.std.proofs.lemmas.List.Elements.{All-nil, All-cons, All-from_get_or}
use Rattle.std.proofs.lemmas.List.Quantifiers.{position-Some}
use Rattle.memchr.specs.Find.{Nowhere, NoneBefore, Passes, is_byte}
use Rattle.replay_log.specs.Lines.{parts}

-- a test that isn't true is false
is_false : (b : Bool) → (b ≡ true → ⊥) → b ≡ false
is_false true = λ no. absurd (no refl)
is_false false = λ no. refl

-- a text with no such byte is one part
pub one_part : (c : ℕ) (text : List ℕ) → Nowhere (Passes (is_byte c) text) 0 (length text) → parts c text ≡ text ∷ []
one_part c text none = slice_split_none (λ x. eqb x c) text (All-from_get_or (λ x. eqb x c ≡ false) text 0 (λ i below. is_false _ (none i (omega arith) below)))

-- the first such byte ends the first part
pub first_part : (c : ℕ) (text : List ℕ) (k : ℕ) → NoneBefore (Passes (is_byte c) text) 0 (length text) k → Passes (is_byte c) text k → parts c text ≡ take k text ∷ parts c (drop (k + 1) text)
first_part c text k before here =
    let high : k < length text = before.high in
    let at : position_or_len (λ x. eqb x c) text ≡ k = position_or_len_is (λ x. eqb x c) text k 0 (omega arith) (λ i below. is_false _ (before.before i (omega arith) below)) (λ _. here) in
    slice_split_first (λ x. eqb x c) text 0 (omega arith) ∙ ap (λ i. take i text ∷ parts c (drop (i + 1) text)) at

-- a text has at least one part
pub some_part : (c : ℕ) (text : List ℕ) → (first : List ℕ) × ((others : List (List ℕ)) × (parts c text ≡ first ∷ others))
some_part c [] = ([], ([], refl))
some_part c (x ∷ xs) = elim (eqb x c) as (λ b. (first : List ℕ) × ((others : List (List ℕ)) × (cond b ([] ∷ parts c xs) (onto_first x (parts c xs)) ≡ first ∷ others))) [
  | true ↦ ([], (parts c xs, refl))
  | false ↦ let h = some_part c xs in (x ∷ h.0, (h.1.0, ap (onto_first x) h.1.1))
]

-- a search that finds nothing comes to the end
not_below : (below : Bool) (k : ℕ) → cond below (Some k) None ≡ None → below ≡ false
not_below true k none = absurd (cc)
not_below false k none = refl

-- a text in which no such byte is found is one part
pub one_part_without : (c : ℕ) (text : List ℕ) → position (λ x. eqb x c) text ≡ None → parts c text ≡ text ∷ []
one_part_without c text none =
    let far : length text ≤ position_or_len (λ x. eqb x c) text = ltb-false (position_or_len (λ x. eqb x c) text) (length text) (not_below _ _ none) in
    slice_split_none (λ x. eqb x c) text (All-from_get_or (λ x. eqb x c ≡ false) text 0 (λ i below. fails_before_first (λ x. eqb x c) text i 0 (omega (arith, far, below))))

-- the first such byte that is found ends the first part
pub first_part_at : (c : ℕ) (text : List ℕ) (k : ℕ) → position (λ x. eqb x c) text ≡ Some k → parts c text ≡ take k text ∷ parts c (drop (k + 1) text)
first_part_at c text k is =
    let found = position-Some (λ x. eqb x c) text k 0 is in
    let at : position_or_len (λ x. eqb x c) text ≡ k = position_or_len_is (λ x. eqb x c) text k 0 (omega (arith, found.0)) (λ i below. found.2 i below) (λ _. found.1) in
    slice_split_first (λ x. eqb x c) text 0 (omega (arith, found.0)) ∙ ap (λ i. take i text ∷ parts c (drop (i + 1) text)) at

-- ---- bytes of one kind

-- two tests that are true together
pub both : (a b : Bool) → (a && b) ≡ true → (a ≡ true) × (b ≡ true)
both true b is = (refl, is)
both false b is = absurd (cc)

-- where each byte passes a test that no such byte passes, there is none
pub none_of : (p : ℕ → Bool) (c : ℕ) → ((x : ℕ) → p x ≡ true → eqb x c ≡ false) → (word : List ℕ) → list_all p word ≡ true → All (λ x. eqb x c ≡ false) word
none_of p c other [] all = All-nil (λ x. eqb x c ≡ false)
none_of p c other (x ∷ xs) all =
    let h = both (p x) (list_all p xs) all in
    All-cons (λ x. eqb x c ≡ false) x xs (other x h.0) (none_of p c other xs h.1)

-- such bytes are one part
pub whole_part : (p : ℕ → Bool) (c : ℕ) (word : List ℕ) → ((x : ℕ) → p x ≡ true → eqb x c ≡ false) → list_all p word ≡ true → parts c word ≡ word ∷ []
whole_part p c word other all = slice_split_none (λ x. eqb x c) word (none_of p c other word all)
