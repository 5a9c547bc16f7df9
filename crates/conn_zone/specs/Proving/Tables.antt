-- Tables in which an entry is found and replaced.
use Rattle.std.proofs.Common.{ℕ, ◌≡◌, ◌+◌, ◌<◌, Bool, true, false, cond, eqb, List, [], ◌∷◌, ◌++◌, length, get_or, Some, None, refl, ap, subst, arith, rules}
use Rattle.std.specs.Prelude.{find}
use Rattle.std.specs.List.{All, sum_by}
use Rattle.std.specs.Str.{bytes_eq}
use Rattle.std.proofs.lemmas.Grind.{common_steps}
use Rattle.std.proofs.lemmas.List.Sums.{sum_by-cons, sum_by-append, get_or-le-sum_by}
use Rattle.std.proofs.lemmas.List.Elements.{All-cons, All-head, All-tail, All-append}
use Rattle.std.proofs.lemmas.Slice.Eq.{bytes_eq-Decides}
use Rattle.slab_model.proofs.LiveLemmas.{once_here}
use Rattle.conn_zone.specs.declared.state.ConnEntry.{ConnEntry}
use Rattle.conn_zone.specs.Table.{has_key, is_at, entry_of, entry_at, replace_first}
use Rattle.conn_zone.specs.Object.{count_at, once_at}
use Rattle.conn_zone.specs.Holding.{entries_of, nodes_at}

pub some_same : {A : Type 0} (x y : A) → Some x ≡ Some y → x ≡ y
some_same x y h = ap (elim [ Some z ↦ z | None ↦ x ]) h

-- ---- what is found

pub found_passes : (test : ConnEntry → Bool) (table : List ConnEntry) (e : ConnEntry) → find test table ≡ Some e → test e ≡ true
found_passes test [] e found = absurd (cc)
found_passes test (x ∷ xs) e found = go (found_passes test xs e) (test x) refl found where
  go : (find test xs ≡ Some e → test e ≡ true) → (b : Bool) → test x ≡ b → cond b (Some x) (find test xs) ≡ Some e → test e ≡ true
  go later true is h = subst (λ (y : ConnEntry). test y ≡ true) (some_same x e h) is
  go later false is h = later h

pub found_all : (P : ConnEntry → Type 0) (test : ConnEntry → Bool) (table : List ConnEntry) (e : ConnEntry) → find test table ≡ Some e → All P table → P e
found_all P test [] e found all = absurd (cc)
found_all P test (x ∷ xs) e found all = go (λ h. found_all P test xs e h (All-tail P x xs all)) (test x) found where
  go : (find test xs ≡ Some e → P e) → (b : Bool) → cond b (Some x) (find test xs) ≡ Some e → P e
  go later true h = subst P (some_same x e h) (All-head P x xs all)
  go later false h = later h

-- where none passes the test, what only those weigh that pass it weighs nothing
pub none_weighs : (test : ConnEntry → Bool) (weight : ConnEntry → ℕ) (table : List ConnEntry) → find test table ≡ None → sum_by (λ (e : ConnEntry). cond (test e) (weight e) 0) table ≡ 0
none_weighs test weight [] none = refl
none_weighs test weight (x ∷ xs) none = go (none_weighs test weight xs) (test x) refl none where
  go : (find test xs ≡ None → sum_by (λ (e : ConnEntry). cond (test e) (weight e) 0) xs ≡ 0) → (b : Bool) → test x ≡ b → cond b (Some x) (find test xs) ≡ None → sum_by (λ (e : ConnEntry). cond (test e) (weight e) 0) (x ∷ xs) ≡ 0
  go later true is h = absurd (cc)
  go later false is h =
      let more = sum_by-cons (λ (e : ConnEntry). cond (test e) (weight e) 0) x xs in
      let nothing = ap {B = ℕ} (λ (b : Bool). cond b (weight x) 0) is in
      let rest = later h in
      omega (arith, more, nothing, rest)

-- ---- what is replaced

pub replaced_sum : (weight : ConnEntry → ℕ) (test : ConnEntry → Bool) (entries table : List ConnEntry) (e : ConnEntry) → find test table ≡ Some e → sum_by weight (replace_first test entries table) + weight e ≡ sum_by weight table + sum_by weight entries
replaced_sum weight test entries [] e found = absurd (cc)
replaced_sum weight test entries (x ∷ xs) e found = go (replaced_sum weight test entries xs e) (test x) found where
  go : (find test xs ≡ Some e → sum_by weight (replace_first test entries xs) + weight e ≡ sum_by weight xs + sum_by weight entries) → (b : Bool) → cond b (Some x) (find test xs) ≡ Some e → sum_by weight (cond b (entries ++ xs) (x ∷ replace_first test entries xs)) + weight e ≡ sum_by weight (x ∷ xs) + sum_by weight entries
  go later true h =
      let joined = sum_by-append weight entries xs in
      let more = sum_by-cons weight x xs in
      let same = ap weight (some_same x e h) in
      omega (arith, joined, more, same)
  go later false h =
      let rest = later h in
      let more = sum_by-cons weight x (replace_first test entries xs) in
      let had = sum_by-cons weight x xs in
      omega (arith, rest, more, had)

pub replaced_all : (P : ConnEntry → Type 0) (test : ConnEntry → Bool) (entries table : List ConnEntry) → All P entries → All P table → All P (replace_first test entries table)
replaced_all P test entries [] new all = all
replaced_all P test entries (x ∷ xs) new all = go (replaced_all P test entries xs new (All-tail P x xs all)) (test x) where
  go : All P (replace_first test entries xs) → (b : Bool) → All P (cond b (entries ++ xs) (x ∷ replace_first test entries xs))
  go rest true = All-append P entries xs new (All-tail P x xs all)
  go rest false = All-cons P x (replace_first test entries xs) (All-head P x xs all) rest

-- ---- the weights of a table

abbrev pub count_weight : ℕ → ConnEntry → ℕ
count_weight at entry = cond (eqb entry.block at) entry.count 0

abbrev pub node_weight : ℕ → ConnEntry → ℕ
node_weight at entry = once_at at entry.block

abbrev pub key_weight : List ℕ → ConnEntry → ℕ
key_weight key entry = cond (has_key key entry) 1 0

pub counts_more : (at : ℕ) (e : ConnEntry) (es : List ConnEntry) → count_at at (e ∷ es) ≡ count_weight at e + count_at at es
counts_more at e es = sum_by-cons (count_weight at) e es

pub nodes_more : (at : ℕ) (e : ConnEntry) (es : List ConnEntry) → nodes_at at (e ∷ es) ≡ once_at at e.block + nodes_at at es
nodes_more at e es = sum_by-cons (node_weight at) e es

pub keys_more : (key : List ℕ) (e : ConnEntry) (es : List ConnEntry) → entries_of key (e ∷ es) ≡ key_weight key e + entries_of key es
keys_more key e es = sum_by-cons (key_weight key) e es

pub sum_one : (weight : ConnEntry → ℕ) (e : ConnEntry) → sum_by weight (e ∷ []) ≡ weight e
sum_one weight e = let more = sum_by-cons weight e [] in let none : sum_by weight [] ≡ 0 = refl in omega (arith, more, none)

-- a key without an entry has none
pub missing_none : (key : List ℕ) (table : List ConnEntry) → entry_of key table ≡ None → entries_of key table ≡ 0
missing_none key table none = none_weighs (has_key key) (λ e. 1) table none

-- an offset without an entry has no connection
pub missing_count : (at : ℕ) (table : List ConnEntry) → entry_at at table ≡ None → count_at at table ≡ 0
missing_count at table none = none_weighs (is_at at) (λ e. e.count) table none

-- a key is another one, or it is this one
pub same_key : (key other : List ℕ) → bytes_eq key other ≡ true → key ≡ other
same_key key other is = search (rules, bytes_eq-Decides)

pub same_block : (at : ℕ) (e : ConnEntry) → is_at at e ≡ true → e.block ≡ at
same_block at e is = grind (arith, common_steps)

-- each entry of a table is one of its nodes
pub each_named : (table : List ConnEntry) (i : ℕ) (d : ConnEntry) → i < length table → 0 < nodes_at (get_or table i d).block table
each_named table i d low =
    let h = get_or-le-sum_by (node_weight (get_or table i d).block) table i d low in
    let one = once_here (get_or table i d).block in
    omega (arith, h, one)
