-- The connections of the keys of a table, and its keys and blocks.
use Rattle.std.proofs.Common.{ℕ, ◌≡◌, ◌+◌, ◌-◌, ◌<◌, ◌≤◌, Bool, true, false, cond, List, [], ◌∷◌, ◌++◌, Option, Some, None, refl, sym, ap, ◌∙◌, arith, rules}
use Rattle.std.specs.Prelude.{find, sum_by}
use Rattle.std.specs.Str.{bytes_eq}
use Rattle.std.proofs.lemmas.Bool.{eq-eqb, ne_eqb}
use Rattle.std.proofs.lemmas.Slice.Eq.{bytes_eq-Decides}
use Rattle.slab_model.proofs.LiveLemmas.{once_here}
use Rattle.conn_zone.specs.declared.state.ConnEntry.{ConnEntry}
use Rattle.conn_zone.specs.Object.{once_at}
use Rattle.conn_zone.specs.Table.{has_key, is_at, entry_of, entry_at, with_count, replace_first}
use Rattle.conn_zone.specs.Holding.{entries_of, nodes_at}
use Rattle.conn_zone.specs.Laws.{connections, nodes_of}
use Rattle.conn_zone.specs.Proving.Tables.{some_same, found_passes, none_weighs, replaced_sum, node_weight, nodes_more}

abbrev pub own_weight : List ℕ → ConnEntry → ℕ
own_weight key entry = cond (has_key key entry) entry.count 0

pub own_key : (key : List ℕ) → bytes_eq key key ≡ true
own_key key = search (rules, bytes_eq-Decides)

-- one connection more, or fewer
pub one_more : (key : List ℕ) (e : ConnEntry) → own_weight key (with_count (e.count + 1) e) ≡ own_weight key e + cond (has_key key e) 1 0
one_more key e = go (has_key key e) where
  go : (b : Bool) → cond b (e.count + 1) 0 ≡ cond b e.count 0 + cond b 1 0
  go true = refl
  go false = refl

pub one_less : (key : List ℕ) (e : ConnEntry) → 0 < e.count → own_weight key (with_count (e.count - 1) e) + cond (has_key key e) 1 0 ≡ own_weight key e
one_less key e some = go (has_key key e) where
  go : (b : Bool) → cond b (e.count - 1) 0 + cond b 1 0 ≡ cond b e.count 0
  go true = omega (arith, some)
  go false = refl

pub the_last : (key : List ℕ) (e : ConnEntry) → e.count ≡ 1 → own_weight key e ≡ cond (has_key key e) 1 0
the_last key e one = ap (λ (n : ℕ). cond (has_key key e) n 0) one

-- what is found weighs at most what all weigh
found_weighs : (weight : ConnEntry → ℕ) (test : ConnEntry → Bool) (table : List ConnEntry) (e : ConnEntry) → find test table ≡ Some e → weight e ≤ sum_by weight table
found_weighs weight test table e found = let sums = replaced_sum weight test [] table e found in let nothing : sum_by weight [] ≡ 0 = refl in omega (arith, sums, nothing)

test_one : (test : ConnEntry → Bool) (e : ConnEntry) → test e ≡ true → ◌≡◌ {A = ℕ} (cond (test e) 1 0) 1
test_one test e passes = ap {B = ℕ} (λ (b : Bool). cond b 1 0) passes

-- how many entries pass the test
abbrev pub passing : (ConnEntry → Bool) → List ConnEntry → ℕ
passing test table = sum_by (λ (e : ConnEntry). cond (test e) 1 0) table

-- where none passes, none is found
pub none_found : (test : ConnEntry → Bool) (table : List ConnEntry) → passing test table ≡ 0 → find test table ≡ None
none_found test table none = go (find test table) refl where
  go : (found : Option ConnEntry) → find test table ≡ found → find test table ≡ None
  go None is = is
  go (Some e) is = absurd (let weighs = found_weighs (λ (e : ConnEntry). cond (test e) 1 0) test table e is in let one = test_one test e (found_passes test table e is) in omega (arith, weighs, one, none))

-- where the only one that passes is taken out, by this test or another, none is found
pub taken_out : (own test : ConnEntry → Bool) (table : List ConnEntry) (e : ConnEntry) → find test table ≡ Some e → own e ≡ true → passing own table ≤ 1 → find own (replace_first test [] table) ≡ None
taken_out own test table e found passes few =
    let sums = replaced_sum (λ (e : ConnEntry). cond (own e) 1 0) test [] table e found in
    let nothing : passing own [] ≡ 0 = refl in
    let one = test_one own e passes in
    none_found own (replace_first test [] table) (omega (arith, sums, nothing, one, few))

-- what only those weigh that pass is the weight of the only one
pub own_sum : (test : ConnEntry → Bool) (weight : ConnEntry → ℕ) (table : List ConnEntry) (e : ConnEntry) → find test table ≡ Some e → passing test table ≤ 1 → sum_by (λ (e : ConnEntry). cond (test e) (weight e) 0) table ≡ weight e
own_sum test weight table e found few =
    let passes = found_passes test table e found in
    let gone = taken_out test test table e found passes few in
    let rest = none_weighs test weight (replace_first test [] table) gone in
    let sums = replaced_sum (λ (e : ConnEntry). cond (test e) (weight e) 0) test [] table e found in
    let nothing : sum_by (λ (e : ConnEntry). cond (test e) (weight e) 0) [] ≡ 0 = refl in
    let weighs : cond (test e) (weight e) 0 ≡ weight e = ap (λ (b : Bool). cond b (weight e) 0) passes in
    omega (arith, rest, sums, nothing, weighs)

-- and the other keys have the entries that they had
pub others_stay : (key : List ℕ) (test : ConnEntry → Bool) (table : List ConnEntry) (e : ConnEntry) → find test table ≡ Some e → has_key key e ≡ false → entry_of key (replace_first test [] table) ≡ entry_of key table
others_stay key test [] e found other = refl
others_stay key test (x ∷ xs) e found other = go (others_stay key test xs e) (test x) found where
  go : (find test xs ≡ Some e → has_key key e ≡ false → entry_of key (replace_first test [] xs) ≡ entry_of key xs) → (b : Bool) → cond b (Some x) (find test xs) ≡ Some e
      → entry_of key (cond b ([] ++ xs) (x ∷ replace_first test [] xs)) ≡ entry_of key (x ∷ xs)
  go later true h = sym (ap (λ (b : Bool). cond b (Some x) (entry_of key xs)) (ap (has_key key) (some_same x e h) ∙ other))
  go later false h = ap (cond (has_key key x) (Some x)) (later h other)

-- where no other entry has its key, the connections of a key are those of its entry
pub own_connections : (key : List ℕ) (table : List ConnEntry) (e : ConnEntry) → entry_of key table ≡ Some e → entries_of key table ≤ 1 → connections key table ≡ e.count
own_connections key table e found few = own_sum (has_key key) (λ (e : ConnEntry). e.count) table e found few

pub no_connections : (key : List ℕ) (table : List ConnEntry) → entry_of key table ≡ None → connections key table ≡ 0
no_connections key table none = none_weighs (has_key key) (λ (e : ConnEntry). e.count) table none

-- a count that changes changes no key and no block
pub same_nodes : (test : ConnEntry → Bool) (count : ℕ) (table : List ConnEntry) (e : ConnEntry) → find test table ≡ Some e → nodes_of (replace_first test (with_count count e ∷ []) table) ≡ nodes_of table
same_nodes test count [] e found = refl
same_nodes test count (x ∷ xs) e found = go (same_nodes test count xs e) (test x) found where
  go : (find test xs ≡ Some e → nodes_of (replace_first test (with_count count e ∷ []) xs) ≡ nodes_of xs) → (b : Bool) → cond b (Some x) (find test xs) ≡ Some e
      → nodes_of (cond b (with_count count e ∷ xs) (x ∷ replace_first test (with_count count e ∷ []) xs)) ≡ nodes_of (x ∷ xs)
  go later true h = ap (λ (y : ConnEntry). (y.key, y.block) ∷ nodes_of xs) (sym (some_same x e h))
  go later false h = ap (λ (ns : List (List ℕ × ℕ)). (x.key, x.block) ∷ ns) (later h)

-- ---- the entry that was counted is found again

pub replaced_found : (test : ConnEntry → Bool) (new : ConnEntry) (table : List ConnEntry) (e : ConnEntry) → find test table ≡ Some e → test new ≡ true → find test (replace_first test (new ∷ []) table) ≡ Some new
replaced_found test new [] e found is = absurd (cc)
replaced_found test new (x ∷ xs) e found is = go (replaced_found test new xs e) (test x) refl found where
  go : (find test xs ≡ Some e → test new ≡ true → find test (replace_first test (new ∷ []) xs) ≡ Some new) → (b : Bool) → test x ≡ b → cond b (Some x) (find test xs) ≡ Some e
      → find test (cond b (new ∷ xs) (x ∷ replace_first test (new ∷ []) xs)) ≡ Some new
  go later true own h = ap (λ (b : Bool). cond b (Some new) (find test xs)) is
  go later false own h = ap (λ (b : Bool). cond b (Some x) (find test (replace_first test (new ∷ []) xs))) own ∙ later h is

-- and it is the entry of its block, where no other has that block
pub found_at_block : (test : ConnEntry → Bool) (table : List ConnEntry) (e : ConnEntry) → find test table ≡ Some e → nodes_at e.block table ≤ 1 → entry_at e.block table ≡ Some e
found_at_block test [] e found few = absurd (cc)
found_at_block test (x ∷ xs) e found few = go (found_at_block test xs e) (test x) found where
  go : (find test xs ≡ Some e → nodes_at e.block xs ≤ 1 → entry_at e.block xs ≡ Some e) → (b : Bool) → cond b (Some x) (find test xs) ≡ Some e → entry_at e.block (x ∷ xs) ≡ Some e
  go later true h =
      let same = some_same x e h in
      let own : is_at e.block x ≡ true = ap (is_at e.block) same ∙ eq-eqb e.block e.block refl in
      ap (λ (b : Bool). cond b (Some x) (entry_at e.block xs)) own ∙ ap (λ (y : ConnEntry). Some y) same
  go later false h =
      let more = nodes_more e.block x xs in
      let weighs = found_weighs (node_weight e.block) test xs e h in
      let here = once_here e.block in
      let apart : is_at e.block x ≡ false = ne_eqb x.block e.block (λ same. absurd (let one = ap (λ (n : ℕ). once_at e.block n) same ∙ here in omega (arith, more, weighs, here, one, few))) in
      ap (λ (b : Bool). cond b (Some x) (entry_at e.block xs)) apart ∙ later h (omega (arith, more, few))
