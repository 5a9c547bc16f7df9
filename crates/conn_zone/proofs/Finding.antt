-- The entry of a key, by the tree and by the table.
use Rattle.std.proofs.Common.{ℕ, ◌≡◌, ◌≢◌, ◌<◌, ◌≤◌, Bool, true, false, cond, List, [], ◌∷◌, ◌++◌, length, map, Option, Some, None, refl, sym, ap, subst, ◌∙◌, arith}
use Rattle.std.specs.Prelude.{find}
use Rattle.std.specs.List.{All}
use Rattle.std.proofs.lemmas.List.{length-map}
use Rattle.std.proofs.lemmas.List.Elements.{All-cons, All-head, All-tail, All-append}
use Rattle.zone_key.specs.Crc.{crc32_of}
use Rattle.zone_region.specs.Words.{Words}
use Rattle.zone_region.specs.Members.{In}
use Rattle.zone_region.proofs.MembersLemmas.{same_length}
use Rattle.offset_tree.specs.Keys.{Rank, rank_of}
use Rattle.slab_model.proofs.LiveLemmas.{once_here, live_most}
use Rattle.conn_zone.specs.declared.state.ConnEntry.{ConnEntry}
use Rattle.conn_zone.specs.declared.state.ConnState.{ConnState}
use Rattle.conn_zone.specs.Table.{has_key, is_at, entry_of, entry_at, replace_first}
use Rattle.conn_zone.specs.Object.{once_at}
use Rattle.conn_zone.specs.Holding.{entries_of, nodes_at, named_at, IsWhole}
use Rattle.conn_zone.specs.Layout.{LaysNode, LaysEntries, LaysBlocks, tree_at}
use Rattle.conn_zone.specs.Changes.{IsFound}
use Rattle.conn_zone.specs.Proving.Tables.{some_same, found_passes, found_all, none_weighs, replaced_sum, node_weight, key_weight, nodes_more, keys_more, missing_none, same_key, same_block}
use Rattle.conn_zone.proofs.Weights.{own_key}
use Rattle.conn_zone.proofs.Named.{in_nodes, nodes_in, whole-law}
use Rattle.conn_zone.proofs.NodeWords.{node_rank}

-- ---- entries of a table

-- what is found weighs at most what all weigh
pub found_node : (test : ConnEntry → Bool) (table : List ConnEntry) (e : ConnEntry) → find test table ≡ Some e → 0 < nodes_at e.block table
found_node test table e found =
    let sums = replaced_sum (node_weight e.block) test [] table e found in
    let one = once_here e.block in
    let nothing : nodes_at e.block [] ≡ 0 = refl in
    omega (arith, sums, one, nothing)

-- the block of an entry is one of the zone's, and no other entry's
pub found_named : (s : ConnState) (test : ConnEntry → Bool) (e : ConnEntry) → find test s.table ≡ Some e → 0 < named_at s e.block
found_named s test e found = let h = found_node test s.table e found in omega (arith, h)

pub few_nodes : (s : ConnState) (at : ℕ) → IsWhole s → nodes_at at s.table ≤ 1
few_nodes s at whole = let h = whole.named at in let most = live_most s.slab at in omega (arith, h, most)

-- a block that an entry has is neither that of the context nor that of the name
pub record IsApart (s : ConnState) (at : ℕ) : Type 0 where
  pub context : s.context ≢ at
  pub name : s.name_block ≢ at

pub node_apart : (s : ConnState) (at : ℕ) → IsWhole s → 0 < nodes_at at s.table → IsApart s at
node_apart s at whole some =
    let h = whole.named at in
    let most = live_most s.slab at in
    record {
      context = λ same. absurd (let one = ap (λ (n : ℕ). once_at at n) same ∙ once_here at in omega (arith, h, most, some, one));
      name = λ same. absurd (let one = ap (λ (n : ℕ). once_at at n) same ∙ once_here at in omega (arith, h, most, some, one));
    }

-- the context's block isn't the name's
pub roots_apart : (s : ConnState) → IsWhole s → s.name_block ≢ s.context
roots_apart s whole same = absurd (
    let h = whole.named s.context in
    let most = live_most s.slab s.context in
    let one = once_here s.context in
    let two = ap (λ (n : ℕ). once_at s.context n) same ∙ once_here s.context in
    omega (arith, h, most, one, two)
    )

-- where no entry has this block, none is found
none_at : (at : ℕ) (table : List ConnEntry) → entry_at at table ≡ None → nodes_at at table ≡ 0
none_at at table none = none_weighs (is_at at) (λ e. 1) table none

-- the entry of a block that an entry has
pub entry_there : (at : ℕ) (table : List ConnEntry) → 0 < nodes_at at table → (e : ConnEntry) × (entry_at at table ≡ Some e)
entry_there at table some = go (entry_at at table) refl where
  go : (found : Option ConnEntry) → entry_at at table ≡ found → (e : ConnEntry) × (entry_at at table ≡ Some e)
  go None is = absurd (let none = none_at at table is in omega (arith, none, some))
  go (Some e) is = (e, is)

key_once : (e : ConnEntry) → key_weight e.key e ≡ 1
key_once e = ap {B = ℕ} (λ (b : Bool). cond b 1 0) (own_key e.key)

-- what is found by its block, and what by its key, which no other entry has
same_found : (at : ℕ) (table : List ConnEntry) (e o : ConnEntry) → entry_at at table ≡ Some e → entry_of e.key table ≡ Some o → entries_of e.key table ≤ 1 → o ≡ e
same_found at [] e o found other few = absurd (cc)
same_found at (x ∷ xs) e o found other few = go (λ f g less. same_found at xs e o f g less) (is_at at x) (has_key e.key x) refl refl found other where
  no : true ≡ false → ⊥
  no tf = cc

  go : (entry_at at xs ≡ Some e → entry_of e.key xs ≡ Some o → entries_of e.key xs ≤ 1 → o ≡ e) → (a b : Bool) → is_at at x ≡ a → has_key e.key x ≡ b → cond a (Some x) (find (is_at at) xs) ≡ Some e → cond b (Some x) (find (has_key e.key) xs) ≡ Some o → o ≡ e
  go later true true p q f g = sym (some_same x o g) ∙ some_same x e f
  go later true false p q f g = absurd (no (sym (own_key e.key) ∙ ap (λ (y : ConnEntry). has_key e.key y) (sym (some_same x e f)) ∙ q))
  go later false true p q f g = absurd (
      let more = keys_more e.key x xs in
      let here : key_weight e.key x ≡ 1 = ap {B = ℕ} (λ (b : Bool). cond b 1 0) q in
      let sums = replaced_sum (key_weight e.key) (is_at at) [] xs e f in
      let nothing : entries_of e.key [] ≡ 0 = refl in
      omega (arith, more, here, sums, nothing, key_once e, few)
      )
  go later false false p q f g = later f g (let more = keys_more e.key x xs in omega (arith, more, few))

-- what is found by its block is found by its key, which no other entry has
pub by_key : (at : ℕ) (table : List ConnEntry) (e : ConnEntry) → entry_at at table ≡ Some e → entries_of e.key table ≤ 1 → entry_of e.key table ≡ Some e
by_key at table e found few = go (entry_of e.key table) refl where
  go : (other : Option ConnEntry) → entry_of e.key table ≡ other → entry_of e.key table ≡ Some e
  go None is = absurd (
      let none = missing_none e.key table is in
      let sums = replaced_sum (key_weight e.key) (is_at at) [] table e found in
      let nothing : entries_of e.key [] ≡ 0 = refl in
      omega (arith, none, sums, nothing, key_once e)
      )
  go (Some o) is = is ∙ ap (λ (y : ConnEntry). Some y) (same_found at table e o found is few)

-- ---- what a search of the tree finds

-- the tree has as many nodes as the table has entries
pub as_many : (m : Words) (s : ConnState) (l : LaysEntries m s.context s.table) → IsWhole s → length l.blocks ≡ length s.table
as_many m s l whole =
    let table = map (λ (entry : ConnEntry). entry.block) s.table in
    same_length l.blocks table l.tree.holds.distinct.1 (whole-law s whole).0.1.1 (λ x i. (l.members x).0 i) (λ x i. (l.members x).1 i)
    ∙ length-map s.table (λ (entry : ConnEntry). entry.block)

-- a node of the tree has the hash and the key of an entry
pub record HasEntry (m : Words) (s : ConnState) (at : ℕ) (e : ConnEntry) : Type 0 where
  pub found : entry_at at s.table ≡ Some e
  pub block : e.block ≡ at
  pub node : LaysNode m e
  pub rank : rank_of m (tree_at s.context).form at ≡ (crc32_of e.key, e.key)

pub node_entry : (m : Words) (s : ConnState) (at : ℕ) → (l : LaysBlocks m s) → In at l.entries.blocks → (e : ConnEntry) × HasEntry m s at e
node_entry m s at l there =
    let found = entry_there at s.table (in_nodes at s.table ((l.entries.members at).0 there)) in
    let e = found.0 in
    let block = same_block at e (found_passes (is_at at) s.table e found.1) in
    let node = found_all (LaysNode m) (is_at at) s.table e found.1 l.nodes in (
      e,
      record {
        found = found.1;
        block = block;
        node = node;
        rank = subst (λ (n : ℕ). rank_of m (tree_at s.context).form n ≡ (crc32_of e.key, e.key)) block (node_rank m e s.context node);
      },
    )

-- where no node has a key's hash and the key, the key has no entry
pub not_found : (m : Words) (s : ConnState) (key : List ℕ) (l : LaysBlocks m s) → ((x : ℕ) → In x l.entries.blocks → rank_of m (tree_at s.context).form x ≢ (crc32_of key, key)) → entry_of key s.table ≡ None
not_found m s key l none = go (entry_of key s.table) refl where
  go : (found : Option ConnEntry) → entry_of key s.table ≡ found → entry_of key s.table ≡ None
  go None is = is
  go (Some e) is =
      let own : key ≡ e.key = same_key key e.key (found_passes (has_key key) s.table e is) in
      let there = (l.entries.members e.block).1 (nodes_in e.block s.table (found_node (has_key key) s.table e is)) in
      let rank = node_rank m e s.context (found_all (LaysNode m) (has_key key) s.table e is l.nodes) in
      absurd (none e.block there (rank ∙ ap (λ (k : List ℕ). let p : Rank = (crc32_of k, k) in p) (sym own)))

-- and where one does, its entry is that of the key
pub is_found : (m : Words) (s : ConnState) (key : List ℕ) (at : ℕ) (l : LaysBlocks m s) → IsWhole s → In at l.entries.blocks → rank_of m (tree_at s.context).form at ≡ (crc32_of key, key) → (e : ConnEntry) × IsFound s key at e
is_found m s key at l whole there rank =
    let h = node_entry m s at l there in
    let e = h.0 in
    let own : e.key ≡ key = ap (λ (r : Rank). r.1) (sym h.1.rank ∙ rank) in (
      e,
      record {
        by_key = subst (λ (k : List ℕ). entry_of k s.table ≡ Some e) own (by_key at s.table e h.1.found (whole.keys e.key));
        at_block = h.1.block;
      },
    )

-- where a key has no entry, no node has its hash and the key
pub no_rank : (m : Words) (s : ConnState) (key : List ℕ) (l : LaysBlocks m s) → entry_of key s.table ≡ None → (x : ℕ) → In x l.entries.blocks → rank_of m (tree_at s.context).form x ≢ (crc32_of key, key)
no_rank m s key l none x there rank =
    let h = node_entry m s x l there in
    let e = h.0 in
    let own : e.key ≡ key = ap (λ (r : Rank). r.1) (sym h.1.rank ∙ rank) in
    absurd (
    let missing = missing_none key s.table none in
    let sums = replaced_sum (key_weight key) (is_at x) [] s.table e h.1.found in
    let nothing : entries_of key [] ≡ 0 = refl in
    let one : key_weight key e ≡ 1 = ap (λ (k : List ℕ). key_weight k e) (sym own) ∙ ap {B = ℕ} (λ (b : Bool). cond b 1 0) (own_key e.key) in
    omega (arith, missing, sums, nothing, one)
    )

-- ---- nodes of a table in which one entry changed or left

-- each other entry has another block
pub others_apart : (P : ConnEntry → Type 0) (test : ConnEntry → Bool) (entries table : List ConnEntry) (e : ConnEntry) → find test table ≡ Some e → nodes_at e.block table ≤ 1
    → All (λ (x : ConnEntry). x.block ≢ e.block → P x) table → All P entries → All P (replace_first test entries table)
others_apart P test entries [] e found few others new = absurd (cc)
others_apart P test entries (x ∷ xs) e found few others new = go (λ f less. others_apart P test entries xs e f less (All-tail (λ (x : ConnEntry). x.block ≢ e.block → P x) x xs others) new) (test x) found where
  Q : ConnEntry → Type 0
  Q x = x.block ≢ e.block → P x

  all_apart : (t : List ConnEntry) → nodes_at e.block t ≡ 0 → All Q t → All P t
  all_apart [] none all = λ k d low. absurd (omega (arith, low))
  all_apart (y ∷ ys) none all =
      let more = nodes_more e.block y ys in
      All-cons P y ys
      (All-head Q y ys all (λ same. absurd (let one = ap (λ (n : ℕ). once_at e.block n) same ∙ once_here e.block in omega (arith, more, none, one))))
      (all_apart ys (omega (arith, more, none)) (All-tail Q y ys all))

  go : (find test xs ≡ Some e → nodes_at e.block xs ≤ 1 → All P (replace_first test entries xs)) → (b : Bool) → cond b (Some x) (find test xs) ≡ Some e → All P (cond b (entries ++ xs) (x ∷ replace_first test entries xs))
  go later true f =
      let more = nodes_more e.block x xs in
      let here : once_at e.block x.block ≡ 1 = ap (λ (y : ConnEntry). once_at e.block y.block) (some_same x e f) ∙ once_here e.block in
      All-append P entries xs new (all_apart xs (omega (arith, more, here, few)) (All-tail Q x xs others))
  go later false f =
      let more = nodes_more e.block x xs in
      let some = found_node test xs e f in
      All-cons P x (replace_first test entries xs)
      (All-head Q x xs others (λ same. absurd (let one = ap (λ (n : ℕ). once_at e.block n) same ∙ once_here e.block in omega (arith, more, some, one, few))))
      (later f (omega (arith, more, few)))
