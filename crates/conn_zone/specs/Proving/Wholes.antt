-- A zone stays whole.
use Rattle.std.proofs.Common.{ℕ, ◌≡◌, ◌+◌, ◌<◌, ◌≤◌, Bool, true, false, cond, List, [], ◌∷◌, length, get_or, Some, None, refl, sym, ap, ◌∙◌, arith}
use Rattle.std.specs.Prelude.{find}
use Rattle.std.specs.List.{All}
use Rattle.std.proofs.lemmas.List.Elements.{All-nil, All-cons, All-get_or, All-from_get_or}
use Rattle.slab_model.specs.State.{Slab}
use Rattle.slab_model.specs.Blocks.{live_bytes, IsLive}
use Rattle.slab_model.specs.Grant.{grant, block_bytes}
use Rattle.slab_model.specs.Return.{give_back}
use Rattle.slab_model.proofs.Laws.{grant-sound, give_back-sound}
use Rattle.slab_model.proofs.BlockLaws.{grant-grants, grant-none, give_back-returns}
use Rattle.slab_model.proofs.ShapeLemmas.{grant_shape, back_shape, bytes_same}
use Rattle.slab_model.proofs.LiveLemmas.{once_here, live_none, live_same, is_live, granted_live, returned_live}
use Rattle.conn_zone.specs.declared.state.ConnEntry.{ConnEntry}
use Rattle.conn_zone.specs.declared.state.ConnState.{ConnState}
use Rattle.conn_zone.specs.Table.{has_key, is_at, entry_of, entry_at, with_count, replace_first}
use Rattle.conn_zone.specs.Step.{node_size, new_entry}
use Rattle.conn_zone.specs.Object.{with_parts, once_at, context_size, name_size}
use Rattle.conn_zone.specs.Holding.{entries_of, nodes_at, named_at, live_at, HasNode, IsWhole}
use Rattle.conn_zone.specs.Proving.Tables.{found_passes, found_all, replaced_sum, replaced_all, node_weight, key_weight, nodes_more, keys_more, sum_one, missing_none, same_key, same_block, each_named}

no_entry : ConnEntry
no_entry = record { key = []; block = 0; count = 0 }

-- another table and another slab
abbrev pub changed : ConnState → List ConnEntry → Slab → ConnState
changed s table slab = with_parts s (record { table = table; memory = slab })

-- ---- the blocks of a whole zone

context_named : (s : ConnState) → 0 < named_at s s.context
context_named s = let one = once_here s.context in omega (arith, one)

name_named : (s : ConnState) → 0 < named_at s s.name_block
name_named s = let one = once_here s.name_block in omega (arith, one)

node_named : (s : ConnState) (i : ℕ) (d : ConnEntry) → i < length s.table → 0 < named_at s (get_or s.table i d).block
node_named s i d low = let h = each_named s.table i d low in omega (arith, h)

-- the blocks that a zone names keep their bytes from one slab to another
pub record Keeps (s : ConnState) (slab : Slab) : Type 0 where
  pub shape : slab.shape ≡ s.slab.shape
  pub bytes : (at : ℕ) → 0 < named_at s at → live_bytes slab at ≡ live_bytes s.slab at

-- and so each is still granted for what it holds
kept_context : (s : ConnState) (slab : Slab) → Keeps s slab → live_bytes s.slab s.context ≡ block_bytes s.slab context_size → live_bytes slab s.context ≡ block_bytes slab context_size
kept_context s slab keeps was = keeps.bytes s.context (context_named s) ∙ was ∙ sym (bytes_same s.slab slab context_size keeps.shape)

kept_name : (s : ConnState) (slab : Slab) → Keeps s slab → live_bytes s.slab s.name_block ≡ block_bytes s.slab (name_size s.name) → live_bytes slab s.name_block ≡ block_bytes slab (name_size s.name)
kept_name s slab keeps was = keeps.bytes s.name_block (name_named s) ∙ was ∙ sym (bytes_same s.slab slab (name_size s.name) keeps.shape)

kept_nodes : (s : ConnState) (slab : Slab) → Keeps s slab → All (HasNode s.slab) s.table → All (HasNode slab) s.table
kept_nodes s slab keeps was = All-from_get_or (HasNode slab) s.table no_entry
    (λ i low. keeps.bytes (get_or s.table i no_entry).block (node_named s i no_entry low)
    ∙ All-get_or (HasNode s.slab) s.table i no_entry low was
    ∙ sym (bytes_same s.slab slab (node_size + length (get_or s.table i no_entry).key) keeps.shape))

-- ---- an entry's count changes

pub whole_counted : (s : ConnState) (test : ConnEntry → Bool) (e : ConnEntry) (count : ℕ) → IsWhole s → find test s.table ≡ Some e → IsWhole (changed s (replace_first test (with_count count e ∷ []) s.table) s.slab)
whole_counted s test e count whole found =
    let new = with_count count e ∷ [] in
    let has : HasNode s.slab e = found_all (HasNode s.slab) test s.table e found whole.nodes in
    record {
      sound = whole.sound;
      named = λ at.
          let h = whole.named at in
          let sums = replaced_sum (node_weight at) test new s.table e found in
          let one = sum_one (node_weight at) (with_count count e) in
          omega (arith, h, sums, one);
      context = whole.context;
      name = whole.name;
      nodes = replaced_all (HasNode s.slab) test new s.table (All-cons (HasNode s.slab) (with_count count e) [] has (All-nil (HasNode s.slab))) whole.nodes;
      keys = λ key.
          let h = whole.keys key in
          let sums = replaced_sum (key_weight key) test new s.table e found in
          let one = sum_one (key_weight key) (with_count count e) in
          omega (arith, h, sums, one);
    }

-- ---- a new entry

-- a grant keeps the blocks of a zone
granted_keeps : (s : ConnState) (size at : ℕ) → IsWhole s → 0 < size → (grant s.slab size).0 ≡ Some at → Keeps s (grant s.slab size).1
granted_keeps s size at whole some given = let g = grant-grants s.slab size at whole.sound some given in record {
  shape = grant_shape s.slab size;
  bytes = λ other named.
      let h = whole.named other in
      g.0.others other (λ same. absurd (omega (arith, h, named, live_none s.slab other (ap (λ (n : ℕ). live_bytes s.slab n) same ∙ g.0.fresh))));
}

-- its key was missing
keys_new : (key : List ℕ) (at : ℕ) (table : List ConnEntry) → entries_of key table ≡ 0 → (other : List ℕ) → entries_of other table ≤ 1 → entries_of other (new_entry key at ∷ table) ≤ 1
keys_new key at table missing other few = at_most (has_key other (new_entry key at)) refl (keys_more other (new_entry key at) table) where
  at_most : (b : Bool) → has_key other (new_entry key at) ≡ b → entries_of other (new_entry key at ∷ table) ≡ key_weight other (new_entry key at) + entries_of other table → entries_of other (new_entry key at ∷ table) ≤ 1
  at_most true is more =
      let none : entries_of other table ≡ 0 = ap (λ (k : List ℕ). entries_of k table) (same_key other key is) ∙ missing in
      let one : key_weight other (new_entry key at) ≡ 1 = ap {B = ℕ} (λ (b : Bool). cond b 1 0) is in
      omega (arith, none, one, more)
  at_most false is more =
      let none : key_weight other (new_entry key at) ≡ 0 = ap {B = ℕ} (λ (b : Bool). cond b 1 0) is in
      omega (arith, few, none, more)

pub whole_new : (s : ConnState) (key : List ℕ) (at : ℕ) → IsWhole s → entry_of key s.table ≡ None → (grant s.slab (node_size + length key)).0 ≡ Some at
    → IsWhole (changed s (new_entry key at ∷ s.table) (grant s.slab (node_size + length key)).1)
whole_new s key at whole missing given =
    let size = node_size + length key in
    let slab = (grant s.slab size).1 in
    let some : 0 < size = omega arith in
    let g = grant-grants s.slab size at whole.sound some given in
    let keeps = granted_keeps s size at whole some given in
    record {
      sound = grant-sound s.slab size whole.sound some;
      named = λ other.
          let h = whole.named other in
          let more = nodes_more other (new_entry key at) s.table in
          let live = granted_live s.slab size at whole.sound some given other in
          omega (arith, h, more, live);
      context = kept_context s slab keeps whole.context;
      name = kept_name s slab keeps whole.name;
      nodes = All-cons (HasNode slab) (new_entry key at) s.table (g.0.bytes ∙ sym (bytes_same s.slab slab size keeps.shape)) (kept_nodes s slab keeps whole.nodes);
      keys = λ other. keys_new key at s.table (missing_none key s.table missing) other (whole.keys other);
    }

-- a grant that gives nothing
pub whole_none : (s : ConnState) (size : ℕ) → IsWhole s → 0 < size → (grant s.slab size).0 ≡ None → IsWhole (changed s s.table (grant s.slab size).1)
whole_none s size whole some none =
    let slab = (grant s.slab size).1 in
    let same = grant-none s.slab size none in
    let keeps : Keeps s slab = record { shape = grant_shape s.slab size; bytes = λ at named. same.blocks at } in
    record {
      sound = grant-sound s.slab size whole.sound some;
      named = λ at. whole.named at ∙ sym (live_same s.slab slab at (same.blocks at));
      context = kept_context s slab keeps whole.context;
      name = kept_name s slab keeps whole.name;
      nodes = kept_nodes s slab keeps whole.nodes;
      keys = whole.keys;
    }

-- ---- an entry leaves

-- its block is live
pub entry_live : (s : ConnState) (at : ℕ) (e : ConnEntry) → IsWhole s → entry_at at s.table ≡ Some e → IsLive s.slab at
entry_live s at e whole found =
    let h = whole.named at in
    let sums = replaced_sum (node_weight at) (is_at at) [] s.table e found in
    let here : once_at at e.block ≡ 1 = ap (λ (n : ℕ). once_at at n) (same_block at e (found_passes (is_at at) s.table e found)) ∙ once_here at in
    let none : nodes_at at [] ≡ 0 = refl in
    is_live s.slab at (omega (arith, h, sums, here, none))

-- the table without it, over the slab that its block came back to
abbrev pub left_by : ConnState → ℕ → ConnState
left_by s at = changed s (replace_first (is_at at) [] s.table) (give_back s.slab at)

pub whole_left : (s : ConnState) (at : ℕ) (e : ConnEntry) → IsWhole s → entry_at at s.table ≡ Some e → IsWhole (left_by s at)
whole_left s at e whole found =
    let slab = give_back s.slab at in
    let live = entry_live s at e whole found in
    let r = give_back-returns s.slab at whole.sound live in
    let own = same_block at e (found_passes (is_at at) s.table e found) in
    let named : (other : ℕ) → named_at (left_by s at) other ≡ live_at slab other = λ other.
    let h = whole.named other in
    let sums = replaced_sum (node_weight other) (is_at at) [] s.table e found in
    let nothing : nodes_at other [] ≡ 0 = refl in
    let here : once_at other e.block ≡ once_at other at = ap (λ (n : ℕ). once_at other n) own in
    let gone = returned_live s.slab at whole.sound live other in
    omega (arith, h, sums, nothing, here, gone) in
    let stay = changed s (replace_first (is_at at) [] s.table) s.slab in
    let keeps : Keeps stay slab = record {
      shape = back_shape s.slab at;
      bytes = λ other is_named.
          let h = named other in
          r.others other (λ same. absurd (omega (arith, h, is_named, live_none slab other (ap (λ (n : ℕ). live_bytes slab n) same ∙ r.gone))));
    } in
    record {
      sound = give_back-sound s.slab at whole.sound live;
      named = named;
      context = kept_context stay slab keeps whole.context;
      name = kept_name stay slab keeps whole.name;
      nodes = kept_nodes stay slab keeps (replaced_all (HasNode s.slab) (is_at at) [] s.table (All-nil (HasNode s.slab)) whole.nodes);
      keys = λ key.
          let h = whole.keys key in
          let sums = replaced_sum (key_weight key) (is_at at) [] s.table e found in
          let nothing : entries_of key [] ≡ 0 = refl in
          omega (arith, h, sums, nothing);
    }
