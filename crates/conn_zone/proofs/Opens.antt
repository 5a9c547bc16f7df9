-- What an open answers and leaves.
use Rattle.std.proofs.Common.{ℕ, ◌≡◌, ◌+◌, ◌<◌, ◌≤◌, ◌⊎◌, Bool, true, false, cond, leb, List, [], ◌∷◌, length, Option, Some, None, refl, sym, ap, subst, ◌∙◌, inl, inr, arith}
use Rattle.std.specs.Str.{bytes_eq}
use Rattle.std.proofs.lemmas.Bool.{leb-true, leb-false, eq-eqb}
use Rattle.std.proofs.lemmas.List.Sums.{sum_by-cons}
use Rattle.slab_model.specs.State.{Slab}
use Rattle.slab_model.specs.Grant.{grant}
use Rattle.slab_model.specs.Store.{slab_store}
use Rattle.slab_model.proofs.LiveLemmas.{live_most}
use Rattle.conn_zone.specs.declared.state.ConnEntry.{ConnEntry}
use Rattle.conn_zone.specs.declared.state.ConnState.{ConnState}
use Rattle.conn_zone.specs.declared.calls.ConnReply.{ConnReply}
use Rattle.conn_zone.specs.declared.calls.ConnReply.TheVariants.{Opened, AtLimit, NoRoom, Closed}
use Rattle.conn_zone.specs.State.{State}
use Rattle.conn_zone.specs.Table.{has_key, entry_of, entry_at, with_count}
use Rattle.conn_zone.specs.Step.{node_size, new_entry, open_as}
use Rattle.conn_zone.specs.Object.{parts_of, with_parts}
use Rattle.conn_zone.specs.Holding.{nodes_at, IsWhole}
use Rattle.conn_zone.specs.Laws.{connections, opened_by, OpenCountsLaw, HasOpened, OpenedLaw, nodes_of, EvictsNothingLaw}
use Rattle.conn_zone.specs.Proving.Tables.{found_passes, replaced_sum, sum_one, same_key}
use Rattle.conn_zone.specs.Proving.Wholes.{whole_counted}
use Rattle.conn_zone.specs.Proving.CallEffects.{found_as, missing_as}
use Rattle.conn_zone.proofs.Weights.{own_weight, own_key, one_more, own_connections, no_connections, same_nodes, replaced_found, found_at_block}

-- ---- the ways in which an open can end

-- what an open comes to
abbrev pub came_to : ConnState → List ℕ → ℕ → ConnReply × State Slab
came_to s key limit = open_as slab_store key limit (parts_of s) (entry_of key s.table)

-- at the limit, one connection more, no room, or a new entry
pub data Ends (s : ConnState) (key : List ℕ) (limit : ℕ) : Type 0 where
  at_limit : (e : ConnEntry) → entry_of key s.table ≡ Some e → limit ≤ e.count → came_to s key limit ≡ found_as key s e true → Ends s key limit
  below : (e : ConnEntry) → entry_of key s.table ≡ Some e → e.count < limit → came_to s key limit ≡ found_as key s e false → Ends s key limit
  no_room : entry_of key s.table ≡ None → (grant s.slab (node_size + length key)).0 ≡ None → came_to s key limit ≡ missing_as key s None → Ends s key limit
  new : (at : ℕ) → entry_of key s.table ≡ None → (grant s.slab (node_size + length key)).0 ≡ Some at → came_to s key limit ≡ missing_as key s (Some at) → Ends s key limit

pub ends : (s : ConnState) (key : List ℕ) (limit : ℕ) → Ends s key limit
ends s key limit = go (entry_of key s.table) refl where
  missing : entry_of key s.table ≡ None → (block : Option ℕ) → (grant s.slab (node_size + length key)).0 ≡ block → Ends s key limit
  missing none None is = no_room none is (ap (open_as slab_store key limit (parts_of s)) none ∙ ap (missing_as key s) is)
  missing none (Some at) is = new at none is (ap (open_as slab_store key limit (parts_of s)) none ∙ ap (missing_as key s) is)

  there : (e : ConnEntry) → entry_of key s.table ≡ Some e → (limited : Bool) → leb limit e.count ≡ limited → Ends s key limit
  there e found true is = at_limit e found (leb-true limit e.count is) (ap (open_as slab_store key limit (parts_of s)) found ∙ ap (found_as key s e) is)
  there e found false is = below e found (leb-false limit e.count is) (ap (open_as slab_store key limit (parts_of s)) found ∙ ap (found_as key s e) is)

  go : (found : Option ConnEntry) → entry_of key s.table ≡ found → Ends s key limit
  go None is = missing is (grant s.slab (node_size + length key)).0 refl
  go (Some e) is = there e is (leb limit e.count) refl

-- ---- what it answers

abbrev count_in : ConnReply → ℕ
count_in (Opened at count) = count
count_in (AtLimit count) = count
count_in NoRoom = 0
count_in (Closed count) = count

abbrev block_in : ConnReply → ℕ
block_in (Opened at count) = at
block_in (AtLimit count) = 0
block_in NoRoom = 0
block_in (Closed count) = 0

-- at most one entry of a whole zone has this block
one_node : (s : ConnState) (at : ℕ) → IsWhole s → nodes_at at s.table ≤ 1
one_node s at whole = let h = whole.named at in let most = live_most s.slab at in omega (arith, h, most)

-- one connection more of a key that is there
opened_below : (s : ConnState) (key : List ℕ) (e : ConnEntry) → IsWhole s → entry_of key s.table ≡ Some e → HasOpened s (with_parts s (found_as key s e false).1) key e.block (e.count + 1)
opened_below s key e whole found =
    let new = with_count (e.count + 1) e in
    let after = with_parts s (found_as key s e false).1 in
    let own = found_passes (has_key key) s.table e found in
    let same : Some new ≡ Some (record { key = key; block = e.block; count = e.count + 1 }) = ap (λ (k : List ℕ). Some (record { key = k; block = e.block; count = e.count + 1 })) (sym (same_key key e.key own)) in
    let again : entry_of key after.table ≡ Some new = replaced_found (has_key key) new s.table e found own in
    let whole_after = whole_counted s (has_key key) e (e.count + 1) whole found in
    let connected = own_connections key s.table e found (whole.keys key) in
    record {
      counted = omega (arith, connected);
      by_key = again ∙ same;
      by_block = found_at_block (has_key key) after.table new again (one_node after e.block whole_after) ∙ same;
    }

-- the first connection of a key
opened_new : (s : ConnState) (key : List ℕ) (at : ℕ) → entry_of key s.table ≡ None → HasOpened s (with_parts s (missing_as key s (Some at)).1) key at 1
opened_new s key at missing = record {
  counted = let none = no_connections key s.table missing in omega (arith, none);
  by_key = ap (λ (b : Bool). cond b (Some (new_entry key at)) (entry_of key s.table)) (own_key key);
  by_block = ap (λ (b : Bool). cond b (Some (new_entry key at)) (entry_at at s.table)) (eq-eqb at at refl);
}

abbrev HasOpenedBy : ConnState → List ℕ → ℕ → ℕ → ConnReply × State Slab → Type 0
HasOpenedBy s key at count r = HasOpened s (with_parts s r.1) key at count

pub opened-law : OpenedLaw
opened-law s key limit at count whole is = go (ends s key limit) where
  go : Ends s key limit → HasOpenedBy s key at count (came_to s key limit)
  go (at_limit e found reached came) = absurd (let h = ap (λ (r : ConnReply × State Slab). r.0) came in cc)
  go (below e found less came) =
      let block : e.block ≡ at = ap (λ (r : ConnReply × State Slab). block_in r.0) (sym came) ∙ ap block_in is in
      let counted : e.count + 1 ≡ count = ap (λ (r : ConnReply × State Slab). count_in r.0) (sym came) ∙ ap count_in is in
      let opened = opened_below s key e whole found in
      subst (HasOpenedBy s key at count) (sym came) (subst (λ (n : ℕ). HasOpenedBy s key n count (found_as key s e false)) block (subst (λ (n : ℕ). HasOpenedBy s key e.block n (found_as key s e false)) counted opened))
  go (no_room missing none came) = absurd (let h = ap (λ (r : ConnReply × State Slab). r.0) came in cc)
  go (new to missing given came) =
      let block : to ≡ at = ap (λ (r : ConnReply × State Slab). block_in r.0) (sym came) ∙ ap block_in is in
      let counted : 1 ≡ count = ap (λ (r : ConnReply × State Slab). count_in r.0) (sym came) ∙ ap count_in is in
      let opened = opened_new s key to missing in
      subst (HasOpenedBy s key at count) (sym came) (subst (λ (n : ℕ). HasOpenedBy s key n count (missing_as key s (Some to))) block (subst (λ (n : ℕ). HasOpenedBy s key to n (missing_as key s (Some to))) counted opened))

-- ---- what it counts

-- what is counted where an open comes to this
abbrev Counts : ConnState → List ℕ → List ℕ → ConnReply × State Slab → Type 0
Counts s key other r = connections other r.1.table ≡ connections other s.table + cond (bytes_eq other key) (opened_by r.0) 0

counts_none : (n : ℕ) (b : Bool) → n ≡ n + cond b 0 0
counts_none n true = omega arith
counts_none n false = omega arith

pub open_counts-law : OpenCountsLaw
open_counts-law s key limit other = go (ends s key limit) where
  go : Ends s key limit → Counts s key other (came_to s key limit)
  go (at_limit e found reached came) = subst (Counts s key other) (sym came) (counts_none (connections other s.table) (bytes_eq other key))
  go (below e found less came) =
      let new = with_count (e.count + 1) e in
      let sums = replaced_sum (own_weight other) (has_key key) (new ∷ []) s.table e found in
      let one = sum_one (own_weight other) new in
      let more = one_more other e in
      let same : cond (bytes_eq other key) 1 0 ≡ cond (has_key other e) 1 0 = ap {B = ℕ} (λ (k : List ℕ). cond (bytes_eq other k) 1 0) (same_key key e.key (found_passes (has_key key) s.table e found)) in
      subst (Counts s key other) (sym came) (omega (arith, sums, one, more, same))
  go (no_room missing none came) = subst (Counts s key other) (sym came) (counts_none (connections other s.table) (bytes_eq other key))
  go (new at missing given came) =
      let more = sum_by-cons (own_weight other) (new_entry key at) s.table in
      subst (Counts s key other) (sym came) (omega (arith, more))

-- ---- which entries it leaves

abbrev EvictsNothing : ConnState → List ℕ → ConnReply × State Slab → Type 0
EvictsNothing s key r = (nodes_of r.1.table ≡ nodes_of s.table) ⊎ ((at : ℕ) × (nodes_of r.1.table ≡ (key, at) ∷ nodes_of s.table))

pub evicts_nothing-law : EvictsNothingLaw
evicts_nothing-law s key limit = go (ends s key limit) where
  go : Ends s key limit → EvictsNothing s key (came_to s key limit)
  go (at_limit e found reached came) = subst (EvictsNothing s key) (sym came) (inl refl)
  go (below e found less came) = subst (EvictsNothing s key) (sym came) (inl (same_nodes (has_key key) (e.count + 1) s.table e found))
  go (no_room missing none came) = subst (EvictsNothing s key) (sym came) (inl refl)
  go (new at missing given came) = subst (EvictsNothing s key) (sym came) (inr (at, refl))
