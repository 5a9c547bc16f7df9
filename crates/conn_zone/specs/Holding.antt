-- What calls of a connection zone carry along a history.
use Rattle.std.specs.Prelude.{◌≡◌, ℕ, ◌+◌, ◌≤◌, List, length, sum_by, if◌then◌else◌}
use Rattle.std.specs.List.{All}
pub use Rattle.slab_model.specs.Blocks.{live_at}
use Rattle.slab_model.specs.Blocks.{live_bytes}
use Rattle.slab_model.specs.Grant.{block_bytes}
use Rattle.slab_model.specs.Soundness.{IsSound}
use Rattle.slab_model.specs.State.{Slab}
use Rattle.conn_zone.specs.declared.state.ConnEntry.{ConnEntry}
use Rattle.conn_zone.specs.declared.state.ConnState.{ConnState}
use Rattle.conn_zone.specs.Table.{has_key}
use Rattle.conn_zone.specs.Step.{node_size}
use Rattle.conn_zone.specs.Object.{Made, IsKey, IsCount, once_at, given, back, count_at, context_size, name_size}

-- how many entries have this key
abbrev pub entries_of : List ℕ → List ConnEntry → ℕ
entries_of key table = sum_by (λ (entry : ConnEntry). if has_key key entry then 1 else 0) table

-- how often `at` is the block of one of these entries
abbrev pub nodes_at : ℕ → List ConnEntry → ℕ
nodes_at at table = sum_by (λ (entry : ConnEntry). once_at at entry.block) table

-- how often `at` is a block of the zone: that of its context, that of its name, that of an entry
abbrev pub named_at : ConnState → ℕ → ℕ
named_at s at = once_at at s.context + once_at at s.name_block + nodes_at at s.table

-- the block of an entry was granted for its node
abbrev pub HasNode : Slab → ConnEntry → Type 0
HasNode slab entry = live_bytes slab entry.block ≡ block_bytes slab (node_size + length entry.key)

-- the zone's blocks are the live blocks of a sound slab, each named once and granted for what it holds, and no key has two entries
pub record IsWhole (s : ConnState) : Type 0 where
  pub sound : IsSound s.slab
  pub named : (at : ℕ) → named_at s at ≡ live_at s.slab at
  pub context : live_bytes s.slab s.context ≡ block_bytes s.slab context_size
  pub name : live_bytes s.slab s.name_block ≡ block_bytes s.slab (name_size s.name)
  pub nodes : All (HasNode s.slab) s.table
  pub keys : (key : List ℕ) → entries_of key s.table ≤ 1

-- the key of an entry, and how many connections it has
pub record IsEntry (entry : ConnEntry) : Type 0 where
  pub key : IsKey entry.key
  pub count : IsCount entry.count

-- a whole zone, whose entries have the connections that were given and not yet given back
pub record Holds {X : Type 0} (start : ConnState) (log : List (Made X)) (s : ConnState) : Type 0 where
  pub whole : IsWhole s
  pub entries : All IsEntry s.table
  pub held : (at : ℕ) → count_at at s.table + sum_by (back at) log ≡ sum_by (given at) log
