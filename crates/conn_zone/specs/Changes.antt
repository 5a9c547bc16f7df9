-- What the steps of a call change.
use Rattle.std.specs.Prelude.{ℕ, ◌≡◌, ◌≢◌, Bool, List, [], ◌∷◌, length, Some}
use Rattle.zone_region.specs.Words.{Words}
use Rattle.slab_model.specs.Geometry.{IsInLimits, shape_of}
use Rattle.slab_model.specs.State.{fresh_slab}
use Rattle.slab_model.specs.Store.{slab_store}
use Rattle.slab_model.specs.Return.{give_back}
use Rattle.slab_pages.specs.Places.{Image}
use Rattle.slab_pool.specs.Pool.{LaysPool}
use Rattle.conn_zone.specs.declared.state.ConnEntry.{ConnEntry}
use Rattle.conn_zone.specs.declared.state.ConnState.{ConnState}
use Rattle.conn_zone.specs.Table.{is_at, entry_of, with_count, replace_first}
use Rattle.conn_zone.specs.Step.{new_entry, open_missing}
use Rattle.conn_zone.specs.Object.{parts_of, with_parts, IsName}
use Rattle.conn_zone.specs.Layout.{LaysNode, name_bytes}

-- the words lay out a fresh pool of so many bytes for a zone of this name, whose block's text this is
pub record IsFresh (image : Image) (name : List ℕ) (bytes : ℕ) (text : List ℕ) : Type 0 where
  pub laid : LaysPool image (fresh_slab (shape_of bytes))
  pub limits : IsInLimits (shape_of bytes)
  pub named : IsName name
  pub text_is : text ≡ name_bytes name

-- the block is now the node of a key with one connection, and all other blocks are as they were
pub record WritesNode (old new : Words) (at : ℕ) (key : List ℕ) : Type 0 where
  pub lengths : (z : ℕ) → length (new z) ≡ length (old z)
  pub others : (z : ℕ) → z ≢ at → new z ≡ old z
  pub node : LaysNode new (new_entry key at)

-- the entry of this key stands at this block
pub record IsFound (s : ConnState) (key : List ℕ) (at : ℕ) (entry : ConnEntry) : Type 0 where
  pub by_key : entry_of key s.table ≡ Some entry
  pub at_block : entry.block ≡ at

-- the zone once the first entry that passes a test has so many connections
abbrev pub recounted : ConnState → (ConnEntry → Bool) → ℕ → ConnEntry → ConnState
recounted s test count entry = with_parts s (record { table = replace_first test (with_count count entry ∷ []) s.table; memory = s.slab })

-- the zone once a missing key was opened
abbrev pub with_missing : ConnState → List ℕ → ConnState
with_missing s key = with_parts s (open_missing slab_store key (parts_of s)).1

-- the zone once the entry of this block left
abbrev pub without_entry : ConnState → ℕ → ConnState
without_entry s at = with_parts s (record { table = replace_first (is_at at) [] s.table; memory = give_back s.slab at })
