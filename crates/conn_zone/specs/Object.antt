-- The connection zone as an object: its states, what its calls answer and change, what it permits, what a call needs and costs.
use Rattle.std.specs.Prelude.{◌≡◌, ℕ, ◌+◌, ◌*◌, ◌<◌, ◌≤◌, nat_eq, List, [], length, sum_by, Option, unwrap_or, if◌then◌else◌}
use Rattle.std.specs.List.{All}
use Rattle.zone_object.specs.declared.object.Entry.{Entry}
pub use Rattle.slab_model.specs.Blocks.{once_at}
use Rattle.slab_model.specs.State.{Slab, fresh_slab}
use Rattle.slab_model.specs.Geometry.{IsInLimits, shape_of}
use Rattle.slab_model.specs.Grant.{grant}
use Rattle.slab_model.specs.Store.{slab_store}
use Rattle.offset_tree.specs.Bounds.{search_cost}
use Rattle.conn_zone.specs.declared.state.ConnEntry.{ConnEntry}
use Rattle.conn_zone.specs.declared.state.ConnState.{ConnState}
use Rattle.conn_zone.specs.declared.calls.ConnCall.{ConnCall}
use Rattle.conn_zone.specs.declared.calls.ConnCall.TheVariants.{Open, Close}
use Rattle.conn_zone.specs.declared.calls.ConnReply.{ConnReply}
use Rattle.conn_zone.specs.declared.calls.ConnReply.TheVariants.{Opened, AtLimit, NoRoom, Closed}
use Rattle.conn_zone.specs.State.{State}
use Rattle.conn_zone.specs.Step.{step}

-- ---- the states

-- the bytes of the zone's context
abbrev pub context_size : ℕ
context_size = 64

-- the bytes of the block of a zone's name: the words " in limit_conn_zone ", the name in quotes and a 0 byte
abbrev pub name_size : List ℕ → ℕ
name_size name = 23 + length name

-- the slab of a fresh zone, once its context's block is granted
abbrev pub with_context : ℕ → Option ℕ × Slab
with_context bytes = grant (fresh_slab (shape_of bytes)) context_size

-- and once the block of its name is
abbrev pub with_name : ℕ → List ℕ → Option ℕ × Slab
with_name bytes name = grant (with_context bytes).1 (name_size name)

-- a zone of this name and so many bytes that was just opened
abbrev pub opened_zone : List ℕ → ℕ → ConnState
opened_zone name bytes = record {
  name = name;
  table = [];
  slab = (with_name bytes name).1;
  context = unwrap_or (with_context bytes).0 0;
  name_block = unwrap_or (with_name bytes name).0 0;
}

-- a zone's name has 1 to 255 bytes
abbrev pub IsName : List ℕ → Type 0
IsName name = (0 < length name) × (length name < 256)

-- the state is that of a zone of so many bytes that was just opened
pub record IsOpenedAs (s : ConnState) (bytes : ℕ) : Type 0 where
  pub name : IsName s.name
  pub limits : IsInLimits (shape_of bytes)
  pub fresh : s ≡ opened_zone s.name bytes

-- a history begins where a zone was just opened
abbrev pub IsOpened : ConnState → Type 0
IsOpened s = (bytes : ℕ) × IsOpenedAs s bytes

-- ---- the steps

-- the table with the slab that its blocks come from
abbrev pub parts_of : ConnState → State Slab
parts_of s = record { table = s.table; memory = s.slab }

-- the state with this table and this memory
abbrev pub with_parts : ConnState → State Slab → ConnState
with_parts s parts = record { name = s.name; table = parts.table; slab = parts.memory; context = s.context; name_block = s.name_block }

-- what a call is answered
abbrev pub answer_of : ConnState → ConnCall → ConnReply
answer_of s call = (step slab_store (parts_of s) call).0

-- the zone after a call
abbrev pub zone_after : ConnState → ConnCall → ConnState
zone_after s call = with_parts s (step slab_store (parts_of s) call).1

-- ---- what a caller may ask

-- a key has 1 to 255 bytes
abbrev pub IsKey : List ℕ → Type 0
IsKey key = (0 < length key) × (length key < 256)

-- the greatest limit, and so the most connections of a key
abbrev pub greatest_limit : ℕ
greatest_limit = 65535

-- at least one connection, and at most as many as the greatest limit
abbrev pub IsCount : ℕ → Type 0
IsCount count = (0 < count) × (count ≤ greatest_limit)

-- the connections on the entry of block `at` that a reply gives
abbrev pub given_by : ℕ → ConnReply → ℕ
given_by at (Opened block count) = once_at at block
given_by at (AtLimit count) = 0
given_by at NoRoom = 0
given_by at (Closed count) = 0

-- the connections on the entry of block `at` that a call gives back
abbrev pub back_by : ℕ → ConnCall → ℕ
back_by at (Open key limit) = 0
back_by at (Close block) = once_at at block

-- an entry of a history of the zone
abbrev pub Made : Type 0 → Type 0
Made X = Entry X ConnState ConnCall ConnReply

module _ {X : Type 0} where
  abbrev pub given : ℕ → Made X → ℕ
  given at e = given_by at e.reply

  abbrev pub back : ℕ → Made X → ℕ
  back at e = back_by at e.call

  -- an open in its ranges; a close of an entry that the caller was given more often than it closed it
  abbrev pub Permits : List (Made X) → ConnCall → Type 0
  Permits mine (Open key limit) = IsKey key × IsCount limit
  Permits mine (Close at) = sum_by (back at) mine < sum_by (given at) mine

-- ---- what a call needs, what it can answer and what it costs

-- how many connections the entry of block `at` has
abbrev pub count_at : ℕ → List ConnEntry → ℕ
count_at at table = sum_by (λ (entry : ConnEntry). if nat_eq entry.block at then entry.count else 0) table

-- what the call itself needs: its ranges, and an entry with a connection
abbrev pub IsReadyAt : List ConnEntry → ConnCall → Type 0
IsReadyAt table (Open key limit) = IsKey key × IsCount limit
IsReadyAt table (Close at) = 0 < count_at at table

-- the state holds counts within the limit, and the call can be made in it
pub record Ready (s : ConnState) (call : ConnCall) : Type 0 where
  pub counts : All (λ (entry : ConnEntry). IsCount entry.count) s.table
  pub asked : IsReadyAt s.table call

-- an open is counted within the limit, or is refused at the limit or for want of a block
abbrev pub CanOpen : ℕ → ConnReply → Type 0
CanOpen limit (Opened at count) = (0 < count) × (count ≤ limit)
CanOpen limit (AtLimit count) = (limit ≤ count) × (count ≤ greatest_limit)
CanOpen limit NoRoom = Unit {0}
CanOpen limit (Closed count) = ⊥

-- a close leaves fewer connections than there can be
abbrev pub CanClose : ConnReply → Type 0
CanClose (Opened at count) = ⊥
CanClose (AtLimit count) = ⊥
CanClose NoRoom = ⊥
CanClose (Closed count) = count < greatest_limit

-- the replies that a call can be given
abbrev pub CanAnswer : ConnState → ConnCall → ConnReply → Type 0
CanAnswer s (Open key limit) reply = CanOpen limit reply
CanAnswer s (Close at) reply = CanClose reply

-- the steps that a call counts at most: a few searches of the tree for an open, and a few words besides
abbrev pub cost_of : ConnState → ConnCall → ℕ
cost_of s (Open key limit) = 4 * search_cost (length s.table) (length key) + 64
cost_of s (Close at) = 32
