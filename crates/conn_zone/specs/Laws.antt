-- What holds of every call of a connection zone.
use Rattle.std.specs.Prelude.{◌≡◌, ◌≢◌, ℕ, ◌+◌, ◌-◌, ◌<◌, ◌≤◌, ◌⊎◌, ◌↔◌, List, ◌∷◌, length, map, sum_by, Some, None, if◌then◌else◌}
use Rattle.std.specs.Str.{bytes_eq}
use Rattle.zone_region.specs.Members.{In, IsDistinct}
use Rattle.slab_model.specs.Geometry.{IsInLimits, shape_of}
use Rattle.slab_model.specs.Grant.{grant}
use Rattle.slab_model.specs.Blocks.{live_bytes, IsLive}
use Rattle.slab_model.specs.Return.{give_back}
use Rattle.conn_zone.specs.declared.state.ConnEntry.{ConnEntry}
use Rattle.conn_zone.specs.declared.state.ConnState.{ConnState}
use Rattle.conn_zone.specs.declared.calls.ConnCall.{ConnCall}
use Rattle.conn_zone.specs.declared.calls.ConnCall.TheVariants.{Open, Close}
use Rattle.conn_zone.specs.declared.calls.ConnReply.{ConnReply}
use Rattle.conn_zone.specs.declared.calls.ConnReply.TheVariants.{Opened, AtLimit, NoRoom, Closed}
use Rattle.conn_zone.specs.Table.{has_key, entry_of, entry_at}
use Rattle.conn_zone.specs.Step.{node_size}
use Rattle.conn_zone.specs.Object.{with_parts, answer_of, zone_after, with_context, with_name, opened_zone, IsName, IsOpened, count_at, Ready, CanAnswer}
use Rattle.conn_zone.specs.Holding.{IsWhole}

-- ---- at the limit

-- the key has an entry, with so many connections, and they are as many as the limit or more
pub record IsAtLimit (s : ConnState) (key : List ℕ) (limit count : ℕ) (entry : ConnEntry) : Type 0 where
  pub found : entry_of key s.table ≡ Some entry
  pub counted : count ≡ entry.count
  pub reached : limit ≤ count

-- at the limit is answered exactly there
abbrev pub AtLimitLaw : Type 0
AtLimitLaw = (s : ConnState) (key : List ℕ) (limit count : ℕ) → (answer_of s (Open key limit) ≡ AtLimit count) ↔ ((entry : ConnEntry) × IsAtLimit s key limit count entry)

-- and the zone is as before
abbrev pub AtLimitKeepsLaw : Type 0
AtLimitKeepsLaw = (s : ConnState) (key : List ℕ) (limit count : ℕ) → answer_of s (Open key limit) ≡ AtLimit count → zone_after s (Open key limit) ≡ s

-- ---- no room

-- the key is missing, and the slab has no block for its node
pub record HasNoRoom (s : ConnState) (key : List ℕ) : Type 0 where
  pub missing : entry_of key s.table ≡ None
  pub none : (grant s.slab (node_size + length key)).0 ≡ None

-- no room is answered exactly there
abbrev pub NoRoomLaw : Type 0
NoRoomLaw = (s : ConnState) (key : List ℕ) (limit : ℕ) → (answer_of s (Open key limit) ≡ NoRoom) ↔ HasNoRoom s key

-- the zone once its slab was asked for so many bytes
abbrev pub asked_for : ConnState → ℕ → ConnState
asked_for s size = with_parts s (record { table = s.table; memory = (grant s.slab size).1 })

-- and only the slab has counted the failure
abbrev pub NoRoomKeepsLaw : Type 0
NoRoomKeepsLaw = (s : ConnState) (key : List ℕ) (limit : ℕ) → answer_of s (Open key limit) ≡ NoRoom → zone_after s (Open key limit) ≡ asked_for s (node_size + length key)

-- ---- the connections of a key

-- how many connections a key has
abbrev pub connections : List ℕ → List ConnEntry → ℕ
connections key table = sum_by (λ (entry : ConnEntry). if has_key key entry then entry.count else 0) table

-- the connections that a reply to an open gives
abbrev pub opened_by : ConnReply → ℕ
opened_by (Opened at count) = 1
opened_by (AtLimit count) = 0
opened_by NoRoom = 0
opened_by (Closed count) = 0

-- an open that is counted gives its key one connection; no other key has more or fewer
abbrev pub OpenCountsLaw : Type 0
OpenCountsLaw = (s : ConnState) (key : List ℕ) (limit : ℕ) (other : List ℕ) → connections other (zone_after s (Open key limit)).table ≡ connections other s.table + (if bytes_eq other key then opened_by (answer_of s (Open key limit)) else 0)

-- the key has one connection more than before, and its entry is the one of this block
pub record HasOpened (s after : ConnState) (key : List ℕ) (at count : ℕ) : Type 0 where
  pub counted : count ≡ connections key s.table + 1
  pub by_key : entry_of key after.table ≡ Some (record { key = key; block = at; count = count })
  pub by_block : entry_at at after.table ≡ Some (record { key = key; block = at; count = count })

-- what an open answers that is counted
abbrev pub OpenedLaw : Type 0
OpenedLaw = (s : ConnState) (key : List ℕ) (limit at count : ℕ) → IsWhole s → answer_of s (Open key limit) ≡ Opened at count → HasOpened s (zone_after s (Open key limit)) key at count

-- a close takes one connection from the key of its entry
abbrev pub CloseCountsLaw : Type 0
CloseCountsLaw = (s : ConnState) (at : ℕ) (entry : ConnEntry) (other : List ℕ) → entry_at at s.table ≡ Some entry → 0 < entry.count → connections other (zone_after s (Close at)).table + (if has_key other entry then 1 else 0) ≡ connections other s.table

-- and says how many it leaves
abbrev pub ClosedLaw : Type 0
ClosedLaw = (s : ConnState) (at : ℕ) (entry : ConnEntry) → entry_at at s.table ≡ Some entry → answer_of s (Close at) ≡ Closed (entry.count - 1)

-- ---- entries that stay and that leave

-- the keys of a table with the blocks of their nodes
abbrev pub nodes_of : List ConnEntry → List (List ℕ × ℕ)
nodes_of table = map (λ (entry : ConnEntry). (entry.key, entry.block)) table

-- nothing is evicted: after an open the keys and blocks are as before, but for a new key at the front
abbrev pub EvictsNothingLaw : Type 0
EvictsNothingLaw = (s : ConnState) (key : List ℕ) (limit : ℕ) →
    (nodes_of (zone_after s (Open key limit)).table ≡ nodes_of s.table) ⊎ ((at : ℕ) × (nodes_of (zone_after s (Open key limit)).table ≡ (key, at) ∷ nodes_of s.table))

-- the entry is gone with its block, and all else is as before
pub record Leaves (s : ConnState) (entry : ConnEntry) (after : ConnState) : Type 0 where
  pub gone : entry_of entry.key after.table ≡ None
  pub others : (key : List ℕ) → key ≢ entry.key → entry_of key after.table ≡ entry_of key s.table
  pub slab : after.slab ≡ give_back s.slab entry.block
  pub freed : live_bytes after.slab entry.block ≡ 0

-- the close of a key's last connection takes its entry out and gives its block back
abbrev pub LastCloseLaw : Type 0
LastCloseLaw = (s : ConnState) (at : ℕ) (entry : ConnEntry) → IsWhole s → entry_at at s.table ≡ Some entry → entry.count ≡ 1 → Leaves s entry (zone_after s (Close at))

-- after another close the keys and blocks are as before, and so is the slab
abbrev pub OtherCloseLaw : Type 0
OtherCloseLaw = (s : ConnState) (at : ℕ) (entry : ConnEntry) → entry_at at s.table ≡ Some entry → 1 < entry.count → (nodes_of (zone_after s (Close at)).table ≡ nodes_of s.table) × ((zone_after s (Close at)).slab ≡ s.slab)

-- ---- the blocks of a zone

-- the blocks of a zone: of its context, of its name, and of its entries, newest first
abbrev pub blocks_of : ConnState → List ℕ
blocks_of s = s.context ∷ s.name_block ∷ map (λ (entry : ConnEntry). entry.block) s.table

-- the blocks of a whole zone differ, and they are the live blocks of its slab
abbrev pub WholeLaw : Type 0
WholeLaw = (s : ConnState) → IsWhole s → IsDistinct (blocks_of s) × ((at : ℕ) → In at (blocks_of s) ↔ IsLive s.slab at)

-- the entry of block `at` has so many connections
pub record HasCount (table : List ConnEntry) (at count : ℕ) (entry : ConnEntry) : Type 0 where
  pub found : entry_at at table ≡ Some entry
  pub block : entry.block ≡ at
  pub counted : entry.count ≡ count

-- in a whole zone the connections at a block are those of its entry
abbrev pub CountedEntryLaw : Type 0
CountedEntryLaw = (s : ConnState) (at : ℕ) → IsWhole s → 0 < count_at at s.table → (entry : ConnEntry) × HasCount s.table at (count_at at s.table) entry

-- what opening a zone makes: the slab gives both blocks, and a history may begin there
pub record Opens (name : List ℕ) (bytes : ℕ) : Type 0 where
  pub context : (with_context bytes).0 ≡ Some (opened_zone name bytes).context
  pub name_block : (with_name bytes name).0 ≡ Some (opened_zone name bytes).name_block
  pub whole : IsWhole (opened_zone name bytes)
  pub quiet : IsOpened (opened_zone name bytes)

-- each zone that can be opened is whole, and nothing is held in it
abbrev pub OpenLaw : Type 0
OpenLaw = (name : List ℕ) (bytes : ℕ) → IsName name → IsInLimits (shape_of bytes) → Opens name bytes

-- ---- the laws of an object

-- what a ready call is answered is a reply that it can be given
abbrev pub AnswerLaw : Type 0
AnswerLaw = (s : ConnState) (call : ConnCall) → Ready s call → CanAnswer s call (answer_of s call)

-- a zone that was just opened is known by its name and its shape
abbrev pub StartLaw : Type 0
StartLaw = (s t : ConnState) → IsOpened s → IsOpened t → s.name ≡ t.name → s.slab.shape ≡ t.slab.shape → s ≡ t
