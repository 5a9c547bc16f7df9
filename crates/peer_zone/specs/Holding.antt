-- What calls of an upstream's zone carry along a history.
use Rattle.std.specs.Prelude.{◌≡◌, ℕ, ◌+◌, ◌*◌, ◌^◌, ◌<◌, ◌≤◌, ℤ, pos, neg_ℤ, ◌+ℤ◌, ◌≤ℤ◌, nat_eq, List, [], ◌∷◌, length, take, drop, slice_index, sum_by, if◌then◌else◌}
use Rattle.std.specs.List.{All, AllZip}
use Rattle.slab_model.specs.State.{Slab}
pub use Rattle.slab_model.specs.Blocks.{live_at}
use Rattle.slab_model.specs.Blocks.{live_bytes}
use Rattle.slab_model.specs.Grant.{block_bytes}
use Rattle.slab_model.specs.Soundness.{IsSound}
use Rattle.peer_zone.specs.declared.state.PeerRecord.{PeerRecord}
use Rattle.peer_zone.specs.declared.state.PeerState.{PeerState}
use Rattle.peer_zone.specs.Object.{Made, given, back, conns_at, list_of, IsServer, IsMoment}
use Rattle.peer_zone.specs.Opening.{Request, context_size, name_size, list_size, record_size, IsSpec, requests_of, spec_of}

-- how often `at` is one of these blocks
abbrev pub named_at : List ℕ → ℕ → ℕ
named_at blocks at = sum_by (λ block. if nat_eq block at then 1 else 0) blocks

-- the block was granted for the request
abbrev pub IsGranted : Slab → Request → ℕ → Type 0
IsGranted slab request at = live_bytes slab at ≡ block_bytes slab request.size

-- the blocks are the live blocks of a sound slab, each named once and granted for its request
pub record AreWhole (slab : Slab) (requests : List Request) (blocks : List ℕ) : Type 0 where
  pub sound : IsSound slab
  pub named : (at : ℕ) → named_at blocks at ≡ live_at slab at
  pub granted : AllZip (IsGranted slab) requests blocks

-- the zone's blocks are those of its context, its name, its lists and its records
abbrev pub IsWhole : PeerState → Type 0
IsWhole s = AreWhole s.slab (requests_of (spec_of s)) s.blocks

-- ---- which block is which

-- the block of the upstream's context
abbrev pub context_block : PeerState → ℕ
context_block s = slice_index s.blocks 0

-- the block of its name
abbrev pub name_block : PeerState → ℕ
name_block s = slice_index s.blocks 1

-- the block that heads the primary list, and the one that heads the backup list where there are backups
abbrev pub primary_block : PeerState → ℕ
primary_block s = slice_index s.blocks 2

-- the block of the second list's head
abbrev pub backup_block : PeerState → ℕ
backup_block s = slice_index (drop (length s.primary) (drop 3 s.blocks)) 0

-- the blocks of the records of each list, in their order
abbrev pub primary_records : PeerState → List ℕ
primary_records s = take (length s.primary) (drop 3 s.blocks)

-- the blocks of the second list's records and addresses
abbrev pub backup_records : PeerState → List ℕ
backup_records s = drop 1 (drop (length s.primary) (drop 3 s.blocks))

-- the block was granted for the record
abbrev pub HasRecord : Slab → PeerRecord → ℕ → Type 0
HasRecord slab p at = live_bytes slab at ≡ block_bytes slab (record_size p.server)

-- each block was granted for what it holds
pub record HasBlocks (s : PeerState) : Type 0 where
  pub context : live_bytes s.slab (context_block s) ≡ block_bytes s.slab context_size
  pub name : live_bytes s.slab (name_block s) ≡ block_bytes s.slab (name_size s.name)
  pub primary_list : live_bytes s.slab (primary_block s) ≡ block_bytes s.slab list_size
  pub backup_list : 0 < length s.backup → live_bytes s.slab (backup_block s) ≡ block_bytes s.slab list_size
  pub primary : AllZip (HasRecord s.slab) s.primary (primary_records s)
  pub backup : AllZip (HasRecord s.slab) s.backup (backup_records s)

-- ---- along a history

-- the sum of the currents
abbrev pub current_sum : List PeerRecord → ℤ
current_sum [] = pos 0
current_sum (p ∷ ps) = p.current +ℤ current_sum ps

-- by how much a call moves a current at most: 64 servers of weight 65,535 weigh less
abbrev pub greatest_move : ℕ
greatest_move = 2 ^ 22

-- the numbers of a record after so many calls: its current is at most 2^22 a call away from 0
pub record IsWithin (calls : ℕ) (p : PeerRecord) : Type 0 where
  pub server : IsServer p.server
  pub effective : p.effective ≤ p.server.weight
  pub low : neg_ℤ (pos (greatest_move * calls)) ≤ℤ p.current
  pub high : p.current ≤ℤ pos (greatest_move * calls)
  pub conns : p.conns ≤ calls
  pub fails : p.fails ≤ calls
  pub checked : IsMoment p.checked
  pub accessed : IsMoment p.accessed

-- what the zone was opened with and its blocks stay, and it is whole; the currents of each list add up to 0; a server's connections are the requests that it was given to and that have not freed it
pub record Holds {X : Type 0} (start : PeerState) (log : List (Made X)) (s : PeerState) : Type 0 where
  pub spec : IsSpec (spec_of s)
  pub same : spec_of s ≡ spec_of start
  pub slab : s.slab ≡ start.slab
  pub blocks : s.blocks ≡ start.blocks
  pub whole : IsWhole s
  pub primary : All (IsWithin (length log)) s.primary
  pub backup : All (IsWithin (length log)) s.backup
  pub balanced : (list : ℕ) → list < 2 → current_sum (list_of s list) ≡ pos 0
  pub held : (list index : ℕ) → list < 2 → conns_at (list_of s list) index + sum_by (back list index) log ≡ sum_by (given list index) log
