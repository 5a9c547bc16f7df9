-- What the opening of a zone grants and places.
use Rattle.std.specs.Prelude.{ℕ, ◌≡◌, ◌≢◌, ◌*◌, ◌<◌, ◌≤◌, List, [], ◌∷◌, ◌++◌, map, length, Option, Some, None, option_and_then}
use Rattle.zone_region.specs.Words.{Words}
use Rattle.zone_region.specs.Members.{In}
use Rattle.slab_model.specs.State.{Slab}
use Rattle.slab_model.specs.Grant.{grant}
use Rattle.slab_pages.specs.Places.{Image}
use Rattle.slab_pool.specs.Pool.{LaysPool}
use Rattle.slab_pool.specs.Live.{block_words}
use Rattle.peer_zone.specs.declared.calls.Server.{Server}
use Rattle.peer_zone.specs.declared.calls.PeerSpec.{PeerSpec}
use Rattle.peer_zone.specs.declared.opening.Placed.{Placed}
use Rattle.peer_zone.specs.Records.{fresh_record}
use Rattle.peer_zone.specs.Opening.{Granted, server_of, grants_of, name_size, opened_zone}
use Rattle.peer_zone.specs.Words.{first_of, LaysRecords}
use Rattle.peer_zone.specs.Layout.{LaysBackup, LaysPeers}
use Rattle.peer_zone.specs.Lays.{head_of}

-- ---- blocks

-- no word changed but those of this block, and all blocks keep their lengths
pub record ChangesBlock (old new : Words) (at : ℕ) : Type 0 where
  pub lengths : (z : ℕ) → length (new z) ≡ length (old z)
  pub others : (z : ℕ) → z ≢ at → new z ≡ old z

-- each block that was live keeps its words
abbrev pub KeepsLive : Words → Words → Type 0
KeepsLive old new = (z : ℕ) → 0 < length (old z) → new z ≡ old z

-- a block of this size, which wasn't live, was granted
pub record GrantsBlock (old new : Image) (slab : Slab) (size at : ℕ) : Type 0 where
  pub block : (grant slab size).0 ≡ Some at
  pub laid : LaysPool new (grant slab size).1
  pub room : size ≤ 8 * length (block_words new at)
  pub fresh : block_words old at ≡ []
  pub others : (z : ℕ) → z ≢ at → block_words new z ≡ block_words old z

-- ---- the requests in their order

-- the first request that was given no block is for the record of this server
abbrev pub IsRefused : Granted → ℕ → Type 0
IsRefused g server = option_and_then server_of g.refused ≡ Some server

-- all requests were given blocks, none of which was live, and each block that was live keeps its words
pub record GrantsAll (old new : Image) (g : Granted) : Type 0 where
  pub all : g.refused ≡ None
  pub laid : LaysPool new g.slab
  pub fresh : (z : ℕ) → In z g.blocks → block_words old z ≡ []
  pub kept : KeepsLive (block_words old) (block_words new)

-- the blocks hold the records of these servers
pub record PlacesRecords (old new : Image) (g : Granted) (servers : List Server) (first : ℕ) : Type 0 where
  pub grants : GrantsAll old new g
  pub records : LaysRecords (block_words new) (map fresh_record servers) g.blocks
  pub first_is : first ≡ first_of g.blocks

-- the blocks hold the backup list of these servers, if there are any
pub record PlacesBackup (old new : Image) (g : Granted) (servers : List Server) (head : Option ℕ) : Type 0 where
  pub grants : GrantsAll old new g
  pub backup : LaysBackup (block_words new) (map fresh_record servers) g.blocks
  pub head_is : head ≡ head_of g.blocks

-- ---- the zone

-- all blocks of a zone are granted, and both lists of records are in theirs
pub record IsPlaced (image : Image) (spec : PeerSpec) (p : Placed) : Type 0 where
  pub all : (grants_of spec).refused ≡ None
  pub laid : LaysPool image (grants_of spec).slab
  pub records : List ℕ
  pub behind : List ℕ
  pub blocks_are : (grants_of spec).blocks ≡ p.context.at ∷ p.name.at ∷ p.list.at ∷ records ++ behind
  pub context_room : 8 ≤ length (block_words image p.context.at)
  pub name_room : name_size spec.name ≤ 8 * length (block_words image p.name.at)
  pub list_room : 8 ≤ length (block_words image p.list.at)
  pub first_is : p.first ≡ first_of records
  pub backup_is : p.backup ≡ head_of behind
  pub primary : LaysRecords (block_words image) (map fresh_record spec.primary) records
  pub backup : LaysBackup (block_words image) (map fresh_record spec.backup) behind

-- the words lay out the zone that was just opened, with these blocks that head its lists
pub record Begins (image : Image) (spec : PeerSpec) (p : Placed) : Type 0 where
  pub all : (grants_of spec).refused ≡ None
  pub words : LaysPeers image (opened_zone spec)
  pub primary_is : p.list.at ≡ words.list
  pub backup_is : p.backup ≡ head_of words.behind
