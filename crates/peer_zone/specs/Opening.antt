-- How a zone is opened: the grants in their order, the first that gives none, and the state afterwards.
use Rattle.std.specs.Prelude.{◌≡◌, ℕ, ◌+◌, ◌<◌, ◌≤◌, List, [], ◌∷◌, ◌++◌, map, length, Option, Some, None, option_and_then}
use Rattle.std.specs.List.{All}
use Rattle.slab_model.specs.Geometry.{IsInLimits}
use Rattle.slab_model.specs.State.{Slab, fresh_slab}
use Rattle.slab_model.specs.Grant.{grant}
use Rattle.peer_zone.specs.declared.calls.Server.{Server}
use Rattle.peer_zone.specs.declared.calls.PeerSpec.{PeerSpec}
use Rattle.peer_zone.specs.declared.state.PeerState.{PeerState}
use Rattle.peer_zone.specs.Records.{fresh_record, servers_of}
use Rattle.peer_zone.specs.Object.{IsServer}

-- ---- the grants

-- a request for a block, and the number of the server whose record it is for; servers are counted from 0, primary ones first
pub record Request : Type 0 where
  pub size : ℕ
  pub server : Option ℕ

-- a block that is no server's record
abbrev pub besides : ℕ → Request
besides size = record { size = size; server = None }

-- the bytes of the context, and of the block that heads a list of records
abbrev pub context_size : ℕ
context_size = 64

-- the bytes of a list's head
abbrev pub list_size : ℕ
list_size = 64

-- the bytes of the block of a zone's name: the words " in upstream zone ", the name in quotes and a 0 byte
abbrev pub name_size : List ℕ → ℕ
name_size name = 21 + length name

-- the bytes of a server's record
abbrev pub record_size : Server → ℕ
record_size server = 104 + length server.address

-- the records of these servers, of which the first has this number
abbrev pub record_requests : ℕ → List Server → List Request
record_requests number [] = []
record_requests number (server ∷ servers) = record { size = record_size server; server = Some number } ∷ record_requests (number + 1) servers

-- the backup list and its records, where there are backups
abbrev pub backup_requests : ℕ → List Server → List Request
backup_requests number [] = []
backup_requests number (server ∷ servers) = besides list_size ∷ record_requests number (server ∷ servers)

-- all blocks of a zone, in the order of their grants
abbrev pub requests_of : PeerSpec → List Request
requests_of spec = besides context_size ∷ besides (name_size spec.name) ∷ besides list_size ∷ record_requests 0 spec.primary ++ backup_requests (length spec.primary) spec.backup

-- the blocks that were granted, the first request that was given none, and the slab afterwards
pub record Granted : Type 0 where
  pub blocks : List ℕ
  pub refused : Option Request
  pub slab : Slab

-- a request that was given this, before what the later ones were given
abbrev pub first_granted : Request → Slab → Option ℕ → Granted → Granted
first_granted request slab None later = record { blocks = []; refused = Some request; slab = slab }
first_granted request slab (Some at) later = record { blocks = at ∷ later.blocks; refused = later.refused; slab = later.slab }

-- the requests are granted in order, up to the first that is given none
abbrev pub grant_all : Slab → List Request → Granted
grant_all slab [] = record { blocks = []; refused = None; slab = slab }
grant_all slab (request ∷ requests) =
    let granted = grant slab request.size in
    first_granted request granted.1 granted.0 (grant_all granted.1 requests)

-- the fresh pool of a zone
abbrev pub pool_of : PeerSpec → Slab
pool_of spec = fresh_slab (record { bytes = spec.bytes; page_shift = spec.page_shift })

-- what a zone's blocks are given at its opening
abbrev pub grants_of : PeerSpec → Granted
grants_of spec = grant_all (pool_of spec) (requests_of spec)

-- the server for which a block is asked, if any
abbrev pub server_of : Request → Option ℕ
server_of request = request.server

-- the first server whose record is given no block
abbrev pub refused_server : PeerSpec → Option ℕ
refused_server spec = option_and_then server_of (grants_of spec).refused

-- ---- the state afterwards

-- a zone that was just opened
abbrev pub opened_zone : PeerSpec → PeerState
opened_zone spec = record {
  name = spec.name;
  method = spec.method;
  primary = map fresh_record spec.primary;
  backup = map fresh_record spec.backup;
  slab = (grants_of spec).slab;
  blocks = (grants_of spec).blocks;
}

-- what the zone was opened with
abbrev pub spec_of : PeerState → PeerSpec
spec_of s = record {
  name = s.name;
  bytes = s.slab.shape.bytes;
  page_shift = s.slab.shape.page_shift;
  method = s.method;
  primary = servers_of s.primary;
  backup = servers_of s.backup;
}

-- a zone can be opened with these: a name of 1 to 255 bytes, 1 to 64 primary and at most 64 backup servers, numbers in their ranges
pub record IsSpec (spec : PeerSpec) : Type 0 where
  pub name : (0 < length spec.name) × (length spec.name < 256)
  pub limits : IsInLimits (record { bytes = spec.bytes; page_shift = spec.page_shift })
  pub primary : All IsServer spec.primary
  pub backup : All IsServer spec.backup
  pub some : 0 < length spec.primary
  pub primary_few : length spec.primary ≤ 64
  pub backup_few : length spec.backup ≤ 64

-- a history begins where a zone was just opened, and every block was given
pub record IsOpened (s : PeerState) : Type 0 where
  pub spec : IsSpec (spec_of s)
  pub given : (grants_of (spec_of s)).refused ≡ None
  pub fresh : s ≡ opened_zone (spec_of s)
