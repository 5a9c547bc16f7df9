-- The conditions that each configuration of a text meets.
use Rattle.std.specs.Prelude.{ℕ, ◌≡◌, ◌≢◌, ◌≤◌, List, Option, Some, IfSome, length, slice_get}
use Rattle.std.specs.List.{All, AllPairs, sum_by}
use Rattle.zone_key.specs.Printing.{IsExpr}
use Rattle.zone_config.specs.declared.data.ZoneSpec.{ZoneSpec}
use Rattle.zone_config.specs.declared.data.ZoneSpec.TheVariants.{Req, Conn, Peer}
use Rattle.zone_config.specs.declared.data.PeerData.{PeerData}
use Rattle.zone_config.specs.declared.data.ServerData.{ServerData}
use Rattle.zone_config.specs.declared.data.ReqLimit.{ReqLimit}
use Rattle.zone_config.specs.declared.data.ConnLimit.{ConnLimit}
use Rattle.zone_config.specs.declared.data.Level.{Level}
use Rattle.zone_config.specs.declared.data.Upstream.{Upstream}
use Rattle.zone_config.specs.declared.data.Config.{Config}
use Rattle.zone_config.specs.Configuration.{zone_name}

-- a number from `low` to `most`
abbrev pub IsWithin : ℕ → ℕ → ℕ → Type 0
IsWithin low most n = (low ≤ n) × (n ≤ most)

-- what each zone has: a name of 1 to 255 bytes, its bytes, and a page's shift
pub record IsZone (name : List ℕ) (bytes page_shift : ℕ) : Type 0 where
  pub name_within : IsWithin 1 255 (length name)
  pub bytes_within : IsWithin 32768 67108864 bytes
  pub shift : page_shift ≡ 12

-- a server of an upstream
pub record IsServer (s : ServerData) : Type 0 where
  pub address : IsWithin 1 255 (length s.address)
  pub weight : IsWithin 1 65535 s.weight
  pub max_conns : s.max_conns ≤ 1000000000
  pub max_fails : s.max_fails ≤ 1000000000
  pub fail_timeout : s.fail_timeout ≤ 31536000

-- 1 to 64 primary servers and at most 64 of backup
pub record HasServers (p : PeerData) : Type 0 where
  pub primary_count : IsWithin 1 64 (length p.primary)
  pub backup_count : length p.backup ≤ 64
  pub primary_servers : All IsServer p.primary
  pub backup_servers : All IsServer p.backup

-- a zone in its limits, but for an upstream's servers
abbrev pub IsZoneSpec : ZoneSpec → Type 0
IsZoneSpec (Req spec key) = IsZone spec.name spec.bytes spec.page_shift × IsWithin 1 1000000000 spec.rate × IsExpr key.parts
IsZoneSpec (Conn spec key) = IsZone spec.name spec.bytes spec.page_shift × IsExpr key.parts
IsZoneSpec (Peer spec line) = IsZone spec.name spec.bytes spec.page_shift

-- a zone with its servers, if it is an upstream's
abbrev pub HasOwnServers : ZoneSpec → Type 0
HasOwnServers (Req spec key) = Unit {0}
HasOwnServers (Conn spec key) = Unit {0}
HasOwnServers (Peer spec line) = HasServers spec

-- the bytes of a zone
abbrev pub zone_bytes : ZoneSpec → ℕ
zone_bytes (Req spec key) = spec.bytes
zone_bytes (Conn spec key) = spec.bytes
zone_bytes (Peer spec line) = spec.bytes

-- the zone of this number is there, and of this kind
abbrev pub IsReqZone : Option ZoneSpec → Type 0
IsReqZone (Some (Req spec key)) = Unit {0}
IsReqZone _ = ⊥

-- a connection zone
abbrev pub IsConnZone : Option ZoneSpec → Type 0
IsConnZone (Some (Conn spec key)) = Unit {0}
IsConnZone _ = ⊥

-- the zone of this number is an upstream's, with this many servers
abbrev pub IsPeerZone : ℕ → ℕ → Option ZoneSpec → Type 0
IsPeerZone primary backup (Some (Peer spec line)) = (primary ≡ length spec.primary) × (backup ≡ length spec.backup)
IsPeerZone primary backup _ = ⊥

-- the zone of this number is an upstream's
abbrev pub IsSomePeerZone : Option ZoneSpec → Type 0
IsSomePeerZone (Some (Peer spec line)) = Unit {0}
IsSomePeerZone _ = ⊥

-- a limit of requests: its zone is a request zone
pub record IsReqLimit (zones : List ZoneSpec) (l : ReqLimit) : Type 0 where
  pub zone : IsReqZone (slice_get zones l.zone)
  pub burst : l.burst ≤ 1000000000
  pub delay : l.delay ≤ 1000000000

-- a limit of connections: its zone is a connection zone
pub record IsConnLimit (zones : List ZoneSpec) (l : ConnLimit) : Type 0 where
  pub zone : IsConnZone (slice_get zones l.zone)
  pub limit : IsWithin 1 65535 l.limit

-- A level: at most 8 limits of each kind, no zone twice in a list, statuses from 400 to 599, and peers
-- that are an upstream zone.
pub record IsLevel (zones : List ZoneSpec) (l : Level) : Type 0 where
  pub req_count : length l.req ≤ 8
  pub conn_count : length l.conn ≤ 8
  pub req : All (IsReqLimit zones) l.req
  pub conn : All (IsConnLimit zones) l.conn
  pub req_once : AllPairs (λ (a b : ReqLimit). a.zone ≢ b.zone) l.req
  pub conn_once : AllPairs (λ (a b : ConnLimit). a.zone ≢ b.zone) l.conn
  pub req_status : IsWithin 400 599 l.req_status
  pub conn_status : IsWithin 400 599 l.conn_status
  pub peers : IfSome l.peers (λ zone. IsSomePeerZone (slice_get zones zone))

-- an upstream: its zone, if it has one, is an upstream zone with as many servers
pub record IsUpstream (zones : List ZoneSpec) (u : Upstream) : Type 0 where
  pub zone : IfSome u.zone (λ zone. IsPeerZone u.primary u.backup (slice_get zones zone))
  pub primary : IsWithin 1 64 u.primary
  pub backup : u.backup ≤ 64

-- At most 16 zones, each in its limits, that together have at most 268,435,456 bytes, and no name twice.
pub record AreZones (zones : List ZoneSpec) : Type 0 where
  pub count : length zones ≤ 16
  pub each : All IsZoneSpec zones
  pub all_bytes : sum_by zone_bytes zones ≤ 268435456
  pub names : AllPairs (λ a b. zone_name a ≢ zone_name b) zones

-- At most 64 locations, and no name twice.
pub record AreLocations (locations : List Level) : Type 0 where
  pub count : length locations ≤ 64
  pub names : AllPairs (λ (a b : Level). a.name ≢ b.name) locations

-- a configuration: what each call that takes one may rest on
pub record IsConfig (c : Config) : Type 0 where
  pub zones : AreZones c.zones
  pub servers : All HasOwnServers c.zones
  pub upstreams : All (IsUpstream c.zones) c.upstreams
  pub server : IsLevel c.zones c.server
  pub locations : AreLocations c.locations
  pub levels : All (IsLevel c.zones) c.locations
