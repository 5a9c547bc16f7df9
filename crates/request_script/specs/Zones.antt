-- What a configuration says of its zones, by number.
use Rattle.std.specs.Prelude.{ℕ, ◌+◌, Bool, not, ◌&&◌, ◌||◌, nat_eq, nat_lt, List, [], length, count_by, slice_get, Option, Some, None, unwrap_or}
use Rattle.zone_key.specs.declared.expr.Part.{Part}
use Rattle.zone_key.specs.declared.vars.Vars.{Vars}
use Rattle.zone_key.specs.Value.{value_of}
use Rattle.zone_config.specs.declared.data.Config.{Config}
use Rattle.zone_config.specs.declared.data.Level.{Level}
use Rattle.zone_config.specs.declared.data.ServerData.{ServerData}
use Rattle.zone_config.specs.declared.data.ZoneSpec.{ZoneSpec}
use Rattle.zone_config.specs.declared.data.ZoneSpec.TheVariants.{Req, Conn, Peer}

-- the key expression of a zone
abbrev pub key_parts : Option ZoneSpec → List Part
key_parts (Some (Req spec key)) = key.parts
key_parts (Some (Conn spec key)) = key.parts
key_parts _ = []

-- the rate of a request zone; another zone has none, and 1 stands for it
abbrev pub rate_in : Option ZoneSpec → ℕ
rate_in (Some (Req spec key)) = spec.rate
rate_in _ = 1

-- the servers of an upstream zone that are asked first, and those of backup
abbrev pub primary_in : Option ZoneSpec → List ServerData
primary_in (Some (Peer spec line)) = spec.primary
primary_in _ = []

-- the servers of the second list
abbrev pub backup_in : Option ZoneSpec → List ServerData
backup_in (Some (Peer spec line)) = spec.backup
backup_in _ = []

-- a server that isn't down
abbrev pub is_up : ServerData → Bool
is_up server = not server.down

module _ (config : Config) where
  -- the key of a request in a zone
  abbrev pub key_of : Vars → ℕ → List ℕ
  key_of vars zone = value_of (key_parts (slice_get config.zones zone)) vars

  -- the rate of a zone
  abbrev pub rate_of : ℕ → ℕ
  rate_of zone = rate_in (slice_get config.zones zone)

  -- whether an upstream has backup servers
  abbrev pub has_backups : ℕ → Bool
  has_backups zone = nat_lt 0 (length (backup_in (slice_get config.zones zone)))

  -- whether an upstream has exactly one server and no backup
  abbrev pub is_single : ℕ → Bool
  is_single zone = nat_eq (length (primary_in (slice_get config.zones zone))) 1 && not (has_backups zone)

  -- how many servers of both lists aren't down
  abbrev pub servers_up : ℕ → ℕ
  servers_up zone = count_by is_up (primary_in (slice_get config.zones zone)) + count_by is_up (backup_in (slice_get config.zones zone))

  -- the server, or the location of a number
  abbrev pub level_at : Option ℕ → Level
  level_at None = config.server
  level_at (Some location) = unwrap_or (slice_get config.locations location) config.server

-- a key that a zone doesn't take: an empty one, and one of more bytes than its nodes have
abbrev pub is_skipped : ℕ → List ℕ → Bool
is_skipped most key = nat_eq (length key) 0 || nat_lt most (length key)
