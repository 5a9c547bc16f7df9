-- The configuration in which the made log is replayed.
use Rattle.std.specs.Prelude.{ℕ, true, false, List, [], ◌∷◌, Some, None, codes}
use Rattle.zone_key.specs.declared.expr.Expr.{Expr}
use Rattle.zone_key.specs.declared.expr.Part.TheVariants.{Binary}
use Rattle.zone_config.specs.declared.data.Config.{Config}
use Rattle.zone_config.specs.declared.data.ConnLimit.{ConnLimit}
use Rattle.zone_config.specs.declared.data.Level.{Level}
use Rattle.zone_config.specs.declared.data.MethodData.TheVariants.{Round}
use Rattle.zone_config.specs.declared.data.PeerData.{PeerData}
use Rattle.zone_config.specs.declared.data.ReqLimit.{ReqLimit}
use Rattle.zone_config.specs.declared.data.ServerData.{ServerData}
use Rattle.zone_config.specs.declared.data.Upstream.{Upstream}
use Rattle.zone_config.specs.declared.data.ZoneSpec.{ZoneSpec}
use Rattle.zone_config.specs.declared.data.ZoneSpec.TheVariants.{Req, Conn, Peer}

-- ---- zones

-- each zone has a mebibyte
abbrev pub zone_bytes : ℕ
zone_bytes = 1048576

-- the key `$binary_remote_addr`
abbrev pub by_address : Expr
by_address = record { parts = Binary ∷ [] }

-- `limit_req_zone $binary_remote_addr zone=one:1m rate=1r/s`
abbrev pub one_zone : ZoneSpec
one_zone = Req (record { name = codes "one"; bytes = zone_bytes; page_shift = 12; rate = 1000 }) by_address

-- `limit_conn_zone $binary_remote_addr zone=addr:1m`
abbrev pub addr_zone : ZoneSpec
addr_zone = Conn (record { name = codes "addr"; bytes = zone_bytes; page_shift = 12 }) by_address

-- `server ADDRESS weight=WEIGHT`
abbrev pub server : List ℕ → ℕ → ServerData
server address weight = record { address = address; weight = weight; max_conns = 0; max_fails = 1; fail_timeout = 10; down = false }

-- the zone of `upstream back`, `zone back 1m`, and its servers
abbrev pub back_data : PeerData
back_data = record {
  name = codes "back";
  bytes = zone_bytes;
  page_shift = 12;
  method = Round;
  primary = server (codes "10.1.0.1:80") 5 ∷ server (codes "10.1.0.2:80") 1 ∷ [];
  backup = server (codes "10.1.0.3:80") 1 ∷ [];
}

-- the three zones, in this order
abbrev pub made_zones : List ZoneSpec
made_zones = one_zone ∷ addr_zone ∷ Peer back_data 5 ∷ []

-- ---- levels

-- the upstream `back`: two servers and a spare one, in turn by weight
abbrev pub back_upstream : Upstream
back_upstream = record { name = codes "back"; primary = 2; backup = 1; method = Round; zone = Some 2 }

-- the server has no limits of its own
abbrev pub made_server : Level
made_server = record { name = []; req = []; conn = []; req_status = 503; conn_status = 503; req_dry = false; conn_dry = false; peers = None }

-- `limit_req zone=one burst=3`
abbrev pub one_limit : ReqLimit
one_limit = record { zone = 0; burst = 3000; allowed_never = false; delay = 0 }

-- `limit_conn addr 4`
abbrev pub addr_limit : ConnLimit
addr_limit = record { zone = 1; limit = 4 }

-- `location /`, with both limits and `proxy_pass http://back`
abbrev pub made_location : Level
made_location = record { name = codes "/"; req = one_limit ∷ []; conn = addr_limit ∷ []; req_status = 503; conn_status = 503; req_dry = false; conn_dry = false; peers = Some 2 }

-- The configuration: three zones, an upstream, the server and one location.
abbrev pub made_config : Config
made_config = record { zones = made_zones; upstreams = back_upstream ∷ []; server = made_server; locations = made_location ∷ []; passed = 0 }
