-- The configuration that a tree without faults gives, with inheritance done.
use Rattle.std.specs.Prelude.{ℕ, ◌≡◌, ◌*◌, Bool, true, false, ◌&&◌, List, [], ◌∷◌, Option, None, Some, map, min, codes, is_some, unwrap_or, if◌then◌else◌}
use Rattle.std.specs.Option.{option_map, option_and_then}
use Rattle.std.specs.List.{filter, filter_map, find, position, list_any, count_by}
use Rattle.zone_key.specs.Expr.{is_same, expr_of}
use Rattle.directive_text.specs.declared.tree.Directive.{Directive}
use Rattle.config_rules.specs.declared.kind.Kind.{Kind}
use Rattle.config_rules.specs.declared.kind.Kind.TheVariants.{Unnamed, Server, Upstream, Location, ReqZone, ConnZone, PeerZone}
use Rattle.zone_config.specs.declared.data.ZoneSpec.{ZoneSpec}
use Rattle.zone_config.specs.declared.data.ZoneSpec.TheVariants.{Req, Conn, Peer}
use Rattle.zone_config.specs.declared.data.ServerData.{ServerData}
use Rattle.zone_config.specs.declared.data.MethodData.{MethodData}
use Rattle.zone_config.specs.declared.data.MethodData.TheVariants.{Round, Least}
use Rattle.zone_config.specs.declared.data.ReqLimit.{ReqLimit}
use Rattle.zone_config.specs.declared.data.ConnLimit.{ConnLimit}
use Rattle.zone_config.specs.declared.data.Level.{Level}
use Rattle.zone_config.specs.declared.data.Upstream.{Upstream as UpstreamData}
use Rattle.zone_config.specs.declared.data.Config.{Config}
use Rattle.config_rules.specs.Words.{first_of, behind_first, arguments_of, line_of, inner_of, is_called, has_called, value_of, parameter, declared_by, Declared, is_same_name, host_of}
use Rattle.config_rules.specs.Numbers.{digits_of, rate_of, time_of}
use Rattle.config_rules.specs.InOrder.{Place, Sources, inherited, kind_at}
use Rattle.config_rules.specs.Rules.{is_backup, is_primary, location_name, bytes_or_none}

-- a number of at most 2^30, and 0 where there is none
abbrev pub value_of_number : List ℕ → ℕ
value_of_number w = unwrap_or (digits_of 1073741823 w) 0

-- the number behind a prefix, or one that holds where it isn't given
abbrev pub number_or : List ℕ → ℕ → List (List ℕ) → ℕ
number_or prefix default words = unwrap_or (option_map value_of_number (parameter prefix words)) default

-- the name and the size of the zone that a directive of http declares
abbrev pub declared_or_none : List (List ℕ) → Declared
declared_or_none words = unwrap_or (declared_by words) (record { name = []; size = [] })

-- a request zone
abbrev pub req_zone : List (List ℕ) → ZoneSpec
req_zone words =
    Req (record {
      name = (declared_or_none (behind_first words)).name;
      bytes = bytes_or_none (Some (declared_or_none (behind_first words)).size);
      page_shift = 12;
      rate = unwrap_or (option_and_then rate_of (parameter (codes "rate=") (behind_first words))) 0;
    }) (record { parts = unwrap_or (expr_of (first_of words)) [] })

-- a connection zone
abbrev pub conn_zone : List (List ℕ) → ZoneSpec
conn_zone words =
    Conn (record {
      name = (declared_or_none (behind_first words)).name;
      bytes = bytes_or_none (Some (declared_or_none (behind_first words)).size);
      page_shift = 12;
    }) (record { parts = unwrap_or (expr_of (first_of words)) [] })

-- the word that takes a server out
abbrev pub is_down_word : List ℕ → Bool
is_down_word w = is_same w (codes "down")

-- a server of an upstream
abbrev pub server_of : Directive → ServerData
server_of d =
    let words = behind_first (arguments_of d) in
    record {
      address = first_of (arguments_of d);
      weight = number_or (codes "weight=") 1 words;
      max_conns = number_or (codes "max_conns=") 0 words;
      max_fails = number_or (codes "max_fails=") 1 words;
      fail_timeout = unwrap_or (option_and_then time_of (parameter (codes "fail_timeout=") words)) 10;
      down = list_any is_down_word words;
    }

-- a server of the backup list
abbrev pub is_backup_server : Directive → Bool
is_backup_server d = is_called (codes "server") d && is_backup d

-- the method of an upstream's block
abbrev pub method_of : List Directive → MethodData
method_of block = if has_called (codes "least_conn") block then Least else Round

-- the zone of an upstream, whose block this is
abbrev pub peer_zone : List (List ℕ) → ℕ → List Directive → ZoneSpec
peer_zone words line block =
    Peer (record {
      name = first_of words;
      bytes = bytes_or_none (Some (first_of (behind_first words)));
      page_shift = 12;
      method = method_of block;
      primary = map server_of (filter is_primary block);
      backup = map server_of (filter is_backup_server block);
    }) line

-- the zone that a place declares
abbrev pub zone_at : Place → Option ZoneSpec
zone_at p =
    elim (kind_at p) [
      | ReqZone ↦ Some (req_zone (arguments_of p.directive))
      | ConnZone ↦ Some (conn_zone (arguments_of p.directive))
      | PeerZone ↦ Some (peer_zone (arguments_of p.directive) (line_of p.directive) p.scope.block)
      | _ ↦ None
    ]

-- the zones, in the order of their directives
abbrev pub zones_of : List Place → List ZoneSpec
zones_of places = filter_map zone_at places

-- a zone's name
abbrev pub zone_name : ZoneSpec → List ℕ
zone_name (Req spec key) = spec.name
zone_name (Conn spec key) = spec.name
zone_name (Peer spec line) = spec.name

-- a count in 32 bits: it stands still at the greatest of them
abbrev pub in_32_bits : ℕ → ℕ
in_32_bits n = min n 4294967295

-- whether a zone has this name
abbrev pub is_zone_called : List ℕ → ZoneSpec → Bool
is_zone_called name zone = is_same (zone_name zone) name

-- the number of the zone of a name
abbrev pub zone_number : List ZoneSpec → List ℕ → Option ℕ
zone_number zones name = option_map in_32_bits (position (is_zone_called name) zones)

-- the first directive of a name
abbrev pub arguments_called : List ℕ → List Directive → Option (List (List ℕ))
arguments_called name block = option_map arguments_of (find (is_called name) block)

-- the number of the zone that an upstream's block names
abbrev pub own_zone : List ZoneSpec → List Directive → Option ℕ
own_zone zones block = option_and_then (λ words. zone_number zones (first_of words)) (arguments_called (codes "zone") block)

-- an upstream
abbrev pub upstream_of : List ZoneSpec → Directive → UpstreamData
upstream_of zones d = record {
  name = first_of (arguments_of d);
  primary = in_32_bits (count_by is_primary (inner_of d));
  backup = in_32_bits (count_by is_backup_server (inner_of d));
  method = method_of (inner_of d);
  zone = own_zone zones (inner_of d);
}

-- the upstream that a place declares
abbrev pub upstream_at : List ZoneSpec → Place → Option UpstreamData
upstream_at zones p = elim (kind_at p) [ Upstream ↦ Some (upstream_of zones p.directive) | _ ↦ None ]

-- the upstreams, in the order of their directives
abbrev pub upstreams_of : List ZoneSpec → List Place → List UpstreamData
upstreams_of zones places = filter_map (upstream_at zones) places

-- what counts of `delay=N` and `nodelay`
pub record Delay : Type 0 where
  pub never : Bool
  pub delay : ℕ

-- what counts behind another word
abbrev pub delay_with : Delay → List ℕ → Delay
delay_with d w =
    if is_same w (codes "nodelay") then record { never = true; delay = 0 }
    else elim (value_of (codes "delay=") w) [ Some v ↦ record { never = false; delay = value_of_number v } | None ↦ d ]

-- each word that speaks of delays holds until a later one
abbrev pub delay_behind : Delay → List (List ℕ) → Delay
delay_behind d [] = d
delay_behind d (w ∷ ws) = delay_behind (delay_with d w) ws

-- without either word no excess is let through without delay
abbrev pub delay_of : List (List ℕ) → Delay
delay_of words = delay_behind (record { never = false; delay = 0 }) words

-- a limit of requests, its burst and its delay in thousandths
abbrev pub req_limit : List ZoneSpec → Directive → ReqLimit
req_limit zones d = record {
  zone = unwrap_or (option_and_then (zone_number zones) (parameter (codes "zone=") (arguments_of d))) 0;
  burst = 1000 * number_or (codes "burst=") 0 (arguments_of d);
  allowed_never = (delay_of (arguments_of d)).never;
  delay = 1000 * (delay_of (arguments_of d)).delay;
}

-- a limit of connections
abbrev pub conn_limit : List ZoneSpec → Directive → ConnLimit
conn_limit zones d = record {
  zone = unwrap_or (zone_number zones (first_of (arguments_of d))) 0;
  limit = value_of_number (first_of (behind_first (arguments_of d)));
}

-- a status: that of the directive of this name, or 503
abbrev pub status_of : List ℕ → List Directive → ℕ
status_of name source = unwrap_or (option_map (λ words. value_of_number (first_of words)) (arguments_called name source)) 503

-- a switch: on where the directive of this name says so
abbrev pub switch_of : List ℕ → List Directive → Bool
switch_of name source = unwrap_or (option_map (λ words. is_same (first_of words) (codes "on")) (arguments_called name source)) false

-- whether an upstream has this name, without regard to the case of ASCII letters
abbrev pub is_upstream_called : List ℕ → UpstreamData → Bool
is_upstream_called name u = is_same_name u.name name

-- the zone of the upstream of a name
abbrev pub peers_named : List UpstreamData → List ℕ → Option ℕ
peers_named upstreams name = option_and_then (λ (u : UpstreamData). u.zone) (find (is_upstream_called name) upstreams)

-- the zone of the upstream to which a block passes its requests
abbrev pub peers_of : List UpstreamData → List Directive → Option ℕ
peers_of upstreams block =
    option_and_then (peers_named upstreams)
    (option_and_then (λ words. host_of (first_of words)) (arguments_called (codes "proxy_pass") block))

-- a level of these sources
abbrev pub level_from : List ZoneSpec → List UpstreamData → Directive → Sources → Level
level_from zones upstreams d s = record {
  name = location_name (arguments_of d);
  req = map (req_limit zones) (filter (is_called (codes "limit_req")) s.req);
  conn = map (conn_limit zones) (filter (is_called (codes "limit_conn")) s.conn);
  req_status = status_of (codes "limit_req_status") s.req_status;
  conn_status = status_of (codes "limit_conn_status") s.conn_status;
  req_dry = switch_of (codes "limit_req_dry_run") s.req_dry;
  conn_dry = switch_of (codes "limit_conn_dry_run") s.conn_dry;
  peers = peers_of upstreams (inner_of d);
}

-- the level of a server or a location
abbrev pub level_of : List ZoneSpec → List UpstreamData → Place → Level
level_of zones upstreams p = level_from zones upstreams p.directive (inherited (inner_of p.directive) p.scope.sources)

-- the level that a place declares, if it is a location
abbrev pub location_at : List ZoneSpec → List UpstreamData → Place → Option Level
location_at zones upstreams p = elim (kind_at p) [ Location ↦ Some (level_of zones upstreams p) | _ ↦ None ]

-- a level, if it is a server's
abbrev pub server_if : Kind → Level → Option Level
server_if Server level = Some level
server_if _ level = None

-- the level that a place declares, if it is the server
abbrev pub server_at : List ZoneSpec → List UpstreamData → Place → Option Level
server_at zones upstreams p = server_if (kind_at p) (level_of zones upstreams p)

-- the first level of a server
abbrev pub server_among : List ZoneSpec → List UpstreamData → List Place → Option Level
server_among zones upstreams [] = None
server_among zones upstreams (p ∷ ps) = if is_some (server_at zones upstreams p) then server_at zones upstreams p else server_among zones upstreams ps

-- a count in 64 bits
abbrev pub in_64_bits : ℕ → ℕ
in_64_bits n = min n 18446744073709551615

-- whether a place is passed over
abbrev pub is_passed : Place → Bool
is_passed p = elim (kind_at p) [ Unnamed ↦ true | _ ↦ false ]

-- how many of these places are passed over
abbrev pub passed_among : List Place → ℕ
passed_among places = in_64_bits (count_by is_passed places)

-- The configuration of these places. It has no server only where they have none.
pub record Configures (places : List Place) (config : Config) : Type 0 where
  pub zones : config.zones ≡ zones_of places
  pub upstreams : config.upstreams ≡ upstreams_of config.zones places
  pub server : server_among config.zones config.upstreams places ≡ Some config.server
  pub locations : config.locations ≡ filter_map (location_at config.zones config.upstreams) places
  pub passed : config.passed ≡ passed_among places
