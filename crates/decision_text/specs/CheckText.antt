-- The text of `check`: what a configuration says of zones, upstreams and levels.
use Rattle.std.specs.Prelude.{ℕ, List, [], ◌∷◌, ◌++◌, length, slice_get, Option, None, Some, codes, decimal}
use Rattle.std.specs.List.{flat_map}
use Rattle.std.specs.Option.{option_and_then}
use Rattle.slab_model.specs.declared.shape.Shape.{Shape}
use Rattle.slab_model.specs.Geometry.{pages_of}
use Rattle.zone_config.specs.declared.data.ZoneSpec.{ZoneSpec}
use Rattle.zone_config.specs.declared.data.ZoneSpec.TheVariants.{Req, Conn, Peer}
use Rattle.zone_config.specs.declared.data.MethodData.{MethodData}
use Rattle.zone_config.specs.declared.data.MethodData.TheVariants.{Round, Least}
use Rattle.zone_config.specs.declared.data.Level.{Level}
use Rattle.zone_config.specs.declared.data.Upstream.{Upstream}
use Rattle.zone_config.specs.declared.data.Config.{Config}
use Rattle.zone_config.specs.Configuration.{zone_name}
use Rattle.decision_text.specs.Coding.{coded}

-- ---- zones

-- `zone NAME KIND bytes=B pages=P`
abbrev pub zone_words : List ℕ → List ℕ → ℕ → ℕ → List ℕ
zone_words name kind bytes page_shift =
    codes "zone " ++ coded name ++ kind ++ decimal bytes ++ codes " pages=" ++ decimal (pages_of (record { bytes = bytes; page_shift = page_shift })) ++ codes "\n"

-- the line of a zone, by its kind
abbrev pub zone_line : ZoneSpec → List ℕ
zone_line (Req spec key) = zone_words spec.name (codes " req bytes=") spec.bytes spec.page_shift
zone_line (Conn spec key) = zone_words spec.name (codes " conn bytes=") spec.bytes spec.page_shift
zone_line (Peer spec line) = zone_words spec.name (codes " peer bytes=") spec.bytes spec.page_shift

-- ---- upstreams

-- the word of a method
abbrev pub method_word : MethodData → List ℕ
method_word Round = codes "round"
method_word Least = codes "least"

-- a zone's name, or `-` where there is none
abbrev pub name_or_dash : Option ZoneSpec → List ℕ
name_or_dash None = codes "-"
name_or_dash (Some zone) = coded (zone_name zone)

-- the zone of this number
abbrev pub zone_numbered : List ZoneSpec → Option ℕ → Option ZoneSpec
zone_numbered zones number = option_and_then (slice_get zones) number

-- `upstream NAME primary=N backup=N method=M zone=Z`
abbrev pub upstream_line : List ZoneSpec → Upstream → List ℕ
upstream_line zones upstream =
    codes "upstream " ++ coded upstream.name ++ codes " primary=" ++ decimal upstream.primary ++ codes " backup=" ++ decimal upstream.backup
    ++ codes " method=" ++ method_word upstream.method ++ codes " zone=" ++ name_or_dash (zone_numbered zones upstream.zone) ++ codes "\n"

-- ---- levels

-- how many limits of each kind a level has, with those that it inherits
abbrev pub limits_words : Level → List ℕ
limits_words level = codes "req=" ++ decimal (length level.req) ++ codes " conn=" ++ decimal (length level.conn) ++ codes "\n"

-- `location NAME req=N conn=N`
abbrev pub location_line : Level → List ℕ
location_line level = codes "location " ++ coded level.name ++ codes " " ++ limits_words level

-- ---- the text

-- the text of a configuration: its zones, its upstreams and its levels
abbrev pub check_text : Config → List ℕ
check_text config =
    flat_map zone_line config.zones
    ++ flat_map (upstream_line config.zones) config.upstreams
    ++ codes "server " ++ limits_words config.server
    ++ flat_map location_line config.locations
    ++ codes "passed over " ++ decimal config.passed ++ codes "\n"
