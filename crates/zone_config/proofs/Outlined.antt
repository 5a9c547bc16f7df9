-- What is built of an outline is what all places give.
use Rattle.std.proofs.Common.{◌≡◌, List, [], ◌∷◌, Option, None, Some, map, is_some, cond, refl, sym, ◌∙◌, ap}
use Rattle.std.specs.Option.{option_map}
use Rattle.std.specs.List.{cons_option, filter_map}
use Rattle.directive_text.specs.declared.tree.Directive.{Directive}
use Rattle.config_rules.specs.declared.kind.Kind.{Kind}
use Rattle.config_rules.specs.declared.kind.Kind.TheVariants.{Server, Upstream as UpstreamKind, Location}
use Rattle.zone_config.specs.declared.data.ZoneSpec.{ZoneSpec}
use Rattle.zone_config.specs.declared.data.Upstream.{Upstream}
use Rattle.config_rules.specs.InOrder.{Place, kind_at}
use Rattle.zone_config.specs.Configuration.{level_of, location_at, server_among, server_at, server_if, upstream_at, upstream_of, upstreams_of}
use Rattle.zone_config.specs.Outline.{if_upstream, level_places, upstream_directives}

map_ahead : {X Y : Type 0} (g : X → Y) (o : Option X) (xs : List X) → map g (cons_option o xs) ≡ cons_option (option_map g o) (map g xs)
map_ahead g None xs = refl
map_ahead g (Some x) xs = refl

upstream_here : (zones : List ZoneSpec) (k : Kind) (d : Directive) →
    option_map (upstream_of zones) (elim k [ UpstreamKind ↦ Some d | _ ↦ None ]) ≡ elim k [ UpstreamKind ↦ Some (upstream_of zones d) | _ ↦ None ]
upstream_here zones UpstreamKind d = refl
upstream_here zones _ d = refl

-- the upstreams are those of the upstreams' directives
pub outlined_upstreams : (zones : List ZoneSpec) (ps : List Place) → map (upstream_of zones) (upstream_directives ps) ≡ upstreams_of zones ps
outlined_upstreams zones [] = refl
outlined_upstreams zones (p ∷ ps) =
    map_ahead (upstream_of zones) (if_upstream p) (upstream_directives ps)
    ∙ ap (λ o. cons_option o (map (upstream_of zones) (upstream_directives ps))) (upstream_here zones (kind_at p) p.directive)
    ∙ ap (cons_option (upstream_at zones p)) (outlined_upstreams zones ps)

-- a place that is no level's has no location
location_here : (zones : List ZoneSpec) (upstreams : List Upstream) (p : Place) (ps : List Place) (k : Kind) → kind_at p ≡ k →
    filter_map (location_at zones upstreams) (cons_option (elim k [ Server ↦ Some p | Location ↦ Some p | _ ↦ None ]) ps)
    ≡ cons_option (location_at zones upstreams p) (filter_map (location_at zones upstreams) ps)
location_here zones upstreams p ps Server is = refl
location_here zones upstreams p ps Location is = refl
location_here zones upstreams p ps _ is =
    sym (ap (λ (k : Kind). cons_option (elim k [ Location ↦ Some (level_of zones upstreams p) | _ ↦ None ]) (filter_map (location_at zones upstreams) ps)) is)

-- the locations are those of the levels' places
pub outlined_locations : (zones : List ZoneSpec) (upstreams : List Upstream) (ps : List Place) →
    filter_map (location_at zones upstreams) (level_places ps) ≡ filter_map (location_at zones upstreams) ps
outlined_locations zones upstreams [] = refl
outlined_locations zones upstreams (p ∷ ps) =
    location_here zones upstreams p (level_places ps) (kind_at p) refl
    ∙ ap (cons_option (location_at zones upstreams p)) (outlined_locations zones upstreams ps)

-- a place that is no level's has no server
server_here : (zones : List ZoneSpec) (upstreams : List Upstream) (p : Place) (ps : List Place) (k : Kind) → kind_at p ≡ k →
    server_among zones upstreams (cons_option (elim k [ Server ↦ Some p | Location ↦ Some p | _ ↦ None ]) ps)
    ≡ cond (is_some (server_at zones upstreams p)) (server_at zones upstreams p) (server_among zones upstreams ps)
server_here zones upstreams p ps Server is = refl
server_here zones upstreams p ps Location is = refl
server_here zones upstreams p ps _ is =
    sym (ap (λ (k : Kind). cond (is_some (server_if k (level_of zones upstreams p))) (server_if k (level_of zones upstreams p)) (server_among zones upstreams ps)) is)

-- the server is that of the levels' places
pub outlined_server : (zones : List ZoneSpec) (upstreams : List Upstream) (ps : List Place) →
    server_among zones upstreams (level_places ps) ≡ server_among zones upstreams ps
outlined_server zones upstreams [] = refl
outlined_server zones upstreams (p ∷ ps) =
    server_here zones upstreams p (level_places ps) (kind_at p) refl
    ∙ ap (cond (is_some (server_at zones upstreams p)) (server_at zones upstreams p)) (outlined_server zones upstreams ps)
