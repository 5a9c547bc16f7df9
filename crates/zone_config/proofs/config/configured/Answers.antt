use Rattle.std.proofs.Common.{List, map, sym, ◌∙◌, ap}
use Rattle.std.specs.List.{filter_map}
use Rattle.zone_config.specs.declared.data.ZoneSpec.{ZoneSpec}
use Rattle.zone_config.specs.declared.data.Upstream.{Upstream}
use Rattle.config_rules.specs.InOrder.{places_of}
use Rattle.config_rules.specs.Views.{place_now}
use Rattle.zone_config.specs.Configuration.{location_at, server_among, upstream_of, upstreams_of}
use Rattle.zone_config.proofs.Outlined.{outlined_locations, outlined_server, outlined_upstreams}
use Rattle.zone_config.proofs.config.configured.Goals as goal

pub returns-in-Some : goal.returns-in-Some
returns-in-Some c =
    let places = places_of c.args.directives.now in
    let zones = c.in_ok-outline.outline.zones in
    let upstreams = c.in_ok-upstreams.upstreams in
    let found = c.in_ok-outline.ensures in
    record {
      zones = found.zones;
      upstreams = c.in_ok-upstreams.ensures
          ∙ ap (λ (zs : List ZoneSpec). map (upstream_of zs) (map (λ d. d.now) c.deref.result.now)) c.as_slice.ensures
          ∙ ap (λ ds. map (upstream_of zones) (map (λ d. d.now) ds)) c.deref.ensures.value
          ∙ ap (map (upstream_of zones)) found.upstreams
          ∙ outlined_upstreams zones places;
      server = sym (outlined_server zones upstreams places)
          ∙ ap (server_among zones upstreams) (sym found.levels)
          ∙ ap (λ ps. server_among zones upstreams (map place_now ps)) (sym c.deref-2.ensures.value)
          ∙ ap (λ (us : List Upstream). server_among zones us (map place_now c.deref-2.result.now)) (sym c.as_slice-3.ensures)
          ∙ ap (λ (zs : List ZoneSpec). server_among zs c.as_slice-3.result.now (map place_now c.deref-2.result.now)) (sym c.as_slice-2.ensures)
          ∙ sym c.in_ok-server.ensures.0
          ∙ c.in-Some.is;
      locations = c.in_ok-server.ensures.1
          ∙ ap (λ (zs : List ZoneSpec). filter_map (location_at zs c.as_slice-3.result.now) (map place_now c.deref-2.result.now)) c.as_slice-2.ensures
          ∙ ap (λ (us : List Upstream). filter_map (location_at zones us) (map place_now c.deref-2.result.now)) c.as_slice-3.ensures
          ∙ ap (λ ps. filter_map (location_at zones upstreams) (map place_now ps)) c.deref-2.ensures.value
          ∙ ap (filter_map (location_at zones upstreams)) found.levels
          ∙ outlined_locations zones upstreams places;
      passed = found.passed;
    }

pub returns-in-None : goal.returns-in-None
returns-in-None c =
    let places = places_of c.args.directives.now in
    let zones = c.in_ok-outline.outline.zones in
    let upstreams = c.in_ok-upstreams.upstreams in
    let found = c.in_ok-outline.ensures in
    let built = c.in_ok-upstreams.ensures
    ∙ ap (λ (zs : List ZoneSpec). map (upstream_of zs) (map (λ d. d.now) c.deref.result.now)) c.as_slice.ensures
    ∙ ap (λ ds. map (upstream_of zones) (map (λ d. d.now) ds)) c.deref.ensures.value
    ∙ ap (map (upstream_of zones)) found.upstreams
    ∙ outlined_upstreams zones places in
    ap (λ (zs : List ZoneSpec). server_among zs (upstreams_of zs places) places) (sym found.zones)
    ∙ ap (λ (us : List Upstream). server_among zones us places) (sym built)
    ∙ sym (outlined_server zones upstreams places)
    ∙ ap (server_among zones upstreams) (sym found.levels)
    ∙ ap (λ ps. server_among zones upstreams (map place_now ps)) (sym c.deref-2.ensures.value)
    ∙ ap (λ (us : List Upstream). server_among zones us (map place_now c.deref-2.result.now)) (sym c.as_slice-3.ensures)
    ∙ ap (λ (zs : List ZoneSpec). server_among zs c.as_slice-3.result.now (map place_now c.deref-2.result.now)) (sym c.as_slice-2.ensures)
    ∙ sym c.in_ok-server.ensures.0
    ∙ c.in-None.is
