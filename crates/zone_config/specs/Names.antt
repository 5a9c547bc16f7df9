-- Upstreams that are looked up by name.
use Rattle.std.specs.Prelude.{ℕ, ◌≡◌, List, Option, Vec}
use Rattle.std.specs.Option.{option_and_then}
use Rattle.std.specs.Ordering.{nat_cmp}
use Rattle.std.specs.Cmp.Lexicographic.{slice_cmp}
use Rattle.std.specs.Str.{str_to_ascii_lowercase}
use Rattle.std.specs.BTreeMap.{BTreeMap, get_by}
use Rattle.zone_config.specs.declared.data.Upstream.{Upstream}
use Rattle.zone_config.specs.Configuration.{peers_named}

module _ {A : Type 0} where
  -- the zone that stands at these bytes, if there is one
  abbrev pub zone_at : BTreeMap (Vec ℕ A) (Option ℕ) → Vec ℕ A → Option ℕ
  zone_at zones bytes = option_and_then (λ (zone : Option ℕ). zone) (get_by (λ k. slice_cmp nat_cmp bytes.items k.items) zones)

  -- at each name in lower case stands the zone of the upstream of that name
  abbrev pub FindsZones : BTreeMap (Vec ℕ A) (Option ℕ) → List Upstream → Type 0
  FindsZones zones upstreams = (bytes : Vec ℕ A) (name : List ℕ) → bytes.items ≡ str_to_ascii_lowercase name → zone_at zones bytes ≡ peers_named upstreams name
