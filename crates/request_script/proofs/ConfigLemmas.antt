-- What the numbers of a configuration keep to.
use Rattle.std.specs.Prelude.{IfSome, count_by}
use Rattle.std.specs.List.{All, slice_get}
use Rattle.std.proofs.Common.{ℕ, ◌+◌, ◌≤◌, List, Option, Some, None, inl, inr, arith}
use Rattle.std.proofs.lemmas.List.Elements.{All-get_or}
use Rattle.std.proofs.lemmas.List.Sums.{count_by-le-length}
use Rattle.std.proofs.lemmas.Option.{slice_get_cases}
use Rattle.zone_config.specs.declared.data.Config.{Config}
use Rattle.zone_config.specs.declared.data.ZoneSpec.{ZoneSpec}
use Rattle.zone_config.specs.declared.data.ZoneSpec.TheVariants.{Req, Conn, Peer}
use Rattle.zone_config.specs.Conditions.{IsConfig, IsZoneSpec, HasOwnServers}
use Rattle.req_zone.specs.Amount.{IsRate}
use Rattle.request_script.specs.Zones.{rate_in, primary_in, backup_in, is_up}
use Rattle.request_script.specs.Progress.{HasRates, HasFewServers}

-- what holds of each element holds of one by its place, if it is there
pub All-slice_get : {X : Type 0} (P : X → Type 0) (xs : List X) (i : ℕ) → All P xs → IfSome (slice_get xs i) P
All-slice_get P xs i h = elim (slice_get_cases xs i).1 [
  | inl w ↦ rw w.2 (rw w.3 at (All-get_or P xs i w.0 w.1 h))
  | inr w ↦ rw w.1 tt
]

rate_in-IsRate : (zone : Option ZoneSpec) → IfSome zone IsZoneSpec → IsRate (rate_in zone)
rate_in-IsRate None h = (omega arith, omega arith)
rate_in-IsRate (Some (Req spec key)) h = (omega (arith, h.1.0), h.1.1)
rate_in-IsRate (Some (Conn spec key)) h = (omega arith, omega arith)
rate_in-IsRate (Some (Peer spec line)) h = (omega arith, omega arith)

servers-few : (zone : Option ZoneSpec) → IfSome zone HasOwnServers → count_by is_up (primary_in zone) + count_by is_up (backup_in zone) ≤ 128
servers-few None h = omega arith
servers-few (Some (Req spec key)) h = omega arith
servers-few (Some (Conn spec key)) h = omega arith
servers-few (Some (Peer spec line)) h =
    omega (arith, count_by-le-length is_up spec.primary, count_by-le-length is_up spec.backup, h.primary_count.1, h.backup_count)

-- a configuration's rates
pub IsConfig-rates : (config : Config) → IsConfig config → HasRates config
IsConfig-rates config h zone = rate_in-IsRate (slice_get config.zones zone) (All-slice_get IsZoneSpec config.zones zone h.zones.each)

-- and its servers
pub IsConfig-servers : (config : Config) → IsConfig config → HasFewServers config
IsConfig-servers config h zone = servers-few (slice_get config.zones zone) (All-slice_get HasOwnServers config.zones zone h.servers)
