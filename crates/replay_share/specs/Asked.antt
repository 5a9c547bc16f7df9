-- What one caller asked of the zones of a configuration, where each zone's history is known by something of its own: a journal, or a pass.
use Rattle.std.specs.Prelude.{ℕ, ◌<◌, List, map, Some, slice_get}
use Rattle.std.specs.List.{All}
use Rattle.zone_config.specs.declared.data.ZoneSpec.{ZoneSpec}
use Rattle.request_script.specs.declared.call.ZoneCall.{ZoneCall}
use Rattle.request_script.specs.Turn.{Exchange}
use Rattle.request_script.specs.Permitted.{MayAsk, IsOfKind, zone_of, calls_to}
use Rattle.replay_share.specs.Calls.{IsWith}
use Rattle.replay_share.specs.Logs.{ZoneLog, IsAt, HasPart, HasParts}

-- `IsOf z spec j`: j stands for zone z, which the configuration says so. `log_of j`: what it knows of the zone's history.
module _ {J : Type 0} (IsOf : ℕ → ZoneSpec → J → Type 0) (log_of : J → ZoneLog) (who : ℕ) where
  -- Each zone has what stands for it, and these have what the caller asked.
  pub record HasAsked (all : List J) (zones : List ZoneSpec) (asked : List Exchange) : Type 0 where
    pub each : (z : ℕ) → IsAt (IsOf z) (slice_get zones z) (slice_get all z)
    pub parts : HasParts asked who (map log_of all)
    pub kinds : All (IsWith zones) asked

  -- what stands for the zone that a call goes to has what the caller asked of it
  pub record HasTaken (j : J) (spec : ZoneSpec) (asked : List Exchange) (call : ZoneCall) : Type 0 where
    pub kept : IsOf (zone_of call) spec j
    pub part : HasPart asked who (zone_of call) (log_of j)

  -- and the call may be made
  pub record MayTake (j : J) (spec : ZoneSpec) (room : ℕ) (asked : List Exchange) (call : ZoneCall) : Type 0 where
    pub taken : HasTaken j spec asked call
    pub kind : IsOfKind (Some spec) call
    pub room_left : calls_to (zone_of call) asked < room
    pub may : MayAsk asked call
