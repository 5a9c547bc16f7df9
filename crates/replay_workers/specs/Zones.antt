-- All zones of a configuration with the passes of all workers.
use Rattle.std.specs.Prelude.{ℕ, ◌≡◌, ◌+◌, List, length, map, Some, slice_get}
use Rattle.zone_config.specs.declared.data.Config.{Config}
use Rattle.zone_config.specs.declared.data.ZoneSpec.{ZoneSpec}
use Rattle.replay_log.specs.declared.line.Line.{Line}
use Rattle.request_script.specs.declared.decision.Decision.{Decision}
use Rattle.replay_share.specs.Logs.{IsAt}
use Rattle.replay_share.specs.Replay.{Decided, decision_of, IsReplay}
use Rattle.replay_workers.specs.declared.passes.Shared.{Shared}
use Rattle.replay_workers.specs.declared.passes.ZonePass.{ZonePass}
use Rattle.replay_workers.specs.declared.history.ZoneHistory.{ZoneHistory}
use Rattle.replay_workers.specs.Passes.{IsSharedOf}
use Rattle.replay_workers.specs.Columns.{IsOpenedZone, AreAt, IsClosed, IsRunOf, log_left}

-- the zones have just been opened, each with a column of passes
pub record AreOpened (rooms : List ℕ) (specs : List ZoneSpec) (zones : List Shared) (columns : List (List ZonePass)) : Type 0 where
  pub zones_are : length zones ≡ length specs
  pub columns_are : length columns ≡ length specs
  pub each : (z : ℕ) (spec : ZoneSpec) (zone : Shared) (column : List ZonePass) → slice_get specs z ≡ Some spec → slice_get zones z ≡ Some zone → slice_get columns z ≡ Some column → IsOpenedZone rooms spec zone column

-- the columns hold the passes of these zones
pub record AreColumns (rooms : List ℕ) (specs : List ZoneSpec) (zones : List Shared) (columns : List (List ZonePass)) : Type 0 where
  pub zones_are : length zones ≡ length specs
  pub columns_are : length columns ≡ length specs
  pub kinds : (z : ℕ) → IsAt IsSharedOf (slice_get specs z) (slice_get zones z)
  pub each : (z : ℕ) (spec : ZoneSpec) (column : List ZonePass) → slice_get specs z ≡ Some spec → slice_get columns z ≡ Some column → AreAt zones rooms z spec column

-- Of the zones from number n on, these histories are left.
pub record AreClosed (n : ℕ) (rooms : List ℕ) (specs : List ZoneSpec) (columns : List (List ZonePass)) (left : List ZoneHistory) : Type 0 where
  pub left_are : n + length left ≡ length specs
  pub each : (j : ℕ) (spec : ZoneSpec) (column : List ZonePass) (one : ZoneHistory) → slice_get specs (n + j) ≡ Some spec → slice_get columns (n + j) ≡ Some column → slice_get left j ≡ Some one → IsClosed rooms spec column one

-- What a replay gives: what was decided of each line, and each zone as its history leaves it.
pub record HasReplayedAll (config : Config) (workers : ℕ) (lines : List Line) (decisions : List Decision) (left : List ZoneHistory) : Type 0 where
  pub decided : List Decided
  pub decisions_are : map decision_of decided ≡ decisions
  pub ran : (z : ℕ) → IsAt (IsRunOf workers) (slice_get config.zones z) (slice_get left z)
  pub is_replay : IsReplay config workers lines decided (map log_left left)
