-- What a command writes, as it was asked for.
use Rattle.std.specs.Prelude.{ℕ, ◌≡◌, ◌⊎◌, List, map, slice_get, Result, MatchResult}
use Rattle.zone_config.specs.declared.data.Config.{Config}
use Rattle.replay_log.specs.declared.line.Line.{Line}
use Rattle.replay_share.specs.Logs.{ZoneLog}
use Rattle.replay_share.specs.Replay.{Decided, decision_of, IsReplay}
use Rattle.replay_text.specs.ReplayText.{replay_text}
use Rattle.replay_text.specs.Images.{AreImages, ShowsWordsAt, replay_text_with_words}
use Rattle.made_log.specs.Summary.{summary_text}
use Rattle.request_script.specs.declared.decision.Notice.{Notice}
use Rattle.zone_outside.specs.declared.errors.NoMemory.{NoMemory}
use Rattle.zone_watch.specs.Notices.{notices_of}
use Rattle.zone_watch.specs.Telling.{MayBeShown, Reported}
use Rattle.zone_watch.specs.Watched.{Watched}

-- what was asked to be written
pub data Told : Type 0 where
  -- this text
  exactly : (text : List ℕ) → Told
  -- a replay of these lines by so many workers in the zones of a configuration
  replay : (config : Config) (workers : ℕ) (lines : List Line) → Told
  -- the same, and the words of each zone
  replay_with_words : (config : Config) (workers : ℕ) (lines : List Line) → Told
  -- the words of the zone of this number after a replay of these lines by one worker
  zone_words : (config : Config) (zone : ℕ) (lines : List Line) → Told
  -- the summary of a replay of these lines by one worker
  summary : (config : Config) (lines : List Line) → Told

-- The text of a replay: what was decided of each line, the history of each zone, and the reports of the watchers that are left
-- when they were shown what was decided.
pub record ShowsReplay (config : Config) (workers : ℕ) (lines : List Line) (before after : List Watched) (text : List ℕ) : Type 0 where
  pub decided : List Decided
  pub logs : List ZoneLog
  pub played : IsReplay config workers lines decided logs
  pub reported : Reported (notices_of lines (map decision_of decided)) before after (replay_text config decided logs) text

-- The same with the words of each zone: they lay out the zone's state after its history.
pub record ShowsReplayWithWords (config : Config) (workers : ℕ) (lines : List Line) (before after : List Watched) (text : List ℕ) : Type 0 where
  pub decided : List Decided
  pub logs : List ZoneLog
  pub images : List (List ℕ)
  pub played : IsReplay config workers lines decided logs
  pub laid : AreImages config.zones logs images
  pub reported : Reported (notices_of lines (map decision_of decided)) before after (replay_text_with_words config decided logs images) text

-- The text of a zone's words after a replay by one worker: they lay out the zone's state after its history.
pub record ShowsImage (config : Config) (zone : ℕ) (lines : List Line) (text : List ℕ) : Type 0 where
  pub decided : List Decided
  pub logs : List ZoneLog
  pub played : IsReplay config 1 lines decided logs
  pub shown : ShowsWordsAt (slice_get config.zones zone) (slice_get logs zone) text

-- The summary of a replay by one worker: how many lines were decided in which way, and a line of each zone after its history.
pub record ShowsSummary (config : Config) (lines : List Line) (text : List ℕ) : Type 0 where
  pub decided : List Decided
  pub logs : List ZoneLog
  pub played : IsReplay config 1 lines decided logs
  pub text_is : text ≡ summary_text config.zones (map decision_of decided) logs

-- Whether a text shows what was asked; of what several texts show, any of them does. A replay is shown to these watchers and
-- leaves those; all else leaves them as they were.
abbrev pub Shows : Told → List Watched → List Watched → List ℕ → Type 0
Shows (exactly asked) before after text = (text ≡ asked) × (after ≡ before)
Shows (replay config workers lines) before after text = ShowsReplay config workers lines before after text
Shows (replay_with_words config workers lines) before after text = ShowsReplayWithWords config workers lines before after text
Shows (zone_words config zone lines) before after text = ShowsImage config zone lines text × (after ≡ before)
Shows (summary config lines) before after text = ShowsSummary config lines text × (after ≡ before)

-- the watchers are as they were, or as a text that shows what was asked leaves them
abbrev pub MayShow : Told → List Watched → List Watched → Type 0
MayShow told before after = (after ≡ before) ⊎ ((text : List ℕ) × Shows told before after text)

-- a text was made that shows what was asked, or there was no memory
abbrev pub Writes : Told → List Watched → List Watched → Result (List ℕ) NoMemory → Type 0
Writes told before after written = MatchResult written (Shows told before after) (λ why. MayShow told before after)

-- a text got the reports of the watchers that are left when they were shown notices; or there was no memory, and they may have been shown them
abbrev pub Tells : List Notice → List Watched → List Watched → List ℕ → Result (List ℕ) NoMemory → Type 0
Tells notices before after text written = MatchResult written (Reported notices before after text) (λ why. MayBeShown notices before after)
