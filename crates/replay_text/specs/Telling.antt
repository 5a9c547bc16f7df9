-- That the text of a replay tells its histories.
use Rattle.std.specs.Prelude.{ℕ, ◌≡◌, ◌<◌, ◌^◌, List, [], ◌∷◌, ◌++◌, length, map}
use Rattle.std.specs.List.{All}
use Rattle.zone_object.specs.declared.object.Entry.{Entry}
use Rattle.zone_config.specs.declared.data.Config.{Config}
use Rattle.zone_config.specs.declared.data.ZoneSpec.{ZoneSpec}
use Rattle.zone_config.specs.declared.data.ZoneSpec.TheVariants as zone
use Rattle.decision_text.specs.TailText.{BeginsNoWord}
use Rattle.decision_text.specs.Telling.{IsNumber, HasReqNumbers, AnswersReqNumbers, HasConnNumbers, AnswersConnNumbers, HasPeerNumbers, AnswersPeerNumbers}
use Rattle.replay_share.specs.Logs.{ZoneLog}
use Rattle.replay_share.specs.Logs.ZoneLog.{req_log, conn_log, peer_log}
use Rattle.replay_share.specs.Replay.{Decided}
use Rattle.replay_text.specs.ReplayText.{decided_line, replay_text}
use Rattle.replay_text.specs.Images.{AreImages, replay_text_with_words}

-- ---- what is printed

module _ {X St C R : Type 0} (HasNumbers : C → Type 0) (AnswersNumbers : R → Type 0) where
  -- the numbers of an entry are those of the program's types
  pub record IsPrinted (e : Entry X St C R) : Type 0 where
    pub worker : IsNumber e.caller
    pub call : HasNumbers e.call
    pub reply : AnswersNumbers e.reply

  -- a history of such entries, of which there are as few as a zone's history has
  pub record ArePrinted (log : List (Entry X St C R)) : Type 0 where
    pub few : length log < 2 ^ 32
    pub each : All IsPrinted log

-- that of a zone of the history's kind
abbrev pub IsPrintedLog : ZoneSpec → ZoneLog → Type 0
IsPrintedLog (zone.Req spec key) (req_log log) = ArePrinted HasReqNumbers AnswersReqNumbers log
IsPrintedLog (zone.Conn spec key) (conn_log log) = ArePrinted HasConnNumbers AnswersConnNumbers log
IsPrintedLog (zone.Peer spec line) (peer_log log) = ArePrinted HasPeerNumbers AnswersPeerNumbers log
IsPrintedLog _ _ = ⊥

-- and those of all zones, in the order of the zones
abbrev pub ArePrintedLogs : List ZoneSpec → List ZoneLog → Type 0
ArePrintedLogs [] [] = Unit {0}
ArePrintedLogs (spec ∷ specs) (log ∷ logs) = IsPrintedLog spec log × ArePrintedLogs specs logs
ArePrintedLogs _ _ = ⊥

-- ---- what is told

-- Two equal texts of replays of as many lines in the same zones have the same line of each decision and the same history of
-- each zone, and go on alike.
abbrev pub TextTellsItsHistories : Type 0
TextTellsItsHistories = (config : Config) (decided others : List Decided) (logs histories : List ZoneLog) (first second : List ℕ) → length decided ≡ length others
    → ArePrintedLogs config.zones logs → ArePrintedLogs config.zones histories → replay_text config decided logs ++ first ≡ replay_text config others histories ++ second
    → (map (decided_line config) decided ≡ map (decided_line config) others) × (logs ≡ histories) × (first ≡ second)

-- The same with words, which are the same too, where no word follows.
abbrev pub TextWithWordsTellsItsHistories : Type 0
TextWithWordsTellsItsHistories = (config : Config) (decided others : List Decided) (logs histories : List ZoneLog) (images words : List (List ℕ)) (first second : List ℕ) → length decided ≡ length others
    → ArePrintedLogs config.zones logs → ArePrintedLogs config.zones histories → AreImages config.zones logs images → AreImages config.zones histories words → BeginsNoWord first → BeginsNoWord second
    → replay_text_with_words config decided logs images ++ first ≡ replay_text_with_words config others histories words ++ second
    → (map (decided_line config) decided ≡ map (decided_line config) others) × (logs ≡ histories) × (images ≡ words) × (first ≡ second)
