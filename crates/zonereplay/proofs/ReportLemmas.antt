-- The reports behind the text of a replay.
use Rattle.std.proofs.Common.{ℕ, ◌≡◌, List, ◌++◌, map, Result, Ok, Err, refl, subst, sym, inl, inr}
use Rattle.zone_config.specs.declared.data.Config.{Config}
use Rattle.replay_log.specs.declared.line.Line.{Line}
use Rattle.request_script.specs.declared.decision.Decision.{Decision}
use Rattle.replay_share.specs.Logs.{ZoneLog}
use Rattle.replay_share.specs.Replay.{Decided, decision_of, IsReplay}
use Rattle.replay_text.specs.ReplayText.{replay_text}
use Rattle.replay_text.specs.Images.{AreImages, replay_text_with_words}
use Rattle.zone_outside.specs.declared.errors.NoMemory.{NoMemory}
use Rattle.zone_watch.specs.Notices.{notices_of}
use Rattle.zone_watch.specs.Watched.{Watched, shown, reports_of}
use Rattle.zone_watch.specs.Telling.{Reported}
use Rattle.zonereplay.specs.Told.{Told, Shows, Writes, Tells}
use Rattle.zonereplay.specs.Told.Told.{replay, replay_with_words}

module _ (told : Told) (lines : List Line) (decided : List Decided) (decisions : List Decision) (whole : List ℕ) (before after : List Watched) (decisions_are : map decision_of decided ≡ decisions)
    (shows : (text : List ℕ) → Reported (notices_of lines (map decision_of decided)) before after whole text → Shows told before after text) where
  -- a text that shows what was asked, but for the reports, gets them
  writes_reports : (base : List ℕ) (written : Result (List ℕ) NoMemory) → base ≡ whole → Tells (notices_of lines decisions) before after base written → Writes told before after written
  writes_reports base (Ok text) base_is told_it =
      let own = subst (λ (ds : List Decision). Reported (notices_of lines ds) before after base text) (sym decisions_are) told_it in
      shows text (subst (λ (t : List ℕ). Reported (notices_of lines (map decision_of decided)) before after t text) base_is own)
  writes_reports base (Err why) base_is (inl same) = inl same
  writes_reports base (Err why) base_is (inr seen) =
      let list = subst (λ (ds : List Decision). after ≡ shown (notices_of lines ds) before) (sym decisions_are) seen in
      let text = whole ++ reports_of after in
      inr (text, shows text (record { list = list; told = refl }))

module _ (config : Config) (workers : ℕ) (lines : List Line) (decided : List Decided) (logs : List ZoneLog) (decisions : List Decision) (base : List ℕ) (before after : List Watched) (written : Result (List ℕ) NoMemory)
    (played : IsReplay config workers lines decided logs) (decisions_are : map decision_of decided ≡ decisions) where
  -- the decisions and the histories
  pub writes_replay : base ≡ replay_text config decided logs → Tells (notices_of lines decisions) before after base written → Writes (replay config workers lines) before after written
  writes_replay base_is told_it =
      writes_reports (replay config workers lines) lines decided decisions (replay_text config decided logs) before after decisions_are (λ text reported. record { decided = decided; logs = logs; played = played; reported = reported })
      base written base_is told_it

  -- and the words of each zone
  pub writes_replay_with_words : (images : List (List ℕ)) → AreImages config.zones logs images → base ≡ replay_text_with_words config decided logs images → Tells (notices_of lines decisions) before after base written
      → Writes (replay_with_words config workers lines) before after written
  writes_replay_with_words images laid base_is told_it =
      writes_reports (replay_with_words config workers lines) lines decided decisions (replay_text_with_words config decided logs images) before after decisions_are
      (λ text reported. record { decided = decided; logs = logs; images = images; played = played; laid = laid; reported = reported }) base written base_is told_it
