-- The texts of a replay on several workers.
use Rattle.std.proofs.Common.{ℕ, ◌≡◌, Bool, true, false, List, ◌++◌, map, Result, ap, subst, sym, ◌∙◌}
use Rattle.std.specs.List.{flat_map}
use Rattle.zone_config.specs.declared.data.Config.{Config}
use Rattle.replay_log.specs.declared.line.Line.{Line}
use Rattle.request_script.specs.declared.decision.Decision.{Decision}
use Rattle.replay_share.specs.Replay.{Decided, line_of, decision_of}
use Rattle.replay_workers.specs.declared.history.ZoneHistory.{ZoneHistory}
use Rattle.replay_workers.specs.Columns.{log_left}
use Rattle.replay_workers.specs.Zones.{HasReplayedAll}
use Rattle.replay_text.specs.ReplayText.{decided_line, zones_text}
use Rattle.replay_text.specs.Images.{AreImages, zones_text_with_words}
use Rattle.zone_outside.specs.declared.errors.NoMemory.{NoMemory}
use Rattle.zone_watch.specs.Notices.{notices_of}
use Rattle.zone_watch.specs.Watched.{Watched}
use Rattle.zonereplay.specs.Told.{Writes, Tells}
use Rattle.zonereplay.specs.Plan.{workers_told}
use Rattle.zonereplay.proofs.ReportLemmas.{writes_replay, writes_replay_with_words}

module _ (config : Config) (workers : ℕ) (lines : List Line) (decisions given : List Decision) (left : List ZoneHistory) (first base : List ℕ) (before after : List Watched) (written : Result (List ℕ) NoMemory)
    (h : HasReplayedAll config workers lines decisions left) (given_is : given ≡ decisions)
    (first_is : (decided : List Decided) → map line_of decided ≡ lines → map decision_of decided ≡ decisions → first ≡ flat_map (decided_line config) decided)
    (told_it : Tells (notices_of lines given) before after base written) where
  told_own : Tells (notices_of lines decisions) before after base written
  told_own = subst (λ (ds : List Decision). Tells (notices_of lines ds) before after base written) given_is told_it

  -- the decisions and the histories
  pub writes_histories : (words : Bool) → words ≡ false → base ≡ first ++ zones_text config.zones (map log_left left) → Writes (workers_told workers words config lines) before after written
  writes_histories words without base_is = subst (λ (b : Bool). Writes (workers_told workers b config lines) before after written) (sym without)
      (writes_replay config workers lines h.decided (map log_left left) decisions base before after written h.is_replay h.decisions_are
      (base_is ∙ ap (λ (t : List ℕ). t ++ zones_text config.zones (map log_left left)) (first_is h.decided h.is_replay.lines_are h.decisions_are)) told_own)

  -- and the words of each zone
  pub writes_all_words : (words : Bool) → words ≡ true → (images : List (List ℕ)) → AreImages config.zones (map log_left left) images → base ≡ first ++ zones_text_with_words config.zones (map log_left left) images → Writes (workers_told workers words config lines) before after written
  writes_all_words words with_them images laid base_is = subst (λ (b : Bool). Writes (workers_told workers b config lines) before after written) (sym with_them)
      (writes_replay_with_words config workers lines h.decided (map log_left left) decisions base before after written h.is_replay h.decisions_are images laid
      (base_is ∙ ap (λ (t : List ℕ). t ++ zones_text_with_words config.zones (map log_left left) images) (first_is h.decided h.is_replay.lines_are h.decisions_are)) told_own)
