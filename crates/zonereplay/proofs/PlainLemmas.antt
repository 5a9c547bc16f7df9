-- The texts of a replay on one worker.
use Rattle.std.proofs.Common.{ℕ, ◌≡◌, List, ◌++◌, map, Result, ap, subst, ◌∙◌}
use Rattle.std.specs.Prelude.{slice_get}
use Rattle.std.specs.List.{flat_map}
use Rattle.zone_config.specs.declared.data.Config.{Config}
use Rattle.replay_log.specs.declared.line.Line.{Line}
use Rattle.request_script.specs.declared.decision.Decision.{Decision}
use Rattle.request_script.specs.Drive.{nothing_active}
use Rattle.replay_share.specs.declared.journal.ZoneJournal.{ZoneJournal}
use Rattle.replay_share.specs.Journals.{Serves, log_of}
use Rattle.replay_share.specs.Share.{HasReplayed}
use Rattle.replay_share.specs.Replay.{Decided, line_of, decision_of}
use Rattle.replay_share.proofs.Alone.{pairs, plays_alone}
use Rattle.replay_text.specs.ReplayText.{decided_line, zones_text}
use Rattle.replay_text.specs.Images.{ShowsWordsAt}
use Rattle.zone_outside.specs.declared.errors.NoMemory.{NoMemory}
use Rattle.zone_watch.specs.Notices.{notices_of}
use Rattle.zone_watch.specs.Watched.{Watched}
use Rattle.zonereplay.specs.Told.{ShowsImage, Writes, Tells}
use Rattle.zonereplay.specs.Told.Told.{replay}
use Rattle.zonereplay.proofs.ReportLemmas.{writes_replay}

pub plain_writes : (config : Config) (room : ℕ) (zones : List ZoneJournal) (lines : List Line) (decisions given : List Decision) (decided_text base : List ℕ) (before after : List Watched) (written : Result (List ℕ) NoMemory)
    → HasReplayed (Serves zones config.zones room) config lines decisions → given ≡ decisions
    → ((decided : List Decided) → map line_of decided ≡ lines → map decision_of decided ≡ decisions → decided_text ≡ flat_map (decided_line config) decided)
    → base ≡ decided_text ++ zones_text config.zones (map log_of zones) → Tells (notices_of lines given) before after base written → Writes (replay config 1 lines) before after written
plain_writes config room zones lines decisions given decided_text base before after written h given_is first base_is told_it =
    let pair = pairs config nothing_active lines h.asked decisions h.table h.drives in
    let logs = map log_of zones in
    writes_replay config 1 lines pair.decided logs decisions base before after written (plays_alone config room zones lines decisions pair h) pair.decisions_are
    (base_is ∙ ap (λ (t : List ℕ). t ++ zones_text config.zones logs) (first pair.decided pair.lines_are pair.decisions_are))
    (subst (λ (ds : List Decision). Tells (notices_of lines ds) before after base written) given_is told_it)

pub shows_image : (config : Config) (room : ℕ) (zones : List ZoneJournal) (zone : ℕ) (lines : List Line) (decisions : List Decision) (text : List ℕ) → HasReplayed (Serves zones config.zones room) config lines decisions
    → ShowsWordsAt (slice_get config.zones zone) (slice_get (map log_of zones) zone) text → ShowsImage config zone lines text
shows_image config room zones zone lines decisions text h shown =
    let pair = pairs config nothing_active lines h.asked decisions h.table h.drives in
    record {
      decided = pair.decided;
      logs = map log_of zones;
      played = plays_alone config room zones lines decisions pair h;
      shown = shown;
    }
