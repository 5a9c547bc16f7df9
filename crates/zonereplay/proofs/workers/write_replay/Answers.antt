use Rattle.std.proofs.Common.{ℕ, ◌≡◌, ◌++◌, ◌∙◌, List, map, ap, subst, sym}
use Rattle.std.specs.Prelude.{slice_get}
use Rattle.std.specs.List.{flat_map}
use Rattle.zone_config.specs.declared.data.ZoneSpec.{ZoneSpec}
use Rattle.replay_share.specs.Logs.{IsAt}
use Rattle.replay_workers.specs.declared.history.ZoneHistory.{ZoneHistory}
use Rattle.replay_workers.specs.Columns.{IsRunOf, log_left}
use Rattle.replay_text.specs.ReplayText.{decided_line, zones_text}
use Rattle.replay_text.specs.Images.{AreImages, zones_text_with_words}
use Rattle.zonereplay.proofs.WorkerLemmas.{writes_histories, writes_all_words}
use Rattle.zonereplay.proofs.workers.write_replay.Goals as goal

-- each zone has run its history, among the same zones and histories
ran_among : (workers : ℕ) (zones given_zones : List ZoneSpec) (left given_left : List ZoneHistory) → given_zones ≡ zones → given_left ≡ left → ((z : ℕ) → IsAt (IsRunOf workers) (slice_get zones z) (slice_get left z))
    → (z : ℕ) → IsAt (IsRunOf workers) (slice_get given_zones z) (slice_get given_left z)
ran_among workers zones given_zones left given_left zones_are left_is ran z =
    subst (λ (zs : List ZoneSpec). IsAt (IsRunOf workers) (slice_get zs z) (slice_get given_left z)) (sym zones_are) (subst (λ (hs : List ZoneHistory). IsAt (IsRunOf workers) (slice_get zones z) (slice_get hs z)) (sym left_is) (ran z))

pub push_histories_with_words-requires : goal.push_histories_with_words-requires
push_histories_with_words-requires g c =
    (c.args.job.workers, ran_among c.args.job.workers c.args.config.now.zones c.as_slice.result.now c.in_ok-decisions.left.items c.deref-then-job.result.now c.as_slice.ensures c.deref-then-job.ensures.value c.in_ok-decisions.ensures.ran)

pub push_histories-requires : goal.push_histories-requires
push_histories-requires g c =
    (c.args.job.workers, ran_among c.args.job.workers c.args.config.now.zones c.as_slice-2.result.now c.in_ok-decisions.left.items c.deref-2.result.now c.as_slice-2.ensures c.deref-2.ensures.value c.in_ok-decisions.ensures.ran)

pub returns-then-job : goal.returns-then-job
returns-then-job g c =
    let config = c.args.config.now in
    let workers = c.args.job.workers in
    let lines = c.args.lines.now in
    let first = c.push_decisions.new.text.items in
    let left = c.in_ok-decisions.left.items in
    let behind = c.in_ok-push_histories_with_words.ensures in
    let images = behind.0 in
    let given_zones = c.as_slice.result.now in
    let given_left = c.deref-then-job.result.now in
    let base = c.push_histories_with_words.new.text.items in
    let laid = subst (λ (zs : List ZoneSpec). AreImages zs (map log_left left) images) c.as_slice.ensures (subst (λ (hs : List ZoneHistory). AreImages given_zones (map log_left hs) images) c.deref-then-job.ensures.value behind.1) in
    let base_is : base ≡ first ++ zones_text_with_words config.zones (map log_left left) images = behind.2 ∙ ap (λ (zs : List ZoneSpec). first ++ zones_text_with_words zs (map log_left given_left) images) c.as_slice.ensures ∙ ap (λ (hs : List ZoneHistory). first ++ zones_text_with_words config.zones (map log_left hs) images) c.deref-then-job.ensures.value in
    writes_all_words config workers lines c.in_ok-decisions.decisions.items c.deref-then-job-2.result.now left first base _ _ c.with_reports.result c.in_ok-decisions.ensures c.deref-then-job-2.ensures.value
    (λ decided lines_are decisions_are. c.in_ok-push_decisions.ensures decided lines_are (decisions_are ∙ sym c.deref.ensures.value) ∙ ap (λ (t : List ℕ). t ++ flat_map (decided_line config) decided) c.new-text.ensures.items) c.with_reports.ensures c.args.job.words c.if-job.true images laid base_is

pub returns : goal.returns
returns g c =
    let config = c.args.config.now in
    let workers = c.args.job.workers in
    let lines = c.args.lines.now in
    let first = c.push_decisions.new.text.items in
    let left = c.in_ok-decisions.left.items in
    let base = c.push_histories.new.text.items in
    let base_is : base ≡ first ++ zones_text config.zones (map log_left left) = c.in_ok-push_histories.ensures ∙ ap (λ (zs : List ZoneSpec). first ++ zones_text zs (map log_left c.deref-2.result.now)) c.as_slice-2.ensures ∙ ap (λ (hs : List ZoneHistory). first ++ zones_text config.zones (map log_left hs)) c.deref-2.ensures.value in
    writes_histories config workers lines c.in_ok-decisions.decisions.items c.deref-3.result.now left first base _ _ c.with_reports-2.result c.in_ok-decisions.ensures c.deref-3.ensures.value
    (λ decided lines_are decisions_are. c.in_ok-push_decisions.ensures decided lines_are (decisions_are ∙ sym c.deref.ensures.value) ∙ ap (λ (t : List ℕ). t ++ flat_map (decided_line config) decided) c.new-text.ensures.items) c.with_reports-2.ensures c.args.job.words c.if-job.false base_is
