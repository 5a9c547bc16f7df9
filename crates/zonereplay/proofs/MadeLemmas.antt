-- The summary of a replay of the made log.
use Rattle.std.proofs.Common.{ℕ, zero, suc, ◌≡◌, ◌+◌, ◌<◌, ◌%◌, List, [], ◌∷◌, ◌++◌, length, map, get_or, take, min, subst, sym, ap, refl, add-one, ◌∙◌, arith, append_assoc, append-nil}
use Rattle.std.proofs.Math.Seq.{take-length}
use Rattle.rand_pcg.specs.Lcg.{Lcg}
use Rattle.zone_config.specs.declared.data.Config.{Config}
use Rattle.zone_config.specs.declared.data.ZoneSpec.{ZoneSpec}
use Rattle.replay_log.specs.declared.line.Line.{Line}
use Rattle.request_script.specs.declared.decision.Decision.{Decision}
use Rattle.request_script.specs.Drive.{nothing_active}
use Rattle.replay_share.specs.declared.journal.ZoneJournal.{ZoneJournal}
use Rattle.replay_share.specs.Journals.{IsJournalOf, Serves, log_of}
use Rattle.replay_share.specs.Share.{HasReplayed}
use Rattle.replay_share.proofs.Alone.{pairs, plays_alone}
use Rattle.replay_text.proofs.Served.{HaveEach, as-many}
use Rattle.replay_text.proofs.TextLemmas.{text-more}
use Rattle.made_log.specs.Draws.{first_draw, after_line, generator_of}
use Rattle.made_log.specs.MadeLog.{lines_from, made_lines, first_moment}
use Rattle.made_log.specs.Summary.{line_of, zone_lines, decisions_line, summary_text}
use Rattle.zonereplay.specs.Told.{ShowsSummary}

-- ---- the made log

lines-count : (count number before : ℕ) (g : Lcg) → length (lines_from count number before g) ≡ count
lines-count zero number before g = refl
lines-count (suc count) number before g = ap suc (lines-count count (number + 1) (before + first_draw g % 50) (after_line g))

-- it has as many lines as were asked for
pub made-count : (seed count : ℕ) → length (made_lines seed count) ≡ count
made-count seed count = lines-count count 1 first_moment (generator_of seed)

-- ---- the zones' lines

zones-push : (specs : List ZoneSpec) (journals : List ZoneJournal) (i : ℕ) (spec : ZoneSpec) (journal : ZoneJournal) → i < length specs → i < length journals → spec ≡ get_or specs i spec → journal ≡ get_or journals i journal
    → zone_lines (take i specs) (map log_of (take i journals)) ++ line_of spec (log_of journal) ≡ zone_lines (take (suc i) specs) (map log_of (take (suc i) journals))
zones-push [] journals i spec journal low_spec low_journal spec_is journal_is = absurd (omega (arith, low_spec))
zones-push (s ∷ ss) [] i spec journal low_spec low_journal spec_is journal_is = absurd (omega (arith, low_journal))
zones-push (s ∷ ss) (j ∷ js) zero spec journal low_spec low_journal spec_is journal_is =
    ap (λ (x : ZoneSpec). line_of x (log_of journal)) spec_is ∙ ap (λ (x : ZoneJournal). line_of s (log_of x)) journal_is ∙ sym (append-nil (line_of s (log_of j)))
zones-push (s ∷ ss) (j ∷ js) (suc i) spec journal low_spec low_journal spec_is journal_is =
    append_assoc (line_of s (log_of j)) (zone_lines (take i ss) (map log_of (take i js))) (line_of spec (log_of journal))
    ∙ ap (λ (t : List ℕ). line_of s (log_of j) ++ t) (zones-push ss js i spec journal (omega (arith, low_spec)) (omega (arith, low_journal)) spec_is journal_is)

-- a text that has the lines of the first zones gets one more
pub zones-grow : (old text new : List ℕ) (specs : List ZoneSpec) (journals : List ZoneJournal) (i : ℕ) (spec : ZoneSpec) (journal : ZoneJournal) → i < length specs → i < length journals → spec ≡ get_or specs i spec → journal ≡ get_or journals i journal
    → text ≡ old ++ zone_lines (take i specs) (map log_of (take i journals)) → new ≡ text ++ line_of spec (log_of journal) → new ≡ old ++ zone_lines (take (i + 1) specs) (map log_of (take (i + 1) journals))
zones-grow old text new specs journals i spec journal low_spec low_journal spec_is journal_is had grew =
    subst (λ (n : ℕ). new ≡ old ++ zone_lines (take n specs) (map log_of (take n journals))) (sym (add-one i))
    (text-more old text new (zone_lines (take i specs) (map log_of (take i journals))) (line_of spec (log_of journal)) (zone_lines (take (suc i) specs) (map log_of (take (suc i) journals))) had grew
    (zones-push specs journals i spec journal low_spec low_journal spec_is journal_is))

-- a text that has the lines of as many zones as there are has all
pub zones-whole : (old text : List ℕ) (room : ℕ) (specs : List ZoneSpec) (journals : List ZoneJournal) (n : ℕ) → HaveEach (IsJournalOf room) specs journals → n ≡ min (length specs) (length journals)
    → text ≡ old ++ zone_lines (take n specs) (map log_of (take n journals)) → text ≡ old ++ zone_lines specs (map log_of journals)
zones-whole old text room specs journals n at n_is had =
    let many = as-many (IsJournalOf room) specs journals at in
    let all_specs : take n specs ≡ specs = ap (λ (k : ℕ). take k specs) (omega (arith, many, n_is)) ∙ take-length specs in
    let all_journals : take n journals ≡ journals = ap (λ (k : ℕ). take k journals) (omega (arith, many, n_is)) ∙ take-length journals in
    had ∙ ap (λ (x : List ZoneSpec). old ++ zone_lines x (map log_of (take n journals))) all_specs ∙ ap (λ (x : List ZoneJournal). old ++ zone_lines specs (map log_of x)) all_journals

-- ---- the whole

pub shows_summary : (config : Config) (room : ℕ) (zones : List ZoneJournal) (lines : List Line) (decisions : List Decision) (text : List ℕ) → HasReplayed (Serves zones config.zones room) config lines decisions
    → text ≡ decisions_line decisions ++ zone_lines config.zones (map log_of zones) → ShowsSummary config lines text
shows_summary config room zones lines decisions text h text_is =
    let pair = pairs config nothing_active lines h.asked decisions h.table h.drives in
    record {
      decided = pair.decided;
      logs = map log_of zones;
      played = plays_alone config room zones lines decisions pair h;
      text_is = text_is ∙ ap (λ (ds : List Decision). summary_text config.zones ds (map log_of zones)) (sym pair.decisions_are);
    }
