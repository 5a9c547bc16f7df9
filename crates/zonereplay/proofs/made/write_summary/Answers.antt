use Rattle.std.proofs.Common.{List, ℕ, ◌++◌, map, ap, subst, sym, ◌∙◌}
use Rattle.zone_config.specs.declared.data.ZoneSpec.{ZoneSpec}
use Rattle.replay_share.specs.Journals.{Serves, log_of}
use Rattle.made_log.specs.Summary.{decisions_line, zone_lines}
use Rattle.zonereplay.proofs.MadeLemmas.{shows_summary}
use Rattle.zonereplay.proofs.made.write_summary.Goals as goal

pub push_zone_lines-requires : goal.push_zone_lines-requires
push_zone_lines-requires c =
    let h = c.in_ok-zones.ensures in
    (h.0, h.1.asked, subst (λ (zs : List ZoneSpec). Serves c.in_ok-zones.zones zs h.0 h.1.asked) (sym c.as_slice.ensures) h.1.served)

pub returns : goal.returns
returns c =
    let config = c.args.config.now in
    let zones = c.in_ok-zones.zones in
    let h = c.in_ok-zones.ensures in
    let served = subst (λ (zs : List ZoneSpec). Serves zones zs h.0 h.1.asked) (sym c.as_slice.ensures) h.1.served in
    let logs = map log_of zones in
    let behind = c.in_ok-push_zone_lines.ensures h.0 h.1.asked served in
    let first = c.in_ok-push_decisions_line.ensures ∙ ap (λ (t : List ℕ). t ++ decisions_line c.deref.result.now) c.new-text.ensures.items ∙ ap decisions_line c.deref.ensures.value in
    shows_summary config h.0 zones c.args.lines.now c.in_ok-zones.decisions.items c.from_vec.result h.1
    (c.from_vec.ensures ∙ behind ∙ ap (λ (zs : List ZoneSpec). c.push_decisions_line.new.text.items ++ zone_lines zs logs) c.as_slice.ensures ∙ ap (λ (t : List ℕ). t ++ zone_lines config.zones logs) first)
