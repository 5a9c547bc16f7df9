use Rattle.std.proofs.Common.{List, ℕ, ◌++◌, map, ap, subst, sym, ◌∙◌}
use Rattle.std.specs.List.{flat_map}
use Rattle.zone_config.specs.declared.data.ZoneSpec.{ZoneSpec}
use Rattle.replay_share.specs.Journals.{Serves, log_of}
use Rattle.replay_text.specs.ReplayText.{decided_line, zones_text}
use Rattle.zonereplay.proofs.PlainLemmas.{plain_writes}
use Rattle.zonereplay.proofs.replay.write_histories.Goals as goal

pub push_zones-requires : goal.push_zones-requires
push_zones-requires g c =
    let h = c.in_ok-zones.ensures in
    (h.0, h.1.asked, subst (λ (zs : List ZoneSpec). Serves c.in_ok-zones.zones zs h.0 h.1.asked) (sym c.as_slice.ensures) h.1.served)

pub returns : goal.returns
returns g c =
    let config = c.args.config.now in
    let zones = c.in_ok-zones.zones in
    let h = c.in_ok-zones.ensures in
    let served = subst (λ (zs : List ZoneSpec). Serves zones zs h.0 h.1.asked) (sym c.as_slice.ensures) h.1.served in
    let logs = map log_of zones in
    let behind = c.in_ok-push_zones.ensures h.0 h.1.asked served in
    plain_writes config h.0 zones c.args.lines.now c.in_ok-zones.decisions.items c.deref-2.result.now c.push_decisions.new.text.items c.push_zones.new.text.items _ _ c.with_reports.result h.1 c.deref-2.ensures.value
    (λ decided lines_are decisions_are. c.in_ok-push_decisions.ensures decided lines_are (decisions_are ∙ sym c.deref.ensures.value) ∙ ap (λ (t : List ℕ). t ++ flat_map (decided_line config) decided) c.new-text.ensures.items)
    (behind ∙ ap (λ (zs : List ZoneSpec). c.push_decisions.new.text.items ++ zones_text zs logs) c.as_slice.ensures) c.with_reports.ensures
