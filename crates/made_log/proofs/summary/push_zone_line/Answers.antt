use Rattle.made_log.proofs.Parts.{zone-parts}
use Rattle.made_log.proofs.summary.push_zone_line.Goals as goal

pub returns : goal.returns
returns g c s laid =
    zone-parts c.args.text.now.items c.extend_from_slice.new.self.items c.push_coded.new.text.items c.extend_from_slice-2.new.self.items c.push_with.new.text.items c.push_with-2.new.text.items c.push_with-3.new.text.items c.extend_from_slice-3.new.self.items
    c.args.name.now c.args.kind.now c.args.calls c.entry_count.result c.free_count.result (g.V.ZoneView.entries_in s) (g.V.ZoneView.free_in s)
    c.in_ok-extend_from_slice.ensures.items c.in_ok-push_coded.ensures c.in_ok-extend_from_slice-2.ensures.items c.in_ok-push_with.ensures c.in_ok-push_with-2.ensures (c.entry_count.ensures s laid) c.in_ok-push_with-3.ensures (c.free_count.ensures s laid)
    c.in_ok-extend_from_slice-3.ensures.items
