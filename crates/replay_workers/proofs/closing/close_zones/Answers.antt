use Rattle.std.proofs.Common.{ℕ, ◌≡◌, ◌∙◌, ◌+◌, List, map, take, vec_items, vec_len, sym, ap, subst, arith}
use Rattle.std.specs.Option.{option_map}
use Rattle.std.proofs.lemmas.Option.{slice_get-map}
use Rattle.replay_workers.specs.declared.history.ZoneHistory.{ZoneHistory}
use Rattle.replay_workers.specs.Zones.{AreClosed}
use Rattle.replay_workers.proofs.Outcome.{popped, can_close, closed-more}
use Rattle.replay_workers.proofs.closing.close_zones.Goals as goal

pub close_zone-requires : goal.close_zone-requires
close_zone-requires g c =
    let r = c.requires in
    let old = c.loop-zone.invariant in
    let n = vec_len c.pop.new.self in
    let one_more : vec_len c.loop-zone.zones ≡ n + 1 = omega (arith, c.in-Some.ensures.len) in
    let fewer : vec_len c.pop-in-Some.new.self ≡ n = omega (arith, c.in-Some-pop.ensures.len, one_more, old.within) in
    let zone = popped c.args.zones.items c.loop-zone.zones.items c.pop.new.self.items c.in-Some.zone n (old.zones ∙ ap (λ (k : ℕ). take k c.args.zones.items) one_more) c.in-Some.ensures.items (sym c.pop.new.self.ok.0) in
    let column = popped c.args.columns.items c.loop-zone.columns.items c.pop-in-Some.new.self.items c.in-Some-pop.column n (old.columns ∙ ap (λ (k : ℕ). take k c.args.columns.items) one_more) c.in-Some-pop.ensures.items (sym c.pop-in-Some.new.self.ok.0 ∙ fewer) in
    let can = can_close r.0 r.1 c.args.zones.items (map vec_items c.args.columns.items) n c.in-Some.zone c.in-Some-pop.column.items r.2 r.3 zone.0 (slice_get-map vec_items c.args.columns.items n ∙ ap (option_map vec_items) column.0) in
    (c.args.zones.items, r.0, n, can.0, can.2)

pub loop-zone-preserved : goal.loop-zone-preserved
loop-zone-preserved g c =
    let old = c.loop-zone.invariant in
    let n = vec_len c.pop.new.self in
    let one_more : vec_len c.loop-zone.zones ≡ n + 1 = omega (arith, c.in-Some.ensures.len) in
    let fewer : vec_len c.pop-in-Some.new.self ≡ n = omega (arith, c.in-Some-pop.ensures.len, one_more, old.within) in
    let zone = popped c.args.zones.items c.loop-zone.zones.items c.pop.new.self.items c.in-Some.zone n (old.zones ∙ ap (λ (k : ℕ). take k c.args.zones.items) one_more) c.in-Some.ensures.items (sym c.pop.new.self.ok.0) in
    let column = popped c.args.columns.items c.loop-zone.columns.items c.pop-in-Some.new.self.items c.in-Some-pop.column n (old.columns ∙ ap (λ (k : ℕ). take k c.args.columns.items) one_more) c.in-Some-pop.ensures.items (sym c.pop-in-Some.new.self.ok.0 ∙ fewer) in
    let column_is = slice_get-map vec_items c.args.columns.items n ∙ ap (option_map vec_items) column.0 in
    record {
      zones = zone.1;
      columns = column.1;
      within = sym fewer;
      closed = λ rooms specs some all.
          let can = can_close rooms specs c.args.zones.items (map vec_items c.args.columns.items) n c.in-Some.zone c.in-Some-pop.column.items some all zone.0 column_is in
          let before = subst (λ (k : ℕ). AreClosed k rooms specs (map vec_items c.args.columns.items) c.loop-zone.left.items) one_more (old.closed rooms specs some all) in
          subst (λ (l : List ZoneHistory). AreClosed n rooms specs (map vec_items c.args.columns.items) l) (sym c.in_ok-insert.ensures.items)
          (closed-more n rooms specs (map vec_items c.args.columns.items) c.loop-zone.left.items can.0 c.in-Some-pop.column.items c.in_ok-close_zone.field-0 before can.1 column_is (c.in_ok-close_zone.ensures c.args.zones.items rooms n can.0 can.2));
    }
