use Rattle.std.proofs.Common.{ℕ, ◌*◌, ◌≤◌, List, [], length, ap, subst, sym, arith}
use Rattle.zone_config.specs.declared.data.ZoneSpec.{ZoneSpec}
use Rattle.replay_share.specs.Journals.{Serves}
use Rattle.replay_share.specs.Replay.{lines_of}
use Rattle.replay_share.proofs.Alone.{lines_all}
use Rattle.replay_text.proofs.tests.printed.Goals as goal

pub replay_share-requires-clause-fresh : goal.replay_share-requires-clause-fresh
replay_share-requires-clause-fresh c =
    let room : ℕ = length c.args.lines.now * 3 in
    let zones = c.in_ok-zones.zones in
    let fresh : Serves zones c.args.config.now.zones room [] = subst (λ (zs : List ZoneSpec). Serves zones zs room []) c.as_slice.ensures c.in_ok-zones.ensures.0 in
    let all = ap length (lines_all c.args.lines.now) in
    let enough : 3 * length (lines_of 1 0 c.args.lines.now) ≤ room = omega (arith, all) in
    (zones, room, fresh, enough)

pub push_zones-requires : goal.push_zones-requires
push_zones-requires c =
    let room : ℕ = length c.args.lines.now * 3 in
    let zones = c.in_ok-zones.zones in
    let fresh : Serves zones c.args.config.now.zones room [] = subst (λ (zs : List ZoneSpec). Serves zones zs room []) c.as_slice.ensures c.in_ok-zones.ensures.0 in
    let all = ap length (lines_all c.args.lines.now) in
    let enough : 3 * length (lines_of 1 0 c.args.lines.now) ≤ room = omega (arith, all) in
    let h = c.in_ok-decisions.ensures zones room fresh enough in
    (room, h.asked, subst (λ (zs : List ZoneSpec). Serves c.replay_share.new.zones zs room h.asked) (sym c.as_slice-2.ensures) h.served)
