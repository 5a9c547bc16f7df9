use Rattle.std.proofs.Common.{ℕ, ◌*◌, List, [], length, ap, subst, arith}
use Rattle.zone_config.specs.declared.data.ZoneSpec.{ZoneSpec}
use Rattle.replay_log.specs.declared.line.Line.{Line}
use Rattle.replay_share.specs.Journals.{Serves}
use Rattle.replay_share.specs.Share.{HasReplayed}
use Rattle.replay_share.proofs.Alone.{lines_all}
use Rattle.zonereplay.proofs.replay.play.Goals as goal

pub replay_share-requires-clause-fresh : goal.replay_share-requires-clause-fresh
replay_share-requires-clause-fresh c =
    let room : ℕ = length c.args.lines.now * 3 in
    let fresh : Serves c.in-Ok.zones c.args.config.now.zones room [] = subst (λ (zs : List ZoneSpec). Serves c.in-Ok.zones zs room []) c.as_slice.ensures c.in-Ok.ensures.0 in
    (c.in-Ok.zones, room, fresh, omega (arith, ap (λ (ls : List Line). length ls) (lines_all c.args.lines.now)))

pub returns : goal.returns
returns c =
    let room : ℕ = length c.args.lines.now * 3 in
    let fresh : Serves c.in-Ok.zones c.args.config.now.zones room [] = subst (λ (zs : List ZoneSpec). Serves c.in-Ok.zones zs room []) c.as_slice.ensures c.in-Ok.ensures.0 in
    let all = lines_all c.args.lines.now in
    let done = c.in_ok-decisions.ensures c.in-Ok.zones room fresh (omega (arith, ap (λ (ls : List Line). length ls) all)) in
    (room, subst (λ (ls : List Line). HasReplayed (Serves c.replay_share.new.zones c.args.config.now.zones room) c.args.config.now ls c.in_ok-decisions.decisions.items) all done)
