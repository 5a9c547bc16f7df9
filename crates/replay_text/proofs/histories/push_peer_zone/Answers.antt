use Rattle.std.specs.Prelude.{codes}
use Rattle.zone_object.specs.History.{run}
use Rattle.peer_zone.specs.Object as peer
use Rattle.replay_share.specs.Logs.{peer_opened}
use Rattle.replay_text.specs.ReplayText.{peer_line, peer_tail}
use Rattle.replay_text.proofs.TextLemmas.{history-text}
use Rattle.replay_text.proofs.Served.{peer-few}
use Rattle.replay_text.proofs.histories.push_peer_zone.Goals as goal

pub push_tail-requires : goal.push_tail-requires
push_tail-requires c =
    let s = run peer.zone_after (peer_opened c.args.spec.now) c.args.entries.now in
    (s, c.requires, peer-few c.args.zone.now s c.requires)

pub returns : goal.returns
returns c =
    let s = run peer.zone_after (peer_opened c.args.spec.now) c.args.entries.now in
    history-text peer_line (codes " peer ") c.args.spec.now.name c.bytes.result.now c.args.entries.now
    c.args.text.now.items c.push_zone_head.new.text.items c.push_peer_lines.new.text.items c.push_tail.new.text.items (peer_tail s)
    c.bytes.ensures c.in_ok-push_zone_head.ensures c.in_ok-push_peer_lines.ensures (c.in_ok-push_tail.ensures s c.requires (peer-few c.args.zone.now s c.requires))
