use Rattle.std.specs.Prelude.{codes}
use Rattle.zone_object.specs.History.{run}
use Rattle.conn_zone.specs.Object as conn
use Rattle.replay_share.specs.Logs.{conn_opened}
use Rattle.replay_text.specs.ReplayText.{conn_line, conn_tail}
use Rattle.replay_text.proofs.TextLemmas.{history-text}
use Rattle.replay_text.proofs.Served.{conn-few}
use Rattle.replay_text.proofs.histories.push_conn_zone.Goals as goal

pub push_tail-requires : goal.push_tail-requires
push_tail-requires c =
    let s = run conn.zone_after (conn_opened c.args.spec.now) c.args.entries.now in
    (s, c.requires, conn-few c.args.zone.now s c.requires)

pub returns : goal.returns
returns c =
    let s = run conn.zone_after (conn_opened c.args.spec.now) c.args.entries.now in
    history-text conn_line (codes " conn ") c.args.spec.now.name c.bytes.result.now c.args.entries.now
    c.args.text.now.items c.push_zone_head.new.text.items c.push_conn_lines.new.text.items c.push_tail.new.text.items (conn_tail s)
    c.bytes.ensures c.in_ok-push_zone_head.ensures c.in_ok-push_conn_lines.ensures (c.in_ok-push_tail.ensures s c.requires (conn-few c.args.zone.now s c.requires))
