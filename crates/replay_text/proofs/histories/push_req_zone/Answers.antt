use Rattle.std.specs.Prelude.{codes}
use Rattle.zone_object.specs.History.{run}
use Rattle.req_zone.specs.Object as req
use Rattle.replay_share.specs.Logs.{req_opened}
use Rattle.replay_text.specs.ReplayText.{req_line, req_tail}
use Rattle.replay_text.proofs.TextLemmas.{history-text}
use Rattle.replay_text.proofs.Served.{req-few}
use Rattle.replay_text.proofs.histories.push_req_zone.Goals as goal

pub push_tail-requires : goal.push_tail-requires
push_tail-requires c =
    let s = run req.zone_after (req_opened c.args.spec.now) c.args.entries.now in
    (s, c.requires, req-few c.args.zone.now s c.requires)

pub returns : goal.returns
returns c =
    let s = run req.zone_after (req_opened c.args.spec.now) c.args.entries.now in
    history-text req_line (codes " req ") c.args.spec.now.name c.bytes.result.now c.args.entries.now
    c.args.text.now.items c.push_zone_head.new.text.items c.push_req_lines.new.text.items c.push_tail.new.text.items (req_tail s)
    c.bytes.ensures c.in_ok-push_zone_head.ensures c.in_ok-push_req_lines.ensures (c.in_ok-push_tail.ensures s c.requires (req-few c.args.zone.now s c.requires))
