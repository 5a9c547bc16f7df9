use Rattle.std.proofs.Common.{sym, subst}
use Rattle.std.proofs.lemmas.Result.{IfOk-weaker}
use Rattle.zone_config.specs.declared.data.ZoneSpec.{ZoneSpec}
use Rattle.replay_workers.specs.Columns.{IsOpenedZone}
use Rattle.replay_workers.proofs.opening.open_shared.Goals as goal

pub returns-in_ok-open_req-in-Req : goal.returns-in_ok-open_req-in-Req
returns-in_ok-open_req-in-Req g c = IfOk-weaker c.share_req.result _ _ (λ r h. subst (λ (s : ZoneSpec). IsOpenedZone c.args.rooms.now s r.0 r.1.items) (sym c.in-Req.is) (h _)) (c.share_req.ensures c.in-Req.spec c.in_ok-open_req-in-Req.ensures)

pub returns-in_ok-open_conn-in-Conn : goal.returns-in_ok-open_conn-in-Conn
returns-in_ok-open_conn-in-Conn g c = IfOk-weaker c.share_conn.result _ _ (λ r h. subst (λ (s : ZoneSpec). IsOpenedZone c.args.rooms.now s r.0 r.1.items) (sym c.in-Conn.is) (h _)) (c.share_conn.ensures c.in-Conn.spec c.in_ok-open_conn-in-Conn.ensures)

pub returns-in-Ok : goal.returns-in-Ok
returns-in-Ok g c = IfOk-weaker c.share_peer.result _ _ (λ r h. subst (λ (s : ZoneSpec). IsOpenedZone c.args.rooms.now s r.0 r.1.items) (sym c.in-Peer.is) (h _)) (c.share_peer.ensures c.in-Peer.spec c.in-Ok.ensures.0)
