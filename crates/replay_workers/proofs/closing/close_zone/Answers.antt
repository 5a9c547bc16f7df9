use Rattle.std.proofs.Common.{◌∙◌, ap, subst}
use Rattle.std.specs.Prelude.{Some}
use Rattle.std.specs.Option.{option_map}
use Rattle.std.proofs.lemmas.Option.{slice_get-map}
use Rattle.replay_workers.specs.Passes.{id_of, IsSharedOf}
use Rattle.replay_workers.proofs.Ended.{req_kind, conn_kind, peer_kind}
use Rattle.replay_workers.proofs.closing.close_zone.Goals as goal

pub returns-in-Req : goal.returns-in-Req
returns-in-Req g c = λ zones rooms z spec may.
    c.close_req.ensures zones rooms z spec (req_kind spec c.in-Req.zone (subst (IsSharedOf spec) c.in-Req.is may.kind)) (slice_get-map id_of zones z ∙ ap (option_map id_of) (may.there ∙ ap Some c.in-Req.is)) may.some may.column_is

pub returns-in-Conn : goal.returns-in-Conn
returns-in-Conn g c = λ zones rooms z spec may.
    c.close_conn.ensures zones rooms z spec (conn_kind spec c.in-Conn.zone (subst (IsSharedOf spec) c.in-Conn.is may.kind)) (slice_get-map id_of zones z ∙ ap (option_map id_of) (may.there ∙ ap Some c.in-Conn.is)) may.some may.column_is

pub returns-in-Peer : goal.returns-in-Peer
returns-in-Peer g c = λ zones rooms z spec may.
    c.close_peer.ensures zones rooms z spec (peer_kind spec c.in-Peer.zone (subst (IsSharedOf spec) c.in-Peer.is may.kind)) (slice_get-map id_of zones z ∙ ap (option_map id_of) (may.there ∙ ap Some c.in-Peer.is)) may.some may.column_is
