use Rattle.std.proofs.Common.{ℕ, ◌≡◌, ◌∷◌, [], ◌++◌, List, subst, sym}
use Rattle.zone_config.specs.declared.data.ZoneSpec.{ZoneSpec}
use Rattle.request_script.specs.declared.call.ZoneCall.{ZoneCall}
use Rattle.request_script.specs.declared.call.ZoneCall.TheVariants as to
use Rattle.request_script.specs.declared.call.ZoneReply.TheVariants as from
use Rattle.request_script.specs.Turn.{Exchange}
use Rattle.replay_workers.specs.declared.passes.Shared.{Shared}
use Rattle.replay_workers.specs.declared.passes.Shared.TheVariants as shared
use Rattle.replay_workers.specs.declared.passes.ZonePass.{ZonePass}
use Rattle.replay_workers.specs.declared.passes.ZonePass.TheVariants as kept
use Rattle.replay_workers.specs.Passes.{Place, MayCall, HasCalled}
use Rattle.replay_workers.proofs.Calling.{req_is_there, req_has_room, req_is_permitted, req_has_called, conn_is_there, conn_has_room, conn_is_permitted, conn_has_called, peer_is_there, peer_has_room, peer_is_permitted, peer_has_called}
use Rattle.replay_workers.proofs.ask.ask_zone.Goals as goal

-- what may be called, where all three are known
seen : (at : Place) (zone known : Shared) (pass same : ZonePass) (call asks : ZoneCall) (spec : ZoneSpec) (room : ℕ) (asked : List Exchange) → zone ≡ known → pass ≡ same → call ≡ asks → MayCall at zone pass spec room asked call → MayCall at known same spec room asked asks
seen at zone known pass same call asks spec room asked zone_is pass_is call_is may = subst (λ (a : ZoneCall). MayCall at known same spec room asked a) call_is (subst (λ (p : ZonePass). MayCall at known p spec room asked call) pass_is (subst (λ (z : Shared). MayCall at z pass spec room asked call) zone_is may))

pub ask_req-requires-clause-zone : goal.ask_req-requires-clause-zone
ask_req-requires-clause-zone g c =
    let r = c.requires in
    req_is_there r.0 c.in-Req-shared.zone c.in-Req.pass r.1 r.2 r.3 c.in-Req-call.zone c.in-Req-call.call (seen r.0 c.args.shared.now (shared.Req c.in-Req-shared.zone) c.args.pass.now (kept.Req c.in-Req.pass) c.args.call (to.Req c.in-Req-call.zone c.in-Req-call.call) r.1 r.2 r.3 c.in-Req-shared.is c.in-Req.is c.in-Req-call.is r.4)

pub ask_req-requires-clause-room : goal.ask_req-requires-clause-room
ask_req-requires-clause-room g c =
    let r = c.requires in
    req_has_room r.0 c.in-Req-shared.zone c.in-Req.pass r.1 r.2 r.3 c.in-Req-call.zone c.in-Req-call.call (seen r.0 c.args.shared.now (shared.Req c.in-Req-shared.zone) c.args.pass.now (kept.Req c.in-Req.pass) c.args.call (to.Req c.in-Req-call.zone c.in-Req-call.call) r.1 r.2 r.3 c.in-Req-shared.is c.in-Req.is c.in-Req-call.is r.4)

pub ask_req-requires-clause-permitted : goal.ask_req-requires-clause-permitted
ask_req-requires-clause-permitted g c =
    let r = c.requires in
    req_is_permitted r.0 c.in-Req-shared.zone c.in-Req.pass r.1 r.2 r.3 c.in-Req-call.zone c.in-Req-call.call (seen r.0 c.args.shared.now (shared.Req c.in-Req-shared.zone) c.args.pass.now (kept.Req c.in-Req.pass) c.args.call (to.Req c.in-Req-call.zone c.in-Req-call.call) r.1 r.2 r.3 c.in-Req-shared.is c.in-Req.is c.in-Req-call.is r.4)

pub returns-in-Req-call-clause-called : goal.returns-in-Req-call-clause-called
returns-in-Req-call-clause-called g c = λ at spec room asked may.
    subst (λ (a : ZoneCall). HasCalled at (kept.Req c.ask_req.new.pass) spec (asked ++ record { call = a; reply = from.Req c.ask_req.result } ∷ []) a) (sym c.in-Req-call.is)
    (req_has_called at c.in-Req-shared.zone c.in-Req.pass spec room asked c.in-Req-call.zone c.in-Req-call.call (seen at c.args.shared.now (shared.Req c.in-Req-shared.zone) c.args.pass.now (kept.Req c.in-Req.pass) c.args.call (to.Req c.in-Req-call.zone c.in-Req-call.call) spec room asked c.in-Req-shared.is c.in-Req.is c.in-Req-call.is may) c.ask_req.result c.ask_req.new.pass c.ask_req.ensures.pass c.ask_req.ensures.own_is)

pub ask_conn-requires-clause-zone : goal.ask_conn-requires-clause-zone
ask_conn-requires-clause-zone g c =
    let r = c.requires in
    conn_is_there r.0 c.in-Conn-shared.zone c.in-Conn.pass r.1 r.2 r.3 c.in-Conn-call.zone c.in-Conn-call.call (seen r.0 c.args.shared.now (shared.Conn c.in-Conn-shared.zone) c.args.pass.now (kept.Conn c.in-Conn.pass) c.args.call (to.Conn c.in-Conn-call.zone c.in-Conn-call.call) r.1 r.2 r.3 c.in-Conn-shared.is c.in-Conn.is c.in-Conn-call.is r.4)

pub ask_conn-requires-clause-room : goal.ask_conn-requires-clause-room
ask_conn-requires-clause-room g c =
    let r = c.requires in
    conn_has_room r.0 c.in-Conn-shared.zone c.in-Conn.pass r.1 r.2 r.3 c.in-Conn-call.zone c.in-Conn-call.call (seen r.0 c.args.shared.now (shared.Conn c.in-Conn-shared.zone) c.args.pass.now (kept.Conn c.in-Conn.pass) c.args.call (to.Conn c.in-Conn-call.zone c.in-Conn-call.call) r.1 r.2 r.3 c.in-Conn-shared.is c.in-Conn.is c.in-Conn-call.is r.4)

pub ask_conn-requires-clause-permitted : goal.ask_conn-requires-clause-permitted
ask_conn-requires-clause-permitted g c =
    let r = c.requires in
    conn_is_permitted r.0 c.in-Conn-shared.zone c.in-Conn.pass r.1 r.2 r.3 c.in-Conn-call.zone c.in-Conn-call.call (seen r.0 c.args.shared.now (shared.Conn c.in-Conn-shared.zone) c.args.pass.now (kept.Conn c.in-Conn.pass) c.args.call (to.Conn c.in-Conn-call.zone c.in-Conn-call.call) r.1 r.2 r.3 c.in-Conn-shared.is c.in-Conn.is c.in-Conn-call.is r.4)

pub returns-in-Conn-call-clause-called : goal.returns-in-Conn-call-clause-called
returns-in-Conn-call-clause-called g c = λ at spec room asked may.
    subst (λ (a : ZoneCall). HasCalled at (kept.Conn c.ask_conn.new.pass) spec (asked ++ record { call = a; reply = from.Conn c.ask_conn.result } ∷ []) a) (sym c.in-Conn-call.is)
    (conn_has_called at c.in-Conn-shared.zone c.in-Conn.pass spec room asked c.in-Conn-call.zone c.in-Conn-call.call (seen at c.args.shared.now (shared.Conn c.in-Conn-shared.zone) c.args.pass.now (kept.Conn c.in-Conn.pass) c.args.call (to.Conn c.in-Conn-call.zone c.in-Conn-call.call) spec room asked c.in-Conn-shared.is c.in-Conn.is c.in-Conn-call.is may) c.ask_conn.result c.ask_conn.new.pass c.ask_conn.ensures.pass c.ask_conn.ensures.own_is)

pub ask_peer-requires-clause-zone : goal.ask_peer-requires-clause-zone
ask_peer-requires-clause-zone g c =
    let r = c.requires in
    peer_is_there r.0 c.in-Peer-shared.zone c.in-Peer.pass r.1 r.2 r.3 c.in-Peer-call.zone c.in-Peer-call.call (seen r.0 c.args.shared.now (shared.Peer c.in-Peer-shared.zone) c.args.pass.now (kept.Peer c.in-Peer.pass) c.args.call (to.Peer c.in-Peer-call.zone c.in-Peer-call.call) r.1 r.2 r.3 c.in-Peer-shared.is c.in-Peer.is c.in-Peer-call.is r.4)

pub ask_peer-requires-clause-room : goal.ask_peer-requires-clause-room
ask_peer-requires-clause-room g c =
    let r = c.requires in
    peer_has_room r.0 c.in-Peer-shared.zone c.in-Peer.pass r.1 r.2 r.3 c.in-Peer-call.zone c.in-Peer-call.call (seen r.0 c.args.shared.now (shared.Peer c.in-Peer-shared.zone) c.args.pass.now (kept.Peer c.in-Peer.pass) c.args.call (to.Peer c.in-Peer-call.zone c.in-Peer-call.call) r.1 r.2 r.3 c.in-Peer-shared.is c.in-Peer.is c.in-Peer-call.is r.4)

pub ask_peer-requires-clause-permitted : goal.ask_peer-requires-clause-permitted
ask_peer-requires-clause-permitted g c =
    let r = c.requires in
    peer_is_permitted r.0 c.in-Peer-shared.zone c.in-Peer.pass r.1 r.2 r.3 c.in-Peer-call.zone c.in-Peer-call.call (seen r.0 c.args.shared.now (shared.Peer c.in-Peer-shared.zone) c.args.pass.now (kept.Peer c.in-Peer.pass) c.args.call (to.Peer c.in-Peer-call.zone c.in-Peer-call.call) r.1 r.2 r.3 c.in-Peer-shared.is c.in-Peer.is c.in-Peer-call.is r.4)

pub returns-in-Peer-call-clause-called : goal.returns-in-Peer-call-clause-called
returns-in-Peer-call-clause-called g c = λ at spec room asked may.
    subst (λ (a : ZoneCall). HasCalled at (kept.Peer c.ask_peer.new.pass) spec (asked ++ record { call = a; reply = from.Peer c.ask_peer.result } ∷ []) a) (sym c.in-Peer-call.is)
    (peer_has_called at c.in-Peer-shared.zone c.in-Peer.pass spec room asked c.in-Peer-call.zone c.in-Peer-call.call (seen at c.args.shared.now (shared.Peer c.in-Peer-shared.zone) c.args.pass.now (kept.Peer c.in-Peer.pass) c.args.call (to.Peer c.in-Peer-call.zone c.in-Peer-call.call) spec room asked c.in-Peer-shared.is c.in-Peer.is c.in-Peer-call.is may) c.ask_peer.result c.ask_peer.new.pass c.ask_peer.ensures.pass c.ask_peer.ensures.own_is)
