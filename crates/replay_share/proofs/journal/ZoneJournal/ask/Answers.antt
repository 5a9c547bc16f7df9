use Rattle.std.proofs.Common.{rules, ℕ, ◌≡◌, ◌∷◌, [], ◌++◌, List, subst, sym}
use Rattle.zone_config.specs.declared.data.ZoneSpec.{ZoneSpec}
use Rattle.request_script.specs.declared.call.ZoneCall.{ZoneCall}
use Rattle.request_script.specs.declared.call.ZoneCall.TheVariants as to
use Rattle.request_script.specs.declared.call.ZoneReply.TheVariants as from
use Rattle.request_script.specs.Turn.{Exchange}
use Rattle.replay_share.specs.declared.journal.ZoneJournal.{ZoneJournal}
use Rattle.replay_share.specs.declared.journal.ZoneJournal.TheVariants as kept
use Rattle.replay_share.specs.Journals.{CanTake, TakesAs}
use Rattle.replay_share.proofs.Taking.{room_req, room_conn, room_peer, may_req, may_conn, may_peer, taken_req, taken_conn, taken_peer}
use Rattle.replay_share.proofs.journal.ZoneJournal.ask.Goals as goal

-- what a journal can take, where both are known
seen : (j k : ZoneJournal) (call asks : ZoneCall) (spec : ZoneSpec) (room : ℕ) (asked : List Exchange) → j ≡ k → call ≡ asks → CanTake j spec room asked call → CanTake k spec room asked asks
seen j k call asks spec room asked j_is call_is can = subst (λ (a : ZoneCall). CanTake k spec room asked a) call_is (subst (λ (x : ZoneJournal). CanTake x spec room asked call) j_is can)

pub ask_req-requires-clause-room : goal.ask_req-requires-clause-room
ask_req-requires-clause-room c =
    let r = c.requires in
    room_req r.0 r.1 r.2 c.in-Req-call.zone c.in-Req-call.call c.in-Req.journal (seen c.args.self.now (kept.Req c.in-Req.journal) c.args.call (to.Req c.in-Req-call.zone c.in-Req-call.call) r.0 r.1 r.2 c.in-Req.is c.in-Req-call.is r.3)

pub returns-in-Req-call-clause-taken : goal.returns-in-Req-call-clause-taken
returns-in-Req-call-clause-taken c = λ spec room asked can.
    let known = seen c.args.self.now (kept.Req c.in-Req.journal) c.args.call (to.Req c.in-Req-call.zone c.in-Req-call.call) spec room asked c.in-Req.is c.in-Req-call.is can in
    subst (λ (a : ZoneCall). TakesAs (kept.Req c.ask_req.new.journal) spec room (asked ++ record { call = a; reply = from.Req c.ask_req.result } ∷ []) a) (sym c.in-Req-call.is)
    (taken_req spec room asked c.in-Req-call.zone c.in-Req-call.call c.ask_req.result c.in-Req.journal c.ask_req.new.journal known c.ask_req.ensures.room c.ask_req.ensures.log c.ask_req.ensures.run)

pub ask_conn-requires-clause-room : goal.ask_conn-requires-clause-room
ask_conn-requires-clause-room c =
    let r = c.requires in
    room_conn r.0 r.1 r.2 c.in-Conn-call.zone c.in-Conn-call.call c.in-Conn.journal (seen c.args.self.now (kept.Conn c.in-Conn.journal) c.args.call (to.Conn c.in-Conn-call.zone c.in-Conn-call.call) r.0 r.1 r.2 c.in-Conn.is c.in-Conn-call.is r.3)

pub returns-in-Conn-call-clause-taken : goal.returns-in-Conn-call-clause-taken
returns-in-Conn-call-clause-taken c = λ spec room asked can.
    let known = seen c.args.self.now (kept.Conn c.in-Conn.journal) c.args.call (to.Conn c.in-Conn-call.zone c.in-Conn-call.call) spec room asked c.in-Conn.is c.in-Conn-call.is can in
    subst (λ (a : ZoneCall). TakesAs (kept.Conn c.ask_conn.new.journal) spec room (asked ++ record { call = a; reply = from.Conn c.ask_conn.result } ∷ []) a) (sym c.in-Conn-call.is)
    (taken_conn spec room asked c.in-Conn-call.zone c.in-Conn-call.call c.ask_conn.result c.in-Conn.journal c.ask_conn.new.journal known c.ask_conn.ensures.room c.ask_conn.ensures.log c.ask_conn.ensures.run)

pub ask_peer-requires-clause-room : goal.ask_peer-requires-clause-room
ask_peer-requires-clause-room c =
    let r = c.requires in
    room_peer r.0 r.1 r.2 c.in-Peer-call.zone c.in-Peer-call.call c.in-Peer.journal (seen c.args.self.now (kept.Peer c.in-Peer.journal) c.args.call (to.Peer c.in-Peer-call.zone c.in-Peer-call.call) r.0 r.1 r.2 c.in-Peer.is c.in-Peer-call.is r.3)

pub returns-in-Peer-call-clause-taken : goal.returns-in-Peer-call-clause-taken
returns-in-Peer-call-clause-taken c = λ spec room asked can.
    let known = seen c.args.self.now (kept.Peer c.in-Peer.journal) c.args.call (to.Peer c.in-Peer-call.zone c.in-Peer-call.call) spec room asked c.in-Peer.is c.in-Peer-call.is can in
    subst (λ (a : ZoneCall). TakesAs (kept.Peer c.ask_peer.new.journal) spec room (asked ++ record { call = a; reply = from.Peer c.ask_peer.result } ∷ []) a) (sym c.in-Peer-call.is)
    (taken_peer spec room asked c.in-Peer-call.zone c.in-Peer-call.call c.ask_peer.result c.in-Peer.journal c.ask_peer.new.journal known c.ask_peer.ensures.room c.ask_peer.ensures.log c.ask_peer.ensures.run)
