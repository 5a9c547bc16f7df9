-- A call through a pass: it is one of its zone, has room and is permitted, and has made the call afterwards.
use Rattle.std.proofs.Common.{ℕ, ◌≡◌, ◌<◌, ◌≤◌, List, [], ◌∷◌, ◌++◌, length, map, subst, sym, ap, ◌∙◌, arith}
use Rattle.std.specs.Prelude.{Some, slice_get, slice_index}
use Rattle.zone_object.specs.declared.object.Entry.{Entry}
use Rattle.zone_object.specs.History.{entry, own}
use Rattle.shared_zone.specs.Callers.{ZoneId, Zone, Caller, made, HasRoom, IsSameCaller}
use Rattle.req_zone.specs.declared.calls.ReqCall.{ReqCall}
use Rattle.req_zone.specs.declared.calls.ReqReply.{ReqReply}
use Rattle.req_zone.specs.declared.state.ReqState.{ReqState}
use Rattle.req_zone.specs.Object as req
use Rattle.conn_zone.specs.declared.calls.ConnCall.{ConnCall}
use Rattle.conn_zone.specs.declared.calls.ConnReply.{ConnReply}
use Rattle.conn_zone.specs.declared.state.ConnState.{ConnState}
use Rattle.conn_zone.specs.Object as conn
use Rattle.peer_zone.specs.declared.calls.PeerCall.{PeerCall}
use Rattle.peer_zone.specs.declared.calls.PeerReply.{PeerReply}
use Rattle.peer_zone.specs.declared.state.PeerState.{PeerState}
use Rattle.peer_zone.specs.Object as peer
use Rattle.zone_config.specs.declared.data.ZoneSpec.{ZoneSpec}
use Rattle.zone_config.specs.declared.data.ZoneSpec.TheVariants as zone
use Rattle.request_script.specs.declared.call.ZoneCall.TheVariants as to
use Rattle.request_script.specs.declared.call.ZoneReply.TheVariants as from
use Rattle.request_script.specs.Turn.{Exchange}
use Rattle.request_script.specs.Drive.{req_part, conn_part, peer_part}
use Rattle.request_script.specs.Permitted.{calls_to}
use Rattle.replay_share.specs.Logs.{ReqEntry, ConnEntry, PeerEntry, req_opened, conn_opened, peer_opened}
use Rattle.replay_share.proofs.Parts.{made-length, req_few, conn_few, peer_few, req_grows, conn_grows, peer_grows}
use Rattle.replay_share.proofs.Taking.{permits_req, permits_conn, permits_peer}
use Rattle.replay_workers.specs.declared.passes.Shared.TheVariants as shared
use Rattle.replay_workers.specs.declared.passes.ZonePass.TheVariants.{Req, Conn, Peer}
use Rattle.replay_workers.specs.Passes.{Place, IsCallerOf, MayCall, HasCalled, id_of}

module _ {St : Type 0} where
  -- the pass is the same
  still : {E : Type 0} → (at : Place) (z : ℕ) (opened : St) (old new : Caller St E) → IsCallerOf at z opened old → new.zone ≡ old.zone → new.number ≡ old.number → IsCallerOf at z opened new
  still at z opened old new h zone number = record {
    there = h.there ∙ ap (λ (o : Zone St). Some o.id) (sym zone);
    start = ap (λ (o : Zone St). o.start) zone ∙ h.start;
    rooms = ap (λ (o : Zone St). o.rooms) zone ∙ h.rooms;
    number = number ∙ h.number;
  }

  same_zone : {E : Type 0} → (at : Place) (z : ℕ) (opened : St) (pass : Caller St E) (id : ZoneId) → IsCallerOf at z opened pass → slice_get (map id_of at.zones) z ≡ Some id → pass.zone.id ≡ id
  same_zone at z opened pass id h there = let e : Some pass.zone.id ≡ Some id = sym h.there ∙ there in cc

module _ {St X C R : Type 0} where
  -- its own calls are known by the worker's number
  grown : (at : Place) (z : ℕ) (opened : St) (old new : Caller St (Entry X St C R)) (call : C) (reply : R) → IsCallerOf at z opened old → new.number ≡ old.number → made new ≡ made old ++ entry old.number call reply ∷ []
      → own new.seen at.who ≡ own old.seen at.who ++ entry at.who call reply ∷ []
  grown at z opened old new call reply h number is =
      subst (λ (n : ℕ). own new.seen n ≡ own old.seen n ++ entry n call reply ∷ []) h.number (ap (own new.seen) (sym number) ∙ is)

  room_for : (at : Place) (z : ℕ) (opened : St) (pass : Caller St (Entry X St C R)) (few calls room : ℕ) → IsCallerOf at z opened pass → length (own pass.seen at.who) ≡ few → few ≤ calls → calls < room → room ≤ slice_index at.rooms at.who → HasRoom pass
  room_for at z opened pass few calls room h own_is low left enough =
      let own_same : length (own pass.seen pass.number) ≡ length (own pass.seen at.who) = ap (λ (n : ℕ). length (own pass.seen n)) h.number in
      let rooms_same : slice_index pass.zone.rooms pass.number ≡ slice_index at.rooms at.who = ap (λ (l : List ℕ). slice_index l pass.number) h.rooms ∙ ap (slice_index at.rooms) h.number in
      omega (arith, own_same, rooms_same, own_is, low, left, enough)

-- ---- a request zone

pub req_is_there : (at : Place) (id : ZoneId) (pass : Caller ReqState ReqEntry) (spec : ZoneSpec) (room : ℕ) (asked : List Exchange) (z : ℕ) (call : ReqCall) → MayCall at (shared.Req id) (Req pass) spec room asked (to.Req z call) → pass.zone.id ≡ id
req_is_there at id pass (zone.Req spec key) room asked z call may = same_zone at z (req_opened spec) pass id may.may.taken.kept may.there
req_is_there at id pass (zone.Conn spec key) room asked z call may = elim may.may.taken.kept [ ]
req_is_there at id pass (zone.Peer spec line) room asked z call may = elim may.may.taken.kept [ ]

pub req_has_room : (at : Place) (id : ZoneId) (pass : Caller ReqState ReqEntry) (spec : ZoneSpec) (room : ℕ) (asked : List Exchange) (z : ℕ) (call : ReqCall) → MayCall at (shared.Req id) (Req pass) spec room asked (to.Req z call) → HasRoom pass
req_has_room at id pass (zone.Req spec key) room asked z call may = room_for at z (req_opened spec) pass (length (req_part z asked)) (calls_to z asked) room may.may.taken.kept (made-length pass.seen at.who (req_part z asked) may.may.taken.part) (req_few z asked) may.may.room_left may.enough
req_has_room at id pass (zone.Conn spec key) room asked z call may = elim may.may.taken.kept [ ]
req_has_room at id pass (zone.Peer spec line) room asked z call may = elim may.may.taken.kept [ ]

pub req_is_permitted : (at : Place) (id : ZoneId) (pass : Caller ReqState ReqEntry) (spec : ZoneSpec) (room : ℕ) (asked : List Exchange) (z : ℕ) (call : ReqCall) → MayCall at (shared.Req id) (Req pass) spec room asked (to.Req z call) → req.Permits (made pass) call
req_is_permitted at id pass (zone.Req spec key) room asked z call may = subst (λ (n : ℕ). req.Permits (own pass.seen n) call) (sym may.may.taken.kept.number) (permits_req at.who z asked pass.seen call may.may.taken.part may.may.may)
req_is_permitted at id pass (zone.Conn spec key) room asked z call may = elim may.may.taken.kept [ ]
req_is_permitted at id pass (zone.Peer spec line) room asked z call may = elim may.may.taken.kept [ ]

pub req_has_called : (at : Place) (id : ZoneId) (pass : Caller ReqState ReqEntry) (spec : ZoneSpec) (room : ℕ) (asked : List Exchange) (z : ℕ) (call : ReqCall) → MayCall at (shared.Req id) (Req pass) spec room asked (to.Req z call) → (reply : ReqReply) (new : Caller ReqState ReqEntry) → IsSameCaller pass new → made new ≡ made pass ++ entry pass.number call reply ∷ []
    → HasCalled at (Req new) spec (asked ++ record { call = to.Req z call; reply = from.Req reply } ∷ []) (to.Req z call)
req_has_called at id pass (zone.Req spec key) room asked z call may reply new same own_is = record {
  kept = still at z (req_opened spec) pass new may.may.taken.kept same.zone same.number;
  part = req_grows asked pass.seen new.seen at.who z call reply (grown at z (req_opened spec) pass new call reply may.may.taken.kept same.number own_is) may.may.taken.part;
}
req_has_called at id pass (zone.Conn spec key) room asked z call may reply new same own_is = elim may.may.taken.kept [ ]
req_has_called at id pass (zone.Peer spec line) room asked z call may reply new same own_is = elim may.may.taken.kept [ ]

-- ---- a connection zone

pub conn_is_there : (at : Place) (id : ZoneId) (pass : Caller ConnState ConnEntry) (spec : ZoneSpec) (room : ℕ) (asked : List Exchange) (z : ℕ) (call : ConnCall) → MayCall at (shared.Conn id) (Conn pass) spec room asked (to.Conn z call) → pass.zone.id ≡ id
conn_is_there at id pass (zone.Conn spec key) room asked z call may = same_zone at z (conn_opened spec) pass id may.may.taken.kept may.there
conn_is_there at id pass (zone.Req spec key) room asked z call may = elim may.may.taken.kept [ ]
conn_is_there at id pass (zone.Peer spec line) room asked z call may = elim may.may.taken.kept [ ]

pub conn_has_room : (at : Place) (id : ZoneId) (pass : Caller ConnState ConnEntry) (spec : ZoneSpec) (room : ℕ) (asked : List Exchange) (z : ℕ) (call : ConnCall) → MayCall at (shared.Conn id) (Conn pass) spec room asked (to.Conn z call) → HasRoom pass
conn_has_room at id pass (zone.Conn spec key) room asked z call may = room_for at z (conn_opened spec) pass (length (conn_part z asked)) (calls_to z asked) room may.may.taken.kept (made-length pass.seen at.who (conn_part z asked) may.may.taken.part) (conn_few z asked) may.may.room_left may.enough
conn_has_room at id pass (zone.Req spec key) room asked z call may = elim may.may.taken.kept [ ]
conn_has_room at id pass (zone.Peer spec line) room asked z call may = elim may.may.taken.kept [ ]

pub conn_is_permitted : (at : Place) (id : ZoneId) (pass : Caller ConnState ConnEntry) (spec : ZoneSpec) (room : ℕ) (asked : List Exchange) (z : ℕ) (call : ConnCall) → MayCall at (shared.Conn id) (Conn pass) spec room asked (to.Conn z call) → conn.Permits (made pass) call
conn_is_permitted at id pass (zone.Conn spec key) room asked z call may = subst (λ (n : ℕ). conn.Permits (own pass.seen n) call) (sym may.may.taken.kept.number) (permits_conn at.who z asked pass.seen call may.may.taken.part may.may.may)
conn_is_permitted at id pass (zone.Req spec key) room asked z call may = elim may.may.taken.kept [ ]
conn_is_permitted at id pass (zone.Peer spec line) room asked z call may = elim may.may.taken.kept [ ]

pub conn_has_called : (at : Place) (id : ZoneId) (pass : Caller ConnState ConnEntry) (spec : ZoneSpec) (room : ℕ) (asked : List Exchange) (z : ℕ) (call : ConnCall) → MayCall at (shared.Conn id) (Conn pass) spec room asked (to.Conn z call) → (reply : ConnReply) (new : Caller ConnState ConnEntry) → IsSameCaller pass new → made new ≡ made pass ++ entry pass.number call reply ∷ []
    → HasCalled at (Conn new) spec (asked ++ record { call = to.Conn z call; reply = from.Conn reply } ∷ []) (to.Conn z call)
conn_has_called at id pass (zone.Conn spec key) room asked z call may reply new same own_is = record {
  kept = still at z (conn_opened spec) pass new may.may.taken.kept same.zone same.number;
  part = conn_grows asked pass.seen new.seen at.who z call reply (grown at z (conn_opened spec) pass new call reply may.may.taken.kept same.number own_is) may.may.taken.part;
}
conn_has_called at id pass (zone.Req spec key) room asked z call may reply new same own_is = elim may.may.taken.kept [ ]
conn_has_called at id pass (zone.Peer spec line) room asked z call may reply new same own_is = elim may.may.taken.kept [ ]

-- ---- an upstream's zone

pub peer_is_there : (at : Place) (id : ZoneId) (pass : Caller PeerState PeerEntry) (spec : ZoneSpec) (room : ℕ) (asked : List Exchange) (z : ℕ) (call : PeerCall) → MayCall at (shared.Peer id) (Peer pass) spec room asked (to.Peer z call) → pass.zone.id ≡ id
peer_is_there at id pass (zone.Peer spec line) room asked z call may = same_zone at z (peer_opened spec) pass id may.may.taken.kept may.there
peer_is_there at id pass (zone.Req spec key) room asked z call may = elim may.may.taken.kept [ ]
peer_is_there at id pass (zone.Conn spec key) room asked z call may = elim may.may.taken.kept [ ]

pub peer_has_room : (at : Place) (id : ZoneId) (pass : Caller PeerState PeerEntry) (spec : ZoneSpec) (room : ℕ) (asked : List Exchange) (z : ℕ) (call : PeerCall) → MayCall at (shared.Peer id) (Peer pass) spec room asked (to.Peer z call) → HasRoom pass
peer_has_room at id pass (zone.Peer spec line) room asked z call may = room_for at z (peer_opened spec) pass (length (peer_part z asked)) (calls_to z asked) room may.may.taken.kept (made-length pass.seen at.who (peer_part z asked) may.may.taken.part) (peer_few z asked) may.may.room_left may.enough
peer_has_room at id pass (zone.Req spec key) room asked z call may = elim may.may.taken.kept [ ]
peer_has_room at id pass (zone.Conn spec key) room asked z call may = elim may.may.taken.kept [ ]

pub peer_is_permitted : (at : Place) (id : ZoneId) (pass : Caller PeerState PeerEntry) (spec : ZoneSpec) (room : ℕ) (asked : List Exchange) (z : ℕ) (call : PeerCall) → MayCall at (shared.Peer id) (Peer pass) spec room asked (to.Peer z call) → peer.Permits (made pass) call
peer_is_permitted at id pass (zone.Peer spec line) room asked z call may = subst (λ (n : ℕ). peer.Permits (own pass.seen n) call) (sym may.may.taken.kept.number) (permits_peer at.who z asked pass.seen call may.may.taken.part may.may.may)
peer_is_permitted at id pass (zone.Req spec key) room asked z call may = elim may.may.taken.kept [ ]
peer_is_permitted at id pass (zone.Conn spec key) room asked z call may = elim may.may.taken.kept [ ]

pub peer_has_called : (at : Place) (id : ZoneId) (pass : Caller PeerState PeerEntry) (spec : ZoneSpec) (room : ℕ) (asked : List Exchange) (z : ℕ) (call : PeerCall) → MayCall at (shared.Peer id) (Peer pass) spec room asked (to.Peer z call) → (reply : PeerReply) (new : Caller PeerState PeerEntry) → IsSameCaller pass new → made new ≡ made pass ++ entry pass.number call reply ∷ []
    → HasCalled at (Peer new) spec (asked ++ record { call = to.Peer z call; reply = from.Peer reply } ∷ []) (to.Peer z call)
peer_has_called at id pass (zone.Peer spec line) room asked z call may reply new same own_is = record {
  kept = still at z (peer_opened spec) pass new may.may.taken.kept same.zone same.number;
  part = peer_grows asked pass.seen new.seen at.who z call reply (grown at z (peer_opened spec) pass new call reply may.may.taken.kept same.number own_is) may.may.taken.part;
}
peer_has_called at id pass (zone.Req spec key) room asked z call may reply new same own_is = elim may.may.taken.kept [ ]
peer_has_called at id pass (zone.Conn spec key) room asked z call may reply new same own_is = elim may.may.taken.kept [ ]
