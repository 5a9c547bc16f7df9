-- A call to a zone with its journal: it has room and is permitted, and the journal has it afterwards.
use Rattle.std.proofs.Common.{ℕ, ◌≡◌, ◌+◌, ◌<◌, ◌≤◌, List, [], ◌∷◌, ◌++◌, length, map, subst, sym, ap, ◌∙◌, arith}
use Rattle.std.specs.Prelude.{sum_by}
use Rattle.std.specs.List.{All}
use Rattle.std.proofs.lemmas.List.Elements.{All-push}
use Rattle.zone_object.specs.declared.object.Entry.{Entry}
use Rattle.zone_object.specs.History.{Recorded, HasRun, entry, own}
use Rattle.req_zone.specs.declared.calls.ReqCall.{ReqCall}
use Rattle.req_zone.specs.declared.calls.ReqCall.TheVariants.{Check, Account, Release}
use Rattle.req_zone.specs.declared.calls.ReqReply.{ReqReply}
use Rattle.req_zone.specs.declared.state.ReqState.{ReqState}
use Rattle.req_zone.specs.declared.words.ReqWords.{ReqWords}
use Rattle.req_zone.specs.Object as req
use Rattle.req_zone.specs.Lays as req_words
use Rattle.conn_zone.specs.declared.calls.ConnCall.{ConnCall}
use Rattle.conn_zone.specs.declared.calls.ConnCall.TheVariants.{Open, Close}
use Rattle.conn_zone.specs.declared.calls.ConnReply.{ConnReply}
use Rattle.conn_zone.specs.declared.state.ConnState.{ConnState}
use Rattle.conn_zone.specs.Object as conn
use Rattle.conn_zone.specs.Layout as conn_words
use Rattle.peer_zone.specs.declared.calls.PeerCall.{PeerCall}
use Rattle.peer_zone.specs.declared.calls.PeerCall.TheVariants.{Choose, Free}
use Rattle.peer_zone.specs.declared.calls.PeerReply.{PeerReply}
use Rattle.peer_zone.specs.declared.state.PeerState.{PeerState}
use Rattle.peer_zone.specs.declared.words.PeerWords.{PeerWords}
use Rattle.peer_zone.specs.Object as peer
use Rattle.peer_zone.specs.Opening as opening
use Rattle.peer_zone.specs.Lays as peer_words
use Rattle.zone_config.specs.declared.data.ZoneSpec.{ZoneSpec}
use Rattle.zone_config.specs.declared.data.ZoneSpec.TheVariants as zone
use Rattle.request_script.specs.declared.call.ZoneCall.TheVariants as to
use Rattle.request_script.specs.declared.call.ZoneReply.TheVariants as from
use Rattle.request_script.specs.Turn.{Exchange}
use Rattle.request_script.specs.Drive.{Made, req_part, conn_part, peer_part}
use Rattle.request_script.specs.Permitted as may
use Rattle.replay_share.specs.declared.journal.ZoneJournal.TheVariants.{Req, Conn, Peer}
use Rattle.replay_share.specs.Logs.{ReqEntry, ConnEntry, PeerEntry, HasPart, made_of, req_opened, conn_opened, peer_opened}
use Rattle.replay_share.specs.Logs.ZoneLog.{req_log, conn_log, peer_log}
use Rattle.replay_share.specs.Journals.{CanTake, TakesAs}
use Rattle.replay_share.proofs.Parts.{made-sum, own-length, own-added, req_few, conn_few, peer_few, req_grows, conn_grows, peer_grows}

module _ {X St C R : Type 0} where
  -- what was given back is less than what was given, over the entries as over what was made
  less_made : (f g : Made C R → ℕ) (entries : List (Entry X St C R)) (made : List (Made C R)) → map made_of entries ≡ made → sum_by f made < sum_by g made
      → sum_by (λ (e : Entry X St C R). f (made_of e)) entries < sum_by (λ (e : Entry X St C R). g (made_of e)) entries
  less_made f g entries made is less =
      let back : sum_by f made ≡ sum_by (λ (e : Entry X St C R). f (made_of e)) entries = sym (ap (sum_by f) is) ∙ made-sum f entries in
      let given : sum_by g made ≡ sum_by (λ (e : Entry X St C R). g (made_of e)) entries = sym (ap (sum_by g) is) ∙ made-sum g entries in
      omega (arith, less, back, given)

-- ---- a request zone

pub permits_req : (who z : ℕ) (asked : List Exchange) (entries : List ReqEntry) (call : ReqCall) → HasPart asked who z (req_log entries) → may.MayAsk asked (to.Req z call) → req.Permits (own entries who) call
permits_req who z asked entries (Check key now burst last) part may = may
permits_req who z asked entries (Account at now) part may = (may.0, less_made (λ (m : Made ReqCall ReqReply). req.back_by at m.call) (λ (m : Made ReqCall ReqReply). req.given_by at m.reply) (own entries who) (req_part z asked) part may.1)
permits_req who z asked entries (Release at) part may = less_made (λ (m : Made ReqCall ReqReply). req.back_by at m.call) (λ (m : Made ReqCall ReqReply). req.given_by at m.reply) (own entries who) (req_part z asked) part may

pub room_req : (spec : ZoneSpec) (room : ℕ) (asked : List Exchange) (z : ℕ) (call : ReqCall) (journal : Recorded ReqWords ReqEntry) → CanTake (Req journal) spec room asked (to.Req z call) → length journal.log < journal.room
room_req (zone.Req spec key) room asked z call journal can = omega (arith, can.room_left, can.taken.kept.room_is, own-length journal.log (req_part z asked) can.taken.kept.mine can.taken.part, req_few z asked)
room_req (zone.Conn spec key) room asked z call journal can = elim can.taken.kept [ ]
room_req (zone.Peer spec line) room asked z call journal can = elim can.taken.kept [ ]

pub may_req : (spec : ZoneSpec) (room : ℕ) (asked : List Exchange) (z : ℕ) (call : ReqCall) (journal : Recorded ReqWords ReqEntry) → CanTake (Req journal) spec room asked (to.Req z call) → req.Permits (own journal.log 0) call
may_req spec room asked z call journal can = permits_req 0 z asked journal.log call can.taken.part can.may

pub taken_req : (spec : ZoneSpec) (room : ℕ) (asked : List Exchange) (z : ℕ) (call : ReqCall) (reply : ReqReply) (journal new : Recorded ReqWords ReqEntry)
    → CanTake (Req journal) spec room asked (to.Req z call) → new.room ≡ journal.room → new.log ≡ journal.log ++ entry 0 call reply ∷ []
    → ((s : ReqState) → HasRun req.IsOpened req_words.Lays req.answer_of req.zone_after req.Permits s journal.object journal.log → HasRun req.IsOpened req_words.Lays req.answer_of req.zone_after req.Permits s new.object new.log)
    → TakesAs (Req new) spec room (asked ++ record { call = to.Req z call; reply = from.Req reply } ∷ []) (to.Req z call)
taken_req (zone.Req spec key) room asked z call reply journal new can room_is log_is ran = record {
  kept = record {
    room_is = room_is ∙ can.taken.kept.room_is;
    ran = ran (req_opened spec) can.taken.kept.ran;
    mine = subst (λ (l : List ReqEntry). All (λ (e : ReqEntry). e.caller < 1) l) (sym log_is) (All-push (λ (e : ReqEntry). e.caller < 1) journal.log (entry 0 call reply) can.taken.kept.mine (omega arith));
  };
  part = subst (λ (l : List ReqEntry). HasPart (asked ++ record { call = to.Req z call; reply = from.Req reply } ∷ []) 0 z (req_log l)) (sym log_is) (req_grows asked journal.log (journal.log ++ entry 0 call reply ∷ []) 0 z call reply (own-added journal.log 0 call reply) can.taken.part);
}
taken_req (zone.Conn spec key) room asked z call reply journal new can room_is log_is ran = elim can.taken.kept [ ]
taken_req (zone.Peer spec line) room asked z call reply journal new can room_is log_is ran = elim can.taken.kept [ ]

-- ---- a connection zone

pub permits_conn : (who z : ℕ) (asked : List Exchange) (entries : List ConnEntry) (call : ConnCall) → HasPart asked who z (conn_log entries) → may.MayAsk asked (to.Conn z call) → conn.Permits (own entries who) call
permits_conn who z asked entries (Open key limit) part may = may
permits_conn who z asked entries (Close at) part may = less_made (λ (m : Made ConnCall ConnReply). conn.back_by at m.call) (λ (m : Made ConnCall ConnReply). conn.given_by at m.reply) (own entries who) (conn_part z asked) part may

pub room_conn : (spec : ZoneSpec) (room : ℕ) (asked : List Exchange) (z : ℕ) (call : ConnCall) (journal : Recorded conn_words.Zone ConnEntry) → CanTake (Conn journal) spec room asked (to.Conn z call) → length journal.log < journal.room
room_conn (zone.Req spec key) room asked z call journal can = elim can.taken.kept [ ]
room_conn (zone.Conn spec key) room asked z call journal can = omega (arith, can.room_left, can.taken.kept.room_is, own-length journal.log (conn_part z asked) can.taken.kept.mine can.taken.part, conn_few z asked)
room_conn (zone.Peer spec line) room asked z call journal can = elim can.taken.kept [ ]

pub may_conn : (spec : ZoneSpec) (room : ℕ) (asked : List Exchange) (z : ℕ) (call : ConnCall) (journal : Recorded conn_words.Zone ConnEntry) → CanTake (Conn journal) spec room asked (to.Conn z call) → conn.Permits (own journal.log 0) call
may_conn spec room asked z call journal can = permits_conn 0 z asked journal.log call can.taken.part can.may

pub taken_conn : (spec : ZoneSpec) (room : ℕ) (asked : List Exchange) (z : ℕ) (call : ConnCall) (reply : ConnReply) (journal new : Recorded conn_words.Zone ConnEntry)
    → CanTake (Conn journal) spec room asked (to.Conn z call) → new.room ≡ journal.room → new.log ≡ journal.log ++ entry 0 call reply ∷ []
    → ((s : ConnState) → HasRun conn.IsOpened conn_words.Lays conn.answer_of conn.zone_after conn.Permits s journal.object journal.log → HasRun conn.IsOpened conn_words.Lays conn.answer_of conn.zone_after conn.Permits s new.object new.log)
    → TakesAs (Conn new) spec room (asked ++ record { call = to.Conn z call; reply = from.Conn reply } ∷ []) (to.Conn z call)
taken_conn (zone.Req spec key) room asked z call reply journal new can room_is log_is ran = elim can.taken.kept [ ]
taken_conn (zone.Conn spec key) room asked z call reply journal new can room_is log_is ran = record {
  kept = record {
    room_is = room_is ∙ can.taken.kept.room_is;
    ran = ran (conn_opened spec) can.taken.kept.ran;
    mine = subst (λ (l : List ConnEntry). All (λ (e : ConnEntry). e.caller < 1) l) (sym log_is) (All-push (λ (e : ConnEntry). e.caller < 1) journal.log (entry 0 call reply) can.taken.kept.mine (omega arith));
  };
  part = subst (λ (l : List ConnEntry). HasPart (asked ++ record { call = to.Conn z call; reply = from.Conn reply } ∷ []) 0 z (conn_log l)) (sym log_is) (conn_grows asked journal.log (journal.log ++ entry 0 call reply ∷ []) 0 z call reply (own-added journal.log 0 call reply) can.taken.part);
}
taken_conn (zone.Peer spec line) room asked z call reply journal new can room_is log_is ran = elim can.taken.kept [ ]

-- ---- an upstream's zone

pub permits_peer : (who z : ℕ) (asked : List Exchange) (entries : List PeerEntry) (call : PeerCall) → HasPart asked who z (peer_log entries) → may.MayAsk asked (to.Peer z call) → peer.Permits (own entries who) call
permits_peer who z asked entries (Choose list tried now) part may = may
permits_peer who z asked entries (Free list index failed now) part may = (may.0, may.1, less_made (λ (m : Made PeerCall PeerReply). peer.back_by list index m.call) (λ (m : Made PeerCall PeerReply). peer.given_by list index m.call m.reply) (own entries who) (peer_part z asked) part may.2)

pub room_peer : (spec : ZoneSpec) (room : ℕ) (asked : List Exchange) (z : ℕ) (call : PeerCall) (journal : Recorded PeerWords PeerEntry) → CanTake (Peer journal) spec room asked (to.Peer z call) → length journal.log < journal.room
room_peer (zone.Req spec key) room asked z call journal can = elim can.taken.kept [ ]
room_peer (zone.Conn spec key) room asked z call journal can = elim can.taken.kept [ ]
room_peer (zone.Peer spec line) room asked z call journal can = omega (arith, can.room_left, can.taken.kept.room_is, own-length journal.log (peer_part z asked) can.taken.kept.mine can.taken.part, peer_few z asked)

pub may_peer : (spec : ZoneSpec) (room : ℕ) (asked : List Exchange) (z : ℕ) (call : PeerCall) (journal : Recorded PeerWords PeerEntry) → CanTake (Peer journal) spec room asked (to.Peer z call) → peer.Permits (own journal.log 0) call
may_peer spec room asked z call journal can = permits_peer 0 z asked journal.log call can.taken.part can.may

pub taken_peer : (spec : ZoneSpec) (room : ℕ) (asked : List Exchange) (z : ℕ) (call : PeerCall) (reply : PeerReply) (journal new : Recorded PeerWords PeerEntry)
    → CanTake (Peer journal) spec room asked (to.Peer z call) → new.room ≡ journal.room → new.log ≡ journal.log ++ entry 0 call reply ∷ []
    → ((s : PeerState) → HasRun opening.IsOpened peer_words.Lays peer.answer_of peer.zone_after peer.Permits s journal.object journal.log → HasRun opening.IsOpened peer_words.Lays peer.answer_of peer.zone_after peer.Permits s new.object new.log)
    → TakesAs (Peer new) spec room (asked ++ record { call = to.Peer z call; reply = from.Peer reply } ∷ []) (to.Peer z call)
taken_peer (zone.Req spec key) room asked z call reply journal new can room_is log_is ran = elim can.taken.kept [ ]
taken_peer (zone.Conn spec key) room asked z call reply journal new can room_is log_is ran = elim can.taken.kept [ ]
taken_peer (zone.Peer spec line) room asked z call reply journal new can room_is log_is ran = record {
  kept = record {
    room_is = room_is ∙ can.taken.kept.room_is;
    ran = ran (peer_opened spec) can.taken.kept.ran;
    mine = subst (λ (l : List PeerEntry). All (λ (e : PeerEntry). e.caller < 1) l) (sym log_is) (All-push (λ (e : PeerEntry). e.caller < 1) journal.log (entry 0 call reply) can.taken.kept.mine (omega arith));
  };
  part = subst (λ (l : List PeerEntry). HasPart (asked ++ record { call = to.Peer z call; reply = from.Peer reply } ∷ []) 0 z (peer_log l)) (sym log_is) (peer_grows asked journal.log (journal.log ++ entry 0 call reply ∷ []) 0 z call reply (own-added journal.log 0 call reply) can.taken.part);
}
