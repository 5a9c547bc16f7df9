-- What a zone answers a caller that is alone, after what was asked before.
use Rattle.std.proofs.Common.{ℕ, ◌≡◌, true, List, ◌∷◌, ◌++◌, map, refl, ap, ◌∙◌, arith}
use Rattle.std.specs.Prelude.{nat_eq, Option, Some, None, slice_get}
use Rattle.std.proofs.lemmas.Bool.Decides.{nat_tests}
use Rattle.std.proofs.lemmas.List.Elements.{filter_map-append}
use Rattle.zone_object.specs.History.{run}
use Rattle.req_zone.specs.declared.calls.ReqCall.{ReqCall}
use Rattle.req_zone.specs.declared.calls.ReqReply.{ReqReply}
use Rattle.req_zone.specs.Object as req
use Rattle.conn_zone.specs.declared.calls.ConnCall.{ConnCall}
use Rattle.conn_zone.specs.declared.calls.ConnReply.{ConnReply}
use Rattle.conn_zone.specs.Object as conn
use Rattle.peer_zone.specs.declared.calls.PeerCall.{PeerCall}
use Rattle.peer_zone.specs.declared.calls.PeerReply.{PeerReply}
use Rattle.peer_zone.specs.Object as peer
use Rattle.zone_config.specs.declared.data.ZoneSpec.{ZoneSpec}
use Rattle.zone_config.specs.declared.data.ZoneSpec.TheVariants as zone
use Rattle.request_script.specs.declared.call.ZoneCall.{ZoneCall}
use Rattle.request_script.specs.declared.call.ZoneCall.TheVariants as to
use Rattle.request_script.specs.declared.call.ZoneReply.{ZoneReply}
use Rattle.request_script.specs.declared.call.ZoneReply.TheVariants as from
use Rattle.request_script.specs.Turn.{Exchange}
use Rattle.request_script.specs.Drive.{Made, req_made, conn_made, peer_made, req_part, conn_part, peer_part}
use Rattle.request_script.specs.Permitted.{zone_of}
use Rattle.replay_share.specs.Logs.{ReqEntry, ConnEntry, PeerEntry, req_opened, conn_opened, peer_opened}
use Rattle.replay_share.proofs.Solo.{entry_of}

-- the entries of what was asked of a zone
abbrev pub req_entries : ℕ → List Exchange → List ReqEntry
req_entries z asked = map entry_of (req_part z asked)

abbrev pub conn_entries : ℕ → List Exchange → List ConnEntry
conn_entries z asked = map entry_of (conn_part z asked)

abbrev pub peer_entries : ℕ → List Exchange → List PeerEntry
peer_entries z asked = map entry_of (peer_part z asked)

-- what a call to a zone of its kind is answered after what was asked before
abbrev pub answer_at : Option ZoneSpec → List Exchange → ZoneCall → Option ZoneReply
answer_at (Some (zone.Req spec key)) past (to.Req z call) = Some (from.Req (req.answer_of (run req.zone_after (req_opened spec) (req_entries z past)) call))
answer_at (Some (zone.Conn spec key)) past (to.Conn z call) = Some (from.Conn (conn.answer_of (run conn.zone_after (conn_opened spec) (conn_entries z past)) call))
answer_at (Some (zone.Peer spec at)) past (to.Peer z call) = Some (from.Peer (peer.answer_of (run peer.zone_after (peer_opened spec) (peer_entries z past)) call))
answer_at _ past call = None

abbrev pub answer_in : List ZoneSpec → List Exchange → ZoneCall → Option ZoneReply
answer_in zones past call = answer_at (slice_get zones (zone_of call)) past call

same : (z : ℕ) → nat_eq z z ≡ true
same z = grind (arith, nat_tests)

pub req-split : (past more : List Exchange) (z : ℕ) (call : ReqCall) (reply : ReqReply) → req_part z (past ++ record { call = to.Req z call; reply = from.Req reply } ∷ more) ≡ req_part z past ++ record { call = call; reply = reply } ∷ req_part z more
req-split past more z call reply =
    let one : req_part z (record { call = to.Req z call; reply = from.Req reply } ∷ more) ≡ record { call = call; reply = reply } ∷ req_part z more = rw (same z) refl in
    filter_map-append (λ (e : Exchange). req_made z e.call e.reply) past (record { call = to.Req z call; reply = from.Req reply } ∷ more) ∙ ap (λ (l : List (Made ReqCall ReqReply)). req_part z past ++ l) one

pub conn-split : (past more : List Exchange) (z : ℕ) (call : ConnCall) (reply : ConnReply) → conn_part z (past ++ record { call = to.Conn z call; reply = from.Conn reply } ∷ more) ≡ conn_part z past ++ record { call = call; reply = reply } ∷ conn_part z more
conn-split past more z call reply =
    let one : conn_part z (record { call = to.Conn z call; reply = from.Conn reply } ∷ more) ≡ record { call = call; reply = reply } ∷ conn_part z more = rw (same z) refl in
    filter_map-append (λ (e : Exchange). conn_made z e.call e.reply) past (record { call = to.Conn z call; reply = from.Conn reply } ∷ more) ∙ ap (λ (l : List (Made ConnCall ConnReply)). conn_part z past ++ l) one

pub peer-split : (past more : List Exchange) (z : ℕ) (call : PeerCall) (reply : PeerReply) → peer_part z (past ++ record { call = to.Peer z call; reply = from.Peer reply } ∷ more) ≡ peer_part z past ++ record { call = call; reply = reply } ∷ peer_part z more
peer-split past more z call reply =
    let one : peer_part z (record { call = to.Peer z call; reply = from.Peer reply } ∷ more) ≡ record { call = call; reply = reply } ∷ peer_part z more = rw (same z) refl in
    filter_map-append (λ (e : Exchange). peer_made z e.call e.reply) past (record { call = to.Peer z call; reply = from.Peer reply } ∷ more) ∙ ap (λ (l : List (Made PeerCall PeerReply)). peer_part z past ++ l) one
