-- A replay by one worker has one outcome.
use Rattle.std.proofs.Common.{ℕ, suc, ◌≡◌, ◌<◌, ◌%◌, true, List, [], ◌∷◌, ◌++◌, map, sym, refl, ap, subst, ◌∙◌, arith, append_assoc}
use Rattle.std.specs.Prelude.{nat_eq, Option, Some, None, IfSome, slice_get}
use Rattle.std.specs.List.{All}
use Rattle.std.proofs.lemmas.Bool.Decides.{nat_tests}
use Rattle.std.proofs.lemmas.List.Elements.{All-head, All-tail}
use Rattle.req_zone.specs.declared.calls.ReqCall.{ReqCall}
use Rattle.req_zone.specs.declared.calls.ReqReply.{ReqReply}
use Rattle.req_zone.specs.Object as req
use Rattle.conn_zone.specs.declared.calls.ConnCall.{ConnCall}
use Rattle.conn_zone.specs.declared.calls.ConnReply.{ConnReply}
use Rattle.conn_zone.specs.Object as conn
use Rattle.peer_zone.specs.declared.calls.PeerCall.{PeerCall}
use Rattle.peer_zone.specs.declared.calls.PeerReply.{PeerReply}
use Rattle.peer_zone.specs.Object as peer
use Rattle.zone_config.specs.declared.data.Config.{Config}
use Rattle.zone_config.specs.declared.data.ZoneSpec.{ZoneSpec}
use Rattle.zone_config.specs.declared.data.ZoneSpec.TheVariants as zone
use Rattle.zone_config.specs.Conditions.{IsReqZone, IsConnZone, IsSomePeerZone}
use Rattle.replay_log.specs.declared.line.Line.{Line}
use Rattle.request_script.specs.declared.call.ZoneCall.{ZoneCall}
use Rattle.request_script.specs.declared.call.ZoneCall.TheVariants as to
use Rattle.request_script.specs.declared.call.ZoneReply.{ZoneReply}
use Rattle.request_script.specs.declared.call.ZoneReply.TheVariants as from
use Rattle.request_script.specs.declared.decision.Decision.{Decision}
use Rattle.request_script.specs.Turn.{Exchange}
use Rattle.request_script.specs.Drive.{Table, nothing_active, Drives, req_part, conn_part, peer_part}
use Rattle.request_script.specs.Permitted.{IsOfKind, zone_of}
use Rattle.replay_share.specs.Calls.{IsReplyTo, IsWith}
use Rattle.replay_share.specs.Logs.{ReqEntry, ConnEntry, PeerEntry, ZoneLog, req_opened, conn_opened, peer_opened, IsAt, IsLogOf, AreLogsOf, HasPart, HasParts}
use Rattle.replay_share.specs.Logs.ZoneLog.{req_log, conn_log, peer_log}
use Rattle.replay_share.specs.Replay.{Decided, line_of, decision_of, is_for, share_of, HasPlayed, IsReplay}
use Rattle.replay_share.specs.OneReplay.{Outcome, OneReplay}
use Rattle.replay_share.proofs.Solo.{solo-same, solo-reply}
use Rattle.replay_share.proofs.ZoneAnswers.{answer_at, answer_in, req-split, conn-split, peer-split}
use Rattle.replay_share.proofs.Answering.{AreAnswered, one_drive}

-- ---- one worker plays all lines

-- the drive of the only worker, and what it asked
record PlaysAll (config : Config) (lines : List Line) (decided : List Decided) (logs : List ZoneLog) : Type 0 where
  asked : List Exchange
  table : Table
  drives : Drives config nothing_active lines asked (map decision_of decided) table
  parts : HasParts asked 0 logs
  kinds : All (IsWith config.zones) asked

is_mine : (d : Decided) → is_for 1 0 d ≡ true
is_mine d = let none : d.line.conn % 1 ≡ 0 = omega arith in let t : nat_eq (d.line.conn % 1) 0 ≡ true = grind (arith, nat_tests, none) in t

all_mine : (decided : List Decided) → share_of 1 0 decided ≡ decided
all_mine [] = refl
all_mine (d ∷ ds) = rw (is_mine d) (ap (λ (l : List Decided). d ∷ l) (all_mine ds))

plays_all : (config : Config) (lines : List Line) (decided : List Decided) (logs : List ZoneLog) → IsReplay config 1 lines decided logs → PlaysAll config lines decided logs
plays_all config lines decided logs h =
    let low : 0 < 1 = omega arith in
    let played : HasPlayed config decided 0 logs = subst (λ (l : List Decided). HasPlayed config l 0 logs) (all_mine decided) (h.shares 0 low) in
    record {
      asked = played.asked;
      table = played.table;
      drives = subst (λ (l : List Line). Drives config nothing_active l played.asked (map decision_of decided) played.table) h.lines_are played.drives;
      parts = played.parts;
      kinds = played.kinds;
    }

-- ---- the replies

-- the history of a zone, if it is there, has what was asked of it
abbrev HasPartAt : Option ZoneLog → ℕ → List Exchange → Type 0
HasPartAt log z asked = IfSome log (HasPart asked 0 z)

module _ (past more : List Exchange) (z : ℕ) where
  req-answered : (spec : Option ZoneSpec) (log : Option ZoneLog) (call : ReqCall) (reply : ReqReply) → IsReqZone spec → IsAt (IsLogOf 1) spec log → HasPartAt log z (past ++ record { call = to.Req z call; reply = from.Req reply } ∷ more) → Some (from.Req reply) ≡ answer_at spec past (to.Req z call)
  req-answered (Some (zone.Req spec key)) (Some (req_log log)) call reply kind h part =
      ap (λ (r : ReqReply). Some (from.Req r))
      (solo-reply req.answer_of req.zone_after (req_opened spec) log (req_part z past) (req_part z more) (record { call = call; reply = reply }) h.1 h.0.legal (part ∙ req-split past more z call reply))
  req-answered (Some (zone.Req spec key)) (Some (conn_log log)) call reply kind h part = absurd h
  req-answered (Some (zone.Req spec key)) (Some (peer_log log)) call reply kind h part = absurd h
  req-answered (Some (zone.Req spec key)) None call reply kind h part = absurd h
  req-answered (Some (zone.Conn spec key)) log call reply kind h part = absurd kind
  req-answered (Some (zone.Peer spec at)) log call reply kind h part = absurd kind
  req-answered None log call reply kind h part = absurd kind

  conn-answered : (spec : Option ZoneSpec) (log : Option ZoneLog) (call : ConnCall) (reply : ConnReply) → IsConnZone spec → IsAt (IsLogOf 1) spec log → HasPartAt log z (past ++ record { call = to.Conn z call; reply = from.Conn reply } ∷ more) → Some (from.Conn reply) ≡ answer_at spec past (to.Conn z call)
  conn-answered (Some (zone.Conn spec key)) (Some (conn_log log)) call reply kind h part =
      ap (λ (r : ConnReply). Some (from.Conn r))
      (solo-reply conn.answer_of conn.zone_after (conn_opened spec) log (conn_part z past) (conn_part z more) (record { call = call; reply = reply }) h.1 h.0.legal (part ∙ conn-split past more z call reply))
  conn-answered (Some (zone.Conn spec key)) (Some (req_log log)) call reply kind h part = absurd h
  conn-answered (Some (zone.Conn spec key)) (Some (peer_log log)) call reply kind h part = absurd h
  conn-answered (Some (zone.Conn spec key)) None call reply kind h part = absurd h
  conn-answered (Some (zone.Req spec key)) log call reply kind h part = absurd kind
  conn-answered (Some (zone.Peer spec at)) log call reply kind h part = absurd kind
  conn-answered None log call reply kind h part = absurd kind

  peer-answered : (spec : Option ZoneSpec) (log : Option ZoneLog) (call : PeerCall) (reply : PeerReply) → IsSomePeerZone spec → IsAt (IsLogOf 1) spec log → HasPartAt log z (past ++ record { call = to.Peer z call; reply = from.Peer reply } ∷ more) → Some (from.Peer reply) ≡ answer_at spec past (to.Peer z call)
  peer-answered (Some (zone.Peer spec at)) (Some (peer_log log)) call reply kind h part =
      ap (λ (r : PeerReply). Some (from.Peer r))
      (solo-reply peer.answer_of peer.zone_after (peer_opened spec) log (peer_part z past) (peer_part z more) (record { call = call; reply = reply }) h.1 h.0.legal (part ∙ peer-split past more z call reply))
  peer-answered (Some (zone.Peer spec at)) (Some (req_log log)) call reply kind h part = absurd h
  peer-answered (Some (zone.Peer spec at)) (Some (conn_log log)) call reply kind h part = absurd h
  peer-answered (Some (zone.Peer spec at)) None call reply kind h part = absurd h
  peer-answered (Some (zone.Req spec key)) log call reply kind h part = absurd kind
  peer-answered (Some (zone.Conn spec key)) log call reply kind h part = absurd kind
  peer-answered None log call reply kind h part = absurd kind

-- one exchange has the answer of its zone
answered : (zones : List ZoneSpec) (log : Option ZoneLog) (past more : List Exchange) (call : ZoneCall) (reply : ZoneReply) → IsOfKind (slice_get zones (zone_of call)) call → IsReplyTo call reply
    → IsAt (IsLogOf 1) (slice_get zones (zone_of call)) log → HasPartAt log (zone_of call) (past ++ record { call = call; reply = reply } ∷ more) → Some reply ≡ answer_in zones past call
answered zones log past more (to.Req z call) (from.Req reply) kind is h part = req-answered past more z (slice_get zones z) log call reply kind h part
answered zones log past more (to.Req z call) (from.Conn reply) kind is h part = absurd is
answered zones log past more (to.Req z call) (from.Peer reply) kind is h part = absurd is
answered zones log past more (to.Conn z call) (from.Conn reply) kind is h part = conn-answered past more z (slice_get zones z) log call reply kind h part
answered zones log past more (to.Conn z call) (from.Req reply) kind is h part = absurd is
answered zones log past more (to.Conn z call) (from.Peer reply) kind is h part = absurd is
answered zones log past more (to.Peer z call) (from.Peer reply) kind is h part = peer-answered past more z (slice_get zones z) log call reply kind h part
answered zones log past more (to.Peer z call) (from.Req reply) kind is h part = absurd is
answered zones log past more (to.Peer z call) (from.Conn reply) kind is h part = absurd is

-- and so has each
all_answered : (zones : List ZoneSpec) (logs : List ZoneLog) (past asked : List Exchange) → AreLogsOf 1 zones logs → HasParts (past ++ asked) 0 logs → All (IsWith zones) asked → AreAnswered (answer_in zones) past asked
all_answered zones logs past [] are parts kinds = tt
all_answered zones logs past (e ∷ es) are parts kinds =
    let with : IsWith zones e = All-head (IsWith zones) e es kinds in (
      answered zones (slice_get logs (zone_of e.call)) past es e.call e.reply with.there with.reply (are (zone_of e.call)) (parts (zone_of e.call)),
      all_answered zones logs (past ++ e ∷ []) es are (subst (λ (l : List Exchange). HasParts l 0 logs) (sym (append_assoc past (e ∷ []) es)) parts) (All-tail (IsWith zones) e es kinds),
    )

-- ---- the histories

-- two histories of a zone that have the same part are equal
one_log : (asked : List Exchange) (z : ℕ) (spec : Option ZoneSpec) (log other : Option ZoneLog) → IsAt (IsLogOf 1) spec log → IsAt (IsLogOf 1) spec other → HasPartAt log z asked → HasPartAt other z asked → log ≡ other
one_log asked z None None None h k part so = refl
one_log asked z None None (Some other) h k part so = absurd k
one_log asked z None (Some log) other h k part so = absurd h
one_log asked z (Some (zone.Req spec key)) (Some (req_log log)) (Some (req_log other)) h k part so = ap (λ (l : List ReqEntry). Some (req_log l)) (solo-same log other (req_part z asked) h.1 k.1 part so)
one_log asked z (Some (zone.Req spec key)) (Some (req_log log)) (Some (conn_log other)) h k part so = absurd k
one_log asked z (Some (zone.Req spec key)) (Some (req_log log)) (Some (peer_log other)) h k part so = absurd k
one_log asked z (Some (zone.Req spec key)) (Some (req_log log)) None h k part so = absurd k
one_log asked z (Some (zone.Req spec key)) (Some (conn_log log)) other h k part so = absurd h
one_log asked z (Some (zone.Req spec key)) (Some (peer_log log)) other h k part so = absurd h
one_log asked z (Some (zone.Req spec key)) None other h k part so = absurd h
one_log asked z (Some (zone.Conn spec key)) (Some (conn_log log)) (Some (conn_log other)) h k part so = ap (λ (l : List ConnEntry). Some (conn_log l)) (solo-same log other (conn_part z asked) h.1 k.1 part so)
one_log asked z (Some (zone.Conn spec key)) (Some (conn_log log)) (Some (req_log other)) h k part so = absurd k
one_log asked z (Some (zone.Conn spec key)) (Some (conn_log log)) (Some (peer_log other)) h k part so = absurd k
one_log asked z (Some (zone.Conn spec key)) (Some (conn_log log)) None h k part so = absurd k
one_log asked z (Some (zone.Conn spec key)) (Some (req_log log)) other h k part so = absurd h
one_log asked z (Some (zone.Conn spec key)) (Some (peer_log log)) other h k part so = absurd h
one_log asked z (Some (zone.Conn spec key)) None other h k part so = absurd h
one_log asked z (Some (zone.Peer spec at)) (Some (peer_log log)) (Some (peer_log other)) h k part so = ap (λ (l : List PeerEntry). Some (peer_log l)) (solo-same log other (peer_part z asked) h.1 k.1 part so)
one_log asked z (Some (zone.Peer spec at)) (Some (peer_log log)) (Some (req_log other)) h k part so = absurd k
one_log asked z (Some (zone.Peer spec at)) (Some (peer_log log)) (Some (conn_log other)) h k part so = absurd k
one_log asked z (Some (zone.Peer spec at)) (Some (peer_log log)) None h k part so = absurd k
one_log asked z (Some (zone.Peer spec at)) (Some (req_log log)) other h k part so = absurd h
one_log asked z (Some (zone.Peer spec at)) (Some (conn_log log)) other h k part so = absurd h
one_log asked z (Some (zone.Peer spec at)) None other h k part so = absurd h

some-same : {A : Type 0} (x y : A) → Some x ≡ Some y → x ≡ y
some-same x y is = cc

none-some : {A : Type 0} (x : A) → None ≡ Some x → ⊥
none-some x is = cc

-- lists that are equal at each place are equal
same_lists : {A : Type 0} (xs ys : List A) → ((z : ℕ) → slice_get xs z ≡ slice_get ys z) → xs ≡ ys
same_lists [] [] at = refl
same_lists [] (y ∷ ys) at = absurd (none-some y (at 0))
same_lists (x ∷ xs) [] at = absurd (none-some x (sym (at 0)))
same_lists (x ∷ xs) (y ∷ ys) at = ap (λ (a : _). a ∷ xs) (some-same x y (at 0)) ∙ ap (λ (l : List _). y ∷ l) (same_lists xs ys (λ z. at (suc z)))

-- ---- the decisions

cons-head : {A : Type 0} (x y : A) (xs ys : List A) → x ∷ xs ≡ y ∷ ys → x ≡ y
cons-head x y xs ys is = cc

cons-tail : {A : Type 0} (x y : A) (xs ys : List A) → x ∷ xs ≡ y ∷ ys → xs ≡ ys
cons-tail x y xs ys is = cc

nil-cons : {A : Type 0} (x : A) (xs : List A) → [] ≡ x ∷ xs → ⊥
nil-cons x xs is = cc

-- the same lines with the same decisions
same_decided : (first second : List Decided) → map line_of first ≡ map line_of second → map decision_of first ≡ map decision_of second → first ≡ second
same_decided [] [] lines decisions = refl
same_decided [] (d ∷ ds) lines decisions = absurd (nil-cons d.line (map line_of ds) lines)
same_decided (d ∷ ds) [] lines decisions = absurd (nil-cons d.line (map line_of ds) (sym lines))
same_decided (d ∷ ds) (o ∷ os) lines decisions =
    let line_is : d.line ≡ o.line = cons-head d.line o.line (map line_of ds) (map line_of os) lines in
    let decision_is : d.decision ≡ o.decision = cons-head d.decision o.decision (map decision_of ds) (map decision_of os) decisions in
    let first : d ≡ o = ap (λ (l : Line). record { line = l; decision = d.decision }) line_is ∙ ap (λ (x : Decision). record { line = o.line; decision = x }) decision_is in
    let rest = same_decided ds os (cons-tail d.line o.line (map line_of ds) (map line_of os) lines) (cons-tail d.decision o.decision (map decision_of ds) (map decision_of os) decisions) in
    ap (λ (x : Decided). x ∷ ds) first ∙ ap (λ (l : List Decided). o ∷ l) rest

-- ---- the law

same_outcome : (first second : Outcome) → first.decided ≡ second.decided → first.logs ≡ second.logs → first ≡ second
same_outcome first second decided logs = ap (λ (ds : List Decided). record { decided = ds; logs = first.logs }) decided ∙ ap (λ (ls : List ZoneLog). record { decided = second.decided; logs = ls }) logs

pub one_replay : OneReplay
one_replay config lines first second h k =
    let one = plays_all config lines first.decided first.logs h in
    let two = plays_all config lines second.decided second.logs k in
    let drive = one_drive (answer_in config.zones) config [] nothing_active lines one.asked two.asked (map decision_of first.decided) (map decision_of second.decided) one.table two.table one.drives two.drives
    (all_answered config.zones first.logs [] one.asked h.histories one.parts one.kinds) (all_answered config.zones second.logs [] two.asked k.histories two.parts two.kinds) in
    let parts : HasParts one.asked 0 second.logs = subst (λ (l : List Exchange). HasParts l 0 second.logs) (sym drive.asked_is) two.parts in
    same_outcome first second
    (same_decided first.decided second.decided (h.lines_are ∙ sym k.lines_are) drive.decisions_are)
    (same_lists first.logs second.logs (λ z. one_log one.asked z (slice_get config.zones z) (slice_get first.logs z) (slice_get second.logs z) (h.histories z) (k.histories z) (one.parts z) (parts z)))
