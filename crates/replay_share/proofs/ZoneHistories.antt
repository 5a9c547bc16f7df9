-- The history of each zone where a caller alone asked: it begins, and grows by each call that is permitted.
use Rattle.std.proofs.Common.{ℕ, zero, suc, ◌≡◌, ◌≢◌, ◌+◌, ◌<◌, ◌≤◌, ◌^◌, if◌then◌else◌, Bool, true, false, List, [], ◌∷◌, ◌++◌, length, map, sym, refl, ap, subst, ◌∙◌, arith, ⊎_elim}
use Rattle.std.specs.Prelude.{nat_eq, Option, Some, None, IfSome, slice_get}
use Rattle.std.specs.Option.{option_map}
use Rattle.std.specs.List.{All, filter_map, cons_option}
use Rattle.std.proofs.Math.Dec.{eqb}
use Rattle.std.proofs.lemmas.Bool.Decides.{nat_tests, eqb_tells}
use Rattle.std.proofs.lemmas.List.{append-nil, length-map}
use Rattle.std.proofs.lemmas.List.Elements.{All-head, All-tail, All-nil, All-push, filter_map-append}
use Rattle.zone_object.specs.History.{own, run}
use Rattle.zone_object.proofs.Histories.{history-nil}
use Rattle.slab_model.specs.Geometry.{IsInLimits, shape_of}
use Rattle.req_zone.specs.declared.calls.ReqCall.{ReqCall}
use Rattle.req_zone.specs.declared.calls.ReqCall.TheVariants.{Check, Account, Release}
use Rattle.req_zone.specs.declared.calls.ReqReply.{ReqReply}
use Rattle.req_zone.specs.declared.calls.ReqReply.TheVariants.{Released}
use Rattle.req_zone.specs.declared.state.ReqState.{ReqState}
use Rattle.req_zone.specs.declared.words.ReqWords.{ReqWords}
use Rattle.req_zone.specs.Object as req
use Rattle.req_zone.specs.Proving.Fresh as req_fresh
use Rattle.conn_zone.specs.declared.calls.ConnCall.{ConnCall}
use Rattle.conn_zone.specs.declared.calls.ConnCall.TheVariants.{Open, Close}
use Rattle.conn_zone.specs.declared.calls.ConnReply.{ConnReply}
use Rattle.conn_zone.specs.declared.state.ConnState.{ConnState}
use Rattle.conn_zone.specs.Layout as conn_words
use Rattle.conn_zone.specs.Object as conn
use Rattle.conn_zone.specs.Proving.Fresh as conn_fresh
use Rattle.peer_zone.specs.declared.calls.PeerCall.{PeerCall}
use Rattle.peer_zone.specs.declared.calls.PeerCall.TheVariants.{Choose, Free}
use Rattle.peer_zone.specs.declared.calls.PeerReply.{PeerReply}
use Rattle.peer_zone.specs.declared.state.PeerState.{PeerState}
use Rattle.peer_zone.specs.declared.words.PeerWords.{PeerWords}
use Rattle.peer_zone.specs.Object as peer
use Rattle.peer_zone.specs.Opening as opening
use Rattle.peer_zone.specs.Laws.{RefusedLaw, OpenedLaw}
use Rattle.zone_config.specs.declared.data.PeerData.{PeerData}
use Rattle.zone_config.specs.declared.data.ZoneSpec.{ZoneSpec}
use Rattle.zone_config.specs.declared.data.ZoneSpec.TheVariants as zone
use Rattle.zone_config.specs.Conditions.{IsZone, HasServers, IsZoneSpec, HasOwnServers}
use Rattle.request_script.specs.declared.call.ZoneCall.{ZoneCall}
use Rattle.request_script.specs.declared.call.ZoneCall.TheVariants as to
use Rattle.request_script.specs.declared.call.ZoneReply.{ZoneReply}
use Rattle.request_script.specs.declared.call.ZoneReply.TheVariants as from
use Rattle.request_script.specs.Turn.{Exchange}
use Rattle.request_script.specs.Drive.{Made, req_made, conn_made, peer_made, req_part, conn_part, peer_part}
use Rattle.request_script.specs.Permitted.{MayAsk, IsOfKind, zone_of, calls_to}
use Rattle.request_script.specs.ZoneSpecs.{peer_spec, server_of}
use Rattle.replay_share.specs.Calls.{IsReplyTo, IsWith}
use Rattle.replay_share.specs.Logs.{ZoneLog, req_opened, conn_opened, peer_opened, IsAt, IsLogOf, AreLogsOf, HasPart, HasParts}
use Rattle.replay_share.specs.Logs.ZoneLog.{req_log, conn_log, peer_log}
use Rattle.replay_share.specs.Opening.{line_if_refused, refused_at, first_of, refused_line}
use Rattle.replay_share.proofs.Parts.{req_few, conn_few, peer_few}
use Rattle.replay_share.proofs.Served.{servers}
use Rattle.replay_share.proofs.Solo.{entry_of, solo-mine, solo-part, solo-more, solo-less}
use Rattle.replay_share.proofs.ZoneAnswers.{req_entries, conn_entries, peer_entries, answer_at, req-split, conn-split, peer-split}

-- ---- the histories

-- the history of a zone where a caller alone asked this
abbrev pub zone_log : ℕ → ZoneSpec → List Exchange → ZoneLog
zone_log z (zone.Req spec key) asked = req_log (req_entries z asked)
zone_log z (zone.Conn spec key) asked = conn_log (conn_entries z asked)
zone_log z (zone.Peer spec at) asked = peer_log (peer_entries z asked)

abbrev pub log_at : ℕ → List Exchange → Option ZoneSpec → Option ZoneLog
log_at z asked spec = option_map (λ (s : ZoneSpec). zone_log z s asked) spec

-- those of the zones of which the first has this number
abbrev pub logs_from : ℕ → List ZoneSpec → List Exchange → List ZoneLog
logs_from z [] asked = []
logs_from z (spec ∷ specs) asked = zone_log z spec asked ∷ logs_from (z + 1) specs asked

pub logs-at : (first : ℕ) (specs : List ZoneSpec) (asked : List Exchange) (z : ℕ) → slice_get (logs_from first specs asked) z ≡ log_at (first + z) asked (slice_get specs z)
logs-at first [] asked z = refl
logs-at first (spec ∷ specs) asked zero = let at : first ≡ first + 0 = omega arith in ap (λ (n : ℕ). Some (zone_log n spec asked)) at
logs-at first (spec ∷ specs) asked (suc z) = let at : first + 1 + z ≡ first + suc z = omega arith in logs-at (first + 1) specs asked z ∙ ap (λ (n : ℕ). log_at n asked (slice_get specs z)) at

-- each has its zone's part of what was asked
has_part : (z : ℕ) (spec : Option ZoneSpec) (asked : List Exchange) → IfSome (log_at z asked spec) (HasPart asked 0 z)
has_part z None asked = tt
has_part z (Some (zone.Req spec key)) asked = solo-part ReqWords ReqState (req_part z asked)
has_part z (Some (zone.Conn spec key)) asked = solo-part conn_words.Zone ConnState (conn_part z asked)
has_part z (Some (zone.Peer spec at)) asked = solo-part PeerWords PeerState (peer_part z asked)

pub have_parts : (specs : List ZoneSpec) (asked : List Exchange) → HasParts asked 0 (logs_from 0 specs asked)
have_parts specs asked z =
    let at : 0 + z ≡ z = omega arith in
    subst (λ (o : Option ZoneLog). IfSome o (HasPart asked 0 z)) (sym (logs-at 0 specs asked z ∙ ap (λ (n : ℕ). log_at n asked (slice_get specs z)) at)) (has_part z (slice_get specs z) asked)

-- ---- the beginning

-- a zone of the least size or more
in_limits : (bytes : ℕ) → 32768 ≤ bytes → bytes ≤ 67108864 → IsInLimits (shape_of bytes)
in_limits bytes large small = record { large = omega (arith, large); small = omega (arith, small); shift = refl }

module _ (refused : RefusedLaw) (opened : OpenedLaw) where
  not_refused : (line : ℕ) (server : Option ℕ) → line_if_refused line server ≡ None → server ≡ None
  not_refused line None is = refl
  not_refused line (Some server) is = absurd (some_none line is)
    where
      some_none : (n : ℕ) → Some n ≡ None → ⊥
      some_none n is = cc

  peer_quiet : (spec : PeerData) → IsZone spec.name spec.bytes spec.page_shift → HasServers spec → opening.refused_server (peer_spec spec) ≡ None → opening.IsOpened (peer_opened spec)
  peer_quiet spec is has none =
      let ok : opening.IsSpec (peer_spec spec) = record {
        name = (omega (arith, is.name_within.0), omega (arith, is.name_within.1));
        limits = subst (λ (n : ℕ). IsInLimits (record { bytes = spec.bytes; page_shift = n })) (sym is.shift) (in_limits spec.bytes is.bytes_within.0 is.bytes_within.1);
        primary = servers spec.primary has.primary_servers;
        backup = servers spec.backup has.backup_servers;
        some = omega (arith, has.primary_count.0, length-map spec.primary server_of);
        primary_few = omega (arith, has.primary_count.1, length-map spec.primary server_of);
        backup_few = omega (arith, has.backup_count, length-map spec.backup server_of);
      } in
      (opened (peer_spec spec) ok (refused (peer_spec spec) ok none)).1

  -- nothing was asked of a zone yet
  begun : (z : ℕ) (spec : ZoneSpec) → IsZoneSpec spec → HasOwnServers spec → refused_at spec ≡ None → IsLogOf 1 spec (zone_log z spec [])
  begun z (zone.Req spec key) is has none =
      let quiet = (req_fresh.open-law spec.rate spec.name spec.bytes (omega (arith, is.1.0), omega (arith, is.1.1)) (omega (arith, is.0.name_within.0), omega (arith, is.0.name_within.1)) (in_limits spec.bytes is.0.bytes_within.0 is.0.bytes_within.1)).quiet in
      (history-nil req.IsOpened req.answer_of req.zone_after req.Permits (req_opened spec) quiet, All-nil _)
  begun z (zone.Conn spec key) is has none =
      let quiet = (conn_fresh.open-law spec.name spec.bytes (omega (arith, is.0.name_within.0), omega (arith, is.0.name_within.1)) (in_limits spec.bytes is.0.bytes_within.0 is.0.bytes_within.1)).quiet in
      (history-nil conn.IsOpened conn.answer_of conn.zone_after conn.Permits (conn_opened spec) quiet, All-nil _)
  begun z (zone.Peer spec at) is has none =
      (history-nil opening.IsOpened peer.answer_of peer.zone_after peer.Permits (peer_opened spec) (peer_quiet spec is has (not_refused at (opening.refused_server (peer_spec spec)) none)), All-nil _)

  first_none : (first second : Option ℕ) → first_of first second ≡ None → (first ≡ None) × (second ≡ None)
  first_none None second is = (refl, is)
  first_none (Some line) second is = absurd (some_none line is)
    where
      some_none : (n : ℕ) → Some n ≡ None → ⊥
      some_none n is = cc

  all_begun : (n : ℕ) (specs : List ZoneSpec) → All IsZoneSpec specs → All HasOwnServers specs → refused_line specs ≡ None → (z : ℕ) → IsAt (IsLogOf 1) (slice_get specs z) (log_at (n + z) [] (slice_get specs z))
  all_begun n [] are have none z = tt
  all_begun n (spec ∷ specs) are have none zero =
      begun (n + 0) spec (All-head IsZoneSpec spec specs are) (All-head HasOwnServers spec specs have) (first_none (refused_at spec) (refused_line specs) none).0
  all_begun n (spec ∷ specs) are have none (suc z) =
      let at : n + 1 + z ≡ n + suc z = omega arith in
      subst (λ (k : ℕ). IsAt (IsLogOf 1) (slice_get specs z) (log_at k [] (slice_get specs z))) at
      (all_begun (n + 1) specs (All-tail IsZoneSpec spec specs are) (All-tail HasOwnServers spec specs have) (first_none (refused_at spec) (refused_line specs) none).1 z)

  pub none_asked : (specs : List ZoneSpec) → All IsZoneSpec specs → All HasOwnServers specs → refused_line specs ≡ None → (z : ℕ) → IsAt (IsLogOf 1) (slice_get specs z) (log_at z [] (slice_get specs z))
  none_asked specs are have none z = let at : 0 + z ≡ z = omega arith in subst (λ (k : ℕ). IsAt (IsLogOf 1) (slice_get specs z) (log_at k [] (slice_get specs z))) at (all_begun 0 specs are have none z)

-- ---- a call to the zone

req_may : (z : ℕ) (asked : List Exchange) (call : ReqCall) → MayAsk asked (to.Req z call) → req.Permits (own (req_entries z asked) 0) call
req_may z asked (Check key now burst last) may = may
req_may z asked (Account at now) may = (may.0, solo-less ReqWords ReqState (λ (m : Made ReqCall ReqReply). req.back_by at m.call) (λ (m : Made ReqCall ReqReply). req.given_by at m.reply) (req_part z asked) may.1)
req_may z asked (Release at) may = solo-less ReqWords ReqState (λ (m : Made ReqCall ReqReply). req.back_by at m.call) (λ (m : Made ReqCall ReqReply). req.given_by at m.reply) (req_part z asked) may

conn_may : (z : ℕ) (asked : List Exchange) (call : ConnCall) → MayAsk asked (to.Conn z call) → conn.Permits (own (conn_entries z asked) 0) call
conn_may z asked (Open key limit) may = may
conn_may z asked (Close at) may = solo-less conn_words.Zone ConnState (λ (m : Made ConnCall ConnReply). conn.back_by at m.call) (λ (m : Made ConnCall ConnReply). conn.given_by at m.reply) (conn_part z asked) may

peer_may : (z : ℕ) (asked : List Exchange) (call : PeerCall) → MayAsk asked (to.Peer z call) → peer.Permits (own (peer_entries z asked) 0) call
peer_may z asked (Choose list tried now) may = may
peer_may z asked (Free list index failed now) may = (may.0, may.1, solo-less PeerWords PeerState (λ (m : Made PeerCall PeerReply). peer.back_by list index m.call) (λ (m : Made PeerCall PeerReply). peer.given_by list index m.call m.reply) (peer_part z asked) may.2)

-- what is answered, and any reply where there is no answer
abbrev pub given : Option ZoneReply → ZoneReply
given (Some reply) = reply
given None = from.Req Released

-- a call with its answer
abbrev pub exchange_at : Option ZoneSpec → List Exchange → ZoneCall → Exchange
exchange_at spec asked call = record { call = call; reply = given (answer_at spec asked call) }

-- the answer is one of the call's kind
pub answer_kind : (spec : Option ZoneSpec) (asked : List Exchange) (call : ZoneCall) → IsOfKind spec call → IsReplyTo call (given (answer_at spec asked call))
answer_kind (Some (zone.Req spec key)) asked (to.Req z call) kind = tt
answer_kind (Some (zone.Req spec key)) asked (to.Conn z call) kind = absurd kind
answer_kind (Some (zone.Req spec key)) asked (to.Peer z call) kind = absurd kind
answer_kind (Some (zone.Conn spec key)) asked (to.Conn z call) kind = tt
answer_kind (Some (zone.Conn spec key)) asked (to.Req z call) kind = absurd kind
answer_kind (Some (zone.Conn spec key)) asked (to.Peer z call) kind = absurd kind
answer_kind (Some (zone.Peer spec at)) asked (to.Peer z call) kind = tt
answer_kind (Some (zone.Peer spec at)) asked (to.Req z call) kind = absurd kind
answer_kind (Some (zone.Peer spec at)) asked (to.Conn z call) kind = absurd kind
answer_kind None asked (to.Req z call) kind = absurd kind
answer_kind None asked (to.Conn z call) kind = absurd kind
answer_kind None asked (to.Peer z call) kind = absurd kind

-- the history of the zone that is asked grows by the call with its answer
grows : (spec : Option ZoneSpec) (asked : List Exchange) (call : ZoneCall) → IsOfKind spec call → calls_to (zone_of call) asked + 1 < 2 ^ 32 → MayAsk asked call → IsAt (IsLogOf 1) spec (log_at (zone_of call) asked spec)
    → IsAt (IsLogOf 1) spec (log_at (zone_of call) (asked ++ exchange_at spec asked call ∷ []) spec)
grows (Some (zone.Req spec key)) asked (to.Req z call) kind few may h =
    let reply = req.answer_of (run req.zone_after (req_opened spec) (req_entries z asked)) call in
    let short : length (req_part z asked) + 1 < 2 ^ 32 = omega (arith, few, req_few z asked) in
    let more = solo-more req.IsOpened req.answer_of req.zone_after req.Permits (req_opened spec) (req_part z asked) (record { call = call; reply = reply }) h.0 refl short (req_may z asked call may) in
    subst (λ (l : List (Made ReqCall ReqReply)). IsLogOf 1 (zone.Req spec key) (req_log (map entry_of l))) (sym (req-split asked [] z call reply)) (more, solo-mine (req_part z asked ++ record { call = call; reply = reply } ∷ []))
grows (Some (zone.Req spec key)) asked (to.Conn z call) kind few may h = absurd kind
grows (Some (zone.Req spec key)) asked (to.Peer z call) kind few may h = absurd kind
grows (Some (zone.Conn spec key)) asked (to.Conn z call) kind few may h =
    let reply = conn.answer_of (run conn.zone_after (conn_opened spec) (conn_entries z asked)) call in
    let short : length (conn_part z asked) + 1 < 2 ^ 32 = omega (arith, few, conn_few z asked) in
    let more = solo-more conn.IsOpened conn.answer_of conn.zone_after conn.Permits (conn_opened spec) (conn_part z asked) (record { call = call; reply = reply }) h.0 refl short (conn_may z asked call may) in
    subst (λ (l : List (Made ConnCall ConnReply)). IsLogOf 1 (zone.Conn spec key) (conn_log (map entry_of l))) (sym (conn-split asked [] z call reply)) (more, solo-mine (conn_part z asked ++ record { call = call; reply = reply } ∷ []))
grows (Some (zone.Conn spec key)) asked (to.Req z call) kind few may h = absurd kind
grows (Some (zone.Conn spec key)) asked (to.Peer z call) kind few may h = absurd kind
grows (Some (zone.Peer spec at)) asked (to.Peer z call) kind few may h =
    let reply = peer.answer_of (run peer.zone_after (peer_opened spec) (peer_entries z asked)) call in
    let short : length (peer_part z asked) + 1 < 2 ^ 32 = omega (arith, few, peer_few z asked) in
    let more = solo-more opening.IsOpened peer.answer_of peer.zone_after peer.Permits (peer_opened spec) (peer_part z asked) (record { call = call; reply = reply }) h.0 refl short (peer_may z asked call may) in
    subst (λ (l : List (Made PeerCall PeerReply)). IsLogOf 1 (zone.Peer spec at) (peer_log (map entry_of l))) (sym (peer-split asked [] z call reply)) (more, solo-mine (peer_part z asked ++ record { call = call; reply = reply } ∷ []))
grows (Some (zone.Peer spec at)) asked (to.Req z call) kind few may h = absurd kind
grows (Some (zone.Peer spec at)) asked (to.Conn z call) kind few may h = absurd kind
grows None asked (to.Req z call) kind few may h = absurd kind
grows None asked (to.Conn z call) kind few may h = absurd kind
grows None asked (to.Peer z call) kind few may h = absurd kind

-- ---- a call to another zone

module _ {B : Type 0} where
  if_none : (b : Bool) (y : B) → b ≡ false → (if b then Some y else None) ≡ None
  if_none b y fails = rw fails refl

  -- a part to which an exchange adds nothing
  stays : (h : Exchange → Option B) (asked : List Exchange) (e : Exchange) → h e ≡ None → filter_map h (asked ++ e ∷ []) ≡ filter_map h asked
  stays h asked e none =
      filter_map-append h asked (e ∷ []) ∙ ap (λ (o : Option B). filter_map h asked ++ cons_option o []) none ∙ append-nil (filter_map h asked)

other : (a z : ℕ) → a ≢ z → nat_eq a z ≡ false
other a z differs = grind (arith, nat_tests)

req_none : (z : ℕ) (call : ZoneCall) (reply : ZoneReply) → zone_of call ≢ z → req_made z call reply ≡ None
req_none z (to.Req a call) (from.Req reply) differs = if_none (nat_eq a z) (record { call = call; reply = reply }) (other a z differs)
req_none z (to.Req a call) (from.Conn reply) differs = refl
req_none z (to.Req a call) (from.Peer reply) differs = refl
req_none z (to.Conn a call) reply differs = refl
req_none z (to.Peer a call) reply differs = refl

conn_none : (z : ℕ) (call : ZoneCall) (reply : ZoneReply) → zone_of call ≢ z → conn_made z call reply ≡ None
conn_none z (to.Conn a call) (from.Conn reply) differs = if_none (nat_eq a z) (record { call = call; reply = reply }) (other a z differs)
conn_none z (to.Conn a call) (from.Req reply) differs = refl
conn_none z (to.Conn a call) (from.Peer reply) differs = refl
conn_none z (to.Req a call) reply differs = refl
conn_none z (to.Peer a call) reply differs = refl

peer_none : (z : ℕ) (call : ZoneCall) (reply : ZoneReply) → zone_of call ≢ z → peer_made z call reply ≡ None
peer_none z (to.Peer a call) (from.Peer reply) differs = if_none (nat_eq a z) (record { call = call; reply = reply }) (other a z differs)
peer_none z (to.Peer a call) (from.Req reply) differs = refl
peer_none z (to.Peer a call) (from.Conn reply) differs = refl
peer_none z (to.Req a call) reply differs = refl
peer_none z (to.Conn a call) reply differs = refl

-- the history of a zone that isn't asked stays
log_stays : (z : ℕ) (spec : Option ZoneSpec) (asked : List Exchange) (e : Exchange) → zone_of e.call ≢ z → log_at z (asked ++ e ∷ []) spec ≡ log_at z asked spec
log_stays z None asked e differs = refl
log_stays z (Some (zone.Req spec key)) asked e differs = ap (λ (l : List (Made ReqCall ReqReply)). Some (req_log (map entry_of l))) (stays (λ (x : Exchange). req_made z x.call x.reply) asked e (req_none z e.call e.reply differs))
log_stays z (Some (zone.Conn spec key)) asked e differs = ap (λ (l : List (Made ConnCall ConnReply)). Some (conn_log (map entry_of l))) (stays (λ (x : Exchange). conn_made z x.call x.reply) asked e (conn_none z e.call e.reply differs))
log_stays z (Some (zone.Peer spec at)) asked e differs = ap (λ (l : List (Made PeerCall PeerReply)). Some (peer_log (map entry_of l))) (stays (λ (x : Exchange). peer_made z x.call x.reply) asked e (peer_none z e.call e.reply differs))

-- ---- all zones

-- what a caller alone asked was asked of zones that are there, and each zone has a legal history of it
pub record IsPlayed (zones : List ZoneSpec) (asked : List Exchange) : Type 0 where
  pub each : (z : ℕ) → IsAt (IsLogOf 1) (slice_get zones z) (log_at z asked (slice_get zones z))
  pub kinds : All (IsWith zones) asked

-- the histories of all zones are legal
pub played_logs : (zones : List ZoneSpec) (asked : List Exchange) → IsPlayed zones asked → AreLogsOf 1 zones (logs_from 0 zones asked)
played_logs zones asked h z =
    let at : 0 + z ≡ z = omega arith in
    subst (λ (o : Option ZoneLog). IsAt (IsLogOf 1) (slice_get zones z) o) (sym (logs-at 0 zones asked z ∙ ap (λ (n : ℕ). log_at n asked (slice_get zones z)) at)) (h.each z)

-- one call more
pub played_more : (zones : List ZoneSpec) (asked : List Exchange) (call : ZoneCall) → IsOfKind (slice_get zones (zone_of call)) call → calls_to (zone_of call) asked + 1 < 2 ^ 32 → MayAsk asked call → IsPlayed zones asked
    → IsPlayed zones (asked ++ exchange_at (slice_get zones (zone_of call)) asked call ∷ [])
played_more zones asked call kind few may h =
    let e = exchange_at (slice_get zones (zone_of call)) asked call in
    record {
      each = λ z. ⊎_elim
          (λ (same : (eqb (zone_of call) z ≡ true) × (zone_of call ≡ z)). subst (λ (n : ℕ). IsAt (IsLogOf 1) (slice_get zones n) (log_at n (asked ++ e ∷ []) (slice_get zones n))) same.1 (grows (slice_get zones (zone_of call)) asked call kind few may (h.each (zone_of call))))
          (λ (apart : (eqb (zone_of call) z ≡ false) × (zone_of call ≢ z)). subst (λ (o : Option ZoneLog). IsAt (IsLogOf 1) (slice_get zones z) o) (sym (log_stays z (slice_get zones z) asked e apart.1)) (h.each z))
          (eqb_tells (zone_of call) z);
      kinds = All-push (IsWith zones) asked e h.kinds (record { there = kind; reply = answer_kind (slice_get zones (zone_of call)) asked call kind });
    }
