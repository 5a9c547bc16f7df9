-- How the part of a zone grows with a call to it, and stays with a call to another.
use Rattle.std.proofs.Common.{ℕ, suc, ◌≡◌, ◌≢◌, ◌+◌, ◌<◌, ◌≤◌, if◌then◌else◌, cond, Bool, true, false, List, [], ◌∷◌, ◌++◌, length, map, subst, sym, refl, ap, ◌∙◌, arith}
use Rattle.std.specs.Prelude.{◌==◌, nat_eq, Option, Some, None, sum_by, count_by}
use Rattle.std.proofs.lemmas.Bool.Decides.{nat_tests}
use Rattle.std.specs.List.{cons_option}
use Rattle.std.proofs.lemmas.List.{append-nil, map-append, length-map}
use Rattle.std.proofs.lemmas.List.Elements.{All-head, All-tail, filter_map-append}
use Rattle.std.proofs.lemmas.List.Sums.{sum_by-cons}
use Rattle.std.specs.List.{All, filter_map}
use Rattle.zone_object.specs.declared.object.Entry.{Entry}
use Rattle.zone_object.specs.History.{entry, own}
use Rattle.zone_object.proofs.Own.{own-snoc_mine}
use Rattle.req_zone.specs.declared.calls.ReqCall.{ReqCall}
use Rattle.req_zone.specs.declared.calls.ReqReply.{ReqReply}
use Rattle.conn_zone.specs.declared.calls.ConnCall.{ConnCall}
use Rattle.conn_zone.specs.declared.calls.ConnReply.{ConnReply}
use Rattle.peer_zone.specs.declared.calls.PeerCall.{PeerCall}
use Rattle.peer_zone.specs.declared.calls.PeerReply.{PeerReply}
use Rattle.request_script.specs.declared.call.ZoneCall.{ZoneCall}
use Rattle.request_script.specs.declared.call.ZoneCall.TheVariants as to
use Rattle.request_script.specs.declared.call.ZoneReply.{ZoneReply}
use Rattle.request_script.specs.declared.call.ZoneReply.TheVariants as from
use Rattle.request_script.specs.Turn.{Exchange}
use Rattle.request_script.specs.Drive.{Made, req_made, conn_made, peer_made, req_part, conn_part, peer_part}
use Rattle.request_script.specs.Permitted.{is_to, calls_to}
use Rattle.replay_share.specs.Logs.{ReqEntry, ConnEntry, PeerEntry, made_of, HasCallersBelow, ZoneLog, HasPart}
use Rattle.replay_share.specs.Logs.ZoneLog.{req_log, conn_log, peer_log}
use Rattle.request_script.specs.Permitted.{zone_of}

-- ---- the entries of one caller

module _ {X St C R : Type 0} where
  -- what a caller made, with a call of its own more
  made-snoc : (log new : List (Entry X St C R)) (who : ℕ) (call : C) (reply : R) → own new who ≡ own log who ++ entry who call reply ∷ [] → map made_of (own new who) ≡ map made_of (own log who) ++ record { call = call; reply = reply } ∷ []
  made-snoc log new who call reply own_is = ap (λ l. map made_of l) own_is ∙ map-append made_of (own log who) (entry who call reply ∷ [])

  -- a caller's entries, where its call is added to all
  pub own-added : (log : List (Entry X St C R)) (who : ℕ) (call : C) (reply : R) → own (log ++ entry who call reply ∷ []) who ≡ own log who ++ entry who call reply ∷ []
  own-added log who call reply = own-snoc_mine log (entry who call reply) who refl

  -- a sum over what was made is the sum over the entries
  pub made-sum : (f : Made C R → ℕ) (log : List (Entry X St C R)) → sum_by f (map made_of log) ≡ sum_by (λ (e : Entry X St C R). f (made_of e)) log
  made-sum f [] = refl
  made-sum f (e ∷ es) = sum_by-cons f (made_of e) (map made_of es) ∙ ap (λ n. f (made_of e) + n) (made-sum f es) ∙ sym (sum_by-cons (λ (d : Entry X St C R). f (made_of d)) e es)

  own-cons : (e : Entry X St C R) (es : List (Entry X St C R)) → e.caller < 1 → own es 0 ≡ es → own (e ∷ es) 0 ≡ e ∷ es
  own-cons e es mine rest = let t : (e.caller == 0) ≡ true = grind (arith, nat_tests, mine) in rw t (ap (λ l. e ∷ l) rest)

  -- where all entries are caller 0's, its own are all
  own-all : (log : List (Entry X St C R)) → HasCallersBelow 1 log → own log 0 ≡ log
  own-all [] h = refl
  own-all (e ∷ es) h = own-cons e es (All-head (λ (d : Entry X St C R). d.caller < 1) e es h) (own-all es (All-tail (λ (d : Entry X St C R). d.caller < 1) e es h))

  -- a caller has as many entries as it made calls
  pub made-length : (log : List (Entry X St C R)) (who : ℕ) (made : List (Made C R)) → map made_of (own log who) ≡ made → length (own log who) ≡ length made
  made-length log who made is = sym (length-map (own log who) (λ (e : Entry X St C R). made_of e)) ∙ ap length is

  -- and where all are caller 0's, there are as many in all
  pub own-length : (log : List (Entry X St C R)) (made : List (Made C R)) → HasCallersBelow 1 log → map made_of (own log 0) ≡ made → length log ≡ length made
  own-length log made mine is = sym (ap length (own-all log mine)) ∙ made-length log 0 made is

-- ---- the part of a zone is within the calls to it

-- what is counted of one exchange
abbrev one_if : Bool → ℕ
one_if b = cond b 1 0

module _ {B : Type 0} where
  if_few : (b : Bool) (y : B) (l : List B) (n : ℕ) → length l ≤ n → length (cons_option (if b then Some y else None) l) ≤ one_if b + n
  if_few true y l n h = let more : suc (length l) ≤ 1 + n = omega (arith, h) in more
  if_few false y l n h = let same : length l ≤ 0 + n = omega (arith, h) in same

  none_few : (b : Bool) (l : List B) (n : ℕ) → length l ≤ n → length l ≤ one_if b + n
  none_few true l n h = let more : length l ≤ 1 + n = omega (arith, h) in more
  none_few false l n h = let same : length l ≤ 0 + n = omega (arith, h) in same

req_step : (z : ℕ) (call : ZoneCall) (reply : ZoneReply) (l : List (Made ReqCall ReqReply)) (n : ℕ) → length l ≤ n → length (cons_option (req_made z call reply) l) ≤ one_if (is_to z call) + n
req_step z (to.Req zone call) (from.Req reply) l n h = if_few (nat_eq zone z) (record { call = call; reply = reply }) l n h
req_step z (to.Req zone call) (from.Conn reply) l n h = none_few (nat_eq zone z) l n h
req_step z (to.Req zone call) (from.Peer reply) l n h = none_few (nat_eq zone z) l n h
req_step z (to.Conn zone call) reply l n h = none_few (nat_eq zone z) l n h
req_step z (to.Peer zone call) reply l n h = none_few (nat_eq zone z) l n h

conn_step : (z : ℕ) (call : ZoneCall) (reply : ZoneReply) (l : List (Made ConnCall ConnReply)) (n : ℕ) → length l ≤ n → length (cons_option (conn_made z call reply) l) ≤ one_if (is_to z call) + n
conn_step z (to.Conn zone call) (from.Conn reply) l n h = if_few (nat_eq zone z) (record { call = call; reply = reply }) l n h
conn_step z (to.Conn zone call) (from.Req reply) l n h = none_few (nat_eq zone z) l n h
conn_step z (to.Conn zone call) (from.Peer reply) l n h = none_few (nat_eq zone z) l n h
conn_step z (to.Req zone call) reply l n h = none_few (nat_eq zone z) l n h
conn_step z (to.Peer zone call) reply l n h = none_few (nat_eq zone z) l n h

peer_step : (z : ℕ) (call : ZoneCall) (reply : ZoneReply) (l : List (Made PeerCall PeerReply)) (n : ℕ) → length l ≤ n → length (cons_option (peer_made z call reply) l) ≤ one_if (is_to z call) + n
peer_step z (to.Peer zone call) (from.Peer reply) l n h = if_few (nat_eq zone z) (record { call = call; reply = reply }) l n h
peer_step z (to.Peer zone call) (from.Req reply) l n h = none_few (nat_eq zone z) l n h
peer_step z (to.Peer zone call) (from.Conn reply) l n h = none_few (nat_eq zone z) l n h
peer_step z (to.Req zone call) reply l n h = none_few (nat_eq zone z) l n h
peer_step z (to.Conn zone call) reply l n h = none_few (nat_eq zone z) l n h

pub req_few : (z : ℕ) (asked : List Exchange) → length (req_part z asked) ≤ calls_to z asked
req_few z [] = omega arith
req_few z (e ∷ es) = subst (λ n. length (req_part z (e ∷ es)) ≤ n) (sym (sum_by-cons (λ (x : Exchange). cond (is_to z x.call) 1 0) e es)) (req_step z e.call e.reply (req_part z es) (calls_to z es) (req_few z es))

pub conn_few : (z : ℕ) (asked : List Exchange) → length (conn_part z asked) ≤ calls_to z asked
conn_few z [] = omega arith
conn_few z (e ∷ es) = subst (λ n. length (conn_part z (e ∷ es)) ≤ n) (sym (sum_by-cons (λ (x : Exchange). cond (is_to z x.call) 1 0) e es)) (conn_step z e.call e.reply (conn_part z es) (calls_to z es) (conn_few z es))

pub peer_few : (z : ℕ) (asked : List Exchange) → length (peer_part z asked) ≤ calls_to z asked
peer_few z [] = omega arith
peer_few z (e ∷ es) = subst (λ n. length (peer_part z (e ∷ es)) ≤ n) (sym (sum_by-cons (λ (x : Exchange). cond (is_to z x.call) 1 0) e es)) (peer_step z e.call e.reply (peer_part z es) (calls_to z es) (peer_few z es))

-- ---- a call to the zone

same : (z : ℕ) → nat_eq z z ≡ true
same z = grind (arith, nat_tests)

pub req_grows : (asked : List Exchange) (entries new : List ReqEntry) (who z : ℕ) (call : ReqCall) (reply : ReqReply) → own new who ≡ own entries who ++ entry who call reply ∷ [] → HasPart asked who z (req_log entries)
    → HasPart (asked ++ record { call = to.Req z call; reply = from.Req reply } ∷ []) who z (req_log new)
req_grows asked entries new who z call reply own_is h =
    let grown : req_part z (record { call = to.Req z call; reply = from.Req reply } ∷ []) ≡ record { call = call; reply = reply } ∷ [] = rw (same z) refl in
    made-snoc entries new who call reply own_is ∙ ap (λ l. l ++ record { call = call; reply = reply } ∷ []) h
    ∙ sym (filter_map-append (λ (e : Exchange). req_made z e.call e.reply) asked (record { call = to.Req z call; reply = from.Req reply } ∷ []) ∙ ap (λ l. req_part z asked ++ l) grown)

pub conn_grows : (asked : List Exchange) (entries new : List ConnEntry) (who z : ℕ) (call : ConnCall) (reply : ConnReply) → own new who ≡ own entries who ++ entry who call reply ∷ [] → HasPart asked who z (conn_log entries)
    → HasPart (asked ++ record { call = to.Conn z call; reply = from.Conn reply } ∷ []) who z (conn_log new)
conn_grows asked entries new who z call reply own_is h =
    let grown : conn_part z (record { call = to.Conn z call; reply = from.Conn reply } ∷ []) ≡ record { call = call; reply = reply } ∷ [] = rw (same z) refl in
    made-snoc entries new who call reply own_is ∙ ap (λ l. l ++ record { call = call; reply = reply } ∷ []) h
    ∙ sym (filter_map-append (λ (e : Exchange). conn_made z e.call e.reply) asked (record { call = to.Conn z call; reply = from.Conn reply } ∷ []) ∙ ap (λ l. conn_part z asked ++ l) grown)

pub peer_grows : (asked : List Exchange) (entries new : List PeerEntry) (who z : ℕ) (call : PeerCall) (reply : PeerReply) → own new who ≡ own entries who ++ entry who call reply ∷ [] → HasPart asked who z (peer_log entries)
    → HasPart (asked ++ record { call = to.Peer z call; reply = from.Peer reply } ∷ []) who z (peer_log new)
peer_grows asked entries new who z call reply own_is h =
    let grown : peer_part z (record { call = to.Peer z call; reply = from.Peer reply } ∷ []) ≡ record { call = call; reply = reply } ∷ [] = rw (same z) refl in
    made-snoc entries new who call reply own_is ∙ ap (λ l. l ++ record { call = call; reply = reply } ∷ []) h
    ∙ sym (filter_map-append (λ (e : Exchange). peer_made z e.call e.reply) asked (record { call = to.Peer z call; reply = from.Peer reply } ∷ []) ∙ ap (λ l. peer_part z asked ++ l) grown)

-- ---- a call to another zone

other : (a z : ℕ) → a ≢ z → nat_eq a z ≡ false
other a z differs = grind (arith, nat_tests)

module _ {B : Type 0} where
  if_none : (b : Bool) (y : B) → b ≡ false → cons_option (if b then Some y else None) [] ≡ []
  if_none b y fails = rw fails refl

req_other : (z : ℕ) (call : ZoneCall) (reply : ZoneReply) → zone_of call ≢ z → req_part z (record { call = call; reply = reply } ∷ []) ≡ []
req_other z (to.Req zone call) (from.Req reply) differs = if_none (nat_eq zone z) (record { call = call; reply = reply }) (other zone z differs)
req_other z (to.Req zone call) (from.Conn reply) differs = refl
req_other z (to.Req zone call) (from.Peer reply) differs = refl
req_other z (to.Conn zone call) reply differs = refl
req_other z (to.Peer zone call) reply differs = refl

conn_other : (z : ℕ) (call : ZoneCall) (reply : ZoneReply) → zone_of call ≢ z → conn_part z (record { call = call; reply = reply } ∷ []) ≡ []
conn_other z (to.Conn zone call) (from.Conn reply) differs = if_none (nat_eq zone z) (record { call = call; reply = reply }) (other zone z differs)
conn_other z (to.Conn zone call) (from.Req reply) differs = refl
conn_other z (to.Conn zone call) (from.Peer reply) differs = refl
conn_other z (to.Req zone call) reply differs = refl
conn_other z (to.Peer zone call) reply differs = refl

peer_other : (z : ℕ) (call : ZoneCall) (reply : ZoneReply) → zone_of call ≢ z → peer_part z (record { call = call; reply = reply } ∷ []) ≡ []
peer_other z (to.Peer zone call) (from.Peer reply) differs = if_none (nat_eq zone z) (record { call = call; reply = reply }) (other zone z differs)
peer_other z (to.Peer zone call) (from.Req reply) differs = refl
peer_other z (to.Peer zone call) (from.Conn reply) differs = refl
peer_other z (to.Req zone call) reply differs = refl
peer_other z (to.Conn zone call) reply differs = refl

module _ {B : Type 0} where
  -- a part to which an exchange adds nothing
  part_stays : (h : Exchange → Option B) (asked : List Exchange) (e : Exchange) → filter_map h (e ∷ []) ≡ [] → filter_map h (asked ++ e ∷ []) ≡ filter_map h asked
  part_stays h asked e none = filter_map-append h asked (e ∷ []) ∙ ap (λ l. filter_map h asked ++ l) none ∙ append-nil (filter_map h asked)

pub part-stays : (asked : List Exchange) (who z : ℕ) (call : ZoneCall) (reply : ZoneReply) (zone_log : ZoneLog) → zone_of call ≢ z → HasPart asked who z zone_log
    → HasPart (asked ++ record { call = call; reply = reply } ∷ []) who z zone_log
part-stays asked who z call reply (req_log entries) differs h = h ∙ sym (part_stays (λ (e : Exchange). req_made z e.call e.reply) asked (record { call = call; reply = reply }) (req_other z call reply differs))
part-stays asked who z call reply (conn_log entries) differs h = h ∙ sym (part_stays (λ (e : Exchange). conn_made z e.call e.reply) asked (record { call = call; reply = reply }) (conn_other z call reply differs))
part-stays asked who z call reply (peer_log entries) differs h = h ∙ sym (part_stays (λ (e : Exchange). peer_made z e.call e.reply) asked (record { call = call; reply = reply }) (peer_other z call reply differs))
