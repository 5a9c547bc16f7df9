-- What each kind of call gives and gives back.
use Rattle.std.proofs.Common.{ℕ, ◌≤◌, Bool, true, false, nat_eq, if◌then◌else◌, Some, None, arith}
use Rattle.req_zone.specs.declared.calls.ReqCall.{ReqCall}
use Rattle.req_zone.specs.declared.calls.ReqCall.TheVariants.{Check, Account, Release}
use Rattle.req_zone.specs.declared.calls.ReqReply.{ReqReply}
use Rattle.req_zone.specs.declared.calls.ReqReply.TheVariants.{Again}
use Rattle.req_zone.specs.Object as req
use Rattle.conn_zone.specs.declared.calls.ConnCall.{ConnCall}
use Rattle.conn_zone.specs.declared.calls.ConnCall.TheVariants.{Open, Close}
use Rattle.conn_zone.specs.declared.calls.ConnReply.{ConnReply}
use Rattle.conn_zone.specs.declared.calls.ConnReply.TheVariants.{Opened}
use Rattle.conn_zone.specs.Object as conn
use Rattle.peer_zone.specs.declared.calls.PeerCall.{PeerCall}
use Rattle.peer_zone.specs.declared.calls.PeerCall.TheVariants.{Choose, Free}
use Rattle.peer_zone.specs.declared.calls.PeerReply.{PeerReply}
use Rattle.peer_zone.specs.declared.calls.PeerReply.TheVariants.{Peer}
use Rattle.peer_zone.specs.Object as peer
use Rattle.request_script.specs.declared.call.ZoneCall.TheVariants as to
use Rattle.request_script.specs.declared.call.ZoneReply.{ZoneReply}
use Rattle.request_script.specs.declared.call.ZoneReply.TheVariants as from
use Rattle.request_script.specs.Drive.{Made}
use Rattle.request_script.proofs.Totals.{weigh}
use Rattle.request_script.proofs.Held.{Thing, once, gives, takes}
use Rattle.request_script.proofs.Held.Thing.{hold, connection, server}

-- what is weighed where a test holds
weigh-if : {Y : Type 0} (f : Y → ℕ) (y : Y) (n : ℕ) → f y ≤ n → (b : Bool) → weigh f (if b then Some y else None) ≤ (if b then n else 0)
weigh-if f y n less true = less
weigh-if f y n less false = omega arith

weigh-none : {Y : Type 0} (f : Y → ℕ) (y : Y) → f y ≤ 0 → (b : Bool) → weigh f (if b then Some y else None) ≤ 0
weigh-none f y less true = less
weigh-none f y less false = omega arith

if-weigh : {Y : Type 0} (f : Y → ℕ) (y : Y) (n : ℕ) → n ≤ f y → (b : Bool) → (if b then n else 0) ≤ weigh f (if b then Some y else None)
if-weigh f y n less true = less
if-weigh f y n less false = omega arith

-- ---- request zones

-- a check gives nothing back
pub check-takes : (zone : ℕ) (key : _) (now burst : ℕ) (last : Bool) (reply : ZoneReply) (t : Thing) → takes t (to.Req zone (Check key now burst last)) reply ≤ 0
check-takes zone key now burst last (from.Req reply) (hold z at) = weigh-none (λ (m : Made ReqCall ReqReply). req.back_by at m.call) (record { call = Check key now burst last; reply = reply }) (omega arith) (nat_eq zone z)
check-takes zone key now burst last (from.Conn reply) (hold z at) = omega arith
check-takes zone key now burst last (from.Peer reply) (hold z at) = omega arith
check-takes zone key now burst last reply (connection z at) = omega arith
check-takes zone key now burst last reply (server z list index) = omega arith

-- a check that is passed on gives a hold
pub again-gives : (zone : ℕ) (call : ReqCall) (excess block : ℕ) (t : Thing) → once t (hold zone block) ≤ gives t (to.Req zone call) (from.Req (Again excess block))
again-gives zone call excess block (hold z at) = if-weigh (λ (m : Made ReqCall ReqReply). req.given_by at m.reply) (record { call = call; reply = Again excess block }) (req.once_at at block) (omega arith) (nat_eq zone z)
again-gives zone call excess block (connection z at) = omega arith
again-gives zone call excess block (server z list index) = omega arith

-- an account and a release give a hold back
pub account-takes : (zone block now : ℕ) (reply : ZoneReply) (t : Thing) → takes t (to.Req zone (Account block now)) reply ≤ once t (hold zone block)
account-takes zone block now (from.Req reply) (hold z at) = weigh-if (λ (m : Made ReqCall ReqReply). req.back_by at m.call) (record { call = Account block now; reply = reply }) (req.once_at at block) (omega arith) (nat_eq zone z)
account-takes zone block now (from.Conn reply) (hold z at) = omega arith
account-takes zone block now (from.Peer reply) (hold z at) = omega arith
account-takes zone block now reply (connection z at) = omega arith
account-takes zone block now reply (server z list index) = omega arith

pub release-takes : (zone block : ℕ) (reply : ZoneReply) (t : Thing) → takes t (to.Req zone (Release block)) reply ≤ once t (hold zone block)
release-takes zone block (from.Req reply) (hold z at) = weigh-if (λ (m : Made ReqCall ReqReply). req.back_by at m.call) (record { call = Release block; reply = reply }) (req.once_at at block) (omega arith) (nat_eq zone z)
release-takes zone block (from.Conn reply) (hold z at) = omega arith
release-takes zone block (from.Peer reply) (hold z at) = omega arith
release-takes zone block reply (connection z at) = omega arith
release-takes zone block reply (server z list index) = omega arith

-- ---- connection zones

pub open-takes : (zone : ℕ) (key : _) (limit : ℕ) (reply : ZoneReply) (t : Thing) → takes t (to.Conn zone (Open key limit)) reply ≤ 0
open-takes zone key limit (from.Conn reply) (connection z at) = weigh-none (λ (m : Made ConnCall ConnReply). conn.back_by at m.call) (record { call = Open key limit; reply = reply }) (omega arith) (nat_eq zone z)
open-takes zone key limit (from.Req reply) (connection z at) = omega arith
open-takes zone key limit (from.Peer reply) (connection z at) = omega arith
open-takes zone key limit reply (hold z at) = omega arith
open-takes zone key limit reply (server z list index) = omega arith

pub opened-gives : (zone : ℕ) (call : ConnCall) (block count : ℕ) (t : Thing) → once t (connection zone block) ≤ gives t (to.Conn zone call) (from.Conn (Opened block count))
opened-gives zone call block count (connection z at) = if-weigh (λ (m : Made ConnCall ConnReply). conn.given_by at m.reply) (record { call = call; reply = Opened block count }) (conn.once_at at block) (omega arith) (nat_eq zone z)
opened-gives zone call block count (hold z at) = omega arith
opened-gives zone call block count (server z list index) = omega arith

pub close-takes : (zone block : ℕ) (reply : ZoneReply) (t : Thing) → takes t (to.Conn zone (Close block)) reply ≤ once t (connection zone block)
close-takes zone block (from.Conn reply) (connection z at) = weigh-if (λ (m : Made ConnCall ConnReply). conn.back_by at m.call) (record { call = Close block; reply = reply }) (conn.once_at at block) (omega arith) (nat_eq zone z)
close-takes zone block (from.Req reply) (connection z at) = omega arith
close-takes zone block (from.Peer reply) (connection z at) = omega arith
close-takes zone block reply (hold z at) = omega arith
close-takes zone block reply (server z list index) = omega arith

-- ---- upstreams' zones

pub choose-takes : (zone list tried now : ℕ) (reply : ZoneReply) (t : Thing) → takes t (to.Peer zone (Choose list tried now)) reply ≤ 0
choose-takes zone list tried now (from.Peer reply) (server z own index) = weigh-none (λ (m : Made PeerCall PeerReply). peer.back_by own index m.call) (record { call = Choose list tried now; reply = reply }) (omega arith) (nat_eq zone z)
choose-takes zone list tried now (from.Req reply) (server z own index) = omega arith
choose-takes zone list tried now (from.Conn reply) (server z own index) = omega arith
choose-takes zone list tried now reply (hold z at) = omega arith
choose-takes zone list tried now reply (connection z at) = omega arith

pub peer-gives : (zone list tried now at : ℕ) (t : Thing) → once t (server zone list at) ≤ gives t (to.Peer zone (Choose list tried now)) (from.Peer (Peer at))
peer-gives zone list tried now at (server z own index) = if-weigh (λ (m : Made PeerCall PeerReply). peer.given_by own index m.call m.reply) (record { call = Choose list tried now; reply = Peer at }) (peer.once_for own index list at) (omega arith) (nat_eq zone z)
peer-gives zone list tried now at (hold z block) = omega arith
peer-gives zone list tried now at (connection z block) = omega arith

pub free-takes : (zone list index : ℕ) (failed : Bool) (now : ℕ) (reply : ZoneReply) (t : Thing) → takes t (to.Peer zone (Free list index failed now)) reply ≤ once t (server zone list index)
free-takes zone list index failed now (from.Peer reply) (server z own at) = weigh-if (λ (m : Made PeerCall PeerReply). peer.back_by own at m.call) (record { call = Free list index failed now; reply = reply }) (peer.once_for own at list index) (omega arith) (nat_eq zone z)
free-takes zone list index failed now (from.Req reply) (server z own at) = omega arith
free-takes zone list index failed now (from.Conn reply) (server z own at) = omega arith
free-takes zone list index failed now reply (hold z block) = omega arith
free-takes zone list index failed now reply (connection z block) = omega arith
