-- What a share may ask of a zone, after what it asked of that zone and was answered: what the zones permit their callers.
use Rattle.std.specs.Prelude.{ℕ, ◌<◌, nat_eq, List, Option, sum_by, count_by, Bool}
use Rattle.zone_config.specs.declared.data.ZoneSpec.{ZoneSpec}
use Rattle.zone_config.specs.Conditions.{IsReqZone, IsConnZone, IsSomePeerZone}
use Rattle.req_zone.specs.declared.calls.ReqCall.{ReqCall}
use Rattle.req_zone.specs.declared.calls.ReqCall.TheVariants.{Check, Account, Release}
use Rattle.req_zone.specs.declared.calls.ReqReply.{ReqReply}
use Rattle.req_zone.specs.Amount.{IsMoment}
use Rattle.req_zone.specs.Object as req
use Rattle.conn_zone.specs.declared.calls.ConnCall.{ConnCall}
use Rattle.conn_zone.specs.declared.calls.ConnCall.TheVariants.{Open, Close}
use Rattle.conn_zone.specs.declared.calls.ConnReply.{ConnReply}
use Rattle.conn_zone.specs.Object as conn
use Rattle.peer_zone.specs.declared.calls.PeerCall.{PeerCall}
use Rattle.peer_zone.specs.declared.calls.PeerCall.TheVariants.{Choose, Free}
use Rattle.peer_zone.specs.declared.calls.PeerReply.{PeerReply}
use Rattle.peer_zone.specs.Object as peer
use Rattle.request_script.specs.declared.call.ZoneCall.{ZoneCall}
use Rattle.request_script.specs.declared.call.ZoneCall.TheVariants as to
use Rattle.request_script.specs.Turn.{Exchange}
use Rattle.request_script.specs.Drive.{Made, req_part, conn_part, peer_part}

-- ---- each zone by itself

-- a hold on the entry of block `at` was given more often than it was given back
abbrev pub HoldsEntry : List (Made ReqCall ReqReply) → ℕ → Type 0
HoldsEntry mine at = sum_by (λ (m : Made ReqCall ReqReply). req.back_by at m.call) mine < sum_by (λ (m : Made ReqCall ReqReply). req.given_by at m.reply) mine

-- what a caller may ask of a request zone after these calls of its own
abbrev pub ReqPermits : List (Made ReqCall ReqReply) → ReqCall → Type 0
ReqPermits mine (Check key now burst last) = req.IsAsked key now burst
ReqPermits mine (Account at now) = IsMoment now × HoldsEntry mine at
ReqPermits mine (Release at) = HoldsEntry mine at

-- what a caller may ask of a connection zone after these calls of its own
abbrev pub ConnPermits : List (Made ConnCall ConnReply) → ConnCall → Type 0
ConnPermits mine (Open key limit) = conn.IsKey key × conn.IsCount limit
ConnPermits mine (Close at) = sum_by (λ (m : Made ConnCall ConnReply). conn.back_by at m.call) mine < sum_by (λ (m : Made ConnCall ConnReply). conn.given_by at m.reply) mine

-- the server of this list and index was given more often than it was freed
abbrev pub HoldsPeer : List (Made PeerCall PeerReply) → ℕ → ℕ → Type 0
HoldsPeer mine list index =
    sum_by (λ (m : Made PeerCall PeerReply). peer.back_by list index m.call) mine < sum_by (λ (m : Made PeerCall PeerReply). peer.given_by list index m.call m.reply) mine

-- what a caller may ask of an upstream's zone after these calls of its own
abbrev pub PeerPermits : List (Made PeerCall PeerReply) → PeerCall → Type 0
PeerPermits mine (Choose list tried now) = (list < 2) × peer.IsMoment now
PeerPermits mine (Free list index failed now) = (list < 2) × peer.IsMoment now × HoldsPeer mine list index

-- ---- all zones

-- the zone of a call permits it after what was asked before
abbrev pub MayAsk : List Exchange → ZoneCall → Type 0
MayAsk past (to.Req zone call) = ReqPermits (req_part zone past) call
MayAsk past (to.Conn zone call) = ConnPermits (conn_part zone past) call
MayAsk past (to.Peer zone call) = PeerPermits (peer_part zone past) call

-- the number of the zone that a call goes to
abbrev pub zone_of : ZoneCall → ℕ
zone_of (to.Req zone call) = zone
zone_of (to.Conn zone call) = zone
zone_of (to.Peer zone call) = zone

-- a zone is there, and of a call's kind
abbrev pub IsOfKind : Option ZoneSpec → ZoneCall → Type 0
IsOfKind spec (to.Req zone call) = IsReqZone spec
IsOfKind spec (to.Conn zone call) = IsConnZone spec
IsOfKind spec (to.Peer zone call) = IsSomePeerZone spec

-- whether a call goes to zone z
abbrev pub is_to : ℕ → ZoneCall → Bool
is_to z (to.Req zone call) = nat_eq zone z
is_to z (to.Conn zone call) = nat_eq zone z
is_to z (to.Peer zone call) = nat_eq zone z

-- how many calls went to zone z
abbrev pub calls_to : ℕ → List Exchange → ℕ
calls_to z asked = count_by (λ (e : Exchange). is_to z e.call) asked
