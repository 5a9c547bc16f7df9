-- What answers the calls of a share.
use Rattle.std.specs.Prelude.{ℕ, ◌<◌, List, slice_get}
use Rattle.zone_config.specs.declared.data.ZoneSpec.{ZoneSpec}
use Rattle.request_script.specs.declared.call.ZoneCall.{ZoneCall}
use Rattle.request_script.specs.declared.call.ZoneCall.TheVariants.{Req, Conn, Peer}
use Rattle.request_script.specs.declared.call.ZoneReply.{ZoneReply}
use Rattle.request_script.specs.declared.call.ZoneReply.TheVariants as from
use Rattle.request_script.specs.Turn.{Exchange}
use Rattle.request_script.specs.Permitted.{MayAsk, IsOfKind, zone_of, calls_to}

-- the reply is one of the call's kind
abbrev pub IsReplyTo : ZoneCall → ZoneReply → Type 0
IsReplyTo (Req zone call) (from.Req reply) = Unit {0}
IsReplyTo (Conn zone call) (from.Conn reply) = Unit {0}
IsReplyTo (Peer zone call) (from.Peer reply) = Unit {0}
IsReplyTo _ _ = ⊥

-- the exchange is one with a zone that is there, and call and reply are of its kind
pub record IsWith (zones : List ZoneSpec) (e : Exchange) : Type 0 where
  pub there : IsOfKind (slice_get zones (zone_of e.call)) e.call
  pub reply : IsReplyTo e.call e.reply

-- After these exchanges this call may be made: its zone is there and has room for it, and permits it.
pub record CanAsk (zones : List ZoneSpec) (room : ℕ) (asked : List Exchange) (call : ZoneCall) : Type 0 where
  pub there : IsOfKind (slice_get zones (zone_of call)) call
  pub room_left : calls_to (zone_of call) asked < room
  pub may : MayAsk asked call
