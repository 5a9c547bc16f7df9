-- The numbers of replies.
use Rattle.std.specs.Prelude.{◌<◌, ◌^◌}
use Rattle.req_zone.specs.declared.calls.ReqReply.{ReqReply}
use Rattle.req_zone.specs.declared.calls.ReqReply.TheVariants.{Pass, Again, Busy, NoRoom, Accounted, Released}
use Rattle.peer_zone.specs.declared.calls.PeerReply.{PeerReply}
use Rattle.peer_zone.specs.declared.calls.PeerReply.TheVariants as peer
use Rattle.request_script.specs.declared.call.ZoneReply.{ZoneReply}
use Rattle.request_script.specs.declared.call.ZoneReply.TheVariants.{Req, Conn, Peer}

-- an excess is below 2^52
abbrev pub HasSmallExcess : ReqReply → Type 0
HasSmallExcess (Pass excess) = excess < 2 ^ 52
HasSmallExcess (Again excess at) = excess < 2 ^ 52
HasSmallExcess (Busy excess) = excess < 2 ^ 52
HasSmallExcess (NoRoom evicted) = Unit {0}
HasSmallExcess (Accounted excess) = excess < 2 ^ 52
HasSmallExcess Released = Unit {0}

-- a server's index is below 64
abbrev pub HasSmallIndex : PeerReply → Type 0
HasSmallIndex (peer.Peer index) = index < 64
HasSmallIndex peer.NoPeer = Unit {0}
HasSmallIndex peer.Freed = Unit {0}

-- the numbers of a reply are those that zones answer: an excess below 2^52, and an index of one of at most 64 servers
abbrev pub IsInRange : ZoneReply → Type 0
IsInRange (Req reply) = HasSmallExcess reply
IsInRange (Conn reply) = Unit {0}
IsInRange (Peer reply) = HasSmallIndex reply
