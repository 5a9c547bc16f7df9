-- What zones are opened with, of what a configuration says of them: equal fields.
use Rattle.std.specs.Prelude.{map}
use Rattle.zone_config.specs.declared.data.ReqData.{ReqData}
use Rattle.zone_config.specs.declared.data.ConnData.{ConnData}
use Rattle.zone_config.specs.declared.data.PeerData.{PeerData}
use Rattle.zone_config.specs.declared.data.ServerData.{ServerData}
use Rattle.zone_config.specs.declared.data.MethodData.{MethodData}
use Rattle.zone_config.specs.declared.data.MethodData.TheVariants as given
use Rattle.req_zone.specs.declared.calls.ReqSpec.{ReqSpec}
use Rattle.conn_zone.specs.declared.calls.ConnSpec.{ConnSpec}
use Rattle.peer_zone.specs.declared.calls.Method.{Method}
use Rattle.peer_zone.specs.declared.calls.Method.TheVariants.{Round, Least}
use Rattle.peer_zone.specs.declared.calls.PeerSpec.{PeerSpec}
use Rattle.peer_zone.specs.declared.calls.Server.{Server}

-- a request zone
abbrev pub req_spec : ReqData → ReqSpec
req_spec d = record { name = d.name; bytes = d.bytes; page_shift = d.page_shift; rate = d.rate }

-- a connection zone
abbrev pub conn_spec : ConnData → ConnSpec
conn_spec d = record { name = d.name; bytes = d.bytes; page_shift = d.page_shift }

-- how an upstream chooses
abbrev pub method_of : MethodData → Method
method_of given.Round = Round
method_of given.Least = Least

-- a server
abbrev pub server_of : ServerData → Server
server_of d = record { address = d.address; weight = d.weight; max_conns = d.max_conns; max_fails = d.max_fails; fail_timeout = d.fail_timeout; down = d.down }

-- an upstream's zone
abbrev pub peer_spec : PeerData → PeerSpec
peer_spec d = record {
  name = d.name;
  bytes = d.bytes;
  page_shift = d.page_shift;
  method = method_of d.method;
  primary = map server_of d.primary;
  backup = map server_of d.backup;
}
