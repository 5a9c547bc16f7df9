-- The record of a server: how it begins, and whether it can take a request.
use Rattle.std.specs.Prelude.{ℕ, zero, suc, ◌-◌, ◌/◌, ◌%◌, ◌^◌, Bool, not, ◌&&◌, ◌||◌, nat_eq, nat_lt, nat_le, pos, List, [], ◌∷◌, map, Option, Some, None}
use Rattle.peer_zone.specs.declared.calls.Server.{Server}
use Rattle.peer_zone.specs.declared.state.PeerRecord.{PeerRecord}

-- the record of this index, where there is one
abbrev pub peer_at : List PeerRecord → ℕ → Option PeerRecord
peer_at [] index = None
peer_at (p ∷ ps) zero = Some p
peer_at (p ∷ ps) (suc index) = peer_at ps index

-- ---- how it begins

-- the record of a server that has had no request
abbrev pub fresh_record : Server → PeerRecord
fresh_record server = record { server = server; effective = server.weight; current = pos 0; conns = 0; fails = 0; checked = 0; accessed = 0 }

-- the servers that these are the records of
abbrev pub servers_of : List PeerRecord → List Server
servers_of peers = map (λ (p : PeerRecord). p.server) peers

-- ---- whether it can take a request

-- the request has tried the server of this index
abbrev pub is_tried : ℕ → ℕ → Bool
is_tried tried index = nat_eq (tried / 2 ^ index % 2) 1

-- the server has failed as often as it may, and its timeout is not over
abbrev pub is_failing : ℕ → PeerRecord → Bool
is_failing now p = nat_lt 0 p.server.max_fails && (nat_le p.server.max_fails p.fails && nat_le (now - p.checked) p.server.fail_timeout)

-- the server has as many connections as it may
abbrev pub is_full : PeerRecord → Bool
is_full p = nat_lt 0 p.server.max_conns && nat_le p.server.max_conns p.conns

-- the server can take a request that has tried these servers; an upstream's single server is neither passed over as tried nor as failing
abbrev pub is_available : Bool → ℕ → ℕ → ℕ → PeerRecord → Bool
is_available single tried now index p = (not p.server.down && not (is_full p)) && (single || (not (is_tried tried index) && not (is_failing now p)))
