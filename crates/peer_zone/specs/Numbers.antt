-- The numbers of a server's record.
use Rattle.std.specs.Prelude.{◌≡◌, ◌^◌, ◌<◌, [], Option, Some, None}
use Rattle.peer_zone.specs.declared.state.PeerRecord.{PeerRecord}
use Rattle.peer_zone.specs.declared.numbers.PeerNumbers.{PeerNumbers}
use Rattle.peer_zone.specs.declared.takers.Least.{Least}
use Rattle.peer_zone.specs.declared.takers.Takers.{Takers}
use Rattle.peer_zone.specs.declared.takers.Nearest.{Nearest}
use Rattle.peer_zone.specs.Records.{is_available}
use Rattle.peer_zone.specs.Choice.{Part, Found, raised, tied}

-- the numbers of a record
abbrev pub numbers_of : PeerRecord → PeerNumbers
numbers_of p = record {
  weight = p.server.weight;
  effective = p.effective;
  current = p.current;
  conns = p.conns;
  max_conns = p.server.max_conns;
  fails = p.fails;
  max_fails = p.server.max_fails;
  fail_timeout = p.server.fail_timeout;
  checked = p.checked;
  accessed = p.accessed;
  down = p.server.down;
}

-- a record with these numbers, whose server has no address
abbrev pub as_record : PeerNumbers → PeerRecord
as_record n = record {
  server = record { address = []; weight = n.weight; max_conns = n.max_conns; max_fails = n.max_fails; fail_timeout = n.fail_timeout; down = n.down };
  effective = n.effective;
  current = n.current;
  conns = n.conns;
  fails = n.fails;
  checked = n.checked;
  accessed = n.accessed;
}

-- its connections and its weight can be multiplied with those of another
pub record IsLight (n : PeerNumbers) : Type 0 where
  pub conns : n.conns < 2 ^ 32
  pub weight : n.weight < 2 ^ 16

-- the least busy server, as a record that was found
abbrev pub found_of : Least → Found
found_of least = record { index = least.index; peer = as_record least.peer }

-- of those that take part, the ones that are as busy as the least busy one, where there is one
abbrev pub tied_to : Part → Option Least → Part
tied_to part None = part
tied_to part (Some least) = tied part (found_of least)

-- those that take part in a choice
abbrev pub part_of : Takers → Part
part_of takers = tied_to (is_available takers.single takers.tried takers.moment) takers.least

-- the server is the one that was found, or both are none
abbrev pub IsLeast : Option Least → Option Found → Type 0
IsLeast None None = Unit {0}
IsLeast None (Some found) = ⊥
IsLeast (Some least) None = ⊥
IsLeast (Some least) (Some found) = (least.index ≡ found.index) × (least.peer ≡ numbers_of found.peer)

-- the server is the one that was found, with its current after the round, or both are none
abbrev pub IsNearest : Option Nearest → Option Found → Type 0
IsNearest None None = Unit {0}
IsNearest None (Some found) = ⊥
IsNearest (Some nearest) None = ⊥
IsNearest (Some nearest) (Some found) = (nearest.index ≡ found.index) × (nearest.current ≡ (raised found.peer).current)
