-- Worked rows, which the definitions compute.
use Rattle.std.specs.Prelude.{ℕ, zero, suc, ◌≡◌, ◌/◌, ◌%◌, List, [], ◌∷◌, length, Some}
use Rattle.conn_zone.specs.declared.state.ConnState.{ConnState}
use Rattle.conn_zone.specs.declared.calls.ConnCall.{ConnCall}
use Rattle.conn_zone.specs.declared.calls.ConnCall.TheVariants.{Open, Close}
use Rattle.conn_zone.specs.declared.calls.ConnReply.{ConnReply}
use Rattle.conn_zone.specs.declared.calls.ConnReply.TheVariants.{Opened, AtLimit, NoRoom, Closed}
use Rattle.slab_model.specs.Counting.{free_pages}
use Rattle.conn_zone.specs.Table.{entry_at}
use Rattle.conn_zone.specs.Object.{opened_zone, answer_of, zone_after}

-- the replies of these calls, one after another
abbrev pub replies_of : ConnState → List ConnCall → List ConnReply
replies_of s [] = []
replies_of s (call ∷ calls) = answer_of s call ∷ replies_of (zone_after s call) calls

-- a zone of 32 KiB with the name c
abbrev pub small_zone : ConnState
small_zone = opened_zone (99 ∷ []) 32768

-- the address 10.0.x.y as a key, for the number of its last two bytes
abbrev pub address : ℕ → List ℕ
address n = 10 ∷ 0 ∷ n / 256 ∷ n % 256 ∷ []

-- the zone after one connection of each of so many addresses
abbrev pub filled : ℕ → ConnState
filled zero = small_zone
filled (suc n) = zone_after (filled n) (Open (address n) 1)

-- the context stands at 4096, the name's block at 8224 and a first node at 4160; 5 pages are then free
abbrev pub OpenRow : Type 0
OpenRow = (small_zone.context ≡ 4096) × (small_zone.name_block ≡ 8224) × (entry_at 4160 (filled 1).table ≡ Some (record { key = address 0; block = 4160; count = 1 })) × (free_pages (filled 1).slab ≡ 5)

-- one connection at once: it is counted, the next is refused, and once it ended the next is counted in the same block
abbrev pub OneAtOnceRow : Type 0
OneAtOnceRow = replies_of small_zone (Open (address 1) 1 ∷ Open (address 1) 1 ∷ Close 4160 ∷ Open (address 1) 1 ∷ []) ≡ Opened 4160 1 ∷ AtLimit 1 ∷ Closed 0 ∷ Opened 4160 1 ∷ []

-- it holds 383 entries, and the next address finds no room
abbrev pub FullRow : Type 0
FullRow = (length (filled 383).table ≡ 383) × (answer_of (filled 383) (Open (address 383) 1) ≡ NoRoom)
