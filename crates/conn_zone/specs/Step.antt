-- What each call answers and what it changes.
use Rattle.std.specs.Prelude.{ℕ, ◌+◌, ◌-◌, nat_le, nat_eq, List, [], ◌∷◌, length, Option, Some, None, if◌then◌else◌}
use Rattle.slab_model.specs.Store.{BlockStore}
use Rattle.conn_zone.specs.declared.state.ConnEntry.{ConnEntry}
use Rattle.conn_zone.specs.declared.calls.ConnCall.{ConnCall}
use Rattle.conn_zone.specs.declared.calls.ConnCall.TheVariants.{Open, Close}
use Rattle.conn_zone.specs.declared.calls.ConnReply.{ConnReply}
use Rattle.conn_zone.specs.declared.calls.ConnReply.TheVariants.{Opened, AtLimit, NoRoom, Closed}
use Rattle.conn_zone.specs.Table.{has_key, is_at, entry_of, entry_at, with_count, replace_first}
use Rattle.conn_zone.specs.State.{State}

-- the bytes of a node before its key
abbrev pub node_size : ℕ
node_size = 36

-- ---- open

-- a key that is there: at the limit nothing changes, below it the key has one connection more
abbrev pub open_found : {S : Type 0} → List ℕ → ℕ → State S → ConnEntry → ConnReply × State S
open_found key limit state entry =
    if nat_le limit entry.count then (AtLimit entry.count, state)
    else (Opened entry.block (entry.count + 1), record { table = replace_first (has_key key) (with_count (entry.count + 1) entry ∷ []) state.table; memory = state.memory })

-- the entry of a new key in this block
abbrev pub new_entry : List ℕ → ℕ → ConnEntry
new_entry key at = record { key = key; block = at; count = 1 }

-- a key that is missing, once its node was asked for: its entry comes to the front, or nothing changes where there is no block
abbrev pub after_grant : {S : Type 0} → List ℕ → List ConnEntry → Option ℕ → S → ConnReply × State S
after_grant key table None memory = (NoRoom, record { table = table; memory = memory })
after_grant key table (Some at) memory = (Opened at 1, record { table = new_entry key at ∷ table; memory = memory })

-- a key that is missing: a block for its node
abbrev pub open_missing : {S : Type 0} → BlockStore S → List ℕ → State S → ConnReply × State S
open_missing store key state = let granted = store.grant state.memory (node_size + length key) in after_grant key state.table granted.0 granted.1

-- an open, by the entry of its key, if any
abbrev pub open_as : {S : Type 0} → BlockStore S → List ℕ → ℕ → State S → Option ConnEntry → ConnReply × State S
open_as store key limit state None = open_missing store key state
open_as store key limit state (Some entry) = open_found key limit state entry

-- ---- close

-- the entry of the block at this offset has so many connections left; with none it leaves, and its block is given back
abbrev pub close_to : {S : Type 0} → BlockStore S → ℕ → ℕ → ConnEntry → State S → ConnReply × State S
close_to store at left entry state = (
  Closed left,
  (if nat_eq left 0 then record { table = replace_first (is_at at) [] state.table; memory = store.give_back state.memory at }
      else record { table = replace_first (is_at at) (with_count left entry ∷ []) state.table; memory = state.memory }),
)

-- nobody closes an entry that isn't there
abbrev pub close_as : {S : Type 0} → BlockStore S → ℕ → State S → Option ConnEntry → ConnReply × State S
close_as store at state None = (Closed 0, state)
close_as store at state (Some entry) = close_to store at (entry.count - 1) entry state

-- ---- the calls

-- the reply of a call, and the state after it
abbrev pub step : {S : Type 0} → BlockStore S → State S → ConnCall → ConnReply × State S
step store state (Open key limit) = open_as store key limit state (entry_of key state.table)
step store state (Close at) = close_as store at state (entry_at at state.table)
