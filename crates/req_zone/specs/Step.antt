-- What each call answers and what it changes.
use Rattle.std.specs.Prelude.{ℕ, ◌+◌, ◌-◌, Bool, true, false, nat_lt, nat_eq, List, [], ◌∷◌, length, Option, Some, None, find, if◌then◌else◌}
use Rattle.req_zone.specs.Amount.{amount_of, stamp}
use Rattle.req_zone.specs.declared.state.ReqEntry.{ReqEntry}
use Rattle.req_zone.specs.Table.{entry_of, others}
use Rattle.slab_model.specs.Store.{BlockStore}
use Rattle.req_zone.specs.State.{State}
use Rattle.req_zone.specs.Expiry.{first_leaving, forced_leaving, evict}
use Rattle.req_zone.specs.declared.calls.ReqCall.{ReqCall}
use Rattle.req_zone.specs.declared.calls.ReqCall.TheVariants.{Check, Account, Release}
use Rattle.req_zone.specs.declared.calls.ReqReply.{ReqReply}
use Rattle.req_zone.specs.declared.calls.ReqReply.TheVariants.{Pass, Again, Busy, NoRoom, Accounted, Released}

-- the bytes of a node before its key
abbrev pub node_size : ℕ
node_size = 80

-- ---- a key that is there

-- the entry with an amount that was counted at `now`
abbrev pub stored : ℕ → ℕ → ReqEntry → ReqEntry
stored amount now entry = record { key = entry.key; block = entry.block; excess = amount; last = stamp entry.last now; count = entry.count }

-- the entry with so many holds
abbrev pub with_count : ℕ → ReqEntry → ReqEntry
with_count count entry = record { key = entry.key; block = entry.block; excess = entry.excess; last = entry.last; count = count }

-- an amount within the burst: the last limit stores it, an earlier one holds the entry
abbrev pub within_burst : ℕ → ℕ → Bool → ReqEntry → List ReqEntry → ReqReply × List ReqEntry
within_burst amount now true entry rest = (Pass amount, stored amount now entry ∷ rest)
within_burst amount now false entry rest = (Again amount entry.block, with_count (entry.count + 1) entry ∷ rest)

-- the entry moves to the front; it is else unchanged where the amount is above the burst
abbrev pub check_found : ℕ → ℕ → ℕ → Bool → ReqEntry → List ReqEntry → ReqReply × List ReqEntry
check_found rate now burst last entry rest =
    let amount = amount_of rate entry.excess entry.last now in
    if nat_lt burst amount then (Busy amount, entry ∷ rest) else within_burst amount now last entry rest

-- ---- a key that is missing

-- its entry in this block, for the last limit or for an earlier one
abbrev pub new_entry : List ℕ → ℕ → Bool → ℕ → ReqEntry
new_entry key now true at = record { key = key; block = at; excess = 0; last = now; count = 0 }
new_entry key now false at = record { key = key; block = at; excess = 0; last = 0; count = 1 }

-- the reply to the check that made it
abbrev pub new_reply : Bool → ℕ → ReqReply
new_reply true at = Pass 0
new_reply false at = Again 0 at

-- the second grant, after both expiries removed so many
abbrev pub after_second : {S : Type 0} → List ℕ → ℕ → Bool → ℕ → List ReqEntry → Option ℕ → S → ReqReply × State S
after_second key now last evicted table None store = (NoRoom evicted, record { table = table; memory = store })
after_second key now last evicted table (Some at) store = (new_reply last at, record { table = new_entry key now last at ∷ table; memory = store })

-- the forced expiry and the second grant
abbrev pub by_force : {S : Type 0} → BlockStore S → ℕ → List ℕ → ℕ → Bool → ℕ → State S → ReqReply × State S
by_force memory rate key now last evicted state =
    let forced = forced_leaving rate now state.table in
    let left = evict memory state forced in
    let granted = memory.grant left.memory (node_size + length key) in
    after_second key now last (evicted + forced) left.table granted.0 granted.1

-- the first grant, after the first expiry removed so many
abbrev pub after_first : {S : Type 0} → BlockStore S → ℕ → List ℕ → ℕ → Bool → ℕ → List ReqEntry → Option ℕ → S → ReqReply × State S
after_first memory rate key now last evicted table None store = by_force memory rate key now last evicted (record { table = table; memory = store })
after_first memory rate key now last evicted table (Some at) store = (new_reply last at, record { table = new_entry key now last at ∷ table; memory = store })

-- the first expiry and the first grant
abbrev pub check_missing : {S : Type 0} → BlockStore S → ℕ → List ℕ → ℕ → Bool → State S → ReqReply × State S
check_missing memory rate key now last state =
    let stale = first_leaving rate now state.table in
    let left = evict memory state stale in
    let granted = memory.grant left.memory (node_size + length key) in
    after_first memory rate key now last stale left.table granted.0 granted.1

-- ---- the calls

-- a check, by the entry of its key, if any
abbrev pub check_as : {S : Type 0} → BlockStore S → ℕ → List ℕ → ℕ → ℕ → Bool → State S → Option ReqEntry → ReqReply × State S
check_as memory rate key now burst last state None = check_missing memory rate key now last state
check_as memory rate key now burst last state (Some entry) =
    let found = check_found rate now burst last entry (others key state.table) in
    (found.0, record { table = found.1; memory = state.memory })

-- the entry of this block becomes another, in its place
abbrev pub change_at : ℕ → (ReqEntry → ReqEntry) → List ReqEntry → List ReqEntry
change_at at change [] = []
change_at at change (entry ∷ rest) = if nat_eq entry.block at then change entry ∷ rest else entry ∷ change_at at change rest

-- the amount that is accounted on an entry
abbrev pub account_amount : ℕ → ℕ → Option ReqEntry → ℕ
account_amount rate now None = 0
account_amount rate now (Some entry) = amount_of rate entry.excess entry.last now

-- the reply of a call, and the state after it
abbrev pub step : {S : Type 0} → BlockStore S → ℕ → State S → ReqCall → ReqReply × State S
step memory rate state (Check key now burst last) = check_as memory rate key now burst last state (entry_of key state.table)
step memory rate state (Account at now) =
    let amount = account_amount rate now (find (λ (entry : ReqEntry). nat_eq entry.block at) state.table) in
    (Accounted amount, record { table = change_at at (λ (entry : ReqEntry). with_count (entry.count - 1) (stored amount now entry)) state.table; memory = state.memory })
step memory rate state (Release at) =
    (Released, record { table = change_at at (λ (entry : ReqEntry). with_count (entry.count - 1) entry) state.table; memory = state.memory })
