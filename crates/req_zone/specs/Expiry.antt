-- Expiry takes entries from the back of a table: the oldest ones, a suffix of the list.
use Rattle.std.specs.Prelude.{ℕ, zero, suc, ◌+◌, ◌-◌, ◌&&◌, nat_eq, List, [], ◌∷◌, length, take, reverse, if◌then◌else◌}
use Rattle.req_zone.specs.declared.state.ReqEntry.{ReqEntry}
use Rattle.req_zone.specs.Table.{is_stale}
use Rattle.slab_model.specs.Store.{BlockStore}
use Rattle.req_zone.specs.State.{State, give_all}

-- how many of the oldest entries leave as stale, `most` at most; it stops at the first that isn't stale or is held
abbrev pub stale_leaving : ℕ → ℕ → ℕ → List ReqEntry → ℕ
stale_leaving rate now zero oldest = 0
stale_leaving rate now (suc most) [] = 0
stale_leaving rate now (suc most) (entry ∷ newer) = if nat_eq entry.count 0 && is_stale rate now entry then 1 + stale_leaving rate now most newer else 0

-- how many leave in the first expiry: up to two stale ones
abbrev pub first_leaving : ℕ → ℕ → List ReqEntry → ℕ
first_leaving rate now table = stale_leaving rate now 2 (reverse table)

-- how many of the oldest entries leave in the forced expiry: the oldest unless it is held, and then up to two stale ones
abbrev pub forced_from : ℕ → ℕ → List ReqEntry → ℕ
forced_from rate now [] = 0
forced_from rate now (entry ∷ newer) = if nat_eq entry.count 0 then 1 + stale_leaving rate now 2 newer else 0

-- how many entries leave when a block must be found
abbrev pub forced_leaving : ℕ → ℕ → List ReqEntry → ℕ
forced_leaving rate now table = forced_from rate now (reverse table)

-- the table without its `n` oldest entries
abbrev pub without_oldest : ℕ → List ReqEntry → List ReqEntry
without_oldest n table = take (length table - n) table

-- the `n` oldest entries leave, from the back, and each one's block is given back
abbrev pub evict : {S : Type 0} → BlockStore S → State S → ℕ → State S
evict memory state n = record { table = without_oldest n state.table; memory = give_all memory state.memory (take n (reverse state.table)) }
