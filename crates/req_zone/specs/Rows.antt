-- Worked rows, which the definitions compute.
use Rattle.std.specs.Prelude.{ℕ, zero, suc, ◌≡◌, ◌+◌, ◌/◌, ◌%◌, true, false, List, [], ◌∷◌, map, replicate, codes}
use Rattle.slab_model.specs.Counting.{free_pages}
use Rattle.req_zone.specs.declared.state.ReqEntry.{ReqEntry}
use Rattle.req_zone.specs.declared.state.ReqState.{ReqState}
use Rattle.req_zone.specs.declared.calls.ReqCall.{ReqCall}
use Rattle.req_zone.specs.declared.calls.ReqCall.TheVariants.{Check, Account}
use Rattle.req_zone.specs.declared.calls.ReqReply.{ReqReply}
use Rattle.req_zone.specs.declared.calls.ReqReply.TheVariants.{Pass, Again, Busy, NoRoom, Accounted}
use Rattle.req_zone.specs.Object.{opened_zone, answer_of, zone_after}

-- the replies of these calls, one after another
abbrev pub answers : ReqState → List ReqCall → List ReqReply
answers s [] = []
answers s (call ∷ calls) = answer_of s call ∷ answers (zone_after s call) calls

-- the zone after these calls
abbrev pub after : ReqState → List ReqCall → ReqState
after s [] = s
after s (call ∷ calls) = after (zone_after s call) calls

-- the zone `one` of this rate and of so many bytes
abbrev pub one : ℕ → ℕ → ReqState
one rate bytes = opened_zone rate (codes "one") bytes

-- the keys of a zone, newest first, and the blocks of their nodes
abbrev pub keys_in : ReqState → List (List ℕ)
keys_in s = map (λ (entry : ReqEntry). entry.key) s.table

-- the blocks of the table's nodes
abbrev pub nodes_in : ReqState → List ℕ
nodes_in s = map (λ (entry : ReqEntry). entry.block) s.table

-- in 32 KiB the context stands at 4096, the name's block at 8224 and a first node at 4224; 5 pages are then free
abbrev pub first_key : ReqState
first_key = zone_after (one 1000 32768) (Check (codes "abcd") 0 0 true)

-- the offsets of context, name and first node, and the free pages after them
abbrev pub OpenRow : Type 0
OpenRow = ((one 1000 32768).context ≡ 4096) × ((one 1000 32768).name_block ≡ 8224) × (nodes_in first_key ≡ 4224 ∷ []) × (free_pages first_key.slab ≡ 5)

-- an earlier limit holds the entry, the last one stores what it counts, and the account counts once more
abbrev pub hold_calls : List ReqCall
hold_calls = Check (codes "abcd") 0 5000 false ∷ Check (codes "abcd") 500 5000 true ∷ Account 4224 500 ∷ []

-- what the three calls are answered
abbrev pub HoldRow : Type 0
HoldRow = answers (one 1000 32768) hold_calls ≡ Again 0 4224 ∷ Pass 500 ∷ Accounted 1500 ∷ []

-- a check of the key "a" by the last limit
abbrev pub ask : ℕ → ℕ → ReqCall
ask burst now = Check (codes "a") now burst true

-- a refusal stores nothing
abbrev pub BusyRow : Type 0
BusyRow = answers (one 1000 32768) (ask 0 0 ∷ ask 0 500 ∷ ask 0 1000 ∷ []) ≡ Pass 0 ∷ Busy 500 ∷ Pass 0 ∷ []

-- one request a minute
abbrev pub SlowRow : Type 0
SlowRow = answers (one 16 32768) (ask 0 0 ∷ ask 0 60000 ∷ ask 0 62499 ∷ ask 0 62500 ∷ []) ≡ Pass 0 ∷ Busy 40 ∷ Busy 1 ∷ Pass 0 ∷ []

-- a clock that runs back by 30,000 ms, and then by 70,000 ms from the moment that was kept
abbrev pub BackRow : Type 0
BackRow = answers (one 1000 32768) (ask 5000 100000 ∷ ask 5000 70000 ∷ ask 5000 30000 ∷ ask 5000 30500 ∷ []) ≡ Pass 0 ∷ Pass 1000 ∷ Pass 1999 ∷ Pass 2499 ∷ []

-- a check of a key with no burst
abbrev pub ask_for : ℕ → List ℕ → ReqCall
ask_for now key = Check key now 0 true

-- after a minute two stale entries leave, and no third
abbrev pub StaleRow : Type 0
StaleRow = keys_in (after (one 1000 32768) (ask_for 0 (codes "a") ∷ ask_for 0 (codes "b") ∷ ask_for 0 (codes "c") ∷ ask_for 60000 (codes "d") ∷ [])) ≡ codes "d" ∷ codes "c" ∷ []

-- a key of 4 bytes for each number
abbrev pub numbered : ℕ → List ℕ
numbered n = 97 ∷ (48 + n / 100) ∷ (48 + n / 10 % 10) ∷ (48 + n % 10) ∷ []

-- checks of so many keys at moment 0, numbered from `first` on
abbrev pub ask_keys : ℕ → ℕ → List ReqCall
ask_keys first zero = []
ask_keys first (suc n) = ask_for 0 (numbered first) ∷ ask_keys (first + 1) n

-- a stale entry that is held stays, and those before it too
abbrev pub HeldRow : Type 0
HeldRow = keys_in (after (one 1000 32768) (Check (codes "a") 0 0 false ∷ ask_for 0 (codes "b") ∷ ask_for 120000 (codes "c") ∷ [])) ≡ codes "c" ∷ codes "b" ∷ codes "a" ∷ []

-- 191 keys of 4 bytes fill 32 KiB: the 192nd evicts the first, which then evicts the second
abbrev pub EvictRow : Type 0
EvictRow = answers (after (one 1000 32768) (ask_keys 1 192)) (ask_for 0 (numbered 1) ∷ ask_for 0 (numbered 3) ∷ []) ≡ Pass 0 ∷ Busy 1000 ∷ []

-- then a longer key finds no room and evicts one entry, in whose place another short key finds room
abbrev pub FullRow : Type 0
FullRow = answers (after (one 1000 32768) (ask_keys 1 191)) (ask_for 0 (replicate 49 98) ∷ ask_for 0 (codes "last") ∷ []) ≡ NoRoom 1 ∷ Pass 0 ∷ []

-- a key of 65,535 bytes takes 17 pages, more than 32 KiB have
abbrev pub LargeRow : Type 0
LargeRow = (answer_of (one 1000 32768) (ask_for 0 (replicate 65535 97)) ≡ NoRoom 0)
    × (answer_of (one 1000 1048576) (ask_for 0 (replicate 65535 97)) ≡ Pass 0)
    × (nodes_in (zone_after (one 1000 1048576) (ask_for 0 (replicate 65535 97))) ≡ 16384 ∷ [])
