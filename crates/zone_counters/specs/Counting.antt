-- A row of counters: what its calls answer and change, what it permits, and what its law carries along.
use Rattle.std.specs.Prelude.{◌≡◌, ℕ, ◌+◌, ◌-◌, ◌<◌, ◌≤◌, ◌^◌, nat_eq, nat_lt, List, length, slice_index, slice_set, replicate, sum_by, if◌then◌else◌}
use Rattle.zone_object.specs.declared.object.Entry.{Entry}
use Rattle.zone_counters.specs.declared.Counters.{Counters}
use Rattle.zone_counters.specs.declared.CounterState.{CounterState}
use Rattle.zone_counters.specs.declared.CounterCall.{CounterCall}
use Rattle.zone_counters.specs.declared.CounterCall.TheVariants.{Raise, Lower}
use Rattle.zone_counters.specs.declared.CounterReply.{CounterReply}
use Rattle.zone_counters.specs.declared.CounterReply.TheVariants.{Raised, NoCounter, Lowered}

-- an entry of a history of the row
abbrev pub Made : Type 0
Made = Entry Counters CounterState CounterCall CounterReply

-- the words are the counts
abbrev pub Lays : Counters → CounterState → Type 0
Lays words s = words ≡ s.counts

-- no counter is raised
abbrev pub AreZero : CounterState → Type 0
AreZero s = (at : ℕ) → slice_index s.counts at ≡ 0

-- so many counters that say 0
abbrev pub zero_counters : ℕ → CounterState
zero_counters places = record { counts = replicate places 0 }

-- what the counter at this place says, 0 where there is none
abbrev pub count_at : CounterState → ℕ → ℕ
count_at s at = slice_index s.counts at

-- what a call is answered
abbrev pub reply_of : CounterState → CounterCall → CounterReply
reply_of s (Raise at) = if nat_lt at (length s.counts) then Raised (count_at s at + 1) else NoCounter
reply_of s (Lower at) = Lowered (count_at s at - 1)

-- the counter at this place says so much
abbrev pub with_count : CounterState → ℕ → ℕ → CounterState
with_count s at count = record { counts = slice_set s.counts at count }

-- the counters after a call
abbrev pub state_after : CounterState → CounterCall → CounterState
state_after s (Raise at) = if nat_lt at (length s.counts) then with_count s at (count_at s at + 1) else s
state_after s (Lower at) = with_count s at (count_at s at - 1)

-- ---- what callers are given and give back, by place

-- once if the reply gives this counter to the caller
abbrev pub given_by : ℕ → CounterCall → CounterReply → ℕ
given_by at (Raise to) (Raised count) = if nat_eq to at then 1 else 0
given_by at (Raise to) NoCounter = 0
given_by at (Raise to) (Lowered count) = 0
given_by at (Lower to) reply = 0

-- how much the entry raised the counter at this place
abbrev pub given : ℕ → Made → ℕ
given at e = given_by at e.call e.reply

-- once if the call gives this counter back
abbrev pub back_by : ℕ → CounterCall → ℕ
back_by at (Raise to) = 0
back_by at (Lower to) = if nat_eq to at then 1 else 0

-- how much the entry lowered it
abbrev pub back : ℕ → Made → ℕ
back at e = back_by at e.call

-- a caller lowers a counter that it raised more often than it lowered it
abbrev pub Permits : List Made → CounterCall → Type 0
Permits mine (Raise at) = Unit {0}
Permits mine (Lower at) = sum_by (back at) mine < sum_by (given at) mine

-- a counter below 2^32 may rise, one above 0 may fall
abbrev pub Ready : CounterState → CounterCall → Type 0
Ready s (Raise at) = count_at s at < 2 ^ 32
Ready s (Lower at) = 0 < count_at s at

-- the replies that a call can be given
abbrev pub CanAnswer : CounterState → CounterCall → CounterReply → Type 0
CanAnswer s (Raise at) (Raised count) = count ≤ 2 ^ 32
CanAnswer s (Raise at) NoCounter = length s.counts ≤ at
CanAnswer s (Raise at) (Lowered count) = ⊥
CanAnswer s (Lower at) (Raised count) = ⊥
CanAnswer s (Lower at) NoCounter = ⊥
CanAnswer s (Lower at) (Lowered count) = Unit {0}

-- what calls carry along: a counter says how often it was raised and not yet lowered, which is at most once an entry; no place comes or goes
pub record Holds (start : CounterState) (log : List Made) (s : CounterState) : Type 0 where
  pub places : length s.counts ≡ length start.counts
  pub count : (at : ℕ) → count_at s at + sum_by (back at) log ≡ sum_by (given at) log
  pub few : (at : ℕ) → count_at s at ≤ length log
