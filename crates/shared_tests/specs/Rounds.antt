-- Callers of a row of counters that lower only what they raised.
use Rattle.std.specs.Prelude.{◌≡◌, ℕ, ◌+◌, ◌*◌, ◌≤◌, Some, length, replicate, slice_index, sum_by}
use Rattle.zone_counters.specs.declared.CounterState.{CounterState}
use Rattle.zone_counters.specs.Counting.{Made, zero_counters, given, back}
use Rattle.shared_zone.specs.Callers.{ZoneId, Zone, Caller, made}

-- a zone of two counters, opened for sixteen passes with room for 64 calls each
abbrev pub home : ZoneId → Zone CounterState
home id = record { id = id; start = Some (zero_counters 2); rooms = replicate 16 64 }

-- at each place the pass has lowered at most as often as it raised
abbrev pub LowersOwn : Caller CounterState Made → Type 0
LowersOwn pass = (at : ℕ) → sum_by (back at) (made pass) ≤ sum_by (given at) (made pass)

-- the pass has room for so many calls more
abbrev pub HasRoomFor : ℕ → Caller CounterState Made → Type 0
HasRoomFor calls pass = length (made pass) + calls ≤ slice_index pass.zone.rooms pass.number

-- a pass of this zone that has room for so many rounds of two calls
pub record MayGo (zone : Zone CounterState) (rounds : ℕ) (pass : Caller CounterState Made) : Type 0 where
  pub zone_is : pass.zone ≡ zone
  pub own_only : LowersOwn pass
  pub room : HasRoomFor (2 * rounds) pass
