-- How many requests, in thousandths, are above the rate, and how long one is delayed for it.
-- Moments are in milliseconds, a rate is in thousandths of a request per second.
use Rattle.std.specs.Prelude.{ℕ, ◌+◌, ◌-◌, ◌*◌, ◌/◌, ◌^◌, ◌<◌, ◌≤◌, nat_lt, nat_eq, if◌then◌else◌}
use Rattle.req_zone.specs.declared.rules.Allowed.{Allowed}
use Rattle.req_zone.specs.declared.rules.Allowed.TheVariants.{Never, Above}

-- a rate is at least 1 and at most a million requests per second
abbrev pub IsRate : ℕ → Type 0
IsRate rate = (0 < rate) × (rate ≤ 1000000000)

-- a moment lies below 2^42
abbrev pub IsMoment : ℕ → Type 0
IsMoment moment = moment < 2 ^ 42

-- the greatest burst
abbrev pub greatest_burst : ℕ
greatest_burst = 1000000000

-- the milliseconds that count from `last` to `now`: where the clock ran back by more than 60,000 ms it is 1, where by 60,000 ms or less 0
abbrev pub elapsed : ℕ → ℕ → ℕ
elapsed last now = if nat_lt now last then (if nat_lt 60000 (last - now) then 1 else 0) else now - last

-- what the rate lets through in so many milliseconds
abbrev pub allowance : ℕ → ℕ → ℕ
allowance rate ms = rate * ms / 1000

-- the excess that one request more makes, at least 0
abbrev pub amount_of : ℕ → ℕ → ℕ → ℕ → ℕ
amount_of rate excess last now = excess + 1000 - allowance rate (elapsed last now)

-- the moment that an entry keeps: `now`, unless no millisecond counts
abbrev pub stamp : ℕ → ℕ → ℕ
stamp last now = if nat_eq (elapsed last now) 0 then last else now

-- the milliseconds by which a request of this excess is delayed
abbrev pub delay_of : ℕ → Allowed → ℕ → ℕ
delay_of excess Never rate = 0
delay_of excess (Above allowed) rate = (excess - allowed) * 1000 / rate
