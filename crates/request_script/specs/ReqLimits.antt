-- The limits of requests, in the order of a level's list.
use Rattle.std.specs.Prelude.{ℕ, Bool, true, false, nat_lt, List, [], ◌∷◌, ◌++◌, reverse, Some, None, if◌then◌else◌}
use Rattle.zone_key.specs.declared.vars.Vars.{Vars}
use Rattle.zone_config.specs.declared.data.Config.{Config}
use Rattle.zone_config.specs.declared.data.ReqLimit.{ReqLimit}
use Rattle.req_zone.specs.declared.rules.Allowed.{Allowed}
use Rattle.req_zone.specs.declared.rules.Allowed.TheVariants.{Never, Above}
use Rattle.req_zone.specs.declared.calls.ReqCall.TheVariants.{Check, Account, Release}
use Rattle.req_zone.specs.declared.calls.ReqReply.{ReqReply}
use Rattle.req_zone.specs.declared.calls.ReqReply.TheVariants.{Pass, Again, Busy, Accounted, Released}
use Rattle.req_zone.specs.Amount.{delay_of}
use Rattle.request_script.specs.declared.call.ZoneCall.TheVariants as to
use Rattle.request_script.specs.declared.call.ZoneReply.{ZoneReply}
use Rattle.request_script.specs.declared.call.ZoneReply.TheVariants as from
use Rattle.request_script.specs.declared.decision.Excess.{Excess}
use Rattle.request_script.specs.declared.decision.Excess.TheVariants as excess
use Rattle.request_script.specs.declared.decision.ReqStatus.TheVariants as status
use Rattle.request_script.specs.declared.said.Hold.{Hold}
use Rattle.request_script.specs.declared.said.Delay.{Delay}
use Rattle.request_script.specs.declared.said.ReqSaid.{ReqSaid}
use Rattle.request_script.specs.Turn.{Turn}
use Rattle.request_script.specs.Turn.Turn.{asks}
use Rattle.request_script.specs.Zones.{key_of, rate_of, is_skipped}

-- ---- what the limits say

-- no limit was asked
abbrev pub unset : ReqSaid
unset = record { status = status.Unset; delay = 0; by = None; excess = excess.Unset }

-- a request is delayed by so much, or passes where that is 0 ms
abbrev pub delayed : Bool → Delay → ReqSaid
delayed dry d =
    if nat_lt 0 d.ms then record { status = if dry then status.DelayedDry else status.Delayed; delay = d.ms; by = Some d.zone; excess = excess.Amount d.excess }
    else record { status = status.Passed; delay = 0; by = None; excess = excess.Unset }

-- a request is refused by the limit of a zone
abbrev pub refused : Bool → ℕ → Excess → ReqSaid
refused dry zone value = record { status = if dry then status.RejectedDry else status.Rejected; delay = 0; by = Some zone; excess = value }

-- whether no limit is behind one
abbrev pub is_last : List ReqLimit → Bool
is_last [] = true
is_last (limit ∷ limits) = false

-- ---- delays

-- the excess that a limit lets go on without a delay
abbrev pub allowed_of : ReqLimit → Allowed
allowed_of limit = if limit.allowed_never then Never else Above limit.delay

-- no delay
abbrev pub no_delay : Delay
no_delay = record { ms = 0; zone = 0; excess = 0 }

-- the greater of two delays, the first where they are equal
abbrev pub greater : Delay → Delay → Delay
greater d e = if nat_lt d.ms e.ms then e else d

-- ---- the replies

-- what a request zone answered; no reply of another zone is one
abbrev pub req_reply : ZoneReply → ReqReply
req_reply (from.Req reply) = reply
req_reply _ = Released

-- the excess that an account told
abbrev pub accounted : ReqReply → ℕ
accounted (Accounted excess) = excess
accounted _ = 0

-- ---- the walk

-- the delay that an excess of a zone makes
abbrev pub delay_by : Config → ℕ → Allowed → ℕ → Delay
delay_by config zone allowed value = record { ms = delay_of value allowed (rate_of config zone); zone = zone; excess = value }

-- each of these holds is let go, one after another
abbrev pub releases : List Hold → Turn → Turn
releases [] behind = behind
releases (hold ∷ holds) behind = asks (to.Req hold.zone (Release hold.at)) (λ _. releases holds behind)

module _ (config : Config) (now : ℕ) (vars : Vars) (dry : Bool) where
  -- each of these holds is accounted, one after another; only a greater delay replaces the greatest so far
  abbrev pub accounts : Delay → List Hold → (ReqSaid → Turn) → Turn
  accounts greatest [] behind = behind (delayed dry greatest)
  accounts greatest (hold ∷ holds) behind =
      asks (to.Req hold.zone (Account hold.at now)) (λ reply. accounts (greater greatest (delay_by config hold.zone hold.allowed (accounted (req_reply reply)))) holds behind)

  -- a walk that comes to the end of its list: without a call, or with holds alone, which are accounted from the latest backwards
  abbrev pub walk_ends : List Hold → (ReqSaid → Turn) → Turn
  walk_ends [] behind = behind unset
  walk_ends (hold ∷ holds) behind = accounts no_delay (reverse (hold ∷ holds)) behind

  -- What a limit's zone answered of a request with these holds. The walk goes on with a hold more, or ends: each
  -- hold is then accounted or let go, from the latest backwards.
  abbrev pub after_check : ReqLimit → List Hold → (List Hold → Turn) → (ReqSaid → Turn) → ReqReply → Turn
  after_check limit holds goes_on behind (Again value at) = goes_on (holds ++ record { zone = limit.zone; at = at; allowed = allowed_of limit } ∷ [])
  after_check limit holds goes_on behind (Pass value) = accounts (delay_by config limit.zone (allowed_of limit) value) (reverse holds) behind
  after_check limit holds goes_on behind (Busy value) = releases (reverse holds) (behind (refused dry limit.zone (excess.Amount value)))
  after_check limit holds goes_on behind _ = releases (reverse holds) (behind (refused dry limit.zone excess.Full))

  -- The limits that are left, of a request that has these holds. One whose key is empty or too long is skipped.
  abbrev pub req_walk : List Hold → List ReqLimit → (ReqSaid → Turn) → Turn
  req_walk holds [] behind = walk_ends holds behind
  req_walk holds (limit ∷ limits) behind =
      if is_skipped 65535 (key_of config vars limit.zone) then req_walk holds limits behind
      else asks (to.Req limit.zone (Check (key_of config vars limit.zone) now limit.burst (is_last limits)))
      (λ reply. after_check limit holds (λ more. req_walk more limits behind) behind (req_reply reply))
