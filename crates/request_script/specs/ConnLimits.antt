-- The limits of connections, in the order of a level's list.
use Rattle.std.specs.Prelude.{ℕ, Bool, List, [], ◌∷◌, ◌++◌, reverse, Option, Some, None, if◌then◌else◌}
use Rattle.zone_key.specs.declared.vars.Vars.{Vars}
use Rattle.zone_config.specs.declared.data.Config.{Config}
use Rattle.zone_config.specs.declared.data.ConnLimit.{ConnLimit}
use Rattle.conn_zone.specs.declared.calls.ConnCall.TheVariants as call
use Rattle.conn_zone.specs.declared.calls.ConnReply.{ConnReply}
use Rattle.conn_zone.specs.declared.calls.ConnReply.TheVariants as reply
use Rattle.request_script.specs.declared.active.Opened.{Opened}
use Rattle.request_script.specs.declared.call.ZoneCall.TheVariants as to
use Rattle.request_script.specs.declared.call.ZoneReply.{ZoneReply}
use Rattle.request_script.specs.declared.call.ZoneReply.TheVariants as from
use Rattle.request_script.specs.declared.decision.ConnStatus.{ConnStatus}
use Rattle.request_script.specs.declared.decision.ConnStatus.TheVariants as status
use Rattle.request_script.specs.Turn.{Turn}
use Rattle.request_script.specs.Turn.Turn.{asks}
use Rattle.request_script.specs.Zones.{key_of, is_skipped}

-- what a connection zone answered; no reply of another zone is one
abbrev pub conn_reply : ZoneReply → ConnReply
conn_reply (from.Conn reply) = reply
conn_reply _ = reply.NoRoom

-- the offset of the block of a connection that was counted, if it was
abbrev pub opened_in : ConnReply → Option ℕ
opened_in (reply.Opened at count) = Some at
opened_in _ = None

-- these connections are closed, one after another
abbrev pub closes : List Opened → Turn → Turn
closes [] behind = behind
closes (opened ∷ more) behind = asks (to.Conn opened.zone (call.Close opened.at)) (λ _. closes more behind)

-- a request is refused by the limit of a zone
abbrev pub conn_refused : Bool → ℕ → ConnStatus
conn_refused dry zone = if dry then status.RejectedDry zone else status.Rejected zone

-- a walk that comes to the end of its list: without a call, or with connections alone
abbrev pub conn_passed : List Opened → ConnStatus
conn_passed [] = status.Unset
conn_passed (opened ∷ more) = status.Passed

module _ (config : Config) (vars : Vars) (dry : Bool) where
  -- What a limit's zone answered of a request with these connections. The walk goes on with a connection more, or
  -- ends: the connections are then closed, the latest first, and the request has none of them.
  abbrev pub after_open : ConnLimit → List Opened → (List Opened → Turn) → (ConnStatus → List Opened → Turn) → Option ℕ → Turn
  after_open limit opened goes_on behind (Some at) = goes_on (opened ++ record { zone = limit.zone; at = at } ∷ [])
  after_open limit opened goes_on behind None = closes (reverse opened) (behind (conn_refused dry limit.zone) [])

  -- The limits that are left, of a request that has these connections. One whose key is empty or too long is skipped.
  abbrev pub conn_walk : List Opened → List ConnLimit → (ConnStatus → List Opened → Turn) → Turn
  conn_walk opened [] behind = behind (conn_passed opened) opened
  conn_walk opened (limit ∷ limits) behind =
      if is_skipped 255 (key_of config vars limit.zone) then conn_walk opened limits behind
      else asks (to.Conn limit.zone (call.Open (key_of config vars limit.zone) limit.limit))
      (λ reply. after_open limit opened (λ more. conn_walk more limits behind) behind (opened_in (conn_reply reply)))
