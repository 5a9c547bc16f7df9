-- The choice of a server for a request.
use Rattle.std.specs.Prelude.{ℕ, ◌-◌, ◌/◌, ◌^◌, ◌&&◌, Bool, nat_eq, bit_or, Option, Some, None, if◌then◌else◌}
use Rattle.zone_config.specs.declared.data.Config.{Config}
use Rattle.peer_zone.specs.declared.calls.PeerCall.TheVariants.{Choose, Free}
use Rattle.peer_zone.specs.declared.calls.PeerReply.{PeerReply}
use Rattle.peer_zone.specs.declared.calls.PeerReply.TheVariants as reply
use Rattle.request_script.specs.declared.active.Taken.{Taken}
use Rattle.request_script.specs.declared.call.ZoneCall.TheVariants as to
use Rattle.request_script.specs.declared.call.ZoneReply.{ZoneReply}
use Rattle.request_script.specs.declared.call.ZoneReply.TheVariants as from
use Rattle.request_script.specs.declared.decision.PeerAt.{PeerAt}
use Rattle.request_script.specs.Turn.{Turn}
use Rattle.request_script.specs.Turn.Turn.{asks}
use Rattle.request_script.specs.Zones.{has_backups, is_single}

-- what an upstream's zone answered; no reply of another zone is one
abbrev pub peer_reply : ZoneReply → PeerReply
peer_reply (from.Peer reply) = reply
peer_reply _ = reply.NoPeer

-- a moment in seconds, rounded down
abbrev pub seconds : ℕ → ℕ
seconds now = now / 1000

-- the server that a request has
abbrev pub peer_of : Taken → PeerAt
peer_of taken = record { zone = taken.zone; list = taken.list; index = taken.index }

-- a server of a list that is taken with these servers tried and so many tries left; it then counts as tried too
abbrev pub taken_at : ℕ → ℕ → ℕ → ℕ → ℕ → Taken
taken_at zone tries list tried index = record { zone = zone; list = list; index = index; tried = bit_or tried (2 ^ index); tries = tries }

-- the index of the server that a list gave, if it gave one
abbrev pub index_in : PeerReply → Option ℕ
index_in (reply.Peer index) = Some index
index_in _ = None

-- what follows a list's answer: a server, or none
abbrev pub after_choice : (ℕ → Turn) → Turn → Option ℕ → Turn
after_choice found none (Some index) = found index
after_choice found none None = none

module _ (config : Config) (now : ℕ) where
  -- a list is asked for a server that isn't among those tried
  abbrev pub asks_list : ℕ → ℕ → ℕ → (ℕ → Turn) → Turn → Turn
  asks_list zone list tried found none =
      asks (to.Peer zone (Choose list tried (seconds now))) (λ reply. after_choice found none (index_in (peer_reply reply)))

  -- A list is asked, and where it has no server and there are backups, the backup list with nothing tried.
  abbrev pub chooses : ℕ → ℕ → ℕ → ℕ → (Taken → Turn) → Turn → Turn
  chooses zone tries list tried found none =
      asks_list zone list tried (λ index. found (taken_at zone tries list tried index))
      (if nat_eq list 0 && has_backups config zone then asks_list zone 1 0 (λ index. found (taken_at zone tries 1 0 index)) none else none)

-- the server is given back, as failed or as good
abbrev pub frees : ℕ → Taken → Bool → Turn → Turn
frees now taken failed behind = asks (to.Peer taken.zone (Free taken.list taken.index failed (seconds now))) (λ _. behind)

-- the tries that are left after a failure
abbrev pub tries_left : Config → Taken → ℕ
tries_left config taken = if is_single config taken.zone then 0 else taken.tries - 1
