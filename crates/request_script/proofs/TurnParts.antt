-- The levels of a configuration, and parts of a turn by what a request has.
use Rattle.std.proofs.Common.{ℕ, zero, suc, true, false, List, [], ◌∷◌, reverse, Option, Some, None, slice_get, unwrap_or, All}
use Rattle.std.proofs.lemmas.List.Elements.{All-head, All-tail}
use Rattle.zone_config.specs.declared.data.Config.{Config}
use Rattle.zone_config.specs.Conditions.{IsConfig, IsLevel}
use Rattle.request_script.specs.declared.active.Active.{Active}
use Rattle.request_script.specs.declared.active.Opened.{Opened}
use Rattle.request_script.specs.declared.active.Taken.{Taken}
use Rattle.request_script.specs.declared.decision.ConnStatus.{ConnStatus}
use Rattle.request_script.specs.declared.decision.Decision.TheVariants.{Ended}
use Rattle.request_script.specs.declared.decision.Outcome.TheVariants.{Pass, Gateway}
use Rattle.request_script.specs.declared.said.ReqSaid.{ReqSaid}
use Rattle.request_script.specs.Turn.{Turn}
use Rattle.request_script.specs.Turn.Turn.{decides}
use Rattle.request_script.specs.Zones.{level_at, servers_up}
use Rattle.request_script.specs.ConnLimits.{closes}
use Rattle.request_script.specs.Peers.{chooses, frees, peer_of}
use Rattle.request_script.specs.RequestSteps.{fails_whole, started, tries_next}

-- ---- the levels of a configuration

-- what holds of each element holds of the one at a place, or of what stands for it
All-or_else : {X : Type 0} (P : X → Type 0) (xs : List X) (i : ℕ) (d : X) → All P xs → P d → P (unwrap_or (slice_get xs i) d)
All-or_else P [] i d each last = last
All-or_else P (x ∷ xs) zero d each last = All-head P x xs each
All-or_else P (x ∷ xs) (suc i) d each last = All-or_else P xs i d (All-tail P x xs each) last

pub level-is : (config : Config) → IsConfig config → (location : Option ℕ) → IsLevel config.zones (level_at config location)
level-is config is None = is.server
level-is config is (Some location) = All-or_else (IsLevel config.zones) config.locations location config.server is.levels is.server

-- ---- parts of a turn

-- the third step of an open, by the level's upstream
abbrev pub step_at : Config → ℕ → Option ℕ → ReqSaid → ConnStatus → List Opened → Turn
step_at config now peers said conns opened = elim peers [
  | None ↦ decides (started Pass said conns None) (Some (record { opened = opened; peer = None }))
  | Some zone ↦ chooses config now zone (servers_up config zone) 0 0
      (λ taken. decides (started Pass said conns (Some (peer_of taken))) (Some (record { opened = opened; peer = Some taken })))
      (closes (reverse opened) (decides (started Gateway said conns None) None))
]

-- a failure, by the server that the request has
abbrev pub fails_at : Config → ℕ → Active → Option Taken → Turn
fails_at config now active peer = elim peer [ None ↦ fails_whole config now active | Some taken ↦ frees now taken true (tries_next config now active taken) ]

-- an end, by the server that the request has
abbrev pub ends_at : ℕ → Active → Option Taken → Turn
ends_at now active peer = elim peer [
  | None ↦ closes (reverse active.opened) (decides Ended None)
  | Some taken ↦ frees now taken false (closes (reverse active.opened) (decides Ended None))
]
