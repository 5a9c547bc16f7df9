-- The watcher that counts, for each zone, the requests that its limits refused.
use Rattle.std.specs.Prelude.{ℕ, ◌+◌, Bool, false, ◌||◌, nat_eq, if◌then◌else◌, List, [], ◌∷◌, ◌++◌, Option, Some, codes}
use Rattle.request_script.specs.declared.decision.ConnStatus.{ConnStatus}
use Rattle.request_script.specs.declared.decision.ConnStatus.TheVariants as conn
use Rattle.request_script.specs.declared.decision.Decision.{Decision}
use Rattle.request_script.specs.declared.decision.Decision.TheVariants.{Started}
use Rattle.request_script.specs.declared.decision.ReqStatus.{ReqStatus}
use Rattle.request_script.specs.declared.decision.ReqStatus.TheVariants as req
use Rattle.zone_watch.specs.declared.stay.Stay.TheVariants.{Keep}
use Rattle.zone_watch.specs.Counting.{one_more, with_count}
use Rattle.zone_watch.specs.Watched.{Rule}

-- a limit of requests of this zone refuses it, outside a dry run
abbrev pub is_req_refused_by : ℕ → ReqStatus → Option ℕ → Bool
is_req_refused_by zone req.Rejected (Some refusing) = nat_eq refusing zone
is_req_refused_by zone _ _ = false

-- a limit of connections of this zone refuses it, outside a dry run
abbrev pub is_conn_refused_by : ℕ → ConnStatus → Bool
is_conn_refused_by zone (conn.Rejected refusing) = nat_eq refusing zone
is_conn_refused_by zone _ = false

-- the decision is an open that a limit of this zone refuses
abbrev pub is_refused_by : ℕ → Decision → Bool
is_refused_by zone (Started outcome status delay by excess conns peer) = is_req_refused_by zone status by || is_conn_refused_by zone conns
is_refused_by zone _ = false

-- the count of a zone after a decision
abbrev pub counted_for : ℕ → Decision → ℕ → ℕ
counted_for zone decision count = if is_refused_by zone decision then one_more count else count

-- the counts of the zones from this one on
abbrev pub raised_from : ℕ → Decision → List ℕ → List ℕ
raised_from zone decision [] = []
raised_from zone decision (count ∷ counts) = counted_for zone decision count ∷ raised_from (zone + 1) decision counts

-- `refused INDEX N` of a zone that refused requests, and nothing of one that refused none
abbrev pub refusals_line : ℕ → ℕ → List ℕ
refusals_line zone count = if nat_eq count 0 then [] else with_count (codes "refused ") zone ++ with_count (codes " ") count ++ codes "\n"

-- those of the zones from this one on
abbrev pub refusals_lines : ℕ → List ℕ → List ℕ
refusals_lines zone [] = []
refusals_lines zone (count ∷ counts) = refusals_line zone count ++ refusals_lines (zone + 1) counts

-- it counts, keeps, and reports a line of each zone that refused requests
abbrev pub refused_rule : Rule
refused_rule = record {
  after = λ counts notice. raised_from 0 notice.decision counts;
  answer = λ counts notice. Keep;
  report = refusals_lines 0;
}
