-- The watcher that counts all decisions by their outcome.
use Rattle.std.specs.Prelude.{ℕ, zero, suc, List, [], ◌∷◌, ◌++◌, codes}
use Rattle.request_script.specs.declared.decision.Decision.{Decision}
use Rattle.request_script.specs.declared.decision.Decision.TheVariants.{Started, Busy, NextPeer, FailGateway, Ended, IdleFail, IdleDone}
use Rattle.request_script.specs.declared.decision.Outcome.{Outcome}
use Rattle.request_script.specs.declared.decision.Outcome.TheVariants.{Pass, Limited, Gateway}
use Rattle.zone_watch.specs.declared.stay.Stay.TheVariants.{Keep}
use Rattle.zone_watch.specs.Counting.{one_more, with_count}
use Rattle.zone_watch.specs.Watched.{Rule}

-- What is counted, in the order of the report: opens that pass, opens that a limit refuses, opens and failures that end with
-- 502, opens on a busy connection, failures after which another server takes the request, ends, and failures and ends on a
-- connection without a request.
abbrev pub place_of_open : Outcome → ℕ
place_of_open Pass = 0
place_of_open (Limited status) = 1
place_of_open Gateway = 2

-- the place of the count that a decision raises
abbrev pub place_of : Decision → ℕ
place_of (Started outcome req delay by excess conn peer) = place_of_open outcome
place_of FailGateway = 2
place_of Busy = 3
place_of (NextPeer peer) = 4
place_of Ended = 5
place_of IdleFail = 6
place_of IdleDone = 6

-- the count at a place rises
abbrev pub raised_at : ℕ → List ℕ → List ℕ
raised_at place [] = []
raised_at zero (count ∷ counts) = one_more count ∷ counts
raised_at (suc place) (count ∷ counts) = count ∷ raised_at place counts

-- `status pass=A limited=B gateway=C busy=D next=E ended=F idle=G`
abbrev pub status_report : List ℕ → List ℕ
status_report (pass ∷ limited ∷ gateway ∷ busy ∷ next ∷ ended ∷ idle ∷ []) =
    codes "status" ++ with_count (codes " pass=") pass ++ with_count (codes " limited=") limited ++ with_count (codes " gateway=") gateway
    ++ with_count (codes " busy=") busy ++ with_count (codes " next=") next ++ with_count (codes " ended=") ended ++ with_count (codes " idle=") idle ++ codes "\n"
status_report _ = []

-- it counts, keeps, and reports its counts in one line
abbrev pub status_rule : Rule
status_rule = record {
  after = λ counts notice. raised_at (place_of notice.decision) counts;
  answer = λ counts notice. Keep;
  report = status_report;
}
