-- What the zone of `one` has done so far.
use Rattle.std.specs.Prelude.{ℕ, ◌≡◌, ◌≤◌, List, length}
use Rattle.zone_object.specs.declared.object.Entry.{Entry}
use Rattle.zone_object.specs.History.{run, HasRun}
use Rattle.req_zone.specs.declared.calls.ReqCall.{ReqCall}
use Rattle.req_zone.specs.declared.calls.ReqReply.{ReqReply}
use Rattle.req_zone.specs.declared.state.ReqState.{ReqState}
use Rattle.req_zone.specs.declared.words.ReqWords.{ReqWords}
use Rattle.req_zone.specs.Object.{IsOpened, answer_of, zone_after, Permits}
use Rattle.req_zone.specs.Lays.{Lays}

-- the zone was opened as `start`, has answered at most so many calls, and is in this state
pub record HasAnswered (zone : ReqWords) (start : ReqState) (calls : ℕ) (s : ReqState) : Type 0 where
  pub log : List (Entry ReqWords ReqState ReqCall ReqReply)
  pub ran : HasRun IsOpened Lays answer_of zone_after Permits start zone log
  pub state : run zone_after start log ≡ s
  pub few : length log ≤ calls
