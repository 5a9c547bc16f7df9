use Rattle.std.proofs.Common.{◌≤◌, length}
use Rattle.req_zone.specs.declared.state.ReqState.{ReqState}
use Rattle.replay_log.specs.Lines.{parts, lines_from}
use Rattle.replay_log.specs.Keys.{key_line, keys_of}
use Rattle.zonereplay.specs.Jobs.{asked}
use Rattle.zonereplay.specs.OneText.{zone_of}
use Rattle.zonereplay.specs.Checking.{HasAnswered}
use Rattle.zonereplay.proofs.OneLemmas.{Leads}
use Rattle.zonereplay.proofs.one.text_of.Given as goal

abbrev pub invariant-loop-rest : goal.invariant-loop-rest
invariant-loop-rest l = record {
  counted : l.number ≤ 131073;
  answered : (s : ReqState) × HasAnswered l.zone (zone_of (asked l.job)) l.number s
      × Leads (asked l.job) (keys_of l.log) l.number s (lines_from key_line l.number (parts 10 l.rest)) l.text.items;
}

abbrev pub decreases-loop-rest : goal.decreases-loop-rest
decreases-loop-rest l = length l.rest
