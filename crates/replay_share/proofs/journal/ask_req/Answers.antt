use Rattle.std.proofs.Common.{rules, ◌≡◌, ◌∷◌, [], ◌++◌, List, subst}
use Rattle.zone_object.specs.History.{entry, run, IsHistory}
use Rattle.req_zone.specs.Object.{IsOpened, answer_of, zone_after, Permits, Ready, CanAnswer}
use Rattle.req_zone.specs.ObjectLaws.{ready-law}
use Rattle.req_zone.specs.Proving.Answers.{answer-law}
use Rattle.replay_share.specs.Logs.{ReqEntry}
use Rattle.replay_share.proofs.Answered.{last_answered, small_excess}
use Rattle.replay_share.proofs.journal.ask_req.Goals as goal

-- src/journal.rt:36:1
pub returns-clause-range : goal.returns-clause-range
returns-clause-range c =
    let start = c.requires.ran.0 in
    let log = c.args.journal.now.log in
    let last : ReqEntry = entry 0 c.args.call c.call.result in
    let history : IsHistory IsOpened answer_of zone_after Permits start (log ++ last ∷ []) =
    subst (λ (l : List ReqEntry). IsHistory IsOpened answer_of zone_after Permits start l) c.call.ensures.log (c.call.ensures.run start c.requires.ran.1).history in
    small_excess (run zone_after start log) c.args.call c.call.result (last_answered IsOpened answer_of zone_after Permits Ready CanAnswer ready-law answer-law start log last history)
