use Rattle.std.proofs.Common.{rules, ◌≡◌, ◌∷◌, [], ◌++◌, List, subst}
use Rattle.zone_object.specs.History.{entry, run, IsHistory}
use Rattle.peer_zone.specs.Object.{answer_of, zone_after, Permits, Ready, CanAnswer}
use Rattle.peer_zone.specs.Opening.{IsOpened}
use Rattle.peer_zone.specs.ObjectLaws.{ready-law, answer-law}
use Rattle.replay_share.specs.Logs.{PeerEntry}
use Rattle.replay_share.proofs.Answered.{last_ready, last_answered, small_index}
use Rattle.replay_share.proofs.journal.ask_peer.Goals as goal

-- src/journal.rt:36:1
pub returns-clause-range : goal.returns-clause-range
returns-clause-range c =
    let start = c.requires.ran.0 in
    let log = c.args.journal.now.log in
    let last : PeerEntry = entry 0 c.args.call c.call.result in
    let history : IsHistory IsOpened answer_of zone_after Permits start (log ++ last ∷ []) =
    subst (λ (l : List PeerEntry). IsHistory IsOpened answer_of zone_after Permits start l) c.call.ensures.log (c.call.ensures.run start c.requires.ran.1).history in
    small_index (run zone_after start log) c.args.call c.call.result
    (last_ready IsOpened answer_of zone_after Permits Ready CanAnswer ready-law answer-law start log last history)
    (last_answered IsOpened answer_of zone_after Permits Ready CanAnswer ready-law answer-law start log last history)
