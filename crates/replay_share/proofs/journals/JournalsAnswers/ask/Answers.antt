use Rattle.std.proofs.Common.{rules, ℕ, ◌≡◌, ◌∷◌, [], ◌++◌, List}
use Rattle.request_script.specs.Permitted.{zone_of}
use Rattle.replay_share.specs.Journals.{IsJournalOf, log_of}
use Rattle.replay_share.proofs.Serving.{finds, serves-after, can_at, at_set}
use Rattle.replay_share.proofs.journals.JournalsAnswers.ask.Goals as goal

pub ask-requires : goal.ask-requires
ask-requires c =
    let r = c.requires in
    let f = finds (λ (z : ℕ). IsJournalOf r.2) log_of 0 c.args.self.now r.1 r.2 r.3 c.args.call r.4 r.5 in
    (f.spec, r.2, r.3, can_at (λ (z : ℕ). IsJournalOf r.2) log_of 0 c.self.inside.journals.items c.args.self.now c.zone_of-zone.result c.index_mut.result.now r.1 r.2 r.3 c.args.call f c.self.view_is c.zone_of-zone.ensures c.index_mut.ensures.value)

pub returns-clause-served : goal.returns-clause-served
returns-clause-served c = λ start zones room asked serves can.
    let f = finds (λ (z : ℕ). IsJournalOf room) log_of 0 c.args.self.now zones room asked c.args.call serves can in
    let taken = can_at (λ (z : ℕ). IsJournalOf room) log_of 0 c.self.inside.journals.items c.args.self.now c.zone_of-zone.result c.index_mut.result.now zones room asked c.args.call f c.self.view_is c.zone_of-zone.ensures c.index_mut.ensures.value in
    at_set (λ (z : ℕ). IsJournalOf room) log_of 0 c.self.inside.journals.items c.args.self.now c.zone_of-zone.result (zone_of c.args.call) c.ask.new.self zones (asked ++ record { call = c.args.call; reply = c.ask.result } ∷ []) c.self.view_is c.zone_of-zone.ensures
    (serves-after (λ (z : ℕ). IsJournalOf room) log_of 0 c.args.self.now zones room asked c.args.call c.ask.result c.ask.new.self serves f (c.ask.ensures.taken f.spec room asked taken) c.ask.ensures.kind can.there)
