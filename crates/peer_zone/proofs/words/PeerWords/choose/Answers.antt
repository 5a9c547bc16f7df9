use Rattle.std.proofs.Common.{◌∙◌, sym, ap, subst, refl, List, arith}
use Rattle.slab_pool.specs.Live.{block_words}
use Rattle.peer_zone.specs.declared.calls.PeerSpec.{PeerSpec}
use Rattle.peer_zone.specs.declared.state.PeerRecord.{PeerRecord}
use Rattle.peer_zone.specs.declared.state.PeerState.{PeerState}
use Rattle.peer_zone.specs.Choice.{Choice}
use Rattle.peer_zone.specs.Object.{is_single, list_of, with_list, available, choice_of, reply_for}
use Rattle.peer_zone.specs.Words.{LaysRecords}
use Rattle.peer_zone.specs.Lays.{Lays, records_in}
use Rattle.peer_zone.proofs.ZoneLemmas.{few-of, chain-of, chosen-as, choose-empty, with-same, lays-whole, servers-choice}
use Rattle.peer_zone.proofs.words.PeerWords.choose.Goals as goal

pub choose-chosen-requires-clause-few : goal.choose-chosen-requires-clause-few
choose-chosen-requires-clause-few g c =
    let r = c.requires in
    let h = c.in-Some.ensures.head r.0 r.1 in
    omega (arith, h.servers_are, few-of r.0 c.args.list r.2.primary_few r.2.backup_few)

pub choose-chosen-requires-clause-there : goal.choose-chosen-requires-clause-there
choose-chosen-requires-clause-there g c =
    let r = c.requires in
    (list_of r.0 c.args.list, records_in r.1.words c.args.list, chain-of c.args.self.now.pool r.0 r.1.words c.args.list c.in-Some.head r.2.primary r.2.backup (c.in-Some.ensures.head r.0 r.1))

pub returns-in-None-clause-reply : goal.returns-in-None-clause-reply
returns-in-None-clause-reply g c = λ s l ready. ap reply_for (sym (choose-empty (is_single s) s.method (available s c.args.tried c.args.now) c.args.now (list_of s c.args.list) (c.in-None.ensures.head s l)).0)

pub returns-in-None-clause-laid : goal.returns-in-None-clause-laid
returns-in-None-clause-laid g c = λ s l ready.
    let e = choose-empty (is_single s) s.method (available s c.args.tried c.args.now) c.args.now (list_of s c.args.list) (c.in-None.ensures.head s l) in
    subst (λ (peers : List PeerRecord). Lays c.args.self.now (with_list s c.args.list peers)) (sym e.1) (subst (λ (t : PeerState). Lays c.args.self.now t) (sym (with-same s c.args.list)) l)

pub returns-in-Some-clause-reply : goal.returns-in-Some-clause-reply
returns-in-Some-clause-reply g c = λ s l ready.
    let h = c.in-Some.ensures.head s l in
    let d = c.choose-chosen.ensures.does (list_of s c.args.list) (records_in l.words c.args.list) (chain-of c.args.self.now.pool s l.words c.args.list c.in-Some.head ready.primary ready.backup h) in
    let same = chosen-as s c.args.list c.args.tried c.args.now c.in-Some.head.single c.args.self.now.spec.method h.single_is (ap (λ (x : PeerSpec). x.method) (sym l.spec_is)) in
    c.reply.ensures ∙ ap reply_for (d.chosen_is ∙ ap (λ (x : Choice). x.chosen) same)

pub returns-in-Some-clause-laid : goal.returns-in-Some-clause-laid
returns-in-Some-clause-laid g c = λ s l ready.
    let h = c.in-Some.ensures.head s l in
    let d = c.choose-chosen.ensures.does (list_of s c.args.list) (records_in l.words c.args.list) (chain-of c.args.self.now.pool s l.words c.args.list c.in-Some.head ready.primary ready.backup h) in
    let same = chosen-as s c.args.list c.args.tried c.args.now c.in-Some.head.single c.args.self.now.spec.method h.single_is (ap (λ (x : PeerSpec). x.method) (sym l.spec_is)) in
    lays-whole c.args.self.now _ s l c.args.list (choice_of s c.args.list c.args.tried c.args.now).peers refl refl refl refl c.choose-chosen.ensures.rest d.changes
    (subst (λ (x : Choice). LaysRecords (block_words c.choose-chosen.new.blocks) x.peers (records_in l.words c.args.list)) same d.laid)
    (servers-choice (is_single s) s.method (available s c.args.tried c.args.now) c.args.now (list_of s c.args.list))

pub returns-in-Some-clause-cost : goal.returns-in-Some-clause-cost
returns-in-Some-clause-cost g c = λ s l ready.
    let h = c.in-Some.ensures.head s l in
    omega (arith, h.servers_are, c.choose-chosen.ensures.cost, c.head.ensures.cost)
